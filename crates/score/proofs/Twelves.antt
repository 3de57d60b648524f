-- What is divisible by 12, in natural numbers: the difference of two is, exactly where they leave the same remainder.
-- The idea: a difference has a sign, and on either side it is twelve times the difference of the quotients. Assumes nothing.
use mathlib.Core.Path.{◌≡◌, refl, sym, ap, ◌∙◌}
use mathlib.Core.Bool.{Bool, true, false, cond}
use Prim.Native.Nat.{ℕ, zero, suc, ◌+◌, ◌-◌, ◌*◌, ◌/◌, ◌%◌, ◌≤◌, ◌<◌, zero-le}
use native.Mathlib.Omega.{arith}
use lib.Dec.{ltb}
use lib.IntN.{ℤ, pos, negsuc, sub_ℕ, neg_ℤ, nat_abs, ◌+ℤ◌, ◌-ℤ◌, ◌*ℤ◌, +ℤ_assoc, neg_ℤ-+ℤ}
use borrow.Author.Tests.{ltb-true, ltb-false, lt-ltb}
use Rattle.theory.proofs.Signed.{sub_pos}
use Rattle.score.specs.Sets.{Twelves}

-- ---- the difference of two natural numbers

pos_sub : (a b : ℕ) → pos a -ℤ pos b ≡ sub_ℕ a b
pos_sub a zero = ap pos (omega arith) ∙ sym (sub_pos a 0 zero-le)
pos_sub a (suc b) = refl

pub pos_sub_sub : (a b d : ℕ) → pos a -ℤ pos b -ℤ pos d ≡ pos a -ℤ pos (b + d)
pos_sub_sub a b d = +ℤ_assoc (pos a) (neg_ℤ (pos b)) (neg_ℤ (pos d)) ∙ ap (λ (z : ℤ). pos a +ℤ z) (sym (neg_ℤ-+ℤ (pos b) (pos d)))

sub_neg : (a b : ℕ) → a < b → sub_ℕ a b ≡ neg_ℤ (pos (b - a))
sub_neg a b h =
    let e : b - a ≡ suc (b - suc a) = omega arith in
    ap (λ (t : Bool). cond t (negsuc (b - suc a)) (pos (a - b))) (lt-ltb a b h) ∙ ap (λ (n : ℕ). neg_ℤ (pos n)) (sym e)

-- ---- it is divisible where the remainders are equal

pub twelves : (a b : ℕ) → a % 12 ≡ b % 12 → Twelves (pos a -ℤ pos b)
twelves a b e = pick (ltb a b) refl
  where
    pick : (t : Bool) → ltb a b ≡ t → Twelves (pos a -ℤ pos b)
    pick true k =
        let h : a < b = ltb-true a b k in
        let m : b - a ≡ 12 * suc (b / 12 - a / 12 - 1) = omega arith in
        record { times = negsuc (b / 12 - a / 12 - 1); whole = pos_sub a b ∙ sub_neg a b h ∙ ap (λ (n : ℕ). neg_ℤ (pos n)) m }
    pick false k =
        let h : b ≤ a = ltb-false a b k in
        let m : a - b ≡ 12 * (a / 12 - b / 12) = omega arith in
        record { times = pos (a / 12 - b / 12); whole = pos_sub a b ∙ sub_pos a b h ∙ ap pos m }

-- ---- and only there: by the sizes

size_neg : (n : ℕ) → nat_abs (neg_ℤ (pos n)) ≡ n
size_neg zero = refl
size_neg (suc n) = refl

size_times : (z : ℤ) → nat_abs (pos 12 *ℤ z) ≡ 12 * nat_abs z
size_times (pos n) = refl
size_times (negsuc n) = size_neg (12 * suc n)

pub twelves_mod : (a b : ℕ) → Twelves (pos a -ℤ pos b) → a % 12 ≡ b % 12
twelves_mod a b t = pick (ltb a b) refl
  where
    size : nat_abs (sub_ℕ a b) ≡ 12 * nat_abs t.times
    size = ap nat_abs (sym (pos_sub a b) ∙ t.whole) ∙ size_times t.times

    pick : (s : Bool) → ltb a b ≡ s → a % 12 ≡ b % 12
    pick true k =
        let h : a < b = ltb-true a b k in
        let m : nat_abs (sub_ℕ a b) ≡ b - a = ap nat_abs (sub_neg a b h) ∙ size_neg (b - a) in
        omega (arith, size)
    pick false k =
        let h : b ≤ a = ltb-false a b k in
        let m : nat_abs (sub_ℕ a b) ≡ a - b = ap nat_abs (sub_pos a b h) in
        omega (arith, size)
