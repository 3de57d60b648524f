-- The order of integers: below is the one side of at or above; both orders go from one to the next; and a number and the one after
-- it. By cases on the sign. Assumes nothing.
use mathlib.Core.Path.{◌≡◌, refl}
use mathlib.Core.Bool.{Bool, true, false, not}
use Prim.Native.Nat.{ℕ, zero, suc, ◌≤◌, ◌<◌, zero-le}
use native.Mathlib.Omega.{arith}
use lib.Dec.{T, leb, ltb, leb→le, le→leb, ltb→lt, lt→ltb}
use lib.IntN.{ℤ, pos, negsuc, suc_ℤ, ◌+ℤ◌, +ℤ_one}
use lib.Signed.{le_z, lt_z, ◌≤ℤ◌, ◌<ℤ◌, le_z_yes}
use borrow.Author.Tests.{le-leb, lt-leb, ltb-true, ltb-false}

-- ---- tests

pub not_leb : (a b : ℕ) → leb a b ≡ not (ltb b a)
not_leb a b = step (ltb b a) refl
  where
    step : (t : Bool) → ltb b a ≡ t → leb a b ≡ not t
    step true e = lt-leb a b (ltb-true b a e)
    step false e = le-leb a b (ltb-false b a e)

pub not_le_z : (a b : ℤ) → le_z a b ≡ not (lt_z b a)
not_le_z (pos a) (pos b) = not_leb a b
not_le_z (pos a) (negsuc b) = refl
not_le_z (negsuc a) (pos b) = refl
not_le_z (negsuc a) (negsuc b) = not_leb b a

-- ---- from one to the next

pub ltℤ_trans : (a b c : ℤ) → a <ℤ b → b <ℤ c → a <ℤ c
ltℤ_trans (pos a) (pos b) (pos c) p q =
    let l : a < b = ltb→lt a b p.lt in
    let m : b < c = ltb→lt b c q.lt in
    record { lt = lt→ltb a c (omega arith) }
ltℤ_trans (pos a) (pos b) (negsuc c) p q = absurd q.lt
ltℤ_trans (pos a) (negsuc b) c p q = absurd p.lt
ltℤ_trans (negsuc a) (pos b) (pos c) p q = record { lt = tt }
ltℤ_trans (negsuc a) (pos b) (negsuc c) p q = absurd q.lt
ltℤ_trans (negsuc a) (negsuc b) (pos c) p q = record { lt = tt }
ltℤ_trans (negsuc a) (negsuc b) (negsuc c) p q =
    let l : b < a = ltb→lt b a p.lt in
    let m : c < b = ltb→lt c b q.lt in
    record { lt = lt→ltb c a (omega arith) }

pub leℤ_trans : (a b c : ℤ) → a ≤ℤ b → b ≤ℤ c → a ≤ℤ c
leℤ_trans (pos a) (pos b) (pos c) p q =
    let l : a ≤ b = leb→le a b p.le in
    let m : b ≤ c = leb→le b c q.le in
    le_z_yes (le→leb a c (omega arith))
leℤ_trans (pos a) (pos b) (negsuc c) p q = absurd q.le
leℤ_trans (pos a) (negsuc b) c p q = absurd p.le
leℤ_trans (negsuc a) (pos b) (pos c) p q = le_z_yes tt
leℤ_trans (negsuc a) (pos b) (negsuc c) p q = absurd q.le
leℤ_trans (negsuc a) (negsuc b) (pos c) p q = le_z_yes tt
leℤ_trans (negsuc a) (negsuc b) (negsuc c) p q =
    let l : b ≤ a = leb→le b a p.le in
    let m : c ≤ b = leb→le c b q.le in
    le_z_yes (le→leb c a (omega arith))

-- ---- the number after one

next_le : (a b : ℤ) → T (le_z a b) → T (le_z (suc_ℤ a) (suc_ℤ b))
next_le (pos a) (pos b) h = let l : a ≤ b = leb→le a b h in le→leb (suc a) (suc b) (omega arith)
next_le (pos a) (negsuc b) h = absurd h
next_le (negsuc zero) (pos b) h = le→leb 0 (suc b) zero-le
next_le (negsuc (suc a)) (pos b) h = tt
next_le (negsuc zero) (negsuc zero) h = le→leb 0 0 zero-le
next_le (negsuc zero) (negsuc (suc b)) h = let l : suc b ≤ 0 = leb→le (suc b) 0 h in absurd (omega arith)
next_le (negsuc (suc a)) (negsuc zero) h = tt
next_le (negsuc (suc a)) (negsuc (suc b)) h = let l : suc b ≤ suc a = leb→le (suc b) (suc a) h in le→leb b a (omega arith)

le_next : (a b : ℤ) → T (le_z a b) → T (le_z a (suc_ℤ b))
le_next (pos a) (pos b) h = let l : a ≤ b = leb→le a b h in le→leb a (suc b) (omega arith)
le_next (pos a) (negsuc b) h = absurd h
le_next (negsuc a) (pos b) h = tt
le_next (negsuc a) (negsuc zero) h = tt
le_next (negsuc a) (negsuc (suc b)) h = let l : suc b ≤ a = leb→le (suc b) a h in le→leb b a (omega arith)

pub one_more_le : {a b : ℤ} → a ≤ℤ b → (a +ℤ pos 1) ≤ℤ (b +ℤ pos 1)
one_more_le {a} {b} h = rw (+ℤ_one a, +ℤ_one b) (le_z_yes (next_le a b h.le))

pub le_one_more : {a b : ℤ} → a ≤ℤ b → a ≤ℤ (b +ℤ pos 1)
le_one_more {a} {b} h = rw (+ℤ_one b) (le_z_yes (le_next a b h.le))
