-- What the register means. Each word moves the register up by one bit and puts its own bits in, so bit q after a word
-- is zero exactly where the last q + 1 words have zeros on a diagonal: over any width and any words. A register may
-- begin anew, all ones, at a later word (`reg_from`): the diagonal that it finds is the same. Assumes nothing.
use mathlib.Core.Path.{◌≡◌, refl, sym, ap, ◌∙◌, subst}
use mathlib.Core.Logic.{⊎_elim, ◌↔◌}
use Prim.Native.Nat.{ℕ, zero, suc, ◌+◌, ◌-◌, ◌%◌, ◌^◌, ◌≤◌, ◌<◌, zero-le, max}
use native.Mathlib.Nat.{not-suc-le-zero, le_of_suc-le-suc, eq-or-lt_of_le, add-suc, add-zero, le_refl}
use native.Mathlib.Numerals.{add-one}
use native.Mathlib.Decide.{dec_le}
use native.Mathlib.Omega.{arith}
use Rattle.theory.specs.Bits.{bit}
use Rattle.theory.specs.Register.{step, register, reg_from}
use Rattle.theory.proofs.Bits.{bit_lt, bit_or_lem, bit_ones, bit_double_suc, bit_double_zero}

-- the words from s on have zeros on the diagonal: bit i of word s + i, for each i to q
abbrev pub Diagonal : (ℕ → ℕ) → ℕ → ℕ → Type 0
Diagonal f s q = (i : ℕ) → i ≤ q → bit (f (s + i)) i ≡ 0

pub step_suc : (w r x q : ℕ) → suc q < w → bit (step w r x) (suc q) ≡ max (bit r q) (bit x (suc q))
unfolding step
step_suc w r x q h =
    bit_or_lem ((r + r) % 2 ^ w) x (suc q) ∙ ap (λ (n : ℕ). max n (bit x (suc q))) (bit_double_suc r q w h)

pub step_zero : (w r x : ℕ) → 0 < w → bit (step w r x) 0 ≡ bit x 0
unfolding step
step_zero w r x h =
    bit_or_lem ((r + r) % 2 ^ w) x 0 ∙ ap (λ (n : ℕ). max n (bit x 0)) (bit_double_zero r w h) ∙ zero_max' (bit x 0)
  where
    zero_max' : (n : ℕ) → max 0 n ≡ n
    zero_max' n = omega arith

pub register_none : (w : ℕ) (f : ℕ → ℕ) → register w f 0 ≡ 2 ^ w - 1
unfolding register
register_none w f = refl

pub register_suc : (w : ℕ) (f : ℕ → ℕ) (n : ℕ) → register w f (suc n) ≡ step w (register w f n) (f n)
unfolding register
register_suc w f n = refl

module _ (w : ℕ) (f : ℕ → ℕ) where
  bit_register_suc : (n q : ℕ) → suc q < w → bit (register w f (suc n)) (suc q) ≡ max (bit (register w f n) q) (bit (f n) (suc q))
  bit_register_suc n q h = ap (λ (x : ℕ). bit x (suc q)) (register_suc w f n) ∙ step_suc w (register w f n) (f n) q h

  bit_register_zero : (n : ℕ) → 0 < w → bit (register w f (suc n)) 0 ≡ bit (f n) 0
  bit_register_zero n h = ap (λ (x : ℕ). bit x 0) (register_suc w f n) ∙ step_zero w (register w f n) (f n) h

  -- fewer than q + 1 words leave bit q as it was, one
  pub register_early : (n q : ℕ) → n ≤ q → q < w → bit (register w f n) q ≡ 1
  register_early zero q h k = ap (λ (x : ℕ). bit x q) (register_none w f) ∙ bit_ones q w k
  register_early (suc n) zero h k = absurd (not-suc-le-zero h)
  register_early (suc n) (suc q) h k =
      let e : bit (register w f n) q ≡ 1 = register_early n q (le_of_suc-le-suc h) (omega arith) in
      let g : bit (register w f (suc n)) (suc q) ≡ max (bit (register w f n) q) (bit (f n) (suc q)) = bit_register_suc n q k in
      omega (arith, bit_lt (f n) (suc q))

  -- after q + 1 words from s on, bit q is zero where the diagonal is, and only there
  pub register_sound : (s q : ℕ) → q < w → bit (register w f (s + suc q)) q ≡ 0 → Diagonal f s q
  register_sound s zero k e i h =
      let z : i ≡ 0 = omega arith in
      let g : bit (register w f (suc s)) 0 ≡ 0 = subst (λ (n : ℕ). bit (register w f n) 0 ≡ 0) (one_more s) e in
      subst (λ (n : ℕ). bit (f (s + n)) n ≡ 0) (sym z)
      (ap (λ (n : ℕ). bit (f n) 0) (add-zero s) ∙ sym (bit_register_zero s k) ∙ g)
    where
      one_more : (s : ℕ) → s + 1 ≡ suc s
      one_more s = add-one s
  register_sound s (suc q) k e i h =
      let g : bit (register w f (suc (s + suc q))) (suc q) ≡ 0
      = subst (λ (n : ℕ). bit (register w f n) (suc q) ≡ 0) (add-suc s (suc q)) e in
      let m : bit (register w f (suc (s + suc q))) (suc q) ≡ max (bit (register w f (s + suc q)) q) (bit (f (s + suc q)) (suc q))
      = bit_register_suc (s + suc q) q k in
      ⊎_elim (λ z. subst (λ (n : ℕ). bit (f (s + n)) n ≡ 0) (sym z) (omega arith))
      (λ l. register_sound s q (omega arith) (omega arith) i (le_of_suc-le-suc l)) (eq-or-lt_of_le h)

  pub register_complete : (s q : ℕ) → q < w → Diagonal f s q → bit (register w f (s + suc q)) q ≡ 0
  register_complete s zero k d =
      ap (λ (n : ℕ). bit (register w f n) 0) (add-one s) ∙ bit_register_zero s k
      ∙ ap (λ (n : ℕ). bit (f n) 0) (sym (add-zero s)) ∙ d 0 zero-le
  register_complete s (suc q) k d =
      ap (λ (n : ℕ). bit (register w f n) (suc q)) (add-suc s (suc q)) ∙ bit_register_suc (s + suc q) q k
      ∙ both (bit (register w f (s + suc q)) q) (bit (f (s + suc q)) (suc q))
      (register_complete s q (omega arith) (λ i h. d i (omega arith))) (d (suc q) (le_refl (suc q)))
    where
      both : (a b : ℕ) → a ≡ 0 → b ≡ 0 → max a b ≡ 0
      both a b p r = omega arith

-- ---- a register that began anew

pub reg_from_none : (w : ℕ) (g : ℕ → ℕ) (from : ℕ) → reg_from w g from from ≡ 2 ^ w - 1
unfolding reg_from
reg_from_none w g from = ap (register w (λ n. g (from + n))) (self from) ∙ register_none w (λ n. g (from + n))
  where
    self : (n : ℕ) → n - n ≡ 0
    self n = omega arith

module _ (w : ℕ) (g : ℕ → ℕ) (from : ℕ) where
  pub reg_from_suc : (k : ℕ) → from ≤ k → reg_from w g from (suc k) ≡ step w (reg_from w g from k) (g k)
  unfolding reg_from
  reg_from_suc k h =
      ap (register w (λ n. g (from + n))) less ∙ register_suc w (λ n. g (from + n)) (k - from)
      ∙ ap (λ (n : ℕ). step w (register w (λ n. g (from + n)) (k - from)) (g n)) back
    where
      less : suc k - from ≡ suc (k - from)
      less = omega arith

      back : from + (k - from) ≡ k
      back = omega arith

  -- in the code's form
  pub reg_from_more : (k : ℕ) → from ≤ k → reg_from w g from (k + 1) ≡ step w (reg_from w g from k) (g k)
  reg_from_more k h = ap (reg_from w g from) (add-one k) ∙ reg_from_suc k h

  -- a turn of the loop: from the register before the step, and what the step gives
  pub reg_from_turn : (k : ℕ) {r r' : ℕ} → from ≤ k → r ≡ reg_from w g from k → r' ≡ step w r (g k) → r' ≡ reg_from w g from (k + 1)
  reg_from_turn k h e e' = e' ∙ ap (λ (n : ℕ). step w n (g k)) e ∙ sym (reg_from_more k h)

  -- the bits that it has had the time to fill are those of a register that took every word
  pub reg_from_register : (q k : ℕ) → q < w → from + q < k → bit (reg_from w g from k) q ≡ bit (register w g k) q
  reg_from_register q zero hq h = absurd (not-suc-le-zero h)
  reg_from_register zero (suc k) hq h =
      let e : from ≤ k = omega arith in
      rw (reg_from_suc k e, register_suc) (step_zero w _ (g k) hq ∙ sym (step_zero w _ (g k) hq))
  reg_from_register (suc q) (suc k) hq h =
      let e : from ≤ k = omega arith in
      let same : bit (reg_from w g from k) q ≡ bit (register w g k) q = reg_from_register q k (omega arith) (omega arith) in
      rw (reg_from_suc k e, register_suc)
      (step_suc w _ (g k) q hq ∙ ap (λ (b : ℕ). max b (bit (g k) (suc q))) same ∙ sym (step_suc w _ (g k) q hq))

  -- bit q is zero after column k: a diagonal that starts at `from` or later ends there
  pub reg_from_hit : (q k : ℕ) → q < w → from ≤ k → bit (reg_from w g from (k + 1)) q ≡ 0 → (from + q ≤ k) × Diagonal g (k - q) q
  unfolding reg_from
  reg_from_hit q k hq hk e = pick (dec_le (k + 1 - from) q)
    where
      pick : Dec (k + 1 - from ≤ q) → (from + q ≤ k) × Diagonal g (k - q) q
      pick (yes early) = absurd (let one : bit (register w (λ n. g (from + n)) (k + 1 - from)) q ≡ 1 = register_early w (λ n. g (from + n)) (k + 1 - from) q early hq in omega arith)
      pick (no late) =
          let l : from + q ≤ k = omega arith in
          let n : k + 1 - from ≡ (k - q - from) + suc q = omega arith in
          let z : bit (register w (λ n. g (from + n)) ((k - q - from) + suc q)) q ≡ 0 = rw n at e in
          (l, (λ i h. subst (λ (x : ℕ). bit (g x) i ≡ 0) (omega arith) (register_sound w (λ n. g (from + n)) (k - q - from) q hq z i h)))

  -- bit q is not: none does
  pub reg_from_miss : (q k : ℕ) → q < w → (bit (reg_from w g from (k + 1)) q ≡ 0 → ⊥) → (s : ℕ) → from ≤ s → s + q ≡ k → Diagonal g s q → ⊥
  unfolding reg_from
  reg_from_miss q k hq one s hs e d =
      one (subst (λ (x : ℕ). bit (register w (λ n. g (from + n)) x) q ≡ 0) at_k
      (register_complete w (λ n. g (from + n)) (s - from) q hq (λ i h. subst (λ (x : ℕ). bit (g x) i ≡ 0) (at_i i) (d i h))))
    where
      at_k : s - from + suc q ≡ k + 1 - from
      at_k = omega arith

      at_i : (i : ℕ) → s + i ≡ from + (s - from + i)
      at_i i = omega arith

-- the two ways as one: bit q is zero after column k exactly where k has q columns before it, from `from` on, and the diagonal that ends there is zero
pub reg_from_iff : (w : ℕ) (g : ℕ → ℕ) (from q k : ℕ) → q < w → from ≤ k
    → (bit (reg_from w g from (k + 1)) q ≡ 0) ↔ ((from + q ≤ k) × Diagonal g (k - q) q)
reg_from_iff w g from q k hq hk = (reg_from_hit w g from q k hq hk, back)
  where
    back : (from + q ≤ k) × Diagonal g (k - q) q → bit (reg_from w g from (k + 1)) q ≡ 0
    back (l, d) = zero_or (bit (reg_from w g from (k + 1)) q) (λ n. reg_from_miss w g from q k hq n (k - q) (omega arith) (omega arith) d)
      where
        zero_or : (b : ℕ) → ((b ≡ 0 → ⊥) → ⊥) → b ≡ 0
        zero_or zero h = refl
        zero_or (suc b) h = absurd (h (λ e. omega arith))
