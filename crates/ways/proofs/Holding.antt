-- The test that is computed of a column and the published definition agree (`holds_true`, `true_holds`): on natural
-- numbers by the shift's code, and in integers by the shift. Last, the pitch or class that the test seeks. Assumes nothing.
use mathlib.Core.Path.{◌≡◌, refl, sym, ap, ◌∙◌, subst}
use mathlib.Core.Bool.{Bool, true, false, cond}
use mathlib.Core.List.{List, [], ◌∷◌}
use Prim.Native.Nat.{ℕ, ◌+◌, ◌-◌, ◌%◌, ◌≤◌, ◌<◌}
use native.Mathlib.Omega.{arith}
use lib.Dec.{leb, eqb}
use lib.IntN.{ℤ, pos, nat_abs, ◌+ℤ◌, ◌-ℤ◌, neg_ℤ, +ℤ_assoc, +ℤ-neg_ℤ_cancel, -ℤ-+ℤ_cancel}
use borrow.Author.Tests.{leb-true, eqb-true, eqb-false, eq-eqb, ne_eqb}
use Rattle.theory.specs.Lists.{some}
use Rattle.theory.proofs.Lists.{some_in, in_some}
use Rattle.score.specs.declared.quantities.Pitch.{Pitch}
use Rattle.score.specs.Score.{pitch, pitches}
use Rattle.score.specs.Sets.{Twelves}
use Rattle.score.proofs.Twelves.{pos_sub_sub, twelves, twelves_mod}
use Rattle.ways.specs.declared.way.Way.{Way}
use Rattle.ways.specs.declared.way.Way.TheVariants.{Exact, Octave}
use Rattle.ways.specs.Way.{Holds, shift_of, holds}

-- ---- one pitch t, for the note p moved by the code's shift, at the bias b

module _ (b t p code : ℕ) where
  pub exact_moved : t + b ≡ p + code → pos p +ℤ (pos code -ℤ pos b) ≡ pos t
  exact_moved e =
      sym (+ℤ_assoc (pos p) (pos code) (neg_ℤ (pos b))) ∙ ap (λ (n : ℕ). pos n -ℤ pos b) (sym e) ∙ +ℤ-neg_ℤ_cancel (pos t) (pos b)

  pub moved_exact : pos p +ℤ (pos code -ℤ pos b) ≡ pos t → t + b ≡ p + code
  moved_exact e =
      ap nat_abs
      (ap (λ (z : ℤ). z +ℤ pos b) (sym e ∙ sym (+ℤ_assoc (pos p) (pos code) (neg_ℤ (pos b)))) ∙ -ℤ-+ℤ_cancel (pos (p + code)) (pos b))

-- ---- a column

pub holds_true : (way : Way) (code : ℕ) (p : Pitch) (column : List ℕ) → holds way code p column ≡ true → Holds way column p (shift_of way code)
unfolding holds
holds_true Exact code p column e =
    let f = some_in (λ (t : Pitch). eqb (t.0 + 127) (p.0 + code)) (pitches column) e in
    record { t = f.0; there = f.1; moved = exact_moved 127 f.0.0 p.0 code (eqb-true _ _ f.2) }
holds_true Octave code p column e =
    let f = some_in (λ (t : Pitch). eqb (t.0 % 12) ((p.0 + code) % 12)) (pitches column) e in
    record {
      t = f.0;
      there = f.1;
      moved = subst Twelves (sym (pos_sub_sub f.0.0 p.0 code)) (twelves f.0.0 (p.0 + code) (eqb-true _ _ f.2));
    }

pub true_holds : (way : Way) (code : ℕ) (p : Pitch) (column : List ℕ) → Holds way column p (shift_of way code) → holds way code p column ≡ true
unfolding holds
true_holds Exact code p column h =
    in_some (λ (t : Pitch). eqb (t.0 + 127) (p.0 + code)) (pitches column) h.there (eq-eqb _ _ (moved_exact 127 h.t.0 p.0 code h.moved))
true_holds Octave code p column h =
    in_some (λ (t : Pitch). eqb (t.0 % 12) ((p.0 + code) % 12)) (pitches column) h.there
    (eq-eqb _ _ (twelves_mod h.t.0 (p.0 + code) (subst Twelves (pos_sub_sub h.t.0 p.0 code) h.moved)))

-- ---- what the test says, by the pitch or the class that is sought

pub eqb_same : (a b c d : ℕ) → (a ≡ b → c ≡ d) → (c ≡ d → a ≡ b) → eqb a b ≡ eqb c d
eqb_same a b c d f g = step (eqb a b) refl
  where
    step : (t : Bool) → eqb a b ≡ t → t ≡ eqb c d
    step true e = sym (eq-eqb c d (f (eqb-true a b e)))
    step false e = sym (ne_eqb c d (λ q. eqb-false a b e (g q)))

-- tests that agree on all pitches, of which none is over 127
pub some_agree : (f g : Pitch → Bool) (column : List ℕ) → ((t : Pitch) → t.0 ≤ 127 → f t ≡ g t) → some f (pitches column) ≡ some g (pitches column)
some_agree f g [] h = refl
some_agree f g (cell ∷ cells) h = step (leb cell 127) refl (some_agree f g cells h)
  where
    step : (t : Bool) → leb cell 127 ≡ t → some f (pitches cells) ≡ some g (pitches cells)
        → some f (cond t (pitch cell ∷ pitches cells) (pitches cells)) ≡ some g (cond t (pitch cell ∷ pitches cells) (pitches cells))
    step true e ih = rw (h (pitch cell) (leb-true cell 127 e), ih)
    step false e ih = ih

module _ (code : ℕ) (p : Pitch) (column : List ℕ) where
  -- exact: the pitch sought is p + code - 127, if that is one
  pub holds_exact : 127 ≤ p.0 + code → holds Exact code p column ≡ some (λ t. eqb t.0 (p.0 + code - 127)) (pitches column)
  unfolding holds
  holds_exact h = some_agree _ _ column (λ t l. eqb_same (t.0 + 127) (p.0 + code) t.0 (p.0 + code - 127) (λ e. omega arith) (λ e. omega arith))

  none_passes : (f : Pitch → Bool) (cs : List ℕ) → ((t : Pitch) → t.0 ≤ 127 → f t ≡ false) → some f (pitches cs) ≡ false
  none_passes f cs h = some_agree f (λ t. false) cs h ∙ nothing (pitches cs)
    where
      nothing : (ts : List Pitch) → some (λ t. false) ts ≡ false
      nothing [] = refl
      nothing (t ∷ ts) = nothing ts

  pub holds_below : p.0 + code < 127 → false ≡ holds Exact code p column
  unfolding holds
  holds_below h = sym (none_passes (λ t. eqb (t.0 + 127) (p.0 + code)) column (λ t l. ne_eqb (t.0 + 127) (p.0 + code) (λ e. omega arith)))

  pub holds_above : 254 < p.0 + code → false ≡ holds Exact code p column
  unfolding holds
  holds_above h = sym (none_passes (λ t. eqb (t.0 + 127) (p.0 + code)) column (λ t l. ne_eqb (t.0 + 127) (p.0 + code) (λ e. omega arith)))

  pub holds_octave : holds Octave code p column ≡ some (λ t. eqb (t.0 % 12) ((p.0 + code) % 12)) (pitches column)
  unfolding holds
  holds_octave = refl
