-- Columns with a pitch, by their class sets. A class set is 0 exactly where its column is empty (`class_empty`), so the first
-- that is not 0 is that of the next column with a pitch (`next_class_lem`). Last, the loop that carries class sets from the last
-- place to the first (`Carrying`): the places from k on are stored. Assumes nothing.
use mathlib.Core.Path.{◌≡◌, refl, sym, ap, ◌∙◌}
use mathlib.Core.Bool.{Bool, true, false, cond, not, false≢true}
use mathlib.Core.Logic.{⊎_elim}
use mathlib.Core.List.Memᴰ.{head as at_head}
use mathlib.Core.List.{List, [], ◌∷◌, map, Memᴰ as In}
use Prim.Native.Nat.{ℕ, suc, ◌-◌, ◌%◌, ◌≤◌, ◌<◌, zero-le}
use native.Mathlib.Nat.{le_refl, eq-or-lt_of_le}
use native.Mathlib.Omega.{arith}
use lib.Dec.{leb}
use lib.ListN.{length, get_or, drop, set, replicate, length-set, length-replicate}
use lib.Seq.{drop-cons, drop-length, get_or-set_same, get_or-set_other}
use borrow.Author.Tests.{eq-eqb, ne_eqb}
use Rattle.theory.specs.Bits.{bit}
use Rattle.theory.specs.Lists.{some}
use Rattle.theory.proofs.Bits.{bit_high, bit_ext}
use Rattle.theory.proofs.Lists.{some_none}
use Rattle.score.specs.declared.quantities.Pitch.{Pitch}
use Rattle.score.specs.Limits.{highest_pitch, most_columns}
use Rattle.score.specs.Score.{pitch, pitches, heard, heard_of}
use Rattle.score.specs.Sets.{next_heard}
use Rattle.score.proofs.Heard.{empty_none}
use Rattle.preparing.specs.Classes.{class_set, is_empty, next_class, Carried}
use Rattle.preparing.proofs.ClassSets.{class_bit_lem, class_lt, in_class}

-- ---- a class set is 0 exactly where its column is empty

heard_pitch : (column : List ℕ) → heard column ≡ true → (t : Pitch) × In t (pitches column)
heard_pitch [] e = absurd (false≢true e)
heard_pitch (cell ∷ column) e = step (leb cell highest_pitch) e (heard_pitch column)
  where
    step : (t : Bool) → cond t true (heard column) ≡ true → (heard column ≡ true → (p : Pitch) × In p (pitches column))
        → (p : Pitch) × In p (cond t (pitch cell ∷ pitches column) (pitches column))
    step true e ih = (pitch cell, at_head refl)
    step false e ih = ih e

zero_bit : (q : ℕ) → bit 0 q ≡ 0
zero_bit q = bit_high 0 q 0 (omega arith) zero-le

class_none : (column : List ℕ) → heard column ≡ false → class_set column ≡ 0
class_none column e =
    bit_ext 12 (class_set column) 0 (class_lt column) (omega arith) (λ q h. class_bit_lem column q h ∙ rw (empty_none column e) (sym (zero_bit q)))

class_some : (column : List ℕ) → heard column ≡ true → class_set column ≡ 0 → ⊥
class_some column e z =
    let found = heard_pitch column e in
    let q = found.0.0 % 12 in
    omega (arith, in_class column found.1, ap (λ (n : ℕ). bit n q) z, zero_bit q)

pub class_empty : (column : List ℕ) → is_empty (class_set column) ≡ not (heard column)
class_empty column = step (heard column) refl
  where
    step : (t : Bool) → heard column ≡ t → is_empty (class_set column) ≡ not t
    step true e = ne_eqb (class_set column) 0 (class_some column e)
    step false e = eq-eqb (class_set column) 0 (class_none column e)

-- the next column with a pitch, by class sets
pub next_class_lem : (columns : List (List ℕ)) → next_class (map class_set columns) ≡ class_set (next_heard columns)
next_class_lem [] = sym (class_none [] refl)
next_class_lem (c ∷ columns) = rw (class_empty c) (step (heard c) (next_class_lem columns))
  where
    step : (t : Bool) → next_class (map class_set columns) ≡ class_set (next_heard columns)
        → cond (not t) (next_class (map class_set columns)) (class_set c) ≡ class_set (get_or (cond t (c ∷ heard_of columns) (heard_of columns)) 0 [])
    step true ih = refl
    step false ih = ih

-- where no column is empty, each class set is the next itself
pub full_carried : (others : List ℕ) → some is_empty others ≡ false → Carried others others
full_carried others e = record { each = λ k h. rw (drop-cons others k 0 h, some_none is_empty others 0 e k h) }

-- ---- carrying

pub record Carrying (others later : List ℕ) (next k : ℕ) : Type 0 where
  pub within : k ≤ length others
  pub long : length later ≡ most_columns
  pub has : next ≡ next_class (drop k others)
  pub stored : (i : ℕ) → k ≤ i → i < length others → get_or later i 0 ≡ next_class (drop i others)

module _ (others : List ℕ) where
  pub carrying_start : Carrying others (replicate {A = ℕ} most_columns 0) 0 (length others)
  carrying_start =
      record {
        within = le_refl (length others);
        long = length-replicate {A = ℕ} most_columns 0;
        has = rw (drop-length others);
        stored = λ i m l. absurd (omega arith);
      }

  -- a class set before: it is carried on where it is not 0
  carrying_more : {later : List ℕ} {next k : ℕ} (v : ℕ) → Carrying others later next k → 0 < k → length others ≤ most_columns
      → v ≡ cond (is_empty (get_or others (k - 1) 0)) next (get_or others (k - 1) 0) → Carrying others (set later (k - 1) v) v (k - 1)
  carrying_more {later} {next} {k} v c low few e =
      record {
        within = omega (arith, c.within);
        long = length-set later (k - 1) v ∙ c.long;
        has = here;
        stored = λ i m l. ⊎_elim
            (λ same. at_place i same)
            (λ after. get_or-set_other later (k - 1) i v 0 (λ s. omega arith) ∙ c.stored i (omega arith) l)
            (eq-or-lt_of_le m);
      }
    where
      back : suc (k - 1) ≡ k
      back = omega arith

      left : drop (k - 1) others ≡ get_or others (k - 1) 0 ∷ drop k others
      left = rw back at (drop-cons others (k - 1) 0 (omega (arith, c.within)))

      here : v ≡ next_class (drop (k - 1) others)
      here = rw (left, ← c.has) e

      at_place : (i : ℕ) → k - 1 ≡ i → get_or (set later (k - 1) v) i 0 ≡ next_class (drop i others)
      at_place i same = rw (← same) (get_or-set_same later (k - 1) v 0 (omega (arith, c.within, c.long)) ∙ here)

  module _ {later : List ℕ} {next k : ℕ} (c : Carrying others later next k) (low : 0 < k) (few : length others ≤ most_columns) where
    pub carrying_own : (get_or others (k - 1) 0 ≡ 0 → ⊥) → Carrying others (set later (k - 1) (get_or others (k - 1) 0)) (get_or others (k - 1) 0) (k - 1)
    carrying_own n = carrying_more (get_or others (k - 1) 0) c low few (rw (ne_eqb (get_or others (k - 1) 0) 0 n))

    pub carrying_on : get_or others (k - 1) 0 ≡ 0 → Carrying others (set later (k - 1) next) next (k - 1)
    carrying_on z = carrying_more next c low few (rw (eq-eqb (get_or others (k - 1) 0) 0 z))

  pub carrying_end : {later : List ℕ} {next k : ℕ} → Carrying others later next k → k ≤ 0 → Carried others later
  carrying_end c h = record { each = λ i l. c.stored i (omega arith) l }
