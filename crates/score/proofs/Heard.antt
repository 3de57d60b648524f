-- Columns with a pitch. The i-th number of `heard_from` names the i-th column of `heard_of`, and the columns with a pitch from it
-- on are those from the i-th on (`At`); numbers rise, and every column with a pitch has one. A score without an empty column is
-- its own, under its own numbers. By the columns of the score, one at a time. Assumes nothing.
use mathlib.Core.Path.{◌≡◌, refl, sym, ap, ◌∙◌, subst}
use mathlib.Core.Bool.{Bool, true, false, cond, not, true≢false, false≢true}
use mathlib.Core.List.Memᴰ.{not-nil}
use mathlib.Core.List.{List, [], ◌∷◌, ◌++◌, append_assoc, Memᴰ as In}
use Prim.Native.Nat.{ℕ, zero, suc, ◌+◌, ◌-◌, ◌≤◌, ◌<◌}
use native.Mathlib.Nat.{not-suc-le-zero, le_of_suc-le-suc, le_refl, add-zero, sub_self}
use native.Mathlib.Numerals.{add-one}
use native.Mathlib.Decide.{dec_lt}
use native.Mathlib.Omega.{arith}
use lib.Dec.{leb}
use lib.ListN.{length, get_or, take, drop, get_or-eq_default}
use lib.Seq.{drop-cons}
use Rattle.theory.specs.Lists.{count}
use Rattle.score.specs.declared.quantities.Pitch.{Pitch}
use Rattle.score.specs.Limits.{highest_pitch}
use Rattle.score.specs.Score.{pitch, column_at, column, pitches, heard, has_empty, heard_of, heard_from, number_of, rank_of, columns_from, onward}

-- ---- a column without a pitch has none

pub empty_none : (column : List ℕ) → heard column ≡ false → pitches column ≡ []
empty_none [] e = refl
empty_none (cell ∷ column) e = step (leb cell highest_pitch) e (empty_none column)
  where
    step : (t : Bool) → cond t true (heard column) ≡ false → (heard column ≡ false → pitches column ≡ []) → cond t (pitch cell ∷ pitches column) (pitches column) ≡ []
    step true e ih = absurd (true≢false e)
    step false e ih = ih e

pub pitch_heard : (column : List ℕ) {t : Pitch} → In t (pitches column) → heard column ≡ true
pitch_heard column {t} m = step (heard column) refl
  where
    step : (b : Bool) → heard column ≡ b → b ≡ true
    step true e = refl
    step false e = absurd (not-nil (subst (In t) (empty_none column e) m))

-- ---- the numbers of the columns with a pitch

pub heard_length : (j : ℕ) (score : List (List ℕ)) → length (heard_from j score) ≡ length (heard_of score)
heard_length j [] = refl
heard_length j (c ∷ score) = step (heard c) (heard_length (suc j) score)
  where
    step : (t : Bool) → length (heard_from (suc j) score) ≡ length (heard_of score)
        → length (cond t (j ∷ heard_from (suc j) score) (heard_from (suc j) score)) ≡ length (cond t (c ∷ heard_of score) (heard_of score))
    step true ih = ap suc ih
    step false ih = ih

-- number x, of the columns of a score whose first has number j, is that of the i-th column with a pitch, from 0
pub record At (j : ℕ) (score : List (List ℕ)) (heards : List (List ℕ)) (i x : ℕ) : Type 0 where
  pub not_before : j ≤ x
  pub within : x < j + length score
  pub named : get_or score (x - j) [] ≡ get_or heards i []
  pub on : heard_of (drop (x - j) score) ≡ drop i heards
  pub past : heard_of (drop (suc (x - j)) score) ≡ drop (suc i) heards
  pub rank : length (heard_of (take (suc x - j) score)) ≡ suc i

-- a column more in front, with a pitch or without
at_first : (j : ℕ) (c : List ℕ) (score : List (List ℕ)) → heard c ≡ true → At j (c ∷ score) (c ∷ heard_of score) 0 j
at_first j c score e = record { not_before = le_refl j; within = omega arith; named = rw sub_self; on = rw (sub_self, e); past = rw sub_self; rank = let k : suc j - j ≡ 1 = omega arith in rw (k, e) }

at_later : (j : ℕ) (c : List ℕ) (score heards : List (List ℕ)) (i x : ℕ) → heard c ≡ true → At (suc j) score heards i x
    → At j (c ∷ score) (c ∷ heards) (suc i) x
at_later j c score heards i x h a =
    let e : x - j ≡ suc (x - suc j) = omega (arith, a.not_before) in
    let f : suc x - j ≡ suc (suc x - suc j) = omega (arith, a.not_before) in
    record {
      not_before = omega (arith, a.not_before);
      within = omega (arith, a.within);
      named = rw e a.named;
      on = rw e a.on;
      past = rw e a.past;
      rank = rw (f, h) (ap suc a.rank);
    }

at_over : (j : ℕ) (c : List ℕ) (score heards : List (List ℕ)) (i x : ℕ) → heard c ≡ false → At (suc j) score heards i x → At j (c ∷ score) heards i x
at_over j c score heards i x h a =
    let e : x - j ≡ suc (x - suc j) = omega (arith, a.not_before) in
    let f : suc x - j ≡ suc (suc x - suc j) = omega (arith, a.not_before) in
    record {
      not_before = omega (arith, a.not_before);
      within = omega (arith, a.within);
      named = rw e a.named;
      on = rw e a.on;
      past = rw e a.past;
      rank = rw (f, h) a.rank;
    }

pub number_at : (j : ℕ) (score : List (List ℕ)) (i : ℕ) → i < length (heard_of score) → At j score (heard_of score) i (get_or (heard_from j score) i 0)
number_at j [] i l = absurd (not-suc-le-zero l)
number_at j (c ∷ score) i l = step (heard c) refl i l (number_at (suc j) score)
  where
    step : (t : Bool) → heard c ≡ t → (i : ℕ) → i < length (cond t (c ∷ heard_of score) (heard_of score))
        → ((k : ℕ) → k < length (heard_of score) → At (suc j) score (heard_of score) k (get_or (heard_from (suc j) score) k 0))
        → At j (c ∷ score) (cond t (c ∷ heard_of score) (heard_of score)) i (get_or (cond t (j ∷ heard_from (suc j) score) (heard_from (suc j) score)) i 0)
    step true e zero l ih = at_first j c score e
    step true e (suc i) l ih = at_later j c score (heard_of score) i _ e (ih i (le_of_suc-le-suc l))
    step false e i l ih = at_over j c score (heard_of score) i _ e (ih i l)

-- numbers rise
pub number_rises : (j : ℕ) (score : List (List ℕ)) (i k : ℕ) → i < k → k < length (heard_of score) → get_or (heard_from j score) i 0 < get_or (heard_from j score) k 0
number_rises j [] i k l h = absurd (not-suc-le-zero h)
number_rises j (c ∷ score) i k l h = step (heard c) i k l h (number_rises (suc j) score)
  where
    step : (t : Bool) (i k : ℕ) → i < k → k < length (cond t (c ∷ heard_of score) (heard_of score))
        → ((i k : ℕ) → i < k → k < length (heard_of score) → get_or (heard_from (suc j) score) i 0 < get_or (heard_from (suc j) score) k 0)
        → get_or (cond t (j ∷ heard_from (suc j) score) (heard_from (suc j) score)) i 0 < get_or (cond t (j ∷ heard_from (suc j) score) (heard_from (suc j) score)) k 0
    step true i zero l h ih = absurd (not-suc-le-zero l)
    step true zero (suc k) l h ih = (number_at (suc j) score k (le_of_suc-le-suc h)).not_before
    step true (suc i) (suc k) l h ih = ih i k (le_of_suc-le-suc l) (le_of_suc-le-suc h)
    step false i k l h ih = ih i k l h

-- a column with a pitch has a number
pub number_of_lem : (j : ℕ) (score : List (List ℕ)) (k : ℕ) → k < length score → heard (get_or score k []) ≡ true
    → (i : ℕ) × (i < length (heard_of score)) × (get_or (heard_from j score) i 0 ≡ j + k)
number_of_lem j [] k l e = absurd (not-suc-le-zero l)
number_of_lem j (c ∷ score) k l e = step (heard c) refl k l e (number_of_lem (suc j) score)
  where
    step : (t : Bool) → heard c ≡ t → (k : ℕ) → k < suc (length score) → heard (get_or (c ∷ score) k []) ≡ true
        → ((k : ℕ) → k < length score → heard (get_or score k []) ≡ true → (i : ℕ) × (i < length (heard_of score)) × (get_or (heard_from (suc j) score) i 0 ≡ suc j + k))
        → (i : ℕ) × (i < length (cond t (c ∷ heard_of score) (heard_of score))) × (get_or (cond t (j ∷ heard_from (suc j) score) (heard_from (suc j) score)) i 0 ≡ j + k)
    step true f zero l e ih = (0, omega arith, omega arith)
    step true f (suc k) l e ih = let r = ih k (le_of_suc-le-suc l) e in (suc r.0, omega (arith, r.1), r.2 ∙ omega arith)
    step false f zero l e ih = absurd (true≢false (sym e ∙ f))
    step false f (suc k) l e ih = let r = ih k (le_of_suc-le-suc l) e in (r.0, r.1, r.2 ∙ omega arith)

-- ---- the numbers that are left, a column further on

module _ (score : List (List ℕ)) (k : ℕ) (l : k < length score) where
  pub numbers_take : (named : List ℕ) → heard (get_or score k []) ≡ true
      → (named ++ ((k + 1) ∷ [])) ++ heard_from (k + 1 + 1) (drop (k + 1) score) ≡ named ++ heard_from (k + 1) (drop k score)
  numbers_take named e =
      rw (drop-cons score k [] l, e, add-one (k + 1), add-one k) (append_assoc named (suc k ∷ []) (heard_from (suc (suc k)) (drop (suc k) score)))

  pub numbers_skip : heard (get_or score k []) ≡ false → heard_from (k + 1 + 1) (drop (k + 1) score) ≡ heard_from (k + 1) (drop k score)
  numbers_skip e = rw (drop-cons score k [] l, e, add-one (k + 1), add-one k)

-- behind the first k columns they are those of the score without as many as have a pitch among these
pub numbers_drop : (j k : ℕ) (score : List (List ℕ)) → heard_from (j + k) (drop k score) ≡ drop (length (heard_of (take k score))) (heard_from j score)
numbers_drop j zero score = rw add-zero
numbers_drop j (suc k) [] = refl
numbers_drop j (suc k) (c ∷ score) = step (heard c) (numbers_drop (suc j) k score)
  where
    step : (t : Bool) → heard_from (suc j + k) (drop k score) ≡ drop (length (heard_of (take k score))) (heard_from (suc j) score)
        → heard_from (j + suc k) (drop k score)
        ≡ drop (length (cond t (c ∷ heard_of (take k score)) (heard_of (take k score)))) (cond t (j ∷ heard_from (suc j) score) (heard_from (suc j) score))
    step true ih = let e : j + suc k ≡ suc j + k = omega arith in rw e ih
    step false ih = let e : j + suc k ≡ suc j + k = omega arith in rw e ih

-- ---- a score without an empty column

full_cons : (c : List ℕ) (score : List (List ℕ)) → has_empty (c ∷ score) ≡ false → (heard c ≡ true) × (has_empty score ≡ false)
full_cons c score e = step (heard c) refl e
  where
    step : (t : Bool) → heard c ≡ t → cond (not t) true (has_empty score) ≡ false → (t ≡ true) × (has_empty score ≡ false)
    step true f e = (refl, e)
    step false f e = absurd (true≢false e)

pub full_heard : (score : List (List ℕ)) → has_empty score ≡ false → heard_of score ≡ score
full_heard [] e = refl
full_heard (c ∷ score) e = let f = full_cons c score e in rw f.0 (ap (λ (s : List (List ℕ)). c ∷ s) (full_heard score f.1))

pub full_numbers : (j : ℕ) (score : List (List ℕ)) → has_empty score ≡ false → heard_from j score ≡ count j (length score)
full_numbers j [] e = refl
full_numbers j (c ∷ score) e = let f = full_cons c score e in rw f.0 (ap (λ (s : List ℕ). j ∷ s) (full_numbers (suc j) score f.1))

pub full_at : (score : List (List ℕ)) → has_empty score ≡ false → (k : ℕ) → k < length score → heard (get_or score k []) ≡ true
full_at [] e k l = absurd (not-suc-le-zero l)
full_at (c ∷ score) e zero l = (full_cons c score e).0
full_at (c ∷ score) e (suc k) l = full_at score (full_cons c score e).1 k (le_of_suc-le-suc l)

pub full_drop : (k : ℕ) (score : List (List ℕ)) → has_empty score ≡ false → has_empty (drop k score) ≡ false
full_drop zero score e = e
full_drop (suc k) [] e = e
full_drop (suc k) (c ∷ score) e = full_drop k score (full_cons c score e).1

-- without its empty columns a score has none
pub heard_full : (score : List (List ℕ)) → has_empty (heard_of score) ≡ false
heard_full [] = refl
heard_full (c ∷ score) = step (heard c) refl (heard_full score)
  where
    step : (t : Bool) → heard c ≡ t → has_empty (heard_of score) ≡ false → has_empty (cond t (c ∷ heard_of score) (heard_of score)) ≡ false
    step true e ih = rw e ih
    step false e ih = ih

-- ---- columns and their numbers, from 1

heard_at : (score : List (List ℕ)) (i : ℕ) → i < length (heard_of score) → heard (get_or (heard_of score) i []) ≡ true
heard_at [] i l = absurd (not-suc-le-zero l)
heard_at (c ∷ score) i l = step (heard c) refl i l (heard_at score)
  where
    step : (t : Bool) → heard c ≡ t → (i : ℕ) → i < length (cond t (c ∷ heard_of score) (heard_of score))
        → ((k : ℕ) → k < length (heard_of score) → heard (get_or (heard_of score) k []) ≡ true)
        → heard (get_or (cond t (c ∷ heard_of score) (heard_of score)) i []) ≡ true
    step true e zero l ih = e
    step true e (suc i) l ih = ih i (le_of_suc-le-suc l)
    step false e i l ih = ih i l

-- the i-th column with a pitch has this number in the score
pub record NumberOf (score : List (List ℕ)) (i j : ℕ) : Type 0 where
  pub from_first : 1 ≤ j
  pub to_last : j ≤ length score
  pub named : column score (column_at j) ≡ column (heard_of score) (column_at i)
  pub heard_there : heard (column score (column_at j)) ≡ true
  pub on : onward score (column_at j) ≡ columns_from (heard_of score) (column_at i)
  pub ranked : rank_of score (column_at j) ≡ i

module _ (score : List (List ℕ)) where
  pub number_is : (i : ℕ) → 1 ≤ i → i ≤ length (heard_of score) → NumberOf score i (number_of score i)
  number_is i low high =
      let a = number_at 1 score (i - 1) (omega arith) in
      let e : suc (number_of score i) - 1 ≡ number_of score i = omega arith in
      record {
        from_first = a.not_before;
        to_last = omega (arith, a.within);
        named = a.named;
        heard_there = rw a.named (heard_at score (i - 1) (omega arith));
        on = a.on;
        ranked = rw e at a.rank ∙ omega arith;
      }

  -- every column with a pitch has a number
  pub number_found : (j : ℕ) → 1 ≤ j → heard (column score (column_at j)) ≡ true
      → (i : ℕ) × (1 ≤ i) × (i ≤ length (heard_of score)) × (number_of score i ≡ j)
  number_found j low e = pick (dec_lt (j - 1) (length score))
    where
      pick : Dec (j - 1 < length score) → (i : ℕ) × (1 ≤ i) × (i ≤ length (heard_of score)) × (number_of score i ≡ j)
      pick (yes l) =
          let r = number_of_lem 1 score (j - 1) l e in
          let k : suc r.0 - 1 ≡ r.0 = omega arith in
          (suc r.0, omega arith, r.1, rw k (r.2 ∙ omega arith))
      pick (no l) =
          let g : length score ≤ j - 1 = omega arith in
          let none : get_or score (j - 1) [] ≡ [] = get_or-eq_default score [] g in
          absurd (false≢true (rw none at e))
