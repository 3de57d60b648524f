-- The sets after an update are those of a fresh preparation, where the lent sets are those of a score that differs in the
-- changed column only (`fresh_sets`). The idea: another set rests on that column only where it is the next column with a pitch,
-- and then its own column is the last with a pitch before it. Assumes nothing.
use mathlib.Core.Path.{◌≡◌, refl, sym, ap, ap₂, ◌∙◌}
use mathlib.Core.Bool.{Bool, true, false, cond, ◌||◌}
use mathlib.Core.List.{List, [], ◌++◌, map, append-nil}
use Prim.Native.Nat.{ℕ, suc, ◌+◌, ◌-◌, ◌≤◌, ◌<◌}
use native.Mathlib.Decide.{dec_lt}
use native.Mathlib.Omega.{arith}
use lib.Dec.{eqb}
use lib.ListN.{length, get_or, take, drop, length-take, length-drop, take-append-drop}
use lib.Seq.{ext_get_or, get_or-take, get_or-drop, take-add}
use borrow.Author.Tests.{eqb-false}
use Rattle.theory.specs.Lists.{some, count, last}
use Rattle.theory.proofs.Lists.{count_map_length, count_map_at}
use Rattle.score.specs.declared.quantities.Column.{Column}
use Rattle.score.specs.Score.{heard, heard_from}
use Rattle.score.specs.Sets.{sets, interval_set, next_heard}
use Rattle.score.proofs.IntervalSets.{sets_length, sets_at, set_empty}
use Rattle.updating.specs.Updating.{heard_before, rests_on, updated_sets, OneChanged}
use Rattle.updating.proofs.Neighbours.{next_front, numbers_append, numbers_none, last_here}

module _ {c : Column} {before now : List (List ℕ)} (one : OneChanged c before now) (low : 1 ≤ c.0) where
  -- by places from 0
  same_at : (i : ℕ) → (suc i ≡ c.0 → ⊥) → get_or before i [] ≡ get_or now i []
  same_at i n = let e : suc i - 1 ≡ i = omega arith in rw e at (one.others (suc i) (omega arith) n)

  -- the columns behind a place that is not before the changed one
  same_behind : (k : ℕ) → c.0 ≤ k → drop k before ≡ drop k now
  same_behind k l =
      ext_get_or [] (drop k before) (drop k now) (omega (arith, length-drop k before, length-drop k now, one.long))
      (λ i h. get_or-drop k before i [] ∙ same_at (k + i) (λ e. omega (arith, e)) ∙ sym (get_or-drop k now i []))

  -- the columns from a place up to the changed one
  abbrev between : (score : List (List ℕ)) (k : ℕ) → List (List ℕ)
  between score k = take (c.0 - 1 - k) (drop k score)

  same_between : (k : ℕ) → between before k ≡ between now k
  same_between k =
      ext_get_or [] (between before k) (between now k)
      (omega (arith, length-take (c.0 - 1 - k) (drop k before), length-take (c.0 - 1 - k) (drop k now), length-drop k before, length-drop k now, one.long))
      (λ i h.
      let l : i < c.0 - 1 - k = omega (arith, length-take (c.0 - 1 - k) (drop k before)) in
      get_or-take (c.0 - 1 - k) (drop k before) i [] l ∙ get_or-drop k before i [] ∙ same_at (k + i) (λ e. omega (arith, e))
      ∙ sym (get_or-take (c.0 - 1 - k) (drop k now) i [] l ∙ get_or-drop k now i []))

  -- where one of them has a pitch, the next column with a pitch is the same
  same_next : (k : ℕ) → some heard (between now k) ≡ true → next_heard (drop k before) ≡ next_heard (drop k now)
  same_next k e =
      ap next_heard (split before)
      ∙ next_front (between before k) (drop (c.0 - 1 - k) (drop k before)) (ap (some heard) (same_between k) ∙ e)
      ∙ ap next_heard (same_between k)
      ∙ sym (ap next_heard (split now) ∙ next_front (between now k) (drop (c.0 - 1 - k) (drop k now)) e)
    where
      split : (score : List (List ℕ)) → drop k score ≡ between score k ++ drop (c.0 - 1 - k) (drop k score)
      split score = sym (take-append-drop (c.0 - 1 - k) (drop k score))

  -- and where none has, a column with a pitch is the last before the changed one
  last_before : (k : ℕ) → suc k < c.0 + 1 → suc k ≤ c.0 - 1 → k < length now → heard (get_or now k []) ≡ true → some heard (between now (suc k)) ≡ false
      → heard_before now c ≡ suc k
  last_before k l m n e f =
      let split : c.0 - 1 ≡ suc k + (c.0 - 1 - suc k) = omega arith in
      ap (λ (x : ℕ). last 0 (heard_from 1 (take x now))) split
      ∙ ap (λ (xs : List (List ℕ)). last 0 (heard_from 1 xs)) (take-add (suc k) (c.0 - 1 - suc k) now)
      ∙ ap (last 0) (numbers_append 1 (take (suc k) now) (between now (suc k)))
      ∙ ap (λ (xs : List ℕ). last 0 (heard_from 1 (take (suc k) now) ++ xs)) (numbers_none (1 + length (take (suc k) now)) (between now (suc k)) f)
      ∙ ap (last 0) (append-nil (heard_from 1 (take (suc k) now)))
      ∙ last_here now k n e

  -- a set that does not rest on the changed column is the same
  same_set : (k : ℕ) → k + 1 < length now → (suc k ≡ c.0 → ⊥) → (suc k ≡ heard_before now c → ⊥) → get_or (sets before) k 0 ≡ get_or (sets now) k 0
  same_set k l other own =
      sets_at before k (omega (arith, one.long)) ∙ rest (dec_lt (suc k) c.0) (heard (get_or now k [])) refl ∙ sym (sets_at now k l)
    where
      more : k + 1 ≡ suc k
      more = omega arith

      column : get_or before k [] ≡ get_or now k []
      column = same_at k other

      alike : next_heard (drop (k + 1) before) ≡ next_heard (drop (k + 1) now)
          → interval_set (get_or before k []) (next_heard (drop (k + 1) before)) ≡ interval_set (get_or now k []) (next_heard (drop (k + 1) now))
      alike e = ap₂ interval_set column e

      near : (t : Bool) → suc k < c.0 → heard (get_or now k []) ≡ true → some heard (between now (suc k)) ≡ t
          → interval_set (get_or before k []) (next_heard (drop (k + 1) before)) ≡ interval_set (get_or now k []) (next_heard (drop (k + 1) now))
      near true h e f = alike (rw more (same_next (suc k) f))
      near false h e f = absurd (own (sym (last_before k (omega arith) (omega arith) (omega arith) e f)))

      rest : Dec (suc k < c.0) → (t : Bool) → heard (get_or now k []) ≡ t
          → interval_set (get_or before k []) (next_heard (drop (k + 1) before)) ≡ interval_set (get_or now k []) (next_heard (drop (k + 1) now))
      rest (no h) t e = alike (ap next_heard (same_behind (k + 1) (omega (arith, h, other))))
      rest (yes h) true e = near _ h e refl
      rest (yes h) false e =
          set_empty (get_or before k []) (next_heard (drop (k + 1) before)) (ap heard column ∙ e)
          ∙ sym (set_empty (get_or now k []) (next_heard (drop (k + 1) now)) e)

  -- so all sets are those of the score as it is now
  pub fresh_sets : updated_sets now c (sets before) ≡ sets now
  unfolding updated_sets
  fresh_sets = ext_get_or 0 (map entry (count 1 (length (sets before)))) (sets now) long at
    where
      entry : ℕ → ℕ
      entry k = cond (rests_on now c k) (get_or (sets now) (k - 1) 0) (get_or (sets before) (k - 1) 0)

      long : length (map entry (count 1 (length (sets before)))) ≡ length (sets now)
      long = omega (arith, count_map_length entry 1 (length (sets before)), sets_length before, sets_length now, one.long)

      at : (i : ℕ) → i < length (map entry (count 1 (length (sets before)))) → get_or (map entry (count 1 (length (sets before)))) i 0 ≡ get_or (sets now) i 0
      at i l =
          let l' : i < length (sets before) = omega (arith, count_map_length entry 1 (length (sets before))) in
          let e : 1 + i - 1 ≡ i = omega arith in
          let room : i + 1 < length now = omega (arith, sets_length before, one.long) in
          count_map_at entry 1 (length (sets before)) i 0 l' ∙ rw e (step (eqb (1 + i) c.0) (eqb (1 + i) (heard_before now c)) refl refl room)
        where
          step : (s t : Bool) → eqb (1 + i) c.0 ≡ s → eqb (1 + i) (heard_before now c) ≡ t → i + 1 < length now
              → cond (s || t) (get_or (sets now) i 0) (get_or (sets before) i 0) ≡ get_or (sets now) i 0
          step true true p q r = refl
          step true false p q r = refl
          step false true p q r = refl
          step false false p q r =
              same_set i r (λ f. eqb-false (1 + i) c.0 p (omega (arith, f))) (λ f. eqb-false (1 + i) (heard_before now c) q (omega (arith, f)))
