-- The sets that are rewritten: set by set, `rewritten` changes one of them, and the two that are rewritten one after the other
-- are those that rest on the changed column (`rewritten_both`). Assumes nothing.
use mathlib.Core.Path.{◌≡◌, refl, sym, ap, ap₂, ◌∙◌}
use mathlib.Core.Bool.{Bool, true, false, cond, ◌&&◌, ◌||◌}
use mathlib.Core.List.{List, [], map}
use Prim.Native.Nat.{ℕ, ◌+◌, ◌-◌, ◌≤◌, ◌<◌}
use native.Mathlib.Omega.{arith}
use lib.Dec.{ltb, eqb}
use borrow.Author.Tests.{lt-ltb, le-ltb}
use lib.ListN.{length, get_or, drop, set, length-set, get_or-eq_default}
use lib.Seq.{ext_get_or, get_or-set_same, get_or-set_other}
use borrow.Author.Tests.{eqb-true, eqb-false, lt-ltb, ltb-true}
use Rattle.theory.specs.Lists.{count, first}
use Rattle.theory.proofs.Either.{both_left, both_right}
use Rattle.theory.proofs.Lists.{count_map_length, count_map_at}
use Rattle.score.specs.declared.quantities.Column.{Column}
use Rattle.score.specs.Limits.{highest_set}
use Rattle.score.specs.Score.{column_at, cut, columns_in, score_of, heard}
use Rattle.score.specs.Sets.{sets, interval_set, next_heard}
use Rattle.score.proofs.Columns.{cut_length}
use Rattle.score.proofs.IntervalSets.{sets_at, set_alone}
use Rattle.updating.specs.Updating.{heard_before, rests_on, updated_sets, rewritten}
use Rattle.updating.proofs.Neighbours.{next_is}

-- ---- the set of column k, by the number of the next with a pitch

module _ (cells : List ℕ) (h n k : ℕ) (low : 1 ≤ k) (high : k < n) {next : ℕ} (e : next ≡ k + 1 + first heard (drop k (cut n h cells))) where
  abbrev score : List (List ℕ)
  score = cut n h cells

  set_here : get_or (sets score) (k - 1) 0 ≡ interval_set (get_or score (k - 1) []) (get_or score (next - 1) [])
  set_here =
      let b : k - 1 + 1 ≡ k = omega arith in
      let f : k + first heard (drop k score) ≡ next - 1 = omega (arith, e) in
      sets_at score (k - 1) (omega (arith, cut_length n h cells))
      ∙ ap (λ (i : ℕ). interval_set (get_or score (k - 1) []) (next_heard (drop i score))) b
      ∙ ap (interval_set (get_or score (k - 1) [])) (next_is score k ∙ ap (λ (i : ℕ). get_or score i []) f)

  -- none follows
  pub set_none_follows : n < next → highest_set ≡ get_or (sets score) (k - 1) 0
  set_none_follows l =
      let past : length score ≤ next - 1 = omega (arith, cut_length n h cells) in
      sym (set_here ∙ ap (interval_set (get_or score (k - 1) [])) (get_or-eq_default score [] past) ∙ set_alone (get_or score (k - 1) []) [] refl)

  -- it is made of the cells of both
  pub set_follows : {own later : List ℕ} {r : ℕ} → own ≡ get_or score (k - 1) [] → later ≡ get_or score (next - 1) [] → r ≡ interval_set own later
      → r ≡ get_or (sets score) (k - 1) 0
  set_follows e f g = g ∙ ap₂ interval_set e f ∙ sym set_here

-- ---- one set made anew, or none

-- the test says that there is a set k
pub inside : (k n : ℕ) → (ltb 0 k && ltb k n) ≡ true → (1 ≤ k) × (k < n)
inside k n e = (ltb-true 0 k (both_left (ltb 0 k) (ltb k n) e), ltb-true k n (both_right (ltb 0 k) (ltb k n) e))

module _ (cells : List ℕ) (h n k : ℕ) (lent : List ℕ) where
  pub rewritten_one : {v : ℕ} → 0 < k → k < n → v ≡ get_or (sets (cut n h cells)) (k - 1) 0
      → set lent (k - 1) v ≡ rewritten (cut n h cells) (column_at k) lent
  rewritten_one l m e = ap (set lent (k - 1)) e ∙ rw (cut_length n h cells, lt-ltb 0 k l, lt-ltb k n m)

  -- there is no set of column 0, nor of the last
  pub rewritten_before : k ≤ 0 → lent ≡ rewritten (cut n h cells) (column_at k) lent
  rewritten_before l = rw (cut_length n h cells, le-ltb 0 k l)

  pub rewritten_last : 0 < k → n ≤ k → lent ≡ rewritten (cut n h cells) (column_at k) lent
  rewritten_last l m = rw (cut_length n h cells, lt-ltb 0 k l, le-ltb k n m)

-- ---- set by set

rewritten_length : (score : List (List ℕ)) (k : Column) (lent : List ℕ) → length (rewritten score k lent) ≡ length lent
rewritten_length score k lent = step (ltb 0 k.0 && ltb k.0 (length score))
  where
    step : (t : Bool) → length (cond t (set lent (k.0 - 1) (get_or (sets score) (k.0 - 1) 0)) lent) ≡ length lent
    step true = length-set lent (k.0 - 1) (get_or (sets score) (k.0 - 1) 0)
    step false = refl

pub rewritten_long : (score : List (List ℕ)) (k : Column) (lent : List ℕ) {once : List ℕ} {n : ℕ} → once ≡ rewritten score k lent → length lent + 1 ≡ n
    → length once + 1 ≡ n
rewritten_long score k lent e long = omega (arith, ap length e, rewritten_length score k lent, long)

module _ (score : List (List ℕ)) (lent : List ℕ) (long : length lent + 1 ≡ length score) where
  -- set i + 1 after set k was rewritten
  rewritten_at : (k : Column) (i : ℕ) → i < length lent
      → get_or (rewritten score k lent) i 0 ≡ cond (eqb (1 + i) k.0) (get_or (sets score) i 0) (get_or lent i 0)
  rewritten_at k i l = pick (eqb (1 + i) k.0) refl
    where
      other : (t : Bool) → (1 + i ≡ k.0 → ⊥) → t ≡ (ltb 0 k.0 && ltb k.0 (length score))
          → get_or (cond t (set lent (k.0 - 1) (get_or (sets score) (k.0 - 1) 0)) lent) i 0 ≡ get_or lent i 0
      other true n e =
          get_or-set_other lent (k.0 - 1) i (get_or (sets score) (k.0 - 1) 0) 0
          (λ f. n (omega (arith, f, (inside k.0 (length score) (sym e)).0)))
      other false n e = refl

      pick : (t : Bool) → eqb (1 + i) k.0 ≡ t → get_or (rewritten score k lent) i 0 ≡ cond t (get_or (sets score) i 0) (get_or lent i 0)
      pick true e =
          let q : k.0 ≡ 1 + i = sym (eqb-true (1 + i) k.0 e) in
          let at : k.0 - 1 ≡ i = omega arith in
          rw (lt-ltb 0 k.0 (omega arith), lt-ltb k.0 (length score) (omega arith), at) (get_or-set_same lent i (get_or (sets score) i 0) 0 l)
      pick false e = other _ (eqb-false (1 + i) k.0 e) refl

-- ---- the two of them

pub rewritten_both : (score : List (List ℕ)) (c : Column) (lent : List ℕ) → length lent + 1 ≡ length score
    → rewritten score (column_at (heard_before score c)) (rewritten score c lent) ≡ updated_sets score c lent
unfolding updated_sets
rewritten_both score c lent long = ext_get_or 0 (rewritten score b once) (map entry (count 1 (length lent))) same at
  where
    b : Column
    b = column_at (heard_before score c)

    once : List ℕ
    once = rewritten score c lent

    entry : ℕ → ℕ
    entry k = cond (rests_on score c k) (get_or (sets score) (k - 1) 0) (get_or lent (k - 1) 0)

    kept : length once ≡ length lent
    kept = rewritten_length score c lent

    same : length (rewritten score b once) ≡ length (map entry (count 1 (length lent)))
    same = rewritten_length score b once ∙ kept ∙ sym (count_map_length entry 1 (length lent))

    either : (s t : Bool) (x y : ℕ) → cond t x (cond s x y) ≡ cond (s || t) x y
    either true true x y = refl
    either true false x y = refl
    either false true x y = refl
    either false false x y = refl

    at : (i : ℕ) → i < length (rewritten score b once) → get_or (rewritten score b once) i 0 ≡ get_or (map entry (count 1 (length lent))) i 0
    at i l =
        let l' : i < length lent = omega (arith, rewritten_length score b once, kept) in
        let e : 1 + i - 1 ≡ i = omega arith in
        rewritten_at score once (omega (arith, kept)) b i (omega (arith, kept))
        ∙ ap (cond (eqb (1 + i) b.0) (get_or (sets score) i 0)) (rewritten_at score lent long c i l')
        ∙ either (eqb (1 + i) c.0) (eqb (1 + i) b.0) (get_or (sets score) i 0) (get_or lent i 0)
        ∙ sym (count_map_at entry 1 (length lent) i 0 l' ∙ rw e)

-- the same as the code goes: in n columns of cells, first the set of the changed column, then that of the one before
pub renewed_both : (cells : List ℕ) (h n : ℕ) (c : Column) (lent : List ℕ) {b : ℕ} {once twice : List ℕ} → n ≡ columns_in cells h → length lent + 1 ≡ n
    → once ≡ rewritten (cut n h cells) c lent → b ≡ heard_before (cut n h cells) c → twice ≡ rewritten (cut n h cells) (column_at b) once
    → twice ≡ updated_sets (score_of cells h) c lent
renewed_both cells h n c lent many long first near second =
    second
    ∙ ap₂ (λ (x : ℕ) (xs : List ℕ). rewritten (cut n h cells) (column_at x) xs) near first
    ∙ rewritten_both (cut n h cells) c lent (long ∙ sym (cut_length n h cells))
    ∙ ap (λ (m : ℕ). updated_sets (cut m h cells) c lent) many
