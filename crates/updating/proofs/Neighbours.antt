-- The nearest columns with a pitch: the next from a column on (`next_is`), and the last before one (`last_here`, `last_over`),
-- each with the loop that looks for it (`After`, `Before`). The idea: one column more at an end of a list of columns. Assumes
-- nothing.
use mathlib.Core.Path.{◌≡◌, refl, sym, ap, ap₂, ◌∙◌}
use mathlib.Core.Bool.{Bool, true, false, cond, not, true≢false}
use mathlib.Core.List.{List, [], ◌∷◌, ◌++◌, append-nil}
use Prim.Native.Nat.{ℕ, suc, ◌+◌, ◌-◌, ◌*◌, ◌≤◌, ◌<◌}
use native.Mathlib.Nat.{add-zero, add-mul, one-mul, mul-le-mul_right}
use native.Mathlib.Omega.{arith}
use lib.ListN.{length, get_or, take, drop, drop_of_length-le}
use lib.Seq.{take-suc, drop-cons, get_or-drop, length-take-le}
use Rattle.theory.specs.Lists.{some, first, last}
use Rattle.theory.proofs.Hits.{hits_first, last_more}
use Rattle.score.specs.Score.{column_at, cut, heard, heard_of, heard_from}
use Rattle.score.specs.Sets.{next_heard}
use Rattle.score.proofs.Columns.{cut_length, cut_at}
use Rattle.updating.specs.Updating.{heard_before}

-- ---- the next column with a pitch

-- the first column with a pitch from the k-th on
pub next_is : (score : List (List ℕ)) (k : ℕ) → next_heard (drop k score) ≡ get_or score (k + first heard (drop k score)) []
next_is score k = hits_first heard (drop k score) [] ∙ get_or-drop k score (first heard (drop k score)) []

-- one column stands before others, and has a pitch or none
pub next_front : (front behind : List (List ℕ)) → some heard front ≡ true → next_heard (front ++ behind) ≡ next_heard front
next_front [] behind e = absurd (true≢false (sym e))
next_front (c ∷ front) behind e = step (heard c) e (next_front front behind)
  where
    step : (t : Bool) → cond t true (some heard front) ≡ true → (some heard front ≡ true → next_heard (front ++ behind) ≡ next_heard front)
        → get_or (cond t (c ∷ heard_of (front ++ behind)) (heard_of (front ++ behind))) 0 [] ≡ get_or (cond t (c ∷ heard_of front) (heard_of front)) 0 []
    step true e ih = refl
    step false e ih = ih e

-- ---- the numbers of columns with a pitch

pub numbers_append : (j : ℕ) (front behind : List (List ℕ)) → heard_from j (front ++ behind) ≡ heard_from j front ++ heard_from (j + length front) behind
numbers_append j [] behind = ap (λ (n : ℕ). heard_from n behind) (sym (add-zero j))
numbers_append j (c ∷ front) behind =
    let e : suc j + length front ≡ j + suc (length front) = omega arith in
    step (heard c) (numbers_append (suc j) front behind ∙ ap (λ (n : ℕ). heard_from (suc j) front ++ heard_from n behind) e)
  where
    step : (t : Bool) → heard_from (suc j) (front ++ behind) ≡ heard_from (suc j) front ++ heard_from (j + suc (length front)) behind
        → cond t (j ∷ heard_from (suc j) (front ++ behind)) (heard_from (suc j) (front ++ behind))
        ≡ cond t (j ∷ heard_from (suc j) front) (heard_from (suc j) front) ++ heard_from (j + suc (length front)) behind
    step true ih = ap (λ (l : List ℕ). j ∷ l) ih
    step false ih = ih

pub numbers_none : (j : ℕ) (columns : List (List ℕ)) → some heard columns ≡ false → heard_from j columns ≡ []
numbers_none j [] e = refl
numbers_none j (c ∷ columns) e = step (heard c) e (numbers_none (suc j) columns)
  where
    step : (t : Bool) → cond t true (some heard columns) ≡ false → (some heard columns ≡ false → heard_from (suc j) columns ≡ [])
        → cond t (j ∷ heard_from (suc j) columns) (heard_from (suc j) columns) ≡ []
    step true e ih = absurd (true≢false e)
    step false e ih = ih e

-- ---- the last of the first k columns that has a pitch, by its number

abbrev last_heard : (score : List (List ℕ)) (k : ℕ) → ℕ
last_heard score k = last 0 (heard_from 1 (take k score))

-- the numbers of one column more
numbers_more : (score : List (List ℕ)) (k : ℕ) → k < length score
    → heard_from 1 (take (suc k) score) ≡ heard_from 1 (take k score) ++ heard_from (suc k) (get_or score k [] ∷ [])
numbers_more score k l =
    let long : 1 + length (take k score) ≡ suc k = omega (arith, length-take-le k score (omega arith)) in
    ap (heard_from 1) (take-suc score k [] l)
    ∙ numbers_append 1 (take k score) (get_or score k [] ∷ [])
    ∙ ap (λ (n : ℕ). heard_from 1 (take k score) ++ heard_from n (get_or score k [] ∷ [])) long

pub last_here : (score : List (List ℕ)) (k : ℕ) → k < length score → heard (get_or score k []) ≡ true → last_heard score (suc k) ≡ suc k
last_here score k l e = ap (last 0) (numbers_more score k l) ∙ rw e (last_more 0 (heard_from 1 (take k score)) (suc k))

pub last_over : (score : List (List ℕ)) (k : ℕ) → k < length score → heard (get_or score k []) ≡ false → last_heard score (suc k) ≡ last_heard score k
last_over score k l e = ap (last 0) (numbers_more score k l) ∙ rw e (ap (last 0) (append-nil (heard_from 1 (take k score))))

-- ---- how the two are looked for, in n columns of cells

-- what a test for emptiness says
tells : (b : Bool) {r : Bool} → r ≡ not b → not r ≡ b
tells true e = ap not e
tells false e = ap not e

-- where the h cells of column k, from 1, begin and end
pub column_base : (h k : ℕ) → 1 ≤ k → (k * h - h ≡ (k - 1) * h) × (k * h ≡ k * h - h + h)
column_base h k l =
    let e : k - 1 + 1 ≡ k = omega arith in
    let m : k * h ≡ (k - 1) * h + h = omega (arith, ap (λ (x : ℕ). x * h) e, add-mul (k - 1) 1 h, one-mul h) in
    (omega (arith, m), omega (arith, m))

module _ (cells : List ℕ) (h n : ℕ) where
  abbrev score : List (List ℕ)
  score = cut n h cells

  -- the cells of column k, from 1, as they are lent on
  pub column_cells : (k : ℕ) → 1 ≤ k → k ≤ n → take (k * h - (k * h - h)) (drop (k * h - h) cells) ≡ get_or score (k - 1) []
  column_cells k low high =
      let (base, end) = column_base h k low in
      let long : k * h - (k * h - h) ≡ h = omega (arith, end) in
      ap₂ (λ (a b : ℕ). take a (drop b cells)) long base ∙ sym (cut_at n h cells (k - 1) (omega arith))

  -- and they are there
  pub column_fits : n * h ≤ length cells → (k : ℕ) → k ≤ n → k * h ≤ length cells
  column_fits room k l = omega (arith, room, mul-le-mul_right h l)

  -- behind column k, the columns before column `at` have no pitch
  pub record After (k at : ℕ) : Type 0 where
    pub from_first : 1 ≤ at
    pub within : at ≤ n + 1
    pub left : at + first heard (drop (at - 1) score) ≡ k + 1 + first heard (drop k score)

  pub after_start : (k : ℕ) → k ≤ n → After k (k + 1)
  after_start k l = let e : k + 1 - 1 ≡ k = omega arith in record { from_first = omega arith; within = omega arith; left = rw e }

  module _ {k at : ℕ} (f : After k at) (l : at ≤ n) where
    split : drop (at - 1) score ≡ get_or score (at - 1) [] ∷ drop (suc (at - 1)) score
    split = drop-cons score (at - 1) [] (omega (arith, cut_length n h cells, f.from_first))

    pub after_more : {r : Bool} → r ≡ not (heard (get_or score (at - 1) [])) → not r ≡ false → After k (at + 1)
    after_more t z =
        let e : heard (get_or score (at - 1) []) ≡ false = sym (tells (heard (get_or score (at - 1) [])) t) ∙ z in
        let next : at + 1 - 1 ≡ suc (at - 1) = omega (arith, f.from_first) in
        record { from_first = omega arith; within = omega arith; left = rw next (omega (arith, (rw (split, e) at f.left))) }

    pub after_found : {r : Bool} → r ≡ not (heard (get_or score (at - 1) [])) → not r ≡ true → at ≡ k + 1 + first heard (drop k score)
    after_found t z =
        let e : heard (get_or score (at - 1) []) ≡ true = sym (tells (heard (get_or score (at - 1) [])) t) ∙ z in
        omega (arith, (rw (split, e) at f.left))

  pub after_end : {k at : ℕ} → After k at → n < at → at ≡ k + 1 + first heard (drop k score)
  after_end {k} {at} f l =
      let past : length score ≤ at - 1 = omega (arith, cut_length n h cells) in
      omega (arith, (rw (drop_of_length-le score past) at f.left))

  -- before column c, the columns behind the k-th have no pitch
  pub record Before (c k : ℕ) : Type 0 where
    pub within : k < c
    pub left : last_heard score k ≡ heard_before score (column_at c)

  pub before_start : (c : ℕ) → 1 ≤ c → Before c (c - 1)
  before_start c l = record { within = omega arith; left = refl }

  module _ {c k : ℕ} (f : Before c k) (few : c ≤ n) (l : 0 < k) where
    more : k ≡ suc (k - 1)
    more = omega arith

    there : k - 1 < length score
    there = omega (arith, cut_length n h cells, f.within)

    pub before_more : {r : Bool} → r ≡ not (heard (get_or score (k - 1) [])) → not r ≡ false → Before c (k - 1)
    before_more t z =
        let e : heard (get_or score (k - 1) []) ≡ false = sym (tells (heard (get_or score (k - 1) [])) t) ∙ z in
        record { within = omega (arith, f.within); left = sym (last_over score (k - 1) there e) ∙ ap (last_heard score) (sym more) ∙ f.left }

    pub before_found : {r : Bool} → r ≡ not (heard (get_or score (k - 1) [])) → not r ≡ true → k ≡ heard_before score (column_at c)
    before_found t z =
        let e : heard (get_or score (k - 1) []) ≡ true = sym (tells (heard (get_or score (k - 1) [])) t) ∙ z in
        more ∙ sym (last_here score (k - 1) there e) ∙ ap (last_heard score) (sym more) ∙ f.left

  pub before_end : {c k : ℕ} → Before c k → k ≤ 0 → 0 ≡ heard_before score (column_at c)
  before_end {c} {k} f l = let e : k ≡ 0 = omega arith in sym (ap (last_heard score) e) ∙ f.left
