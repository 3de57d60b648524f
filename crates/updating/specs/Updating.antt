-- The update after one column of a score was changed: the whole answer, and what the lent sets hold afterwards. Refusals 1, 2,
-- 3, 6, 7 and 19, in this order; a refused update writes nothing. The definition that matters is `updated_sets`; `OneChanged`
-- says that two scores differ in one column only. Assumes nothing.
use Rattle.std.specs.Prelude.{◌≡◌, Bool, cond, ◌&&◌, ◌||◌, List, [], ◌∷◌, map, ℕ, ◌-◌, ◌≤◌, ltb, eqb, length, get_or, take, set, Result, Ok, Err}
use Rattle.theory.specs.Lists.{count, last}
use Rattle.score.specs.declared.refusals.Rule.TheVariants as rule
use Rattle.score.specs.declared.quantities.Column.{Column}
use Rattle.score.specs.Score.{column_at, column, columns_in, score_of, heard_from}
use Rattle.score.specs.Sets.{sets}
use Rattle.score.specs.Refusals.{Row, row, judge, row1, row2, row3, row6, row7}
use Rattle.summing.specs.Summary.{summary_of}
use Rattle.score.specs.declared.refusals.Refusal.{Refusal}
use Rattle.summing.specs.declared.summary.Summary.{Summary}

-- the number of the nearest column with a pitch before column c; 0 where there is none
abbrev pub heard_before : (score : List (List ℕ)) → Column → ℕ
heard_before score c = last 0 (heard_from 1 (take (c.0 - 1) score))

-- the meaning of set k rests on column c: it is the set of that column, or of the nearest column with a pitch before it
abbrev pub rests_on : (score : List (List ℕ)) → Column → (k : ℕ) → Bool
rests_on score c k = eqb k c.0 || eqb k (heard_before score c)

-- the sets after the update: set k, from 1, is the score's own where it rests on column c, and otherwise what it was
unfoldable pub updated_sets : (score : List (List ℕ)) → Column → (lent : List ℕ) → List ℕ
updated_sets score c lent =
    map (λ k. cond (rests_on score c k) (get_or (sets score) (k - 1) 0) (get_or lent (k - 1) 0)) (count 1 (length lent))

-- ---- what is turned away

-- 19: the changed column is 0, or above n
abbrev pub row19 : (n : ℕ) → Column → Row
row19 n c = row rule.Column (eqb c.0 0 || ltb n c.0) 0

-- 1, 2, 3, 6, 7, 19, in this order
abbrev pub update_rows : (cells : List ℕ) (h : ℕ) → Column → (lent : List ℕ) → List Row
update_rows cells h c lent = row1 h ∷ row2 cells h ∷ row3 cells ∷ row6 cells h lent ∷ row7 lent ∷ row19 (columns_in cells h) c ∷ []

-- ---- what the call promises

-- the answer, and the lent sets after the call
pub record Renewed : Type 0 where
  pub answer : Result Summary Refusal
  pub sets : List ℕ

abbrev pub renewed : (cells : List ℕ) (h : ℕ) → Column → (lent : List ℕ) → Renewed
renewed cells h c lent =
    let after = updated_sets (score_of cells h) c lent in
    judge (update_rows cells h c lent)
    (λ r. record { answer = Err r; sets = lent })
    (record { answer = Ok (summary_of after); sets = after })

pub record Updates (cells : List ℕ) (h : ℕ) (c : Column) (lent : List ℕ) (answer : Result Summary Refusal) (after : List ℕ) : Type 0 where
  pub answers : answer ≡ (renewed cells h c lent).answer
  pub writes : after ≡ (renewed cells h c lent).sets

-- ---- when the lent sets were right before

-- two scores have as many columns, and the same cells in each column but column c
pub record OneChanged (c : Column) (before after : List (List ℕ)) : Type 0 where
  pub long : length before ≡ length after
  pub others : (k : ℕ) → 1 ≤ k → (k ≡ c.0 → ⊥) → column before (column_at k) ≡ column after (column_at k)

-- ---- for the contract of an inner function

-- the sets with set k, if there is one, made anew
abbrev pub rewritten : (score : List (List ℕ)) → Column → (lent : List ℕ) → List ℕ
rewritten score k lent =
    cond (ltb 0 k.0 && ltb k.0 (length score)) (set lent (k.0 - 1) (get_or (sets score) (k.0 - 1) 0)) lent
