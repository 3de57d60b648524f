-- Preparation: the whole answer, and what the lent sets hold afterwards. Refusals 1, 2, 3, 6, in this order; an accepted
-- preparation fills all n - 1 sets and gives their summary, a refused one writes nothing. Assumes nothing.
use Rattle.std.specs.Prelude.{◌≡◌, List, [], ◌∷◌, ℕ, Result, Ok, Err}
use Rattle.score.specs.Score.{score_of}
use Rattle.score.specs.Sets.{sets}
use Rattle.score.specs.Refusals.{Row, judge, row1, row2, row3, row6}
use Rattle.summing.specs.Summary.{summary_of}
use Rattle.score.specs.declared.refusals.Refusal.{Refusal}
use Rattle.summing.specs.declared.summary.Summary.{Summary}

-- the answer, and the lent sets after the call
pub record Filled : Type 0 where
  pub answer : Result Summary Refusal
  pub sets : List ℕ

-- 1, 2, 3, 6, in this order
abbrev pub prepare_rows : (cells : List ℕ) (h : ℕ) (lent : List ℕ) → List Row
prepare_rows cells h lent = row1 h ∷ row2 cells h ∷ row3 cells ∷ row6 cells h lent ∷ []

abbrev pub prepared : (cells : List ℕ) (h : ℕ) (lent : List ℕ) → Filled
prepared cells h lent =
    judge (prepare_rows cells h lent)
    (λ r. record { answer = Err r; sets = lent })
    (record { answer = Ok (summary_of (sets (score_of cells h))); sets = sets (score_of cells h) })

-- what the call promises: this answer, and these sets
pub record Prepares (cells : List ℕ) (h : ℕ) (lent : List ℕ) (answer : Result Summary Refusal) (after : List ℕ) : Type 0 where
  pub answers : answer ≡ (prepared cells h lent).answer
  pub fills : after ≡ (prepared cells h lent).sets
