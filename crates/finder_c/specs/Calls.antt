-- What each exported call leaves: its result, and every lent buffer. All is said by the definitions of the crates that answer, by
-- `Numbers` and by `Reasons`; there is one answer. Where there is no call, everything is as it was.
-- Assumes nothing.
use Rattle.std.specs.Prelude.{◌≡◌, Bool, cond, List, ℕ, ℤ, pos, length, Result, Ok, Err, true, false}
use Rattle.score.specs.Score.{column_at, score_of}
use Rattle.score.specs.Refusals.{judge}
use Rattle.summing.specs.declared.summary.Summary.{Summary}
use Rattle.preparing.specs.Preparing.{prepared}
use Rattle.updating.specs.Updating.{renewed}
use Rattle.ways.specs.declared.bookmark.Bookmark.{Bookmark}
use Rattle.ways.specs.declared.bookmark.Pair.{Pair}
use Rattle.filter.specs.Limits.{word_bits}
use Rattle.filter.specs.Table.{theme_table}
use Rattle.paging.specs.Lent.{Lent}
use Rattle.paging.specs.Page.{Leaf}
use Rattle.search.specs.Page.{plain_page, quick_page, quick_table}
use Rattle.occurring.specs.Occurring.{occurs_rows, quick_list, by_list}
use Rattle.explaining.specs.declared.answer.Explanation.{Explanation}
use Rattle.explaining.specs.Explaining.{explanation}
use Rattle.routing.specs.Routing.{Routes}
use Rattle.finder_c.specs.Limits.{octave, written, answer_numbers, one_number, explain_numbers, not_called}
use Rattle.finder_c.specs.Singles.{of_summary, of_occurrence, of_routed}
use Rattle.finder_c.specs.Numbers.{way_of, any_way_of, no_answer, no_call, single_number, single_numbers, page_number, page_numbers}
use Rattle.finder_c.specs.Reasons.{explanation_number, explanation_numbers}
use Rattle.score.specs.declared.refusals.Refusal.{Refusal}

-- a call's result, and what it leaves in the lent buffers, of whatever kind they are, and in the lent answer
pub record CLeft (Buffers : Type 0) : Type 0 where
  pub result : ℤ
  pub buffers : Buffers
  pub answer : List ℤ

-- what a call promises: this result, these buffers, and this answer; where there is no call, 255, and nothing is written
pub record CLeaves {Buffers : Type 0} (none : Bool) (buffers : Buffers) (answer : List ℤ) (left : CLeft Buffers)
    (result : ℤ) (after : Buffers) (answer' : List ℤ) : Type 0 where
  pub results : result ≡ cond none (pos not_called) left.result
  pub writes : after ≡ cond none buffers left.buffers
  pub writes_answer : answer' ≡ cond none answer left.answer

-- ---- calls that say one number; each is lent one buffer beside the answer, the sets or the table

-- the number or the refusal, told, and that buffer after the call
abbrev pub single_left : Result ℕ Refusal → (after : List ℕ) (answer : List ℤ) → CLeft (List ℕ)
single_left s after answer = record { result = single_number s; buffers = after; answer = single_numbers s answer }

pub record CPrepares (cells : List ℕ) (h : ℕ) (sets : List ℕ) (answer : List ℤ)
    (result : ℤ) (sets' : List ℕ) (answer' : List ℤ) : Type 0 where
  pub leaves : CLeaves (no_answer one_number (length answer)) sets answer
      (single_left (of_summary (prepared cells h sets).answer) (prepared cells h sets).sets answer)
      result sets' answer'

pub record CUpdates (cells : List ℕ) (h column : ℕ) (sets : List ℕ) (answer : List ℤ)
    (result : ℤ) (sets' : List ℕ) (answer' : List ℤ) : Type 0 where
  pub leaves : CLeaves (no_answer one_number (length answer)) sets answer
      (single_left (of_summary (renewed cells h (column_at column) sets).answer)
      (renewed cells h (column_at column) sets).sets answer)
      result sets' answer'

abbrev pub summary_at : ℕ → Summary
summary_at summary = record { 0 = summary }

-- what the question says, and the table that it leaves
abbrev pub occurrence : (cells : List ℕ) (h : ℕ) (theme : List ℕ) (way : ℕ) (sets : List ℕ) (summary : ℕ) (table : List ℕ)
    → Result Bool Refusal
occurrence cells h theme way sets summary table =
    judge (occurs_rows cells h theme sets (summary_at summary) table) Err
    (by_list (quick_list (way_of way) (score_of cells h) theme sets))

abbrev pub table_left : (cells : List ℕ) (h : ℕ) (theme sets : List ℕ) (summary : ℕ) (table : List ℕ) → List ℕ
table_left cells h theme sets summary table =
    judge (occurs_rows cells h theme sets (summary_at summary) table) (λ r. table) (theme_table word_bits theme)

pub record COccurs (cells : List ℕ) (h : ℕ) (theme : List ℕ) (way : ℕ) (sets : List ℕ) (summary : ℕ) (table : List ℕ)
    (answer : List ℤ) (result : ℤ) (table' : List ℕ) (answer' : List ℤ) : Type 0 where
  pub leaves : CLeaves (no_call octave way one_number (length answer)) table answer
      (single_left (of_occurrence (occurrence cells h theme way sets summary table))
      (table_left cells h theme sets summary table) answer)
      result table' answer'

-- ---- page calls

abbrev pub bookmark : (column : ℕ) (shift : ℤ) → Bookmark
bookmark column shift = record { column = column_at column; shift = shift }

-- the page in numbers, and the buffers of pairs after the call
abbrev pub leaf_left : Leaf → (answer : List ℤ) → CLeft Lent
leaf_left leaf answer =
    record { result = page_number leaf.answer; buffers = leaf.buffers; answer = page_numbers leaf.answer answer }

pub record CPlainPages (cells : List ℕ) (h : ℕ) (theme : List ℕ) (way column : ℕ) (shift : ℤ) (buffers : Lent)
    (answer : List ℤ) (result : ℤ) (after : Lent) (answer' : List ℤ) : Type 0 where
  pub leaves : CLeaves (no_call written way answer_numbers (length answer)) buffers answer
      (leaf_left (plain_page cells h theme (any_way_of way) (bookmark column shift) buffers) answer) result after answer'

-- a quick call leaves a table, too
pub record CQuickPages (cells : List ℕ) (h : ℕ) (theme : List ℕ) (way column : ℕ) (shift : ℤ) (sets table : List ℕ)
    (buffers : Lent) (answer : List ℤ) (result : ℤ) (table' : List ℕ) (after : Lent) (answer' : List ℤ) : Type 0 where
  pub leaves : CLeaves (no_call octave way answer_numbers (length answer)) buffers answer
      (leaf_left (quick_page cells h theme (way_of way) (bookmark column shift) sets table buffers) answer) result after answer'
  pub fills_table : table' ≡ cond (no_call octave way answer_numbers (length answer)) table
      (quick_table cells h theme (way_of way) (bookmark column shift) sets table buffers)

-- ---- the explanation; no buffer is lent but the answer

abbrev pub pair_told : (column : ℕ) (shift : ℤ) → Pair
pair_told column shift = record { column = column_at column; shift = shift }

abbrev pub explanation_left : Result Explanation Refusal → (answer : List ℤ) → CLeft (Unit {0})
explanation_left e answer = record { result = explanation_number e; buffers = tt {0}; answer = explanation_numbers e answer }

pub record CExplains (cells : List ℕ) (h : ℕ) (theme : List ℕ) (way column : ℕ) (shift : ℤ) (sets : List ℕ) (answer : List ℤ)
    (result : ℤ) (answer' : List ℤ) : Type 0 where
  pub leaves : CLeaves (no_call octave way explain_numbers (length answer)) (tt {0}) answer
      (explanation_left (explanation cells h theme (way_of way) (pair_told column shift) sets) answer)
      result (tt {0}) answer'

-- ---- the route, a call that says one number: what the router says, and the lent places after it, are what it promises

pub record CRoutes (cells : List ℕ) (h : ℕ) (theme : List ℕ) (way column : ℕ) (shift : ℤ) (places : List ℕ) (answer : List ℤ)
    (result : ℤ) (places' : List ℕ) (answer' : List ℤ) : Type 0 where
  pub said : Result ℕ Refusal
  pub after : List ℕ
  pub routes : Routes cells h theme (any_way_of way) (pair_told column shift) places said after
  pub leaves : CLeaves (no_call written way one_number (length answer)) places answer (single_left (of_routed said) after answer)
      result places' answer'
