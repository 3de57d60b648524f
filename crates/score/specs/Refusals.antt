-- What is turned away: the table of refusals, row by row, with the rows of this crate (1 to 3, 6 and 7). A call names its
-- rows in order, and the first that applies is given, with its number and its place. Assumes nothing.
use Rattle.std.specs.Prelude.{◌≡◌, Bool, true, false, cond, not, ◌&&◌, ◌||◌, List, [], ◌∷◌, ℕ, ◌-◌, ◌%◌, ltb, eqb, length, Result, Ok, Err}
use Rattle.theory.specs.Lists.{some, first}
use Rattle.score.specs.declared.refusals.Rule.{Rule}
use Rattle.score.specs.declared.refusals.Rule.TheVariants as rule
use Rattle.score.specs.declared.refusals.Refusal.{Refusal}
use Rattle.score.specs.Limits.{most_tracks, most_columns, highest_pitch, rest_cell, highest_set}
use Rattle.score.specs.Score.{columns_in}

-- ---- the rules, by their numbers

abbrev pub number_of : Rule → ℕ
number_of rule.Tracks = 1
number_of rule.Columns = 2
number_of rule.Cell = 3
number_of rule.Notes = 4
number_of rule.Note = 5
number_of rule.SetsLength = 6
number_of rule.Set = 7
number_of rule.TableLength = 8
number_of rule.Room = 9
number_of rule.Bookmark = 10
number_of rule.Summary = 12
number_of rule.Listed = 13
number_of rule.RouteRoom = 14
number_of rule.Column = 19

-- ---- rows

-- a row: whether its condition holds, and what is then given
pub record Row : Type 0 where
  pub applies : Bool
  pub given : Refusal

abbrev pub row : (broken : Rule) → Bool → (place : ℕ) → Row
row broken applies place = record { applies = applies; given = record { rule = broken; place = place } }

-- the first row that applies; none: accepted
abbrev pub judge : {A : Type 0} → List Row → (Refusal → A) → A → A
judge [] refused accepted = accepted
judge (r ∷ rows) refused accepted = cond r.applies (refused r.given) (judge rows refused accepted)

-- what a check of these rows says
abbrev pub verdict : List Row → Result (Unit {0}) Refusal
verdict rows = judge rows Err (Ok tt)

-- 1: there are no tracks, or more than the most
abbrev pub row1 : (h : ℕ) → Row
row1 h = row rule.Tracks (eqb h 0 || ltb most_tracks h) 0

-- 2: the cells do not fill whole columns, or there is no column, or more than the most
abbrev pub row2 : (cells : List ℕ) (h : ℕ) → Row
row2 cells h = row rule.Columns (not (eqb (length cells % h) 0) || eqb (columns_in cells h) 0 || ltb most_columns (columns_in cells h)) 0

-- 3: some cell lies above every pitch and is no rest; the place is the first of them, counted from 0
abbrev pub bad_cell : ℕ → Bool
bad_cell cell = ltb highest_pitch cell && ltb cell rest_cell

abbrev pub row3 : (cells : List ℕ) → Row
row3 cells = row rule.Cell (some bad_cell cells) (first bad_cell cells)

-- 6: the buffer of sets has not one place less than there are columns
abbrev pub row6 : (cells : List ℕ) (h : ℕ) (sets : List ℕ) → Row
row6 cells h sets = row rule.SetsLength (not (eqb (length sets) (columns_in cells h - 1))) 0

-- 7: some lent set has a bit above the twelve; the place is the first of them, counted from 0
abbrev pub bad_set : ℕ → Bool
bad_set set = ltb highest_set set

abbrev pub row7 : (sets : List ℕ) → Row
row7 sets = row rule.Set (some bad_set sets) (first bad_set sets)

-- ---- when a refusal is given, over any rows

-- no number stands at two rows, so that a number tells its row. The order of the numbers is free
abbrev pub distinct : List Row → Bool
distinct [] = true
distinct (row ∷ rows) = cond (some (λ (r : Row). eqb (number_of r.given.rule) (number_of row.given.rule)) rows) false (distinct rows)

-- the refusal by rule k is given: no row before that of its number applies, and that one does
abbrev pub GivenBy : List Row → (k : Rule) → Type 0
GivenBy [] k = ⊥
GivenBy (row ∷ rows) k = cond (eqb (number_of row.given.rule) (number_of k)) (row.applies ≡ true) ((row.applies ≡ false) × GivenBy rows k)

-- the place that the row of rule k names
abbrev pub place_by : List Row → (k : Rule) → ℕ
place_by [] k = 0
place_by (row ∷ rows) k = cond (eqb (number_of row.given.rule) (number_of k)) row.given.place (place_by rows k)
