-- What the call promises, of every input and all that is lent: what is answered, and all that stands in both buffers afterwards
-- (`Takes`). Assumes nothing.
use Rattle.std.specs.Prelude.{◌≡◌, cond, ◌||◌, List, [], ℕ, ltb, length, get_or, Result, Ok, Err}
use Rattle.theory.specs.Lists.{over, join}
use Rattle.asking.specs.Limits.{most_notes}
use Rattle.score.specs.Limits.{most_cells}
use Rattle.reading.specs.declared.request.Reading.{Reading}
use Rattle.reading.specs.declared.request.ReadError.{ReadError}
use Rattle.reading.specs.declared.request.ReadError.TheVariants.{Bad, Short}
use Rattle.reading.specs.Request.{Meaning, right, faulty, meaning}

-- what a call answers, and both lent buffers after it
pub record Take : Type 0 where
  pub answer : Result Reading ReadError
  pub theme : List ℕ
  pub cells : List ℕ

-- how many tracks columns have: the cells of the first
abbrev pub tracks_of : List (List ℕ) → ℕ
tracks_of columns = length (get_or columns 0 [])

-- the notes of a right input stand at the front of the one buffer and its cells, column after column, at the front of the other;
-- places behind them keep their contents. Of a faulty input nothing is written
abbrev pub taken_as : Meaning → (theme cells : List ℕ) → Take
taken_as (right q) theme cells =
    record {
      answer =
          Ok (record {
            way = q.theme.way;
            notes = length q.theme.notes;
            tracks = tracks_of q.columns;
            columns = length q.columns;
          });
      theme = over theme q.theme.notes;
      cells = over cells (join q.columns);
    }
taken_as (faulty line) theme cells = record { answer = Err (Bad line); theme = theme; cells = cells }

-- buffers of which one is too short for some inputs are not written
unfoldable pub taken : (input theme cells : List ℕ) → Take
taken input theme cells =
    cond (ltb (length theme) most_notes || ltb (length cells) most_cells) (record { answer = Err Short; theme = theme; cells = cells }) (taken_as (meaning input) theme cells)

pub record Takes (input theme cells : List ℕ) (answer : Result Reading ReadError) (theme' cells' : List ℕ) : Type 0 where
  pub answers : answer ≡ (taken input theme cells).answer
  pub notes : theme' ≡ (taken input theme cells).theme
  pub columns : cells' ≡ (taken input theme cells).cells
