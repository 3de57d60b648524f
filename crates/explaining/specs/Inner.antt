-- What the inner functions of the explainer promise and ask for: all of them go by the numbers of the columns in which the notes
-- are sought (`sought` of `seeking`). Assumes nothing.
use Rattle.std.specs.Prelude.{cond, List, ℕ, ◌+◌, ◌-◌, ◌≤◌, ◌<◌, eqb, ℤ, length, get_or}
use Rattle.score.specs.Limits.{most_tracks, most_columns}
use Rattle.score.specs.declared.quantities.Column.{Column}
use Rattle.score.specs.Score.{column_at, column, columns_in}
use Rattle.ways.specs.declared.way.Way.{Way}
use Rattle.ways.specs.Way.{code_of}
use Rattle.ways.specs.Codes.{no_shift}
use Rattle.seeking.specs.Limits.{most_sought}
use Rattle.explaining.specs.declared.answer.Explanation.{Explanation}
use Rattle.explaining.specs.declared.answer.Reason.{Reason}
use Rattle.explaining.specs.declared.answer.Reason.TheVariants.{NoShift}
use Rattle.explaining.specs.declared.answer.Sifted.{Sifted}
use Rattle.explaining.specs.declared.fits.Fit.{Fit}
use Rattle.explaining.specs.declared.fits.Fit.TheVariants.{Zero, Short, NoPitch, Fits}
use Rattle.explaining.specs.Explaining.{no_tracks, notes_say, notes_tracks}

-- a column of number 0 is none
abbrev pub fit_by : (numbers : List ℕ) (m : ℕ) → Column → Fit
fit_by numbers m j =
    cond (eqb j.0 0) Zero
    (cond (eqb (get_or numbers (m - 1) 0) 0) Short
    (cond (eqb (get_or numbers 0 0) j.0) Fits NoPitch))

-- the column of note i, from 1
abbrev pub column_by : (score : List (List ℕ)) (numbers : List ℕ) → ℕ → List ℕ
column_by score numbers i = column score (column_at (get_or numbers (i - 1) 0))

-- each note has a column of the score
pub record ColumnsThere (cells : List ℕ) (h : ℕ) (theme numbers : List ℕ) : Type 0 where
  pub tracks_few : h ≤ most_tracks
  pub notes_few : length theme ≤ most_sought
  pub room : length theme ≤ length numbers
  pub from_first : (i : ℕ) → i < length theme → 1 ≤ get_or numbers i 0
  pub to_last : (i : ℕ) → i < length theme → get_or numbers i 0 ≤ columns_in cells h

-- each note but the last has a column with a set
pub record SetsThere (theme sets numbers : List ℕ) : Type 0 where
  pub notes_some : 1 ≤ length theme
  pub sets_few : length sets ≤ most_columns
  pub notes_few : length theme ≤ most_sought
  pub room : length theme ≤ length numbers
  pub from_first : (i : ℕ) → i + 1 < length theme → 1 ≤ get_or numbers i 0
  pub to_last : (i : ℕ) → i + 1 < length theme → get_or numbers i 0 ≤ length sets

-- the shift comes first
abbrev pub first_of : Way → ℤ → Reason → Reason
first_of way shift otherwise = cond (no_shift way shift) NoShift otherwise

-- by the notes
abbrev pub by_notes : Way → (code : ℕ) (score : List (List ℕ)) (theme numbers : List ℕ) → Sifted → Explanation
by_notes way code score theme numbers sifted =
    let at = column_by score numbers in
    record { reason = notes_say way code theme at; tracks = notes_tracks way code theme at; sifted = sifted }

-- at a column that fits
abbrev pub at_fit : Way → ℤ → (score : List (List ℕ)) (theme numbers : List ℕ) → Sifted → Explanation
at_fit way shift score theme numbers sifted =
    cond (no_shift way shift)
    (record { reason = NoShift; tracks = no_tracks; sifted = sifted })
    (by_notes way (code_of way shift) score theme numbers sifted)
