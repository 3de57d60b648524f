-- Why a pair is listed or not: `explanation`, the whole answer of the call. The reason is the first that is true, in this order:
-- the shift (`no_shift` of `ways`), the column (`fit_of`), the notes (`notes_say`). Beside it stands what the lent sets make of a
-- column that fits (`sifted_by`), which rests on no shift. Or a refusal, 1 to 7. Assumes nothing.
use Rattle.std.specs.Prelude.{◌≡◌, Bool, true, false, cond, not, ◌||◌, List, [], ◌∷◌, map, ◌++◌, ℕ, ◌+◌, ◌-◌, ◌≤◌, ltb, eqb, length, get_or, replicate, Result, Ok, Err}
use Rattle.theory.specs.Bits.{bit}
use Rattle.theory.specs.Lists.{over, count, first}
use Rattle.score.specs.declared.quantities.Pitch.{Pitch}
use Rattle.score.specs.declared.quantities.Column.{Column}
use Rattle.score.specs.declared.refusals.Refusal.{Refusal}
use Rattle.score.specs.Score.{column, score_of, heard, onward, note}
use Rattle.score.specs.Refusals.{Row, row6, row7, judge}
use Rattle.ways.specs.declared.way.Way.{Way}
use Rattle.ways.specs.declared.way.Way.TheVariants.{Exact, Octave}
use Rattle.ways.specs.declared.bookmark.Pair.{Pair}
use Rattle.ways.specs.Way.{code_of, holds}
use Rattle.ways.specs.Codes.{no_shift}
use Rattle.asking.specs.Limits.{most_notes}
use Rattle.asking.specs.Refusals.{request_rows}
use Rattle.filter.specs.Table.{theme_interval}
use Rattle.seeking.specs.Limits.{most_sought}
use Rattle.seeking.specs.Sought.{column_sought, numbers_on}
use Rattle.seeking.specs.Track.{lowest_track}
use Rattle.explaining.specs.declared.answer.Explanation.{Explanation}
use Rattle.explaining.specs.declared.answer.Reason.{Reason}
use Rattle.explaining.specs.declared.answer.Reason.TheVariants.{Listed, NoShift, NoColumn, TooFew, Empty, Outside, Absent}
use Rattle.explaining.specs.declared.answer.Sifted.{Sifted}
use Rattle.explaining.specs.declared.answer.Sifted.TheVariants.{Unasked, Kept, Dismissed}
use Rattle.explaining.specs.declared.fits.Fit.{Fit}
use Rattle.explaining.specs.declared.fits.Fit.TheVariants.{Zero, Short, NoPitch, Fits}

-- 64 places without a track
abbrev pub no_tracks : List ℕ
no_tracks = replicate most_sought 0

-- ---- the column

-- it is 0; from it on there are fewer columns with a pitch than notes, as from a column above n; it has no pitch; or it fits
abbrev pub fit_of : (score : List (List ℕ)) (theme : List ℕ) → Column → Fit
fit_of score theme j =
    cond (eqb j.0 0) Zero
    (cond (ltb (length (onward score j)) (length theme)) Short
    (cond (heard (column score j)) Fits NoPitch))

-- it passes all three: it is not 0, from it on there are as many columns with a pitch as notes, and it has one itself
pub record Fitting (score : List (List ℕ)) (theme : List ℕ) (j : Column) : Type 0 where
  pub from_first : 1 ≤ j.0
  pub to_last : length theme ≤ length (onward score j)
  pub with_pitch : heard (column score j) ≡ true

-- ---- the notes, by their numbers from 1

-- note p moved by the code's shift is no number 0 to 127; octave never asks
abbrev pub note_outside : Way → (code : ℕ) → Pitch → Bool
note_outside Exact code p = ltb (p.0 + code) 127 || ltb 254 (p.0 + code)
note_outside Octave code p = false

-- why note p, of number i, is not held
abbrev pub failed : Way → (code : ℕ) → Pitch → (i : ℕ) → Reason
failed way code p i = cond (note_outside way code p) (Outside i) (Absent i)

-- `at` has the column of each note
module _ (way : Way) (code : ℕ) (theme : List ℕ) (at : ℕ → List ℕ) where
  -- the column of note i does not hold it
  abbrev pub fails : ℕ → Bool
  fails i = not (holds way code (note theme i) (at i))

  -- how many notes come before the first that fails
  abbrev pub held : ℕ
  held = first fails (count 1 (length theme))

  abbrev pub notes_say : Reason
  notes_say = cond (ltb held (length theme)) (failed way code (note theme (held + 1)) (held + 1)) Listed

  -- where none fails, the lowest track that holds each note, in 64 places from the front
  abbrev pub tracks_of : List ℕ
  tracks_of = over no_tracks (map (λ i. lowest_track way code (note theme i) (at i)) (count 1 (length theme)))

  abbrev pub notes_tracks : List ℕ
  notes_tracks = cond (ltb held (length theme)) no_tracks tracks_of

-- ---- the intervals, by their numbers from 1: interval i leads from note i to the next

-- `numbers` has the numbers of the columns
module _ (theme sets numbers : List ℕ) where
  -- the set of the column of note i does not have the interval: its bit is 1
  abbrev pub lacks : ℕ → Bool
  lacks i = eqb (bit (get_or sets (get_or numbers (i - 1) 0 - 1) 0) (theme_interval theme (i - 1)).0) 1

  -- how many intervals come before the first that is lacking
  abbrev pub had : ℕ
  had = first lacks (count 1 (length theme - 1))

  abbrev pub sifted_by : Sifted
  sifted_by = cond (ltb had (length theme - 1)) (Dismissed (record { number = had + 1; size = theme_interval theme had })) Kept

-- ---- the answer

-- a reason alone
abbrev pub bare : Reason → Explanation
bare reason = record { reason = reason; tracks = no_tracks; sifted = Unasked }

module _ (way : Way) (score : List (List ℕ)) (theme : List ℕ) (pair : Pair) (sets : List ℕ) where
  -- the column of note i
  abbrev pub column_of : ℕ → List ℕ
  column_of i = column_sought score pair.column i

  abbrev code : ℕ
  code = code_of way pair.shift

  abbrev pub reason_at : Fit → Reason
  reason_at Zero = NoColumn
  reason_at Short = TooFew
  reason_at NoPitch = Empty
  reason_at Fits = notes_say way code theme column_of

  abbrev pub tracks_at : Fit → List ℕ
  tracks_at Zero = no_tracks
  tracks_at Short = no_tracks
  tracks_at NoPitch = no_tracks
  tracks_at Fits = notes_tracks way code theme column_of

  -- what the sets make of the column, whatever the shift
  abbrev pub sifted_at : Fit → Sifted
  sifted_at Zero = Unasked
  sifted_at Short = Unasked
  sifted_at NoPitch = Unasked
  sifted_at Fits = sifted_by theme sets (numbers_on score pair.column)

  -- the shift comes before the column, and the column before the notes
  abbrev pub explained : Explanation
  explained =
      let fit = fit_of score theme pair.column in
      record {
        reason = cond (no_shift way pair.shift) NoShift (reason_at fit);
        tracks = cond (no_shift way pair.shift) no_tracks (tracks_at fit);
        sifted = sifted_at fit;
      }

-- 1 to 7, in this order
abbrev pub explain_rows : (cells : List ℕ) (h : ℕ) (theme sets : List ℕ) → List Row
explain_rows cells h theme sets = request_rows most_notes cells h theme ++ row6 cells h sets ∷ row7 sets ∷ []

unfoldable pub explanation : (cells : List ℕ) (h : ℕ) (theme : List ℕ) → Way → Pair → (sets : List ℕ) → Result Explanation Refusal
explanation cells h theme way pair sets =
    judge (explain_rows cells h theme sets) Err (Ok (explained way (score_of cells h) theme pair sets))
