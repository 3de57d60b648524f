-- What the inner functions promise: what is read at a place of the input, as what `Reading` reads of the text from there on;
-- and what a whole input leaves in the buffers. Assumes nothing.
use Rattle.std.specs.Prelude.{◌≡◌, List, ℕ, ◌≤◌, length, take, drop, Option, Some, None, Result, Ok, Err}
use Rattle.asking.specs.Limits.{most_notes}
use Rattle.score.specs.Limits.{most_tracks, most_columns}
use Rattle.reading.specs.declared.lines.Line.{Line}
use Rattle.reading.specs.declared.lines.ThemeLine.{ThemeLine}
use Rattle.reading.specs.declared.lines.ChordLines.{ChordLines}
use Rattle.reading.specs.declared.lines.FaultyAfter.{FaultyAfter}
use Rattle.reading.specs.declared.request.Reading.{Reading}
use Rattle.reading.specs.declared.request.ReadError.{ReadError}
use Rattle.reading.specs.declared.request.ReadError.TheVariants.{Bad, Short}
use Rattle.ways.specs.declared.way.AnyWay.{AnyWay}
use Rattle.score.specs.Score.{cut}
use Rattle.words.specs.Words.{Read, got, bad}
use Rattle.reading.specs.Reading.{Theme}
use Rattle.reading.specs.Request.{Chords, all, fault, right, faulty, meaning}

-- ---- what an answer stands for: the value, and what is left of the text

abbrev pub line_read : (text : List ℕ) (base : ℕ) (into : List ℕ) → Option Line → Read (List ℕ)
line_read text base into (Some line) = got (take line.count (drop base into)) (drop line.next text)
line_read text base into None = bad

abbrev pub line_next : Option Line → ℕ
line_next (Some line) = line.next
line_next None = 0

abbrev pub line_count : Option Line → ℕ
line_count (Some line) = line.count
line_count None = 0

-- the values of a line stand in the buffer from the base on, and what stood before them still does
pub record Filled (text : List ℕ) (limit base : ℕ) (into : List ℕ) (r : Option Line) (into' : List ℕ) (want : Read (List ℕ)) : Type 0 where
  pub is : line_read text base into' r ≡ want
  pub within : line_next r ≤ length text
  pub few : line_count r ≤ limit
  pub long : length into' ≡ length into
  pub before : take base into' ≡ take base into

abbrev pub theme_read : (text theme : List ℕ) → Option ThemeLine → Read Theme
theme_read text theme (Some line) = got (record { way = line.way; notes = take line.count theme }) (drop line.next text)
theme_read text theme None = bad

abbrev pub theme_next : Option ThemeLine → ℕ
theme_next (Some line) = line.next
theme_next None = 0

abbrev pub theme_count : Option ThemeLine → ℕ
theme_count (Some line) = line.count
theme_count None = 0

-- the notes of a theme line stand at the front of the buffer
pub record Themed (text : List ℕ) (r : Option ThemeLine) (theme : List ℕ) (want : Read Theme) : Type 0 where
  pub is : theme_read text theme r ≡ want
  pub within : theme_next r ≤ length text
  pub few : theme_count r ≤ most_notes

abbrev pub chords_read : (cells : List ℕ) → Result ChordLines FaultyAfter → Chords
chords_read cells (Ok lines) = all (cut lines.columns lines.tracks cells)
chords_read cells (Err after) = fault after.0

abbrev pub chords_tracks : Result ChordLines FaultyAfter → ℕ
chords_tracks (Ok lines) = lines.tracks
chords_tracks (Err after) = 0

abbrev pub chords_count : Result ChordLines FaultyAfter → ℕ
chords_count (Ok lines) = lines.columns
chords_count (Err after) = after.0

-- the columns of all chord lines stand in the buffer one after the other
pub record Scored (r : Result ChordLines FaultyAfter) (cells : List ℕ) (want : Chords) : Type 0 where
  pub is : chords_read cells r ≡ want
  pub few : chords_count r ≤ most_columns
  pub narrow : chords_tracks r ≤ most_tracks

-- a whole input was read: its notes and its columns stand at the front of the buffers
pub record Stood (input : List ℕ) (way : AnyWay) (notes tracks columns : ℕ) (theme cells : List ℕ) : Type 0 where
  pub is : meaning input ≡ right (record { theme = record { way = way; notes = take notes theme }; columns = cut columns tracks cells })
  pub notes_few : notes ≤ most_notes
  pub tracks_few : tracks ≤ most_tracks
  pub columns_some : 1 ≤ columns
  pub columns_few : columns ≤ most_columns

-- what an answer says: that, or which line is the first faulty one. That a buffer is too short is none
abbrev pub says : (input : List ℕ) → Result Reading ReadError → (theme cells : List ℕ) → Type 0
says input (Ok r) theme cells = Stood input r.way r.notes r.tracks r.columns theme cells
says input (Err (Bad line)) theme cells = meaning input ≡ faulty line
says input (Err Short) theme cells = ⊥

pub record Held (input : List ℕ) (r : Result Reading ReadError) (theme cells : List ℕ) : Type 0 where
  pub is : says input r theme cells
