-- From the lines that were read to the meaning of the whole input. What was read stands for the theme line (`ThemeGot`), and
-- for all chord lines (`ScoreGot`) or a faulty one (`FaultGot`). Assumes nothing.
use mathlib.Core.Path.{◌≡◌, refl, sym, ap, ◌∙◌}
use mathlib.Core.List.{List}
use Prim.Native.Nat.{ℕ, zero, suc, ◌+◌, ◌≤◌}
use native.Mathlib.Omega.{arith}
use lib.ListN.{length, take, drop}
use Rattle.std.specs.Prelude.{Some, None, Ok, Err}
use Rattle.asking.specs.Limits.{most_notes}
use Rattle.score.specs.Limits.{most_tracks, most_columns}
use Rattle.score.specs.Score.{cut}
use Rattle.ways.specs.declared.way.AnyWay.{AnyWay}
use Rattle.reading.specs.declared.lines.ThemeLine.{ThemeLine}
use Rattle.reading.specs.declared.lines.ChordLines.{ChordLines}
use Rattle.reading.specs.declared.lines.FaultyAfter.{FaultyAfter}
use Rattle.words.specs.Words.{got}
use Rattle.reading.specs.Reading.{Theme, theme_line}
use Rattle.reading.specs.Request.{Chords, all, fault, chords, right, faulty, with_chords, with_theme, meaning}
use Rattle.reading.specs.Steps.{Themed, Scored, Stood}

-- ---- what was read

abbrev pub sung : AnyWay → (count : ℕ) (theme : List ℕ) → Theme
sung way count theme = record { way = way; notes = take count theme }

pub record ThemeGot (input theme : List ℕ) (way : AnyWay) (count here : ℕ) : Type 0 where
  pub is : theme_line input ≡ got (sung way count theme) (drop here input)
  pub within : here ≤ length input
  pub few : count ≤ most_notes

pub record ScoreGot (input : List ℕ) (here : ℕ) (cells : List ℕ) (tracks columns : ℕ) : Type 0 where
  pub is : chords most_columns 0 (drop here input) ≡ all (cut columns tracks cells)
  pub few : columns ≤ most_columns
  pub narrow : tracks ≤ most_tracks

pub record FaultGot (input : List ℕ) (here k : ℕ) : Type 0 where
  pub is : chords most_columns 0 (drop here input) ≡ fault k
  pub few : k ≤ most_columns

module _ {input theme : List ℕ} where
  pub theme_got : {line : ThemeLine} → Themed input (Some line) theme (theme_line input)
      → ThemeGot input theme line.way line.count line.next
  theme_got t = record { is = sym t.is; within = t.within; few = t.few }

  pub whole_bad : Themed input None theme (theme_line input) → meaning input ≡ faulty 1
  unfolding meaning
  whole_bad t = ap with_theme (sym t.is)

module _ {input : List ℕ} {here : ℕ} {cells : List ℕ} where
  pub score_got : {lines : ChordLines} → Scored (Ok lines) cells (chords most_columns 0 (drop here input))
      → ScoreGot input here cells lines.tracks lines.columns
  score_got s = record { is = sym s.is; few = s.few; narrow = s.narrow }

  pub fault_got : {after : FaultyAfter} → Scored (Err after) cells (chords most_columns 0 (drop here input))
      → FaultGot input here after.0
  fault_got s = record { is = sym s.is; few = s.few }

-- ---- what it means

module _ {input theme : List ℕ} {way : AnyWay} {count here : ℕ} (t : ThemeGot input theme way count here) where
  meaning_of : {q : Chords} → chords most_columns 0 (drop here input) ≡ q → meaning input ≡ with_chords (sung way count theme) q
  unfolding meaning
  meaning_of c = ap with_theme t.is ∙ ap (with_chords (sung way count theme)) c

  pub whole_fault : {k : ℕ} → FaultGot input here k → meaning input ≡ faulty (k + 2)
  whole_fault f = meaning_of f.is

  module _ {cells : List ℕ} {tracks columns : ℕ} (s : ScoreGot input here cells tracks columns) where
    pub whole_none : columns ≡ 0 → meaning input ≡ faulty 2
    whole_none z = meaning_of (s.is ∙ ap (λ (n : ℕ). all (cut n tracks cells)) z)

    pub whole_read : (columns ≡ 0 → ⊥) → Stood input way count tracks columns theme cells
    whole_read n = step columns refl
      where
        step : (k : ℕ) → columns ≡ k → Stood input way count tracks columns theme cells
        step zero e = absurd (n e)
        step (suc k) e =
            let m : meaning input ≡ right (record { theme = sung way count theme; columns = cut (suc k) tracks cells })
            = meaning_of (s.is ∙ ap (λ (n : ℕ). all (cut n tracks cells)) e) in
            record {
              is = m ∙ ap (λ (n : ℕ). right (record { theme = sung way count theme; columns = cut n tracks cells })) (sym e);
              notes_few = t.few;
              tracks_few = s.narrow;
              columns_some = omega arith;
              columns_few = s.few;
            }
