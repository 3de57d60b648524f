-- The text of a request (`text_of`), and the limits of one (`Right`). A right input is the text of a request within the limits,
-- and no other one is: `proofs/Outputs` and `proofs/Texts`. Assumes nothing.
use Rattle.std.specs.Prelude.{◌≡◌, ◌⊎◌, cond, List, [], ◌∷◌, ◌++◌, map, ℕ, ◌≤◌, eqb, length}
use Rattle.theory.specs.Lists.{join}
use Rattle.asking.specs.Limits.{most_notes}
use Rattle.score.specs.Limits.{most_tracks, most_columns, highest_pitch, rest_cell}
use Rattle.ways.specs.declared.way.Way.TheVariants.{Exact, Octave}
use Rattle.ways.specs.declared.way.AnyWay.{AnyWay}
use Rattle.ways.specs.declared.way.AnyWay.TheVariants.{Moved, Written}
use Rattle.reading.specs.Reading.{theme_word, exact_word, octave_word, written_word, chord_word, Theme}
use Rattle.reading.specs.Request.{Request}
use Rattle.telling.specs.Text.{decimal}

-- ---- the text of a request

abbrev pub cell_text : ℕ → List ℕ
cell_text value = cond (eqb value rest_cell) (45 ∷ []) (decimal value)

unfoldable pub fields_text : List ℕ → List ℕ
fields_text [] = 10 ∷ []
fields_text (value ∷ values) = 9 ∷ (cell_text value ++ fields_text values)

abbrev pub way_word : AnyWay → List ℕ
way_word (Moved Exact) = exact_word
way_word (Moved Octave) = octave_word
way_word Written = written_word

abbrev pub chord_text : List ℕ → List ℕ
chord_text column = chord_word ++ fields_text column

abbrev pub theme_text : Theme → List ℕ
theme_text theme = theme_word ++ (way_word theme.way ++ fields_text theme.notes)

unfoldable pub text_of : Request → List ℕ
text_of q = theme_text q.theme ++ join (map chord_text q.columns)

-- ---- the limits

abbrev pub Each : {A : Type 0} → (A → Type 0) → List A → Type 0
Each P [] = Unit {0}
Each P (x ∷ xs) = P x × Each P xs

-- a note is 0 to 127; a cell is that, or a rest
abbrev pub IsNote : ℕ → Type 0
IsNote value = value ≤ highest_pitch

abbrev pub IsCell : ℕ → Type 0
IsCell value = (value ≤ highest_pitch) ⊎ (value ≡ rest_cell)

-- a chord of h cells
pub record IsChord (h : ℕ) (column : List ℕ) : Type 0 where
  pub wide : length column ≡ h
  pub cells : Each IsCell column

-- a theme of 2 to 32 notes
pub record IsTheme (theme : Theme) : Type 0 where
  pub notes_some : 2 ≤ length theme.notes
  pub notes_few : length theme.notes ≤ most_notes
  pub notes : Each IsNote theme.notes

-- within the limits: such a theme, 1 to 16 tracks, 1 to 2,048 chords that all have them
pub record Right (q : Request) : Type 0 where
  pub theme : IsTheme q.theme
  pub tracks : ℕ
  pub tracks_some : 1 ≤ tracks
  pub tracks_few : tracks ≤ most_tracks
  pub columns_some : 1 ≤ length q.columns
  pub columns_few : length q.columns ≤ most_columns
  pub columns : Each (IsChord tracks) q.columns
