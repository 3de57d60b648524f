-- What an input means: a request, or the number of its first faulty line (`meaning`). `Lines` says the same line by line, and
-- `meaning_fault` and `meaning_request` of `proofs/FirstFaults` that it is the same. That a right input is the text of a request
-- within the limits, and no other one is, is a theorem of the crate `listing`. Assumes nothing.
use Rattle.std.specs.Prelude.{cond, List, [], ◌∷◌, ℕ, zero, suc, ◌+◌, eqb, length}
use Rattle.score.specs.Limits.{most_columns}
use Rattle.words.specs.Words.{Read, got, bad}
use Rattle.reading.specs.Reading.{Theme, theme_line, chord_line}

-- a theme and a score, column after column
pub record Request : Type 0 where
  pub theme : Theme
  pub columns : List (List ℕ)

-- ---- reading

-- the columns of all chord lines; or how many right lines stand before the first faulty one
pub data Chords : Type 0 where
  all : List (List ℕ) → Chords
  fault : ℕ → Chords

abbrev pub above : List ℕ → Chords → Chords
above c (all columns) = all (c ∷ columns)
above c (fault k) = fault (suc k)

abbrev pub on_chord : Read (List ℕ) → (List ℕ → List ℕ → Chords) → Chords
on_chord (got c rest) f = f c rest
on_chord bad f = fault 0

-- to the end of the text, as many chords as are left at most; the first chord fixes h
unfoldable pub chords : (left h : ℕ) → List ℕ → Chords
chords zero h text = cond (eqb (length text) 0) (all []) (fault 0)
chords (suc left) h text = cond (eqb (length text) 0) (all []) (on_chord (chord_line h text) (λ c rest. above c (chords left (length c) rest)))

pub data Meaning : Type 0 where
  right : Request → Meaning
  faulty : (line : ℕ) → Meaning

-- the theme line is line 1. Where chord lines are missing altogether, the fault is in line 2
abbrev pub with_chords : Theme → Chords → Meaning
with_chords theme (all []) = faulty 2
with_chords theme (all (c ∷ columns)) = right (record { theme = theme; columns = c ∷ columns })
with_chords theme (fault k) = faulty (k + 2)

abbrev pub with_theme : Read Theme → Meaning
with_theme (got theme rest) = with_chords theme (chords most_columns 0 rest)
with_theme bad = faulty 1

unfoldable pub meaning : List ℕ → Meaning
meaning input = with_theme (theme_line input)
