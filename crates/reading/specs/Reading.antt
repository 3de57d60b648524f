-- Reading from the front of a text, on from words and cells: the fields of a line up to its line feed, a theme line, a chord
-- line. The definitions that matter are `theme_line` and `chord_line`. Assumes nothing.
use Rattle.std.specs.Prelude.{Bool, true, false, cond, ◌&&◌, ◌||◌, List, [], ◌∷◌, ℕ, zero, suc, ◌+◌, leb, eqb, length, drop}
use Rattle.asking.specs.Limits.{most_notes}
use Rattle.score.specs.Limits.{most_tracks}
use Rattle.ways.specs.declared.way.Way.TheVariants.{Exact, Octave}
use Rattle.ways.specs.declared.way.AnyWay.{AnyWay}
use Rattle.ways.specs.declared.way.AnyWay.TheVariants.{Moved, Written}
use Rattle.words.specs.Words.{Read, got, bad, next, front, begins, cell}

-- ---- words

-- `theme` with its tab, and the other words
abbrev pub theme_word : List ℕ
theme_word = 116 ∷ 104 ∷ 101 ∷ 109 ∷ 101 ∷ 9 ∷ []

abbrev pub exact_word : List ℕ
exact_word = 101 ∷ 120 ∷ 97 ∷ 99 ∷ 116 ∷ []

abbrev pub octave_word : List ℕ
octave_word = 111 ∷ 99 ∷ 116 ∷ 97 ∷ 118 ∷ 101 ∷ []

abbrev pub written_word : List ℕ
written_word = 119 ∷ 114 ∷ 105 ∷ 116 ∷ 116 ∷ 101 ∷ 110 ∷ []

abbrev pub chord_word : List ℕ
chord_word = 99 ∷ 104 ∷ 111 ∷ 114 ∷ 100 ∷ []

-- ---- lines

-- the values of the fields up to the line feed, one tab before each, as many as are left at most
unfoldable pub fields : (rests : Bool) (left : ℕ) → List ℕ → Read (List ℕ)
fields rests zero text = cond (eqb (front text) 10) (got [] (drop 1 text)) bad
fields rests (suc left) text =
    cond (eqb (front text) 10) (got [] (drop 1 text))
    (cond (eqb (front text) 9)
    (next (cell rests (drop 1 text)) (λ value rest. next (fields rests left rest) (λ values end. got (value ∷ values) end))) bad)

-- as many values as are allowed
abbrev pub counted : (allowed : ℕ → Bool) → Read (List ℕ) → Read (List ℕ)
counted allowed r = next r (λ values rest. cond (allowed (length values)) (got values rest) bad)

-- a chord: a cell or more, and 16 at most, which its reading sees to; as many as those before it have, which is h, or 0 where
-- it is the first
abbrev pub tracks_right : (h : ℕ) → ℕ → Bool
tracks_right h k = leb 1 k && (eqb h 0 || eqb k h)

unfoldable pub chord_line : (h : ℕ) → List ℕ → Read (List ℕ)
chord_line h text = cond (begins chord_word text) (counted (tracks_right h) (fields true most_tracks (drop 5 text))) bad

-- a theme: exact, octave or written, and 2 to 32 notes
pub record Theme : Type 0 where
  pub way : AnyWay
  pub notes : List ℕ

abbrev pub notes_of : AnyWay → List ℕ → Read Theme
notes_of way text = next (counted (leb 2) (fields false most_notes text)) (λ notes rest. got (record { way = way; notes = notes }) rest)

-- the notes behind a way's word, where that stands behind `theme` and its tab; otherwise what the other ways read
abbrev pub of_way : (word : List ℕ) → AnyWay → (text : List ℕ) → Read Theme → Read Theme
of_way word way text others = cond (begins word (drop 6 text)) (notes_of way (drop (6 + length word) text)) others

unfoldable pub theme_line : List ℕ → Read Theme
theme_line text =
    cond (begins theme_word text)
    (of_way exact_word (Moved Exact) text (of_way octave_word (Moved Octave) text (of_way written_word Written text bad)))
    bad
