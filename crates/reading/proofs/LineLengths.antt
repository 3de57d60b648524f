-- How many bytes reading passes over at most, and so how long a line is (`theme_short`, `chord_short`): with its line feed a
-- theme line has at most 142 bytes and a chord line 70. So one of more than 160 before it is faulty (`long_faulty`), and would
-- be if no rule said how long a line may be (`long_theme`, `long_chord`). Assumes nothing.
use mathlib.Core.Path.{subst}
use mathlib.Core.Bool.{Bool, true, false, cond, ◌&&◌}
use mathlib.Core.List.{List, [], ◌∷◌}
use Prim.Native.Nat.{ℕ, zero, suc, ◌+◌, ◌-◌, ◌*◌, ◌≤◌, ◌<◌}
use native.Mathlib.Omega.{arith}
use lib.Dec.{leb, eqb}
use lib.ListN.{length, drop, length-drop}
use Rattle.theory.proofs.Lists.{first_le}
use Rattle.asking.specs.Limits.{most_notes}
use Rattle.score.specs.Limits.{most_tracks, highest_pitch, rest_cell}
use Rattle.ways.specs.declared.way.Way.TheVariants.{Exact, Octave}
use Rattle.ways.specs.declared.way.AnyWay.{AnyWay}
use Rattle.ways.specs.declared.way.AnyWay.TheVariants.{Moved, Written}
use Rattle.words.specs.Words.{Read, got, bad, next, begins, is_digit, more_digits, number, cell}
use Rattle.reading.specs.Reading.{exact_word, octave_word, written_word, theme_word, chord_word, fields, counted, tracks_right}
use Rattle.reading.specs.Reading.{chord_line, Theme, notes_of, of_way, theme_line}
use Rattle.reading.specs.Lines.{line_feed, line_bytes, line_at, most_bytes, IsThemeLine, IsChordLine, FaultyLine}

-- what was read of the text has at most k bytes
data Within {A : Type 0} (k : ℕ) (text : List ℕ) : Read A → Type 0 where
  none : Within k text bad
  some : (a : A) (rest : List ℕ) → length text ≤ k + length rest → Within k text (got a rest)

module _ {A : Type 0} {text : List ℕ} where
  within_cond : {k : ℕ} {r s : Read A} (t : Bool) → Within k text r → Within k text s → Within k text (cond t r s)
  within_cond true p q = p
  within_cond false p q = q

  within_le : {j k : ℕ} {r : Read A} → j ≤ k → Within j text r → Within k text r
  within_le h none = none
  within_le h (some a rest p) = some a rest (omega arith)

  within_next : {B : Type 0} {j : ℕ} (k : ℕ) {r : Read B} (f : B → List ℕ → Read A) → Within j text r
      → ((b : B) (rest : List ℕ) → Within k rest (f b rest))
      → Within (j + k) text (next r f)
  within_next k f none g = none
  within_next {j = j} k f (some b rest p) g = step (g b rest)
    where
      step : {s : Read A} → Within k rest s → Within (j + k) text s
      step none = none
      step (some a end q) = some a end (omega arith)

-- behind the first j bytes
within_drop : {A : Type 0} (j : ℕ) {k : ℕ} (text : List ℕ) {r : Read A} → Within k (drop j text) r → Within (j + k) text r
within_drop j text none = none
within_drop j text (some a rest p) = some a rest (omega (arith, length-drop j text))

digits_within : (v : ℕ) (text : List ℕ) → Within 1 text (more_digits v text)
unfolding more_digits
digits_within v [] = some v [] (omega arith)
digits_within v (b ∷ text) =
    within_cond (is_digit b && leb (v * 10 + (b - 48)) highest_pitch) (some (v * 10 + (b - 48)) text (omega arith))
    (some v (b ∷ text) (omega arith))

number_within : (text : List ℕ) → Within 3 text (number text)
unfolding number
number_within [] = none
number_within (b ∷ text) =
    within_cond (is_digit b)
    (within_cond (eqb b 48) (some 0 text (omega arith))
    (within_drop 1 (b ∷ text) (within_next 1 more_digits (digits_within (b - 48) text) digits_within)))
    none

cell_within : (rests : Bool) (text : List ℕ) → Within 3 text (cell rests text)
unfolding cell
cell_within false text = number_within text
cell_within true [] = number_within []
cell_within true (b ∷ text) = within_cond (eqb b 45) (some rest_cell text (omega arith)) (number_within (b ∷ text))

fields_within : (rests : Bool) (left : ℕ) (text : List ℕ) → Within (1 + 4 * left) text (fields rests left text)
unfolding fields
fields_within rests zero [] = none
fields_within rests (suc left) [] = none
fields_within rests zero (b ∷ text) = within_cond (eqb b line_feed) (some [] text (omega arith)) none
fields_within rests (suc left) (b ∷ text) =
    within_cond (eqb b line_feed) (some [] text (omega arith))
    (within_cond (eqb b 9)
    (within_le {j = 1 + (3 + (1 + 4 * left + 0))} (omega arith)
    (within_drop 1 (b ∷ text)
    (within_next (1 + 4 * left + 0) (λ value behind. next (fields rests left behind) (λ values end. got (value ∷ values) end))
    (cell_within rests text)
    (λ value behind.
    within_next 0 (λ values end. got (value ∷ values) end) (fields_within rests left behind)
    (λ values end. some (value ∷ values) end (omega arith))))))
    none)

counted_within : (allowed : ℕ → Bool) {k : ℕ} {text : List ℕ} {r : Read (List ℕ)} → Within k text r
    → Within k text (counted allowed r)
counted_within allowed none = none
counted_within allowed (some values rest p) = within_cond (allowed (length values)) (some values rest p) none

-- ---- lines

chord_within : (h : ℕ) (text : List ℕ) → Within 70 text (chord_line h text)
unfolding chord_line
chord_within h text =
    within_cond (begins chord_word text)
    (within_drop 5 text (counted_within (tracks_right h) (fields_within true most_tracks (drop 5 text)))) none

notes_within : (way : AnyWay) (text : List ℕ) → Within 129 text (notes_of way text)
notes_within way text =
    within_next 0 (λ notes rest. got (record { way = way; notes = notes }) rest)
    (counted_within (leb 2) (fields_within false most_notes text))
    (λ notes rest. some (record { way = way; notes = notes }) rest (omega arith))

-- a way's word has 7 bytes at most
way_within : (word : List ℕ) → length word ≤ 7 → (way : AnyWay) {text : List ℕ} {others : Read Theme} → Within 142 text others
    → Within 142 text (of_way word way text others)
way_within word h way {text} o =
    let k = 6 + length word in
    within_cond (begins word (drop 6 text))
    (within_le {j = k + 129} (omega arith) (within_drop k text (notes_within way (drop k text)))) o

theme_within : (text : List ℕ) → Within 142 text (theme_line text)
unfolding theme_line
theme_within text =
    within_cond (begins theme_word text)
    (way_within exact_word (omega arith) (Moved Exact)
    (way_within octave_word (omega arith) (Moved Octave) (way_within written_word (omega arith) Written none)))
    none

-- ---- right lines

whole_within : {A : Type 0} {k : ℕ} {line : List ℕ} {a : A} → Within k line (got a []) → length line ≤ k
whole_within (some a rest p) = omega arith

pub theme_short : {line : List ℕ} → IsThemeLine line → length line ≤ 142
theme_short {line} t = whole_within (subst (Within 142 line) t.whole (theme_within line))

pub chord_short : {h : ℕ} {line : List ℕ} → IsChordLine h line → length line ≤ 70
chord_short {line = line} c = whole_within (subst (Within 70 line) c.whole (chord_within 0 line))

-- so the bytes before the line feed are never too many
pub bytes_short : (line : List ℕ) → length line ≤ 142 → line_bytes line ≤ most_bytes
bytes_short line h = omega (arith, first_le (λ b. eqb b line_feed) line)

-- ---- a line of more than 160 bytes before its line feed

module _ {line : List ℕ} (long : most_bytes < line_bytes line) where
  -- is no theme line and no chord line, by the other rules alone
  pub long_theme : IsThemeLine line → ⊥
  long_theme t = omega (arith, bytes_short line (theme_short t))

  pub long_chord : {h : ℕ} → IsChordLine h line → ⊥
  long_chord c = omega (arith, bytes_short line (omega (arith, chord_short c)))

-- and so is faulty, wherever it stands
pub long_faulty : {all : List (List ℕ)} {n : ℕ} → 1 ≤ n → n ≤ length all → most_bytes < line_bytes (line_at all n)
    → FaultyLine all n
long_faulty low high long = record { numbered = low; there = high; wrong = λ r. omega (arith, r.short) }
