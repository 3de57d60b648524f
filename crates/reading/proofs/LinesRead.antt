-- A line is read by itself as it is read at the front of a text (`theme_alone`, `chord_alone`): what is read of a line does not
-- depend on what stands behind it, and ends with its line feed. So a line without one is bad text (`theme_unfed`,
-- `chord_unfed`). The idea: reading passes over no line feed but as the last byte of a line. Assumes nothing.
use mathlib.Core.Path.{◌≡◌, refl, sym}
use mathlib.Core.Bool.{Bool, true, false, cond, ◌&&◌, true≢false}
use mathlib.Core.List.{List, [], ◌∷◌}
use Prim.Native.Nat.{ℕ, zero, suc, ◌+◌, ◌-◌, ◌*◌, ◌≤◌}
use native.Mathlib.Omega.{arith}
use lib.Dec.{leb, eqb}
use lib.ListN.{length, drop}
use lib.Seq.{drop-drop}
use borrow.Author.Tests.{eqb-true, eqb-false, ne_eqb}
use Rattle.theory.specs.Lists.{some}
use Rattle.asking.specs.Limits.{most_notes}
use Rattle.score.specs.Limits.{most_tracks, highest_pitch}
use Rattle.ways.specs.declared.way.Way.TheVariants.{Exact, Octave}
use Rattle.ways.specs.declared.way.AnyWay.{AnyWay}
use Rattle.ways.specs.declared.way.AnyWay.TheVariants.{Moved, Written}
use Rattle.words.specs.Words.{Read, got, bad, next, begins, is_digit, more_digits, number, cell}
use Rattle.reading.specs.Reading.{theme_word, exact_word, octave_word, written_word, chord_word, fields, counted, tracks_right}
use Rattle.reading.specs.Reading.{chord_line, Theme, notes_of, of_way, theme_line}
use Rattle.reading.specs.Lines.{line_feed, lines}

-- ---- the first line of a text

-- a text is its first line and what stands behind that; where no line feed ends the line, which `fed` says, nothing does
pub data Divided : (fed : Bool) (line rest text : List ℕ) → Type 0 where
  nothing : Divided false [] [] []
  feed : {rest : List ℕ} → Divided true (line_feed ∷ []) rest (line_feed ∷ rest)
  more : {fed : Bool} {b : ℕ} {line rest text : List ℕ} → (b ≡ line_feed → ⊥) → Divided fed line rest text
      → Divided fed (b ∷ line) rest (b ∷ text)

pub record Division (text : List ℕ) : Type 0 where
  pub fed : Bool
  pub line : List ℕ
  pub rest : List ℕ
  pub divided : Divided fed line rest text

pub division : (text : List ℕ) → Division text
division [] = record { fed = false; line = []; rest = []; divided = nothing }
division (b ∷ text) = step (eqb b line_feed) refl (division text)
  where
    step : (t : Bool) → eqb b line_feed ≡ t → Division text → Division (b ∷ text)
    step true e d =
        let f : b ≡ line_feed = eqb-true b line_feed e in
        record { fed = true; line = line_feed ∷ []; rest = text; divided = rw f feed }
    step false e d =
        record { fed = d.fed; line = b ∷ d.line; rest = d.rest; divided = more (eqb-false b line_feed e) d.divided }

-- that line is the first of its lines
pub lines_divided : {fed : Bool} {line rest text : List ℕ} → Divided fed line rest text → 1 ≤ length text
    → lines text ≡ line ∷ lines rest
lines_divided nothing h = absurd (omega arith)
lines_divided feed h = refl
lines_divided {text = b ∷ []} (more n nothing) h = rw (ne_eqb b line_feed n)
lines_divided {text = b ∷ c ∷ text} (more n d) h = rw (ne_eqb b line_feed n, lines_divided d (omega arith))

-- ---- read alike: of the text, and of its first line alone

-- within a line
pub data Alike {A : Type 0} (fed : Bool) (rest : List ℕ) : (whole alone : Read A) → Type 0 where
  bads : Alike fed rest bad bad
  gots : {a : A} {line text : List ℕ} → Divided fed line rest text → Alike fed rest (got a text) (got a line)

-- by the same test, and one reading behind another
module _ {A : Type 0} {fed : Bool} {rest : List ℕ} where
  alike_cond : (t : Bool) {a b c d : Read A} → Alike fed rest a b → Alike fed rest c d
      → Alike fed rest (cond t a c) (cond t b d)
  alike_cond true p q = p
  alike_cond false p q = q

  alike_next : {B : Type 0} {r s : Read B} (f : B → List ℕ → Read A) → Alike fed rest r s
      → ((a : B) (line text : List ℕ) → Divided fed line rest text → Alike fed rest (f a text) (f a line))
      → Alike fed rest (next r f) (next s f)
  alike_next f bads g = bads
  alike_next f (gots {a} {line} {text} d) g = g a line text d

digits_alike : (v : ℕ) {fed : Bool} {line rest text : List ℕ} → Divided fed line rest text
    → Alike fed rest (more_digits v text) (more_digits v line)
unfolding more_digits
digits_alike v nothing = gots nothing
digits_alike v feed = gots feed
digits_alike v {text = b ∷ text} (more n d) =
    alike_cond (is_digit b && leb (v * 10 + (b - 48)) highest_pitch) (gots d) (gots (more n d))

number_alike : {fed : Bool} {line rest text : List ℕ} → Divided fed line rest text → Alike fed rest (number text) (number line)
unfolding number
number_alike nothing = bads
number_alike feed = bads
number_alike {text = b ∷ text} (more n d) =
    alike_cond (is_digit b)
    (alike_cond (eqb b 48) (gots d) (alike_next more_digits (digits_alike (b - 48) d) (λ v line text e. digits_alike v e))) bads

cell_alike : (rests : Bool) {fed : Bool} {line rest text : List ℕ} → Divided fed line rest text
    → Alike fed rest (cell rests text) (cell rests line)
unfolding cell
cell_alike false d = number_alike d
cell_alike true nothing = number_alike nothing
cell_alike true feed = number_alike feed
cell_alike true {text = b ∷ text} (more n d) = alike_cond (eqb b 45) (gots d) (number_alike (more n d))

-- up to the end of the line, which a line feed is
pub data Ended {A : Type 0} (fed : Bool) (rest : List ℕ) : (whole alone : Read A) → Type 0 where
  bads : Ended fed rest bad bad
  gots : {a : A} → fed ≡ true → Ended fed rest (got a rest) (got a [])

module _ {A : Type 0} {fed : Bool} {rest : List ℕ} where
  ended_cond : (t : Bool) {a b c d : Read A} → Ended fed rest a b → Ended fed rest c d
      → Ended fed rest (cond t a c) (cond t b d)
  ended_cond true p q = p
  ended_cond false p q = q

  ended_behind : {B : Type 0} {r s : Read B} (f : B → List ℕ → Read A) → Alike fed rest r s
      → ((a : B) (line text : List ℕ) → Divided fed line rest text → Ended fed rest (f a text) (f a line))
      → Ended fed rest (next r f) (next s f)
  ended_behind f bads g = bads
  ended_behind f (gots {a} {line} {text} d) g = g a line text d

  ended_next : {B : Type 0} {r s : Read B} (f : B → List ℕ → Read A) → Ended fed rest r s
      → ((a : B) → fed ≡ true → Ended fed rest (f a rest) (f a [])) → Ended fed rest (next r f) (next s f)
  ended_next f bads g = bads
  ended_next f (gots {a} e) g = g a e

fields_ended : (rests : Bool) (left : ℕ) {fed : Bool} {line rest text : List ℕ} → Divided fed line rest text
    → Ended fed rest (fields rests left text) (fields rests left line)
unfolding fields
fields_ended rests zero nothing = bads
fields_ended rests (suc left) nothing = bads
fields_ended rests zero feed = gots refl
fields_ended rests (suc left) feed = gots refl
fields_ended rests zero {text = b ∷ text} (more n d) = rw (ne_eqb b line_feed n) bads
fields_ended rests (suc left) {text = b ∷ text} (more n d) =
    rw (ne_eqb b line_feed n)
    (ended_cond (eqb b 9)
    (ended_behind (λ value behind. next (fields rests left behind) (λ values end. got (value ∷ values) end))
    (cell_alike rests d)
    (λ value line text e.
    ended_next (λ values end. got (value ∷ values) end) (fields_ended rests left e) (λ values. gots)))
    bads)

counted_ended : (allowed : ℕ → Bool) {fed : Bool} {rest : List ℕ} {r s : Read (List ℕ)} → Ended fed rest r s
    → Ended fed rest (counted allowed r) (counted allowed s)
counted_ended allowed e =
    ended_next (λ values behind. cond (allowed (length values)) (got values behind) bad) e
    (λ values f. ended_cond (allowed (length values)) (gots f) bads)

-- ---- words

-- a word without a line feed stands at the front of both or of neither, and what stands behind it is alike
abbrev feeds : List ℕ → Bool
feeds word = some (λ w. eqb w line_feed) word

feeds_none : (w : ℕ) (word : List ℕ) → feeds (w ∷ word) ≡ false → (eqb w line_feed ≡ false) × (feeds word ≡ false)
feeds_none w word e = step (eqb w line_feed) refl e
  where
    step : (t : Bool) → eqb w line_feed ≡ t → cond t true (feeds word) ≡ false → (eqb w line_feed ≡ false) × (feeds word ≡ false)
    step true p k = absurd (true≢false k)
    step false p k = (p, k)

data Begun (k : ℕ) (fed : Bool) (rest text line : List ℕ) : (whole alone : Bool) → Type 0 where
  neither : Begun k fed rest text line false false
  both : Divided fed (drop k line) rest (drop k text) → Begun k fed rest text line true true

begun_more : {k b : ℕ} {fed : Bool} {rest text line : List ℕ} {s t : Bool} → Begun k fed rest text line s t
    → Begun (suc k) fed rest (b ∷ text) (b ∷ line) s t
begun_more neither = neither
begun_more (both d) = both d

begins_both : (word : List ℕ) → feeds word ≡ false → {fed : Bool} {line rest text : List ℕ} → Divided fed line rest text
    → Begun (length word) fed rest text line (begins word text) (begins word line)
begins_both [] p d = both d
begins_both (w ∷ word) p nothing = neither
begins_both (w ∷ word) p feed = rw (feeds_none w word p).0 neither
begins_both (w ∷ word) p {text = b ∷ text} (more n d) = step (eqb w b) (begins_both word (feeds_none w word p).1 d)
  where
    step : (t : Bool) {fed : Bool} {line rest : List ℕ}
        → Begun (length word) fed rest text line (begins word text) (begins word line)
        → Begun (suc (length word)) fed rest (b ∷ text) (b ∷ line) (cond t (begins word text) false)
        (cond t (begins word line) false)
    step true e = begun_more e
    step false e = neither

begun_ended : {A : Type 0} {k : ℕ} {fed : Bool} {rest text line : List ℕ} {s t : Bool} {a b c d : Read A}
    → Begun k fed rest text line s t → (Divided fed (drop k line) rest (drop k text) → Ended fed rest a b) → Ended fed rest c d
    → Ended fed rest (cond s a c) (cond t b d)
begun_ended neither f e = e
begun_ended (both d) f e = f d

-- ---- lines

pub chord_alone : (h : ℕ) {fed : Bool} {line rest text : List ℕ} → Divided fed line rest text
    → Ended fed rest (chord_line h text) (chord_line h line)
unfolding chord_line
chord_alone h d =
    begun_ended (begins_both chord_word refl d) (λ e. counted_ended (tracks_right h) (fields_ended true most_tracks e)) bads

notes_ended : (way : AnyWay) {fed : Bool} {line rest text : List ℕ} → Divided fed line rest text
    → Ended fed rest (notes_of way text) (notes_of way line)
notes_ended way d =
    ended_next (λ notes behind. got (record { way = way; notes = notes }) behind)
    (counted_ended (leb 2) (fields_ended false most_notes d)) (λ notes. gots)

-- behind one word and then another
twice : (j k : ℕ) {fed : Bool} (rest text line : List ℕ) → Divided fed (drop k (drop j line)) rest (drop k (drop j text))
    → Divided fed (drop (j + k) line) rest (drop (j + k) text)
twice j k rest text line d = rw (drop-drop k j line, drop-drop k j text) at d

-- behind `theme`, by one way's word where it stands there
way_ended : {fed : Bool} (line rest text : List ℕ) → Divided fed (drop 6 line) rest (drop 6 text)
    → (word : List ℕ) → feeds word ≡ false → (way : AnyWay) {whole alone : Read Theme} → Ended fed rest whole alone
    → Ended fed rest (of_way word way text whole) (of_way word way line alone)
way_ended line rest text d word p way others =
    begun_ended (begins_both word p d) (λ e. notes_ended way (twice 6 (length word) rest text line e)) others

pub theme_alone : {fed : Bool} {line rest text : List ℕ} → Divided fed line rest text
    → Ended fed rest (theme_line text) (theme_line line)
unfolding theme_line
theme_alone {line = line} {rest} {text} d =
    begun_ended (begins_both theme_word refl d)
    (λ e.
    way_ended line rest text e exact_word refl (Moved Exact)
    (way_ended line rest text e octave_word refl (Moved Octave)
    (way_ended line rest text e written_word refl Written bads)))
    bads

-- ---- a line without a line feed

ended_unfed : {A : Type 0} {rest : List ℕ} {whole alone : Read A} → Ended false rest whole alone → alone ≡ bad
ended_unfed bads = refl
ended_unfed (gots e) = absurd (true≢false (sym e))

pub theme_unfed : {line : List ℕ} → Divided false line [] line → theme_line line ≡ bad
theme_unfed d = ended_unfed (theme_alone d)

pub chord_unfed : (h : ℕ) {line : List ℕ} → Divided false line [] line → chord_line h line ≡ bad
chord_unfed h d = ended_unfed (chord_alone h d)
