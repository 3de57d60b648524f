-- Chord lines one after the other: all of them are chord lines with as many cells as the first, or up to which one they are
-- (`chords_told`). The idea: what is read of the text is what is read of each line alone. Assumes nothing.
use mathlib.Core.Path.{◌≡◌, refl, sym, ap, ◌∙◌, subst}
use mathlib.Core.Bool.{Bool, true, false, cond}
use mathlib.Core.List.{List, [], ◌∷◌}
use Prim.Native.Nat.{ℕ, zero, suc, ◌≤◌, ◌<◌}
use native.Mathlib.Omega.{arith}
use lib.ListN.{length, get_or, drop}
use borrow.Author.Tests.{le-leb, eq-eqb, ne_eqb}
use Rattle.score.specs.Limits.{most_tracks}
use Rattle.words.specs.Words.{Read, got, bad, begins}
use Rattle.reading.specs.Reading.{chord_word, fields, counted, tracks_right, chord_line}
use Rattle.reading.specs.Request.{Chords, all, fault, above, on_chord, chords}
use Rattle.reading.specs.Lines.{lines, IsChordLine}
use Rattle.words.proofs.Places.{bad_got, got_value}
use Rattle.reading.proofs.Scoring.{tracks_some, tracks_same}
use Rattle.reading.proofs.LinesRead.{Division, division, lines_divided, Ended, bads, gots, chord_alone}

-- ---- a chord line, first or later

pub record Chording (h : ℕ) (text cells rest : List ℕ) : Type 0 where
  pub word : begins chord_word text ≡ true
  pub is : fields true most_tracks (drop 5 text) ≡ got cells rest
  pub tracks : tracks_right h (length cells) ≡ true

chord_read : (h : ℕ) (text : List ℕ) {cells rest : List ℕ} → chord_line h text ≡ got cells rest → Chording h text cells rest
unfolding chord_line
chord_read h text {cells} {rest} e = first (begins chord_word text) refl e
  where
    third : (vs end : List ℕ) (t : Bool) → begins chord_word text ≡ true → fields true most_tracks (drop 5 text) ≡ got vs end
        → tracks_right h (length vs) ≡ t
        → cond t (got vs end) bad ≡ got cells rest → Chording h text cells rest
    third vs end true w f p k =
        record { word = w; is = f ∙ k; tracks = ap (λ (l : List ℕ). tracks_right h (length l)) (sym (got_value k)) ∙ p }
    third vs end false w f p k = absurd (bad_got k)

    second : (r : Read (List ℕ)) → begins chord_word text ≡ true → fields true most_tracks (drop 5 text) ≡ r
        → counted (tracks_right h) r ≡ got cells rest
        → Chording h text cells rest
    second bad w f k = absurd (bad_got k)
    second (got vs end) w f k = third vs end (tracks_right h (length vs)) w f refl k

    first : (t : Bool) → begins chord_word text ≡ t
        → cond t (counted (tracks_right h) (fields true most_tracks (drop 5 text))) bad ≡ got cells rest
        → Chording h text cells rest
    first false w k = absurd (bad_got k)
    first true w k = second (fields true most_tracks (drop 5 text)) w refl k

read_chord : (h : ℕ) (text : List ℕ) {cells rest : List ℕ} → begins chord_word text ≡ true
    → fields true most_tracks (drop 5 text) ≡ got cells rest
    → tracks_right h (length cells) ≡ true → chord_line h text ≡ got cells rest
unfolding chord_line
read_chord h text w f t = rw (w, f, t)

-- a later one is a first one with as many cells
later_first : (h : ℕ) (line : List ℕ) {cells : List ℕ} → 1 ≤ h → chord_line h line ≡ got cells []
    → (chord_line 0 line ≡ got cells []) × (length cells ≡ h)
later_first h line {cells} s e =
    let c = chord_read h line e in
    let some : 1 ≤ length cells = tracks_some h (length cells) c.tracks in
    (read_chord 0 line c.word c.is (rw (le-leb 1 (length cells) some)), tracks_same h (length cells) c.tracks s)

pub first_some : (line : List ℕ) {cells : List ℕ} → chord_line 0 line ≡ got cells [] → 1 ≤ length cells
first_some line {cells} e = tracks_some 0 (length cells) (chord_read 0 line e).tracks

first_later : (h : ℕ) (line : List ℕ) (c : IsChordLine h line) → 1 ≤ h → chord_line h line ≡ got c.cells []
first_later h line c s =
    let d = chord_read 0 line c.whole in
    read_chord h line d.word d.is (rw (c.wide, le-leb 1 h s, ne_eqb h 0 (λ e. omega arith), eq-eqb h h refl))

-- a line has one number of cells
pub tracks_unique : {line : List ℕ} {g h : ℕ} → IsChordLine g line → IsChordLine h line → g ≡ h
tracks_unique p q = sym p.wide ∙ ap length (got_value (sym p.whole ∙ q.whole)) ∙ q.wide

-- ---- the lines behind the theme line, of which the first fixes h

-- the first k of these lines are chord lines of h cells, and that is not too many
pub record Run (left h : ℕ) (all : List (List ℕ)) (k : ℕ) : Type 0 where
  pub few : k ≤ left
  pub there : k ≤ length all
  pub each : (i : ℕ) → i < k → IsChordLine h (get_or all i [])

-- each of these lines is read as the column of its number
pub record Columned (lines columns : List (List ℕ)) : Type 0 where
  pub long : length columns ≡ length lines
  pub each : (i : ℕ) → i < length lines → chord_line 0 (get_or lines i []) ≡ got (get_or columns i []) []

-- what is said of them: all are such lines; or the first k are, and the next is one too many or is none
pub data Told (left h : ℕ) (lines : List (List ℕ)) : Chords → Type 0 where
  whole : {columns : List (List ℕ)} → Run left h lines (length lines) → Columned lines columns → Told left h lines (all columns)
  broken : {k : ℕ} → Run left h lines k → k < length lines → (k < left → IsChordLine h (get_or lines k []) → ⊥)
      → Told left h lines (fault k)

run_none : {left h : ℕ} {lines : List (List ℕ)} → Run left h lines 0
run_none = record { few = omega arith; there = omega arith; each = λ i l. absurd (omega arith) }

-- one line more in front, which was read
module _ {line cells : List ℕ} (e : chord_line 0 line ≡ got cells []) where
  run_more : {left k : ℕ} {others : List (List ℕ)} → Run left (length cells) others k
      → Run (suc left) (length cells) (line ∷ others) (suc k)
  run_more {k = k} {others = others} r = record { few = omega (arith, r.few); there = omega (arith, r.there); each = at }
    where
      at : (i : ℕ) → i < suc k → IsChordLine (length cells) (get_or (line ∷ others) i [])
      at zero l = record { cells = cells; whole = e; wide = refl }
      at (suc i) l = r.each i (omega arith)

  columned_more : {others columns : List (List ℕ)} → Columned others columns → Columned (line ∷ others) (cells ∷ columns)
  columned_more {others} {columns} r = record { long = ap suc r.long; each = at }
    where
      at : (i : ℕ) → i < suc (length others) → chord_line 0 (get_or (line ∷ others) i []) ≡ got (get_or (cells ∷ columns) i []) []
      at zero l = e
      at (suc i) l = r.each i (omega arith)

  pub told_more : {left : ℕ} {others : List (List ℕ)} {r : Chords} → Told left (length cells) others r
      → Told (suc left) (length cells) (line ∷ others) (above cells r)
  told_more (whole t s) = whole (run_more t) (columned_more s)
  told_more (broken t s w) = broken (run_more t) (omega (arith, s)) (λ f. w (omega arith))

told_nil : {left h : ℕ} → Told left h [] (all [])
told_nil = whole run_none (record { long = refl; each = λ i l. absurd (omega arith) })

pub chords_told : (left h : ℕ) (text : List ℕ) → 1 ≤ h → Told left h (lines text) (chords left h text)
unfolding chords
chords_told zero h [] s = told_nil
chords_told (suc left) h [] s = told_nil
chords_told zero h (b ∷ text) s =
    let d = division (b ∷ text) in
    rw (ne_eqb (length (b ∷ text)) 0 (λ e. omega arith), lines_divided d.divided (omega arith))
    (broken run_none (omega arith) (λ l. absurd (omega arith)))
chords_told (suc left) h (b ∷ text) s =
    rw (ne_eqb (length (b ∷ text)) 0 (λ e. omega arith), lines_divided d.divided (omega arith))
    (step (chord_line h (b ∷ text)) (chord_line h d.line) refl (chord_alone h d.divided) (chords_told left))
  where
    d : Division (b ∷ text)
    d = division (b ∷ text)

    step : (q r : Read (List ℕ)) → chord_line h d.line ≡ r → Ended d.fed d.rest q r
        → ((g : ℕ) (rest : List ℕ) → 1 ≤ g → Told left g (lines rest) (chords left g rest))
        → Told (suc left) h (d.line ∷ lines d.rest) (on_chord q (λ c rest. above c (chords left (length c) rest)))
    step q r e bads ih = broken run_none (omega arith) (λ l c. bad_got (sym e ∙ first_later h d.line c s))
    step q r e (gots {a} f) ih =
        let c = later_first h d.line s e in
        subst (λ (g : ℕ). Told (suc left) g (d.line ∷ lines d.rest) (above a (chords left (length a) d.rest))) c.1
        (told_more c.0 (ih (length a) d.rest (omega (arith, c.1))))
