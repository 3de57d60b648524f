-- What lies behind the first 143,503 bytes of an input changes nothing of its meaning or of the output (`meaning_behind`,
-- `output_behind`): a theme line has at most 142 bytes and a chord line at most 70, and what is read of a line does not depend
-- on what lies behind it. Assumes nothing.
use mathlib.Core.Path.{◌≡◌, refl, sym, ap, ◌∙◌}
use mathlib.Core.Logic.{inl, ⊎_elim}
use mathlib.Core.Bool.{cond}
use mathlib.Core.List.{List, [], ◌∷◌, ◌++◌, append_assoc}
use Prim.Native.Nat.{ℕ, zero, suc, ◌+◌, ◌-◌, ◌*◌, ◌≤◌, ◌<◌}
use native.Mathlib.Omega.{arith}
use lib.Dec.{eqb}
use lib.ListN.{length, take, drop, length-append, take-append-drop}
use Rattle.listing.specs.Limits.{input_room}
use Rattle.score.specs.Limits.{most_tracks, most_columns, highest_pitch, rest_cell}
use Rattle.ways.specs.declared.way.Way.TheVariants.{Exact, Octave}
use Rattle.ways.specs.declared.way.AnyWay.{AnyWay}
use Rattle.ways.specs.declared.way.AnyWay.TheVariants.{Moved, Written}
use Rattle.words.specs.Words.{Read, got, bad}
use Rattle.reading.specs.Reading.{theme_word, chord_word, chord_line, Theme, theme_line}
use Rattle.reading.specs.Request.{Chords, all, above, on_chord, chords, with_chords, with_theme, meaning}
use Rattle.listing.specs.Texts.{way_word, cell_text, fields_text, chord_text, theme_text, Each, IsNote, IsCell, IsTheme}
use Rattle.listing.specs.Answer.{answer, output}
use Rattle.words.proofs.Places.{bad_got}
use Rattle.telling.proofs.Widths.{decimal_le}
use Rattle.listing.proofs.RightLines.{chord_is, theme_is}
use Rattle.listing.proofs.Rights.{note_text}
use Rattle.listing.proofs.Texts.{some_text, chord_text_lem, theme_text_lem}

-- ---- how long a line is

cell_length : (value : ℕ) → IsCell value → length (cell_text value) ≤ 3
cell_length value h =
    ⊎_elim (λ (l : value ≤ highest_pitch). rw (note_text value l) (decimal_le 2 value (omega arith))) (λ (e : value ≡ rest_cell). rw e (omega arith)) h

fields_length : (values : List ℕ) → Each IsCell values → length (fields_text values) ≤ 1 + 4 * length values
unfolding fields_text
fields_length [] h = omega arith
fields_length (v ∷ values) h = omega (arith, length-append (cell_text v) (fields_text values), cell_length v h.0, fields_length values h.1)

notes_cells : (notes : List ℕ) → Each IsNote notes → Each IsCell notes
notes_cells [] h = h
notes_cells (p ∷ notes) h = (inl h.0, notes_cells notes h.1)

-- with their line feeds a right chord line has at most 70 bytes and a right theme line 142, so that one of over 160 before it
-- is faulty: `long_faulty` of `reading/proofs/LineLengths` says so of the lines of an input
pub chord_length : (column : List ℕ) → length column ≤ most_tracks → Each IsCell column → length (chord_text column) ≤ 70
chord_length column l h = omega (arith, length-append chord_word (fields_text column), fields_length column h)

way_length : (way : AnyWay) → length (way_word way) ≤ 7
way_length (Moved Exact) = omega arith
way_length (Moved Octave) = omega arith
way_length Written = omega arith

pub theme_length : (theme : Theme) → IsTheme theme → length (theme_text theme) ≤ 142
theme_length theme h =
    omega (
      arith,
      length-append theme_word (way_word theme.way ++ fields_text theme.notes),
      length-append (way_word theme.way) (fields_text theme.notes),
      way_length theme.way,
      fields_length theme.notes (notes_cells theme.notes h.notes),
      h.notes_few,
    )

-- ---- a text that is cut

take_front : (a b : List ℕ) (k n : ℕ) → n ≡ length a + k → take n (a ++ b) ≡ a ++ take k b
take_front [] b k n e = let s : n ≡ k = omega arith in ap (λ (i : ℕ). take i b) s
take_front (x ∷ a) b k zero e = absurd (omega arith)
take_front (x ∷ a) b k (suc n) e = ap (λ (l : List ℕ). x ∷ l) (take_front a b k n (omega arith))

empty_cut : (k : ℕ) (text : List ℕ) → 1 ≤ k → eqb (length (take k text)) 0 ≡ eqb (length text) 0
empty_cut zero text h = absurd (omega arith)
empty_cut (suc k) [] h = refl
empty_cut (suc k) (b ∷ text) h = some_text b (take k text) ∙ sym (some_text b text)

-- behind a line that is cut stands what the whole text has
whole : (a rest text : List ℕ) (k : ℕ) → take k text ≡ a ++ rest → text ≡ a ++ (rest ++ drop k text)
whole a rest text k e = sym (take-append-drop k text) ∙ ap (λ (l : List ℕ). l ++ drop k text) e ∙ append_assoc a rest (drop k text)

-- ---- a chord line that is cut

module _ (g k : ℕ) (text : List ℕ) where
  chord_cut_bad : chord_line g text ≡ bad → chord_line g (take k text) ≡ bad
  chord_cut_bad e = step (chord_line g (take k text)) refl
    where
      step : (r : Read (List ℕ)) → chord_line g (take k text) ≡ r → r ≡ bad
      step bad p = refl
      step (got c rest) p =
          let w = chord_is g (take k text) p in
          absurd
          (bad_got
          (sym e ∙ ap (chord_line g) (whole (chord_text c) rest text k w.is)
          ∙ chord_text_lem g c (rest ++ drop k text) w.tracks w.few w.right.cells))

  chord_cut_got : (c rest : List ℕ) (j : ℕ) → chord_line g text ≡ got c rest → k ≡ length (chord_text c) + j → chord_line g (take k text) ≡ got c (take j rest)
  chord_cut_got c rest j e q =
      let w = chord_is g text e in
      ap (λ (l : List ℕ). chord_line g (take k l)) w.is
      ∙ ap (chord_line g) (take_front (chord_text c) rest j k q)
      ∙ chord_text_lem g c (take j rest) w.tracks w.few w.right.cells

  chord_short : (c rest : List ℕ) → chord_line g text ≡ got c rest → length (chord_text c) ≤ 70
  chord_short c rest e = let w = chord_is g text e in chord_length c w.few w.right.cells

chords_cut : (left g k : ℕ) (text : List ℕ) → left * 70 < k → chords left g (take k text) ≡ chords left g text
unfolding chords
chords_cut zero g k text h = rw (empty_cut k text (omega arith))
chords_cut (suc left) g k text h =
    rw (empty_cut k text (omega arith)) (ap (λ (r : Chords). cond (eqb (length text) 0) (all []) r) (step (chord_line g text) refl (λ h' j rest l. chords_cut left h' j rest l)))
  where
    then : List ℕ → List ℕ → Chords
    then c rest = above c (chords left (length c) rest)

    step : (r : Read (List ℕ)) → chord_line g text ≡ r → ((h' j : ℕ) (rest : List ℕ) → left * 70 < j → chords left h' (take j rest) ≡ chords left h' rest)
        → on_chord (chord_line g (take k text)) then ≡ on_chord (chord_line g text) then
    step bad e ih = rw (e, chord_cut_bad g k text e)
    step (got c rest) e ih =
        let l : length (chord_text c) ≤ 70 = chord_short g k text c rest e in
        let cut = chord_cut_got g k text c rest (k - length (chord_text c)) e (omega arith) in
        rw (e, cut) (ap (above c) (ih (length c) (k - length (chord_text c)) rest (omega arith)))

-- ---- a theme line that is cut, and the whole

module _ (input : List ℕ) where
  theme_cut_bad : theme_line input ≡ bad → theme_line (take input_room input) ≡ bad
  theme_cut_bad e = step (theme_line (take input_room input)) refl
    where
      step : (r : Read Theme) → theme_line (take input_room input) ≡ r → r ≡ bad
      step bad p = refl
      step (got theme rest) p =
          let w = theme_is (take input_room input) p in
          absurd
          (bad_got
          (sym e ∙ ap theme_line (whole (theme_text theme) rest input input_room w.is) ∙ theme_text_lem theme (rest ++ drop input_room input) w.right))

  pub meaning_behind : meaning (take input_room input) ≡ meaning input
  unfolding meaning
  meaning_behind = step (theme_line input) refl
    where
      step : (r : Read Theme) → theme_line input ≡ r → with_theme (theme_line (take input_room input)) ≡ with_theme (theme_line input)
      step bad e = rw (e, theme_cut_bad e)
      step (got theme rest) e =
          let w = theme_is input e in
          let l : length (theme_text theme) ≤ 142 = theme_length theme w.right in
          let cut : theme_line (take input_room input) ≡ got theme (take (input_room - length (theme_text theme)) rest) =
          ap (λ (t : List ℕ). theme_line (take input_room t)) w.is
          ∙ ap theme_line (take_front (theme_text theme) rest (input_room - length (theme_text theme)) input_room (omega arith))
          ∙ theme_text_lem theme (take (input_room - length (theme_text theme)) rest) w.right
          in
          rw (e, cut) (ap (with_chords theme) (chords_cut most_columns 0 (input_room - length (theme_text theme)) rest (omega arith)))

  pub output_behind : output (take input_room input) ≡ output input
  unfolding output
  output_behind = ap answer meaning_behind
