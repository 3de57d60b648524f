-- The text of a request within the limits is read as that request (`meaning_text`): with `meaning_right` of `Outputs`, an input
-- is refused exactly when it is no such text. Assumes nothing.
use mathlib.Core.Path.{◌≡◌, refl, ap, ◌∙◌}
use mathlib.Core.Logic.{◌⊎◌, inl, inr, ⊎_elim}
use mathlib.Core.Bool.{Bool, true, false, cond}
use mathlib.Core.List.{List, [], ◌∷◌, ◌++◌, map, append_assoc}
use Prim.Native.Nat.{ℕ, zero, suc, ◌+◌, ◌-◌, ◌*◌, ◌/◌, ◌%◌, ◌≤◌, ◌<◌}
use native.Mathlib.Omega.{arith}
use lib.Dec.{ltb, eqb}
use lib.ListN.{length, drop}
use borrow.Author.Tests.{le-leb, ltb-true, ltb-false, ne_eqb, eq-eqb}
use Rattle.theory.specs.Lists.{join}
use Rattle.asking.specs.Limits.{most_notes}
use Rattle.score.specs.Limits.{most_tracks, most_columns, highest_pitch, rest_cell}
use Rattle.ways.specs.declared.way.Way.TheVariants.{Exact, Octave}
use Rattle.ways.specs.declared.way.AnyWay.{AnyWay}
use Rattle.ways.specs.declared.way.AnyWay.TheVariants.{Moved, Written}
use Rattle.telling.specs.Text.{decimal}
use Rattle.words.specs.Words.{got, bad, next, front, is_digit, more_digits, number, cell}
use Rattle.reading.specs.Reading.{fields, tracks_right, chord_line, Theme, theme_line}
use Rattle.reading.specs.Request.{Request, all, chords, right, with_chords, meaning}
use Rattle.listing.specs.Texts.{cell_text, fields_text, chord_text, theme_text, text_of, Each, IsNote, IsCell, IsChord, IsTheme, Right}
use Rattle.words.proofs.Places.{digit_some, bad_got}
use Rattle.telling.proofs.Decimals.{decimal_small, decimal_more}
use Rattle.listing.proofs.Rights.{IsValue, note_text}

below_or : (n top : ℕ) → (n < top) ⊎ (top ≤ n)
below_or n top = step (ltb n top) refl
  where
    step : (t : Bool) → ltb n top ≡ t → (n < top) ⊎ (top ≤ n)
    step true e = inl (ltb-true n top e)
    step false e = inr (ltb-false n top e)

-- ---- numbers

digit_is : (d : ℕ) → d < 10 → is_digit (48 + d) ≡ true
digit_is d h = rw (le-leb 48 (48 + d) (omega arith), le-leb (48 + d) 57 (omega arith))

more_none : (v : ℕ) (text : List ℕ) → is_digit (front text) ≡ false → more_digits v text ≡ got v text
unfolding more_digits
more_none v text e = rw e

more_one : (v d : ℕ) (rest : List ℕ) → d < 10 → v * 10 + d ≤ highest_pitch → more_digits v ((48 + d) ∷ rest) ≡ got (v * 10 + d) rest
unfolding more_digits
more_one v d rest h l =
    let s : 48 + d - 48 ≡ d = omega arith in
    rw (digit_is d h, s, le-leb (v * 10 + d) highest_pitch l)

number_zero : (rest : List ℕ) → number (48 ∷ rest) ≡ got 0 rest
unfolding number
number_zero rest = refl

number_some : (d : ℕ) (text : List ℕ) → 1 ≤ d → d < 10 → number ((48 + d) ∷ text) ≡ next (more_digits d text) more_digits
unfolding number
number_some d text h l =
    let s : 48 + d - 48 ≡ d = omega arith in
    rw (digit_is d l, ne_eqb (48 + d) 48 (λ e. omega arith), s)

module _ (rest : List ℕ) (open' : is_digit (front rest) ≡ false) where
  one_digit : (n : ℕ) → n < 10 → number ((48 + n) ∷ rest) ≡ got n rest
  one_digit zero h = number_zero rest
  one_digit (suc k) h = number_some (suc k) rest (omega arith) h ∙ rw (more_none (suc k) rest open') (more_none (suc k) rest open')

  two_digits : (a b : ℕ) → 1 ≤ a → a < 10 → b < 10 → number ((48 + a) ∷ (48 + b) ∷ rest) ≡ got (a * 10 + b) rest
  two_digits a b h l s =
      number_some a ((48 + b) ∷ rest) h l ∙ rw (more_one a b rest s (omega arith)) (more_none (a * 10 + b) rest open')

  three_digits : (a b c : ℕ) → 1 ≤ a → a < 10 → b < 10 → c < 10 → (a * 10 + b) * 10 + c ≤ highest_pitch
      → number ((48 + a) ∷ (48 + b) ∷ (48 + c) ∷ rest) ≡ got ((a * 10 + b) * 10 + c) rest
  three_digits a b c h l s t m =
      number_some a ((48 + b) ∷ (48 + c) ∷ rest) h l
      ∙ rw (more_one a b ((48 + c) ∷ rest) s (omega arith)) (more_one (a * 10 + b) c rest t m)

  number_text : (n : ℕ) → n ≤ highest_pitch → number (decimal n ++ rest) ≡ got n rest
  number_text n h = ⊎_elim (λ (l : n < 10). rw (decimal_small n l) (one_digit n l)) tens (below_or n 10)
    where
      tens : 10 ≤ n → number (decimal n ++ rest) ≡ got n rest
      tens l = ⊎_elim two hundreds (below_or (n / 10) 10)
        where
          two : n / 10 < 10 → number (decimal n ++ rest) ≡ got n rest
          two s =
              let e : n / 10 * 10 + n % 10 ≡ n = omega arith in
              rw (decimal_more n l (omega arith), decimal_small (n / 10) s)
              (two_digits (n / 10) (n % 10) (omega arith) s (omega arith) ∙ ap (λ (k : ℕ). got k rest) e)

          hundreds : 10 ≤ n / 10 → number (decimal n ++ rest) ≡ got n rest
          hundreds s =
              let e : (n / 10 / 10 * 10 + n / 10 % 10) * 10 + n % 10 ≡ n = omega arith in
              rw (decimal_more n l (omega arith), decimal_more (n / 10) s (omega arith), decimal_small (n / 10 / 10) (omega arith))
              (three_digits (n / 10 / 10) (n / 10 % 10) (n % 10) (omega arith) (omega arith) (omega arith) (omega arith) (omega arith)
              ∙ ap (λ (k : ℕ). got k rest) e)

-- ---- cells and fields

number_front : (text : List ℕ) {n : ℕ} {rest : List ℕ} → number text ≡ got n rest → 48 ≤ front text
unfolding number
number_front text {n} {rest} e = step (is_digit (front text)) refl e
  where
    step : (t : Bool) → is_digit (front text) ≡ t
        → cond t (cond (eqb (front text) 48) (got 0 (drop 1 text)) (next (more_digits (front text - 48) (drop 1 text)) more_digits)) bad ≡ got n rest → 48 ≤ front text
    step true p k = (digit_some (front text) p).0
    step false p k = absurd (bad_got k)

cell_text_lem : (rests : Bool) (value : ℕ) (rest : List ℕ) → is_digit (front rest) ≡ false → IsValue rests value → cell rests (cell_text value ++ rest) ≡ got value rest
unfolding cell
cell_text_lem false value rest o h = rw (note_text value h) (number_text rest o value h)
cell_text_lem true value rest o h = ⊎_elim note still h
  where
    note : value ≤ highest_pitch → cell true (cell_text value ++ rest) ≡ got value rest
    note l =
        let e = number_text rest o value l in
        let f : 48 ≤ front (decimal value ++ rest) = number_front (decimal value ++ rest) e in
        rw (note_text value l, ne_eqb (front (decimal value ++ rest)) 45 (λ k. omega arith)) e

    still : value ≡ rest_cell → cell true (cell_text value ++ rest) ≡ got value rest
    still e = rw e

fields_open : (values rest : List ℕ) → is_digit (front (fields_text values ++ rest)) ≡ false
unfolding fields_text
fields_open [] rest = refl
fields_open (v ∷ values) rest = refl

fields_text_lem : (rests : Bool) (left : ℕ) (values rest : List ℕ) → length values ≤ left → Each (IsValue rests) values
    → fields rests left (fields_text values ++ rest) ≡ got values rest
unfolding fields fields_text
fields_text_lem rests zero [] rest l h = refl
fields_text_lem rests (suc left) [] rest l h = refl
fields_text_lem rests zero (v ∷ values) rest l h = absurd (omega arith)
fields_text_lem rests (suc left) (v ∷ values) rest l h =
    rw (
      append_assoc (cell_text v) (fields_text values) rest,
      cell_text_lem rests v (fields_text values ++ rest) (fields_open values rest) h.0,
      fields_text_lem rests left values rest (omega arith) h.1,
    )

-- ---- lines

pub chord_text_lem : (g : ℕ) (column rest : List ℕ) → tracks_right g (length column) ≡ true → length column ≤ most_tracks → Each IsCell column → chord_line g (chord_text column ++ rest) ≡ got column rest
unfolding chord_line
chord_text_lem g column rest t l h = rw (fields_text_lem true most_tracks column rest l h, t)

pub theme_text_lem : (theme : Theme) (rest : List ℕ) → IsTheme theme → theme_line (theme_text theme ++ rest) ≡ got theme rest
unfolding theme_line
theme_text_lem theme rest h = step theme.way theme.notes h.notes_some h.notes_few h.notes
  where
    step : (way : AnyWay) (notes : List ℕ) → 2 ≤ length notes → length notes ≤ most_notes → Each IsNote notes
        → theme_line (theme_text (record { way = way; notes = notes }) ++ rest) ≡ got (record { way = way; notes = notes }) rest
    step (Moved Exact) notes s f r = rw (fields_text_lem false most_notes notes rest f r, le-leb 2 (length notes) s)
    step (Moved Octave) notes s f r = rw (fields_text_lem false most_notes notes rest f r, le-leb 2 (length notes) s)
    step Written notes s f r = rw (fields_text_lem false most_notes notes rest f r, le-leb 2 (length notes) s)

-- as many cells as the first chord has, which is right for it and for those behind it
tracks_first : (h : ℕ) → 1 ≤ h → tracks_right 0 h ≡ true
tracks_first h l = rw (le-leb 1 h l)

tracks_same : (h : ℕ) → 1 ≤ h → tracks_right h h ≡ true
tracks_same h l = rw (le-leb 1 h l, ne_eqb h 0 (λ e. omega arith), eq-eqb h h refl)

pub some_text : (b : ℕ) (text : List ℕ) → eqb (length (b ∷ text)) 0 ≡ false
some_text b text = ne_eqb (length (b ∷ text)) 0 (λ e. omega arith)

chords_text : (left g h : ℕ) (columns : List (List ℕ)) → tracks_right g h ≡ true → 1 ≤ h → h ≤ most_tracks → length columns ≤ left → Each (IsChord h) columns
    → chords left g (join (map chord_text columns)) ≡ all columns
unfolding chords
chords_text zero g h [] t s f l r = refl
chords_text (suc left) g h [] t s f l r = refl
chords_text zero g h (c ∷ columns) t s f l r = absurd (omega arith)
chords_text (suc left) g h (c ∷ columns) t s f l r =
    let w : length c ≡ h = r.0.wide in
    let line = chord_text_lem g c (join (map chord_text columns)) (ap (tracks_right g) w ∙ t) (omega arith) r.0.cells in
    let more = chords_text left h h columns (tracks_same h s) s f (omega arith) r.1 in
    let some : eqb (length (join (map chord_text (c ∷ columns)))) 0 ≡ false = some_text 99 (drop 1 (join (map chord_text (c ∷ columns)))) in
    rw (some, line, w, more)

-- ---- the whole text

pub meaning_text : (q : Request) → Right q → meaning (text_of q) ≡ right q
unfolding meaning text_of
meaning_text q h = rw (theme_text_lem q.theme (join (map chord_text q.columns)) h.theme) (step q.columns h.columns_some h.columns_few h.columns)
  where
    step : (columns : List (List ℕ)) → 1 ≤ length columns → length columns ≤ most_columns → Each (IsChord h.tracks) columns
        → with_chords q.theme (chords most_columns 0 (join (map chord_text columns))) ≡ right (record { theme = q.theme; columns = columns })
    step [] s f r = absurd (omega arith)
    step (c ∷ columns) s f r =
        rw (chords_text most_columns 0 h.tracks (c ∷ columns) (tracks_first h.tracks h.tracks_some) h.tracks_some h.tracks_few f r)
