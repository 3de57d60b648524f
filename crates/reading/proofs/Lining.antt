-- A chord line and a theme line, of the word at their front and of their fields: the count of the values decides.
-- Assumes nothing.
use mathlib.Core.Path.{◌≡◌, refl, sym, ap, ◌∙◌}
use mathlib.Core.Bool.{Bool, true, false, cond, ◌&&◌, ◌||◌, true≢false}
use mathlib.Core.Logic.{◌⊎◌, inl, inr}
use mathlib.Core.List.{List, [], ◌∷◌, ◌++◌}
use Prim.Native.Nat.{ℕ, suc, ◌+◌, ◌≤◌, ◌<◌, suc-le-suc, zero-le}
use native.Mathlib.Omega.{arith}
use lib.Dec.{leb, eqb}
use lib.ListN.{length, take, drop, length-drop}
use lib.Seq.{drop-drop, length-take-le}
use borrow.Author.Tests.{le-leb, lt-leb, eq-eqb, ne_eqb}
use Rattle.std.specs.Prelude.{Option, Some, None}
use Rattle.asking.specs.Limits.{most_notes}
use Rattle.score.specs.Limits.{most_tracks}
use Rattle.ways.specs.declared.way.Way.TheVariants.{Exact, Octave}
use Rattle.ways.specs.declared.way.AnyWay.{AnyWay}
use Rattle.ways.specs.declared.way.AnyWay.TheVariants.{Moved, Written}
use Rattle.reading.specs.declared.lines.Line.{Line}
use Rattle.reading.specs.declared.lines.ThemeLine.{ThemeLine}
use Rattle.words.specs.Words.{Read, got, bad, next, begins}
use Rattle.reading.specs.Reading.{theme_word, exact_word, octave_word, written_word, chord_word, fields, counted, tracks_right}
use Rattle.reading.specs.Reading.{chord_line, Theme, notes_of, theme_line}
use Rattle.reading.specs.Steps.{Filled, Themed}

pub begins_length : (word text : List ℕ) → begins word text ≡ true → length word ≤ length text
begins_length [] text e = zero-le
begins_length (w ∷ word) [] e = absurd (true≢false (sym e))
begins_length (w ∷ word) (b ∷ text) e = step (eqb w b) e (begins_length word text)
  where
    step : (t : Bool) → cond t (begins word text) false ≡ true → (begins word text ≡ true → length word ≤ length text) → suc (length word) ≤ suc (length text)
    step true k ih = suc-le-suc (ih k)
    step false k ih = absurd (true≢false (sym k))

-- a word at a place leaves room for what stands behind it
pub begins_within : (word text : List ℕ) (from : ℕ) → from ≤ length text → begins word (drop from text) ≡ true → from + length word ≤ length text
begins_within word text from h e = omega (arith, begins_length word (drop from text) e, length-drop from text)

-- ---- fields that were read, and how many they are

module _ {text : List ℕ} {limit base : ℕ} {into into' : List ℕ} {want : Read (List ℕ)} where
  pub filled_bad : Filled text limit base into None into' want → want ≡ bad
  filled_bad f = sym f.is

  module _ {line : Line} (f : Filled text limit base into (Some line) into' want) where
    pub filled_is : want ≡ got (take line.count (drop base into')) (drop line.next text)
    filled_is = sym f.is

    module _ (room : base + limit ≤ length into) where
      pub filled_length : length (take line.count (drop base into')) ≡ line.count
      filled_length = length-take-le line.count (drop base into') (omega (arith, length-drop base into', f.long, f.few))

      pub filled_counted : (allowed : ℕ → Bool)
          → counted allowed want ≡ cond (allowed line.count) (got (take line.count (drop base into')) (drop line.next text)) bad
      filled_counted allowed = rw (filled_is, filled_length)

-- ---- a chord line

-- as many cells as are allowed: one or more, and any number where there is no h
pub tracks_taken : (h k : ℕ) → 1 ≤ k → (h ≡ 0) ⊎ (k ≡ h) → tracks_right h k ≡ true
tracks_taken h k s (inl e) = rw (le-leb 1 k s, eq-eqb h 0 e)
tracks_taken h k s (inr e) = step (eqb h 0)
  where
    step : (t : Bool) → (leb 1 k && (t || eqb k h)) ≡ true
    step true = rw (le-leb 1 k s)
    step false = rw (le-leb 1 k s, eq-eqb k h e)

pub tracks_none : (h k : ℕ) → k ≡ 0 → tracks_right h k ≡ false
tracks_none h k e = rw (lt-leb 1 k (omega arith))

pub tracks_unlike : (h k : ℕ) → (h ≡ 0 → ⊥) → (k ≡ h → ⊥) → tracks_right h k ≡ false
tracks_unlike h k n m = rw (ne_eqb h 0 n, ne_eqb k h m) (step (leb 1 k))
  where
    step : (t : Bool) → (t && false) ≡ false
    step true = refl
    step false = refl

module _ (text : List ℕ) (from h base : ℕ) (into : List ℕ) (room : base + most_tracks ≤ length into) where
  abbrev Chorded : Option Line → List ℕ → Type 0
  Chorded r into' = Filled text most_tracks base into r into' (chord_line h (drop from text))

  pub chord_none : begins chord_word (drop from text) ≡ false → Chorded None into
  unfolding chord_line
  chord_none e = record { is = rw e; within = omega arith; few = omega arith; long = refl; before = refl }

  module _ (e : begins chord_word (drop from text) ≡ true) where
    on : chord_line h (drop from text) ≡ counted (tracks_right h) (fields true most_tracks (drop (from + 5) text))
    unfolding chord_line
    on = rw (e, drop-drop 5 from text)

    pub chord_bad : {into' : List ℕ}
        → Filled text most_tracks base into None into' (fields true most_tracks (drop (from + 5) text))
        → Chorded None into'
    chord_bad f = record { is = sym (on ∙ rw (filled_bad f)); within = omega arith; few = omega arith; long = f.long; before = f.before }

    module _ {line : Line} {into' : List ℕ}
        (f : Filled text most_tracks base into (Some line) into' (fields true most_tracks (drop (from + 5) text))) where
      pub chord_right : tracks_right h line.count ≡ true → Chorded (Some line) into'
      chord_right t =
          record {
            is = sym (on ∙ filled_counted f room (tracks_right h) ∙ rw t);
            within = f.within;
            few = f.few;
            long = f.long;
            before = f.before;
          }

      pub chord_wrong : tracks_right h line.count ≡ false → Chorded None into'
      chord_wrong t =
          record {
            is = sym (on ∙ filled_counted f room (tracks_right h) ∙ rw t);
            within = omega arith;
            few = omega arith;
            long = f.long;
            before = f.before;
          }

-- ---- the notes of a theme line

module _ (text : List ℕ) (from : ℕ) (way : AnyWay) (into : List ℕ) (room : most_notes ≤ length into) where
  abbrev sung : Read (List ℕ) → Read Theme
  sung q = next q (λ notes rest. got (record { way = way; notes = notes }) rest)

  pub notes_bad : {into' : List ℕ} → Filled text most_notes 0 into None into' (fields false most_notes (drop from text))
      → Themed text None into' (notes_of way (drop from text))
  notes_bad f = record { is = sym (ap (λ (q : Read (List ℕ)). sung (counted (leb 2) q)) (filled_bad f)); within = omega arith; few = omega arith }

  module _ {line : Line} {into' : List ℕ} (f : Filled text most_notes 0 into (Some line) into' (fields false most_notes (drop from text))) where
    pub notes_right : 2 ≤ line.count
        → Themed text (Some (record { way = way; count = line.count; next = line.next })) into' (notes_of way (drop from text))
    notes_right t =
        record { is = sym (ap sung (filled_counted f (omega arith) (leb 2)) ∙ rw (le-leb 2 line.count t)); within = f.within; few = f.few }

    pub notes_wrong : line.count < 2 → Themed text None into' (notes_of way (drop from text))
    notes_wrong t =
        record { is = sym (ap sung (filled_counted f (omega arith) (leb 2)) ∙ rw (lt-leb 2 line.count t)); within = omega arith; few = omega arith }

-- ---- a theme line

-- two words, one behind the other
begins_append : (word more text : List ℕ) → begins (word ++ more) text ≡ cond (begins word text) (begins more (drop (length word) text)) false
begins_append [] more text = refl
begins_append (w ∷ word) more [] = refl
begins_append (w ∷ word) more (b ∷ text) = step (eqb w b) (begins_append word more text)
  where
    step : (t : Bool) → begins (word ++ more) text ≡ cond (begins word text) (begins more (drop (length word) text)) false
        → cond t (begins (word ++ more) text) false ≡ cond (cond t (begins word text) false) (begins more (drop (length word) text)) false
    step true ih = ih
    step false ih = refl

module _ (text theme : List ℕ) where
  -- `theme`, and then a way's word
  abbrev Begins : List ℕ → Bool
  Begins word = begins (theme_word ++ word) text

  begins_both : (word : List ℕ) → Begins word ≡ true → (begins theme_word text ≡ true) × (begins word (drop 6 text) ≡ true)
  begins_both word e = step (begins theme_word text) (begins word (drop 6 text)) refl refl (sym (begins_append theme_word word text) ∙ e)
    where
      step : (s t : Bool) → begins theme_word text ≡ s → begins word (drop 6 text) ≡ t → cond s t false ≡ true → (begins theme_word text ≡ true) × (begins word (drop 6 text) ≡ true)
      step true true p q k = (p, q)
      step true false p q k = absurd (true≢false (sym k))
      step false t p q k = absurd (true≢false (sym k))

  begins_not : (word : List ℕ) → Begins word ≡ false → begins theme_word text ≡ true → begins word (drop 6 text) ≡ false
  begins_not word n e = ap (λ (s : Bool). cond s (begins word (drop 6 text)) false) (sym e) ∙ sym (begins_append theme_word word text) ∙ n

  pub theme_exact : Begins exact_word ≡ true → {r : Option ThemeLine}
      → Themed text r theme (notes_of (Moved Exact) (drop 11 text))
      → Themed text r theme (theme_line text)
  unfolding theme_line
  theme_exact e t = let b = begins_both exact_word e in rw (b.0, b.1) t

  module _ (n : Begins exact_word ≡ false) where
    pub theme_octave : Begins octave_word ≡ true → {r : Option ThemeLine}
        → Themed text r theme (notes_of (Moved Octave) (drop 12 text))
        → Themed text r theme (theme_line text)
    unfolding theme_line
    theme_octave e t = let b = begins_both octave_word e in rw (b.0, begins_not exact_word n b.0, b.1) t

    module _ (o : Begins octave_word ≡ false) where
      pub theme_written : Begins written_word ≡ true → {r : Option ThemeLine}
          → Themed text r theme (notes_of Written (drop 13 text))
          → Themed text r theme (theme_line text)
      unfolding theme_line
      theme_written e t =
          let b = begins_both written_word e in
          rw (b.0, begins_not exact_word n b.0, begins_not octave_word o b.0, b.1) t

      pub theme_none : Begins written_word ≡ false → Themed text None theme (theme_line text)
      unfolding theme_line
      theme_none w = record { is = step (begins theme_word text) refl; within = omega arith; few = omega arith }
        where
          step : (s : Bool) → begins theme_word text ≡ s → bad ≡ theme_line text
          step true e = rw (e, begins_not exact_word n e, begins_not octave_word o e, begins_not written_word w e)
          step false e = rw e
