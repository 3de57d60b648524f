-- Lines that were read are right, and are the text that stands there: a chord line, a theme line, all chord lines.
-- Assumes nothing.
use mathlib.Core.Path.{◌≡◌, refl, sym, ap, ◌∙◌, subst}
use mathlib.Core.Logic.{◌⊎◌, inl, inr}
use mathlib.Core.Bool.{Bool, true, false, cond, true≢false}
use mathlib.Core.List.{List, [], ◌∷◌, ◌++◌, map, append_assoc}
use Prim.Native.Nat.{ℕ, zero, suc, ◌≤◌}
use native.Mathlib.Omega.{arith}
use lib.Dec.{leb, eqb}
use lib.ListN.{length, drop}
use lib.Seq.{drop-drop}
use borrow.Author.Tests.{leb-true, eqb-true}
use Rattle.theory.specs.Lists.{join}
use Rattle.asking.specs.Limits.{most_notes}
use Rattle.score.specs.Limits.{most_tracks}
use Rattle.ways.specs.declared.way.Way.TheVariants.{Exact, Octave}
use Rattle.ways.specs.declared.way.AnyWay.{AnyWay}
use Rattle.ways.specs.declared.way.AnyWay.TheVariants.{Moved, Written}
use Rattle.words.specs.Words.{Read, got, bad, next, begins}
use Rattle.reading.specs.Reading.{theme_word, exact_word, octave_word, written_word, chord_word, fields, counted, tracks_right, chord_line, Theme, notes_of, theme_line}
use Rattle.reading.specs.Request.{Chords, all, fault, above, on_chord, chords}
use Rattle.listing.specs.Texts.{chord_text, theme_text, way_word, fields_text, Each, IsChord, IsTheme}
use Rattle.words.proofs.Places.{bad_got, got_value, got_rest}
use Rattle.reading.proofs.Scoring.{tracks_some, tracks_same}
use Rattle.listing.proofs.Rights.{Fielded, fields_right}

-- a word that begins the text is its front
pub begins_is : (word text : List ℕ) → begins word text ≡ true → text ≡ word ++ drop (length word) text
begins_is [] text e = refl
begins_is (w ∷ word) [] e = absurd (true≢false (sym e))
begins_is (w ∷ word) (b ∷ text) e = step (eqb w b) refl e (begins_is word text)
  where
    step : (t : Bool) → eqb w b ≡ t → cond t (begins word text) false ≡ true → (begins word text ≡ true → text ≡ word ++ drop (length word) text)
        → b ∷ text ≡ w ∷ (word ++ drop (length word) text)
    step true p k ih = ap (λ (x : ℕ). x ∷ text) (sym (eqb-true w b p)) ∙ ap (λ (x : List ℕ). w ∷ x) (ih k)
    step false p k ih = absurd (true≢false (sym k))

-- fields whose count is allowed
pub record Counted (allowed : ℕ → Bool) (rests : Bool) (left : ℕ) (text values rest : List ℕ) : Type 0 where
  pub fielded : Fielded rests left text values rest
  pub count : allowed (length values) ≡ true

counted_fields : (allowed : ℕ → Bool) (rests : Bool) (left : ℕ) (text : List ℕ) {values rest : List ℕ} → counted allowed (fields rests left text) ≡ got values rest
    → Counted allowed rests left text values rest
counted_fields allowed rests left text {values} {rest} e = step (fields rests left text) refl e
  where
    here : (vs end : List ℕ) (t : Bool) → fields rests left text ≡ got vs end → allowed (length vs) ≡ t → cond t (got vs end) bad ≡ got values rest → Counted allowed rests left text values rest
    here vs end true p q k =
        subst (λ (ws : List ℕ). Counted allowed rests left text ws rest) (got_value k)
        (subst (λ (x : List ℕ). Counted allowed rests left text vs x) (got_rest k) (record { fielded = fields_right rests left text p; count = q }))
    here vs end false p q k = absurd (bad_got k)

    step : (r : Read (List ℕ)) → fields rests left text ≡ r → counted allowed r ≡ got values rest → Counted allowed rests left text values rest
    step bad p k = absurd (bad_got k)
    step (got vs end) p k = here vs end (allowed (length vs)) p refl k

-- ---- a chord line

pub record Chorded (h : ℕ) (text column rest : List ℕ) : Type 0 where
  pub tracks : tracks_right h (length column) ≡ true
  pub few : length column ≤ most_tracks
  pub right : IsChord (length column) column
  pub is : text ≡ chord_text column ++ rest

pub chord_is : (h : ℕ) (text : List ℕ) {column rest : List ℕ} → chord_line h text ≡ got column rest → Chorded h text column rest
unfolding chord_line
chord_is h text {column} {rest} e = step (begins chord_word text) refl e
  where
    step : (t : Bool) → begins chord_word text ≡ t → cond t (counted (tracks_right h) (fields true most_tracks (drop 5 text))) bad ≡ got column rest → Chorded h text column rest
    step true p k =
        let c = counted_fields (tracks_right h) true most_tracks (drop 5 text) k in
        record {
          tracks = c.count;
          few = c.fielded.few;
          right = record { wide = refl; cells = c.fielded.right };
          is = begins_is chord_word text p ∙ ap (λ (x : List ℕ). chord_word ++ x) c.fielded.is;
        }
    step false p k = absurd (bad_got k)

-- ---- a theme line

pub record Sung (text : List ℕ) (theme : Theme) (rest : List ℕ) : Type 0 where
  pub right : IsTheme theme
  pub is : text ≡ theme_text theme ++ rest

notes_is : (way : AnyWay) (text : List ℕ) {theme : Theme} {rest : List ℕ} → notes_of way text ≡ got theme rest
    → IsTheme theme × (theme.way ≡ way) × (text ≡ fields_text theme.notes ++ rest)
notes_is way text {theme} {rest} e = step (counted (leb 2) (fields false most_notes text)) refl e
  where
    step : (r : Read (List ℕ)) → counted (leb 2) (fields false most_notes text) ≡ r → next r (λ notes end. got (record { way = way; notes = notes }) end) ≡ got theme rest
        → IsTheme theme × (theme.way ≡ way) × (text ≡ fields_text theme.notes ++ rest)
    step bad p k = absurd (bad_got k)
    step (got notes end) p k =
        let c = counted_fields (leb 2) false most_notes text p in
        let t : IsTheme (record { way = way; notes = notes })
        = record { notes_some = leb-true 2 (length notes) c.count; notes_few = c.fielded.few; notes = c.fielded.right } in
        subst (λ (u : Theme). IsTheme u × (u.way ≡ way) × (text ≡ fields_text u.notes ++ rest)) (got_value k)
        (t, refl, c.fielded.is ∙ ap (λ (x : List ℕ). fields_text notes ++ x) (got_rest k))

theme_part : (way : AnyWay) (text : List ℕ) {behind : List ℕ} {theme : Theme} {rest : List ℕ} → begins theme_word text ≡ true → begins (way_word way) (drop 6 text) ≡ true
    → drop (length (way_word way)) (drop 6 text) ≡ behind → notes_of way behind ≡ got theme rest → Sung text theme rest
theme_part way text {behind} {theme} {rest} p q d k =
    let n = notes_is way behind k in
    record {
      right = n.0;
      is =
          begins_is theme_word text p
          ∙ ap (λ (x : List ℕ). theme_word ++ x)
          (begins_is (way_word way) (drop 6 text) q
          ∙ ap (λ (x : List ℕ). way_word way ++ x) (d ∙ n.2)
          ∙ ap (λ (w : AnyWay). way_word w ++ (fields_text theme.notes ++ rest)) (sym n.1)
          ∙ sym (append_assoc (way_word theme.way) (fields_text theme.notes) rest));
    }

pub theme_is : (text : List ℕ) {theme : Theme} {rest : List ℕ} → theme_line text ≡ got theme rest → Sung text theme rest
unfolding theme_line
theme_is text {theme} {rest} e =
    step (begins theme_word text) (begins exact_word (drop 6 text)) (begins octave_word (drop 6 text)) (begins written_word (drop 6 text)) refl refl refl refl e
  where
    step : (s t u v : Bool) → begins theme_word text ≡ s → begins exact_word (drop 6 text) ≡ t → begins octave_word (drop 6 text) ≡ u → begins written_word (drop 6 text) ≡ v
        → cond s
        (cond t (notes_of (Moved Exact) (drop 11 text)) (cond u (notes_of (Moved Octave) (drop 12 text)) (cond v (notes_of Written (drop 13 text)) bad))) bad ≡ got theme rest
        → Sung text theme rest
    step true true u v p q r w k = theme_part (Moved Exact) text p q (drop-drop 5 6 text) k
    step true false true v p q r w k = theme_part (Moved Octave) text p r (drop-drop 6 6 text) k
    step true false false true p q r w k = theme_part Written text p w (drop-drop 7 6 text) k
    step true false false false p q r w k = absurd (bad_got k)
    step false t u v p q r w k = absurd (bad_got k)

-- ---- all chord lines

length_nil : (text : List ℕ) → length text ≡ 0 → text ≡ []
length_nil [] e = refl
length_nil (b ∷ text) e = absurd (omega arith)

fault_all : {k : ℕ} {cs : List (List ℕ)} → fault k ≡ all cs → ⊥
fault_all e = let z : ◌≡◌ {A = ℕ} 0 1 = cc in omega arith

all_same : {cs ds : List (List ℕ)} → all cs ≡ all ds → cs ≡ ds
all_same e = cc

-- chords of h cells, and their text
pub record Scores (left h : ℕ) (text : List ℕ) (columns : List (List ℕ)) : Type 0 where
  pub few : length columns ≤ left
  pub right : Each (IsChord h) columns
  pub is : text ≡ join (map chord_text columns)

-- one chord line and then the others
pub record First (left h : ℕ) (text : List ℕ) (columns : List (List ℕ)) : Type 0 where
  pub column : List ℕ
  pub others : List (List ℕ)
  pub behind : List ℕ
  pub all_are : columns ≡ column ∷ others
  pub chorded : Chorded h text column behind
  pub rest : chords left (length column) behind ≡ all others

chords_nil_is : {columns : List (List ℕ)} (left h : ℕ) (text : List ℕ) → length text ≡ 0 → all [] ≡ all columns → Scores left h text columns
chords_nil_is {columns} left h text z k =
    subst (λ (cs : List (List ℕ)). Scores left h text cs) (all_same k) (record { few = omega arith; right = tt; is = length_nil text z })

-- the columns are none, or a first one and others
pub chords_split : (left h : ℕ) (text : List ℕ) {columns : List (List ℕ)} → chords (suc left) h text ≡ all columns
    → ((length text ≡ 0) × (columns ≡ [])) ⊎ First left h text columns
unfolding chords
chords_split left h text {columns} e = step (eqb (length text) 0) refl e
  where
    more : (c behind : List ℕ) (r : Chords) → chord_line h text ≡ got c behind → chords left (length c) behind ≡ r → above c r ≡ all columns → First left h text columns
    more c behind (fault k) p q z = absurd (fault_all z)
    more c behind (all ds) p q z =
        record { column = c; others = ds; behind = behind; all_are = sym (all_same z); chorded = chord_is h text p; rest = q }

    line : (r : Read (List ℕ)) → chord_line h text ≡ r → on_chord r (λ c behind. above c (chords left (length c) behind)) ≡ all columns → First left h text columns
    line bad p z = absurd (fault_all z)
    line (got c behind) p z = more c behind (chords left (length c) behind) p refl z

    step : (t : Bool) → eqb (length text) 0 ≡ t → cond t (all []) (on_chord (chord_line h text) (λ c behind. above c (chords left (length c) behind))) ≡ all columns
        → ((length text ≡ 0) × (columns ≡ [])) ⊎ First left h text columns
    step true p k = inl (eqb-true (length text) 0 p, sym (all_same k))
    step false p k = inr (line (chord_line h text) refl k)

-- a first chord of h cells, before others of as many
scores_more : {left h : ℕ} {text : List ℕ} {columns : List (List ℕ)} (f : First left h text columns) → Scores left (length f.column) f.behind f.others
    → Scores (suc left) (length f.column) text columns
scores_more {left} {h} {text} f s =
    subst (λ (cs : List (List ℕ)). Scores (suc left) (length f.column) text cs) (sym f.all_are)
    (record {
      few = omega (arith, s.few);
      right = (f.chorded.right, s.right);
      is = f.chorded.is ∙ ap (λ (x : List ℕ). chord_text f.column ++ x) s.is;
    })

pub chords_is : (left h : ℕ) (text : List ℕ) {columns : List (List ℕ)} → 1 ≤ h → chords left h text ≡ all columns → Scores left h text columns
unfolding chords
chords_is zero h text {columns} l e = step (eqb (length text) 0) refl e
  where
    step : (t : Bool) → eqb (length text) 0 ≡ t → cond t (all []) (fault 0) ≡ all columns → Scores 0 h text columns
    step true p k = chords_nil_is 0 h text (eqb-true (length text) 0 p) k
    step false p k = absurd (fault_all k)
chords_is (suc left) h text {columns} l e = step (chords_split left h text e) (λ n behind others. chords_is left n behind)
  where
    step : ((length text ≡ 0) × (columns ≡ [])) ⊎ First left h text columns
        → ((n : ℕ) (behind : List ℕ) (others : List (List ℕ)) → 1 ≤ n → chords left n behind ≡ all others → Scores left n behind others) → Scores (suc left) h text columns
    step (inl s) ih = chords_nil_is (suc left) h text s.0 (ap all (sym s.1))
    step (inr f) ih =
        let same : length f.column ≡ h = tracks_same h (length f.column) f.chorded.tracks l in
        subst (λ (n : ℕ). Scores (suc left) n text columns) same
        (scores_more f (ih (length f.column) f.behind f.others (omega arith) f.rest))

-- where there is a chord, the first fixes how many cells all have
pub record Whole (left : ℕ) (text column : List ℕ) (others : List (List ℕ)) : Type 0 where
  pub tracks_some : 1 ≤ length column
  pub tracks_few : length column ≤ most_tracks
  pub scores : Scores left (length column) text (column ∷ others)

cons_head : {c d : List ℕ} {cs ds : List (List ℕ)} → c ∷ cs ≡ d ∷ ds → c ≡ d
cons_head e = cc

nil_cons : {c : List ℕ} {cs : List (List ℕ)} → c ∷ cs ≡ [] → ⊥
nil_cons e = let z : ◌≡◌ {A = ℕ} 0 1 = cc in omega arith

pub chords_whole : (left : ℕ) (text : List ℕ) {c : List ℕ} {cs : List (List ℕ)} → chords (suc left) 0 text ≡ all (c ∷ cs) → Whole (suc left) text c cs
chords_whole left text {c} {cs} e = step (chords_split left 0 text e)
  where
    step : ((length text ≡ 0) × (c ∷ cs ≡ [])) ⊎ First left 0 text (c ∷ cs) → Whole (suc left) text c cs
    step (inl s) = absurd (nil_cons s.1)
    step (inr f) =
        let some : 1 ≤ length f.column = tracks_some 0 (length f.column) f.chorded.tracks in
        let same : c ≡ f.column = cons_head f.all_are in
        let s = scores_more f (chords_is left (length f.column) f.behind some f.rest) in
        record {
          tracks_some = rw same some;
          tracks_few = rw same f.chorded.few;
          scores = subst (λ (n : ℕ). Scores (suc left) n text (c ∷ cs)) (ap length (sym same)) s;
        }
