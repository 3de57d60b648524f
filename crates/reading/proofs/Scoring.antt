-- All chord lines, read one after the other into a buffer: the columns so far stand there, and what is left of the text is
-- read from the place on. Laws: start, end, many, bad, more. Assumes nothing.
use mathlib.Core.Path.{◌≡◌, refl, sym, ap, ◌∙◌, subst}
use mathlib.Core.Bool.{Bool, true, false, cond, ◌&&◌, ◌||◌, true≢false}
use mathlib.Core.Logic.{⊎_elim}
use mathlib.Core.List.{List, [], ◌∷◌, ◌++◌, append_assoc, append-nil}
use Prim.Native.Nat.{ℕ, zero, suc, ◌+◌, ◌-◌, ◌*◌, ◌≤◌, ◌<◌}
use native.Mathlib.Nat.{zero-mul, suc-mul, add-mul, one-mul, sub-zero, suc-sub-suc, mul-le-mul, le_refl, eq-or-lt_of_le}
use native.Mathlib.Numerals.{add-one}
use native.Mathlib.Omega.{arith}
use lib.Dec.{eqb, leb}
use lib.ListN.{length, take, drop, length-append, length-drop}
use lib.Seq.{take-nil, take-take, drop-drop}
use borrow.Author.Tests.{eq-eqb, ne_eqb, eqb-true, leb-true}
use Rattle.std.specs.Prelude.{Some, None, Ok, Err}
use Rattle.score.specs.Limits.{most_tracks, most_columns, most_cells}
use Rattle.score.specs.Score.{cut}
use Rattle.score.proofs.Columns.{cut_length}
use Rattle.reading.specs.declared.lines.Line.{Line}
use Rattle.words.specs.Words.{Read, got, bad, begins}
use Rattle.reading.specs.Reading.{chord_word, fields, counted, tracks_right, chord_line}
use Rattle.reading.specs.Request.{Chords, all, fault, above, on_chord, chords}
use Rattle.reading.specs.Steps.{Filled, Scored}
use Rattle.words.proofs.Places.{bad_got}
use Rattle.reading.proofs.Lining.{filled_bad, filled_is, filled_length}

-- columns before what is read
abbrev pub above_all : List (List ℕ) → Chords → Chords
above_all cs (all ds) = all (cs ++ ds)
above_all cs (fault k) = fault (length cs + k)

above_nil : (r : Chords) → above_all [] r ≡ r
above_nil (all ds) = refl
above_nil (fault k) = ap fault (omega arith)

above_one : (cs : List (List ℕ)) (c : List ℕ) (r : Chords) → above_all cs (above c r) ≡ above_all (cs ++ (c ∷ [])) r
above_one cs c (all ds) = ap all (sym (append_assoc cs (c ∷ []) ds))
above_one cs c (fault k) = ap fault (omega (arith, length-append cs (c ∷ [])))

-- ---- columns of a buffer: one more, and what stands behind them

cut_more : (n h : ℕ) (cells : List ℕ) → cut (suc n) h cells ≡ cut n h cells ++ (take h (drop (n * h) cells) ∷ [])
cut_more zero h cells = rw zero-mul
cut_more (suc n) h cells =
    let e : h + n * h ≡ suc n * h = omega (arith, suc-mul n h) in
    ap (λ (l : List (List ℕ)). take h cells ∷ l) (cut_more n h (drop h cells) ∙ rw (drop-drop (n * h) h cells, e))

drop_take : (h k : ℕ) (a : List ℕ) → drop h (take k a) ≡ take (k - h) (drop h a)
drop_take zero k a = rw sub-zero
drop_take (suc h) zero a = let e : 0 - suc h ≡ 0 = omega arith in rw e
drop_take (suc h) (suc k) [] = sym (take-nil (suc k - suc h))
drop_take (suc h) (suc k) (x ∷ a) = rw suc-sub-suc (drop_take h k a)

pub cut_take : (n h k : ℕ) (a : List ℕ) → n * h ≤ k → cut n h (take k a) ≡ cut n h a
cut_take zero h k a l = refl
cut_take (suc n) h k a l =
    let e : suc n * h ≡ n * h + h = suc-mul n h in
    rw (take-take h k a (omega arith), drop_take h k a, cut_take n h (k - h) (drop h a) (omega arith))

cut_front : (n h : ℕ) (a b : List ℕ) → take (n * h) a ≡ take (n * h) b → cut n h a ≡ cut n h b
cut_front n h a b e = sym (cut_take n h (n * h) a (le_refl (n * h))) ∙ ap (cut n h) e ∙ cut_take n h (n * h) b (le_refl (n * h))

-- ---- the front of what is left of the text

chords_nil : (left h : ℕ) (text : List ℕ) → length text ≡ 0 → chords left h text ≡ all []
unfolding chords
chords_nil zero h text e = rw (eq-eqb (length text) 0 e)
chords_nil (suc left) h text e = rw (eq-eqb (length text) 0 e)

chords_many : (h : ℕ) (text : List ℕ) → (length text ≡ 0 → ⊥) → chords 0 h text ≡ fault 0
unfolding chords
chords_many h text n = rw (ne_eqb (length text) 0 n)

chords_on : (left h : ℕ) (text : List ℕ) → (length text ≡ 0 → ⊥)
    → chords (suc left) h text ≡ on_chord (chord_line h text) (λ c rest. above c (chords left (length c) rest))
unfolding chords
chords_on left h text n = rw (ne_eqb (length text) 0 n)

-- a line of which the values are counted has as many as the tracks ask for
counted_right : (allowed : ℕ → Bool) (r : Read (List ℕ)) {vs rest : List ℕ} → counted allowed r ≡ got vs rest → allowed (length vs) ≡ true
counted_right allowed (got ws end) {vs} {rest} e = step (allowed (length ws)) refl e
  where
    step : (t : Bool) → allowed (length ws) ≡ t → cond t (got ws end) bad ≡ got vs rest → allowed (length vs) ≡ true
    step true p q = let z : ws ≡ vs = cc in ap (λ (l : List ℕ). allowed (length l)) (sym z) ∙ p
    step false p q = absurd (bad_got q)
counted_right allowed bad e = absurd (bad_got e)

pub chord_tracks : (h : ℕ) (text : List ℕ) {c rest : List ℕ} → chord_line h text ≡ got c rest → tracks_right h (length c) ≡ true
unfolding chord_line
chord_tracks h text {c} {rest} e = step (begins chord_word text) e
  where
    step : (t : Bool) → cond t (counted (tracks_right h) (fields true most_tracks (drop 5 text))) bad ≡ got c rest → tracks_right h (length c) ≡ true
    step true q = counted_right (tracks_right h) (fields true most_tracks (drop 5 text)) q
    step false q = absurd (bad_got q)

pub tracks_some : (h k : ℕ) → tracks_right h k ≡ true → 1 ≤ k
tracks_some h k e = step (leb 1 k) refl e
  where
    step : (t : Bool) → leb 1 k ≡ t → (t && (eqb h 0 || eqb k h)) ≡ true → 1 ≤ k
    step true p q = leb-true 1 k p
    step false p q = absurd (true≢false (sym q))

pub tracks_same : (h k : ℕ) → tracks_right h k ≡ true → 1 ≤ h → k ≡ h
tracks_same h k e l = step (leb 1 k) (eqb k h) refl (rw (ne_eqb h 0 (λ z. omega arith)) at e)
  where
    step : (s t : Bool) → eqb k h ≡ t → (s && t) ≡ true → k ≡ h
    step true true p q = eqb-true k h p
    step true false p q = absurd (true≢false (sym q))
    step false t p q = absurd (true≢false (sym q))

-- the new count is the old one, or there are no columns yet
times_same : (columns tracks count : ℕ) → (1 ≤ columns → count ≡ tracks) → columns * tracks ≡ columns * count
times_same zero tracks count e = rw (zero-mul tracks, zero-mul count)
times_same (suc n) tracks count e = rw (e (omega arith))

cut_same : (columns tracks count : ℕ) (cells cells' : List ℕ) → (1 ≤ columns → count ≡ tracks) → take (columns * tracks) cells' ≡ take (columns * tracks) cells
    → cut columns tracks cells ≡ cut columns count cells'
cut_same zero tracks count cells cells' e t = refl
cut_same (suc n) tracks count cells cells' e t = rw (e (omega arith)) (cut_front (suc n) tracks cells cells' (sym t))

-- ---- chord lines under way

pub record Scoring (text : List ℕ) (from : ℕ) (cells₀ cells : List ℕ) (at tracks columns base : ℕ) : Type 0 where
  pub so_far : chords most_columns 0 (drop from text) ≡ above_all (cut columns tracks cells) (chords (most_columns - columns) tracks (drop at text))
  pub within : at ≤ length text
  pub few : columns ≤ most_columns
  pub narrow : tracks ≤ most_tracks
  pub some : 1 ≤ columns → 1 ≤ tracks
  pub based : base ≡ columns * tracks
  pub long : length cells ≡ length cells₀
  pub big : most_cells ≤ length cells₀

module _ (text : List ℕ) (from : ℕ) (cells₀ : List ℕ) where
  pub scoring_start : from ≤ length text → most_cells ≤ length cells₀ → Scoring text from cells₀ cells₀ from 0 0 0
  scoring_start h b =
      record {
        so_far = sym (above_nil (chords most_columns 0 (drop from text)));
        within = h;
        few = omega arith;
        narrow = omega arith;
        some = λ l. omega arith;
        based = refl;
        long = refl;
        big = b;
      }

  module _ {cells : List ℕ} {at tracks columns base : ℕ} (s : Scoring text from cells₀ cells at tracks columns base) where
    pub scoring_end : length text ≤ at
        → Scored (Ok (record { tracks = tracks; columns = columns })) cells (chords most_columns 0 (drop from text))
    scoring_end h =
        record {
          is =
              sym
              (s.so_far
              ∙ ap (above_all (cut columns tracks cells)) (chords_nil (most_columns - columns) tracks (drop at text) (omega (arith, length-drop at text)))
              ∙ ap all (append-nil (cut columns tracks cells)));
          few = s.few;
          narrow = s.narrow;
        }

    -- a fault here: as many right lines stand before it as there are columns
    faults : chords (most_columns - columns) tracks (drop at text) ≡ fault 0
        → Scored (Err (record { 0 = columns })) cells (chords most_columns 0 (drop from text))
    faults e =
        record {
          is = sym (s.so_far ∙ ap (above_all (cut columns tracks cells)) e ∙ ap fault (omega (arith, cut_length columns tracks cells)));
          few = s.few;
          narrow = omega arith;
        }

    module _ (h : at < length text) where
      left_some : length (drop at text) ≡ 0 → ⊥
      left_some e = omega (arith, length-drop at text)

      pub scoring_many : columns ≡ most_columns
          → Scored (Err (record { 0 = columns })) cells (chords most_columns 0 (drop from text))
      scoring_many e =
          let z : most_columns - columns ≡ 0 = omega arith in
          faults (rw z (chords_many tracks (drop at text) left_some))

      module _ (n : columns ≡ most_columns → ⊥) where
        pub scoring_less : columns < most_columns
        scoring_less = ⊎_elim (λ (e : columns ≡ most_columns). absurd (n e)) (λ l. l) (eq-or-lt_of_le s.few)

        -- the next line has room
        pub scoring_fits : base + most_tracks ≤ most_cells
        scoring_fits =
            let l = scoring_less in
            omega (arith, s.based, mul-le-mul {n₁ = columns} {m₁ = tracks} {n₂ = 2047} {m₂ = most_tracks} (omega arith) s.narrow)

        pub scoring_room : base + most_tracks ≤ length cells
        scoring_room = omega (arith, scoring_fits, s.long, s.big)

        on : chords (most_columns - columns) tracks (drop at text)
            ≡ on_chord (chord_line tracks (drop at text)) (λ c rest. above c (chords (most_columns - (columns + 1)) (length c) rest))
        on =
            let l = scoring_less in
            let e : most_columns - columns ≡ suc (most_columns - (columns + 1)) = omega arith in
            rw e (chords_on (most_columns - (columns + 1)) tracks (drop at text) left_some)

        pub scoring_bad : {cells' : List ℕ} → Filled text most_tracks base cells None cells' (chord_line tracks (drop at text))
            → Scored (Err (record { 0 = columns })) cells' (chords most_columns 0 (drop from text))
        scoring_bad f =
            let q = faults (on ∙ rw (filled_bad f)) in
            record { is = q.is; few = q.few; narrow = q.narrow }

        module _ {line : Line} {cells' : List ℕ} (f : Filled text most_tracks base cells (Some line) cells' (chord_line tracks (drop at text))) where
          abbrev chord : List ℕ
          chord = take line.count (drop base cells')

          chord_long : length chord ≡ line.count
          chord_long = filled_length f scoring_room

          right : tracks_right tracks line.count ≡ true
          right = subst (λ (k : ℕ). tracks_right tracks k ≡ true) chord_long (chord_tracks tracks (drop at text) (filled_is f))

          same : 1 ≤ columns → line.count ≡ tracks
          same l = tracks_same tracks line.count right (s.some l)

          base_is : base ≡ columns * line.count
          base_is = s.based ∙ times_same columns tracks line.count same

          one : chords (most_columns - columns) tracks (drop at text)
              ≡ above chord (chords (most_columns - (columns + 1)) line.count (drop line.next text))
          one = on ∙ rw (filled_is f, chord_long)

          columns_are : cut columns tracks cells ++ (chord ∷ []) ≡ cut (columns + 1) line.count cells'
          columns_are =
              rw (cut_same columns tracks line.count cells cells' same (rw s.based at f.before), add-one columns, cut_more columns line.count cells', base_is)

          pub scoring_more : Scoring text from cells₀ cells' line.next line.count (columns + 1) (base + line.count)
          scoring_more =
              let l = scoring_less in
              record {
                so_far =
                    s.so_far
                    ∙ ap (above_all (cut columns tracks cells)) one
                    ∙ above_one (cut columns tracks cells) chord (chords (most_columns - (columns + 1)) line.count (drop line.next text))
                    ∙ ap (λ (cs : List (List ℕ)). above_all cs (chords (most_columns - (columns + 1)) line.count (drop line.next text))) columns_are;
                within = f.within;
                few = omega arith;
                narrow = f.few;
                some = λ _. tracks_some tracks line.count right;
                based = omega (arith, base_is, add-mul columns 1 line.count, one-mul line.count);
                long = f.long ∙ s.long;
                big = s.big;
              }
