-- What an input means, and how long its output is: a right input is the text of a request within the limits (`meaning_right`),
-- a faulty line has a number of at most 2,050 (`meaning_faulty`), and every output has room in `room` bytes (`output_few`).
-- Assumes nothing.
use mathlib.Core.Path.{◌≡◌, refl, sym, ap, ◌∙◌, subst}
use mathlib.Core.Bool.{Bool, true, false, cond}
use mathlib.Core.List.{List, [], ◌∷◌, ◌++◌}
use Prim.Native.Nat.{ℕ, zero, suc, ◌+◌, ◌*◌, ◌≤◌}
use native.Mathlib.Nat.{zero-mul, suc-mul}
use native.Mathlib.Omega.{arith}
use lib.Dec.{eqb}
use lib.ListN.{length, length-append}
use lib.Seq.{take_at, drop_at}
use Rattle.theory.specs.Lists.{join}
use Rattle.score.specs.Limits.{most_columns}
use Rattle.score.specs.Score.{cut, score_of}
use Rattle.asking.specs.Limits.{most_notes}
use Rattle.asking.specs.Asking.{Accepted}
use Rattle.words.specs.Words.{Read, got, bad}
use Rattle.reading.specs.Reading.{Theme, chord_line, theme_line}
use Rattle.reading.specs.Request.{Request, Chords, all, fault, above, on_chord, chords, Meaning, right, faulty, with_chords, with_theme, meaning}
use Rattle.listing.specs.Texts.{text_of, theme_text, Each, IsChord, Right}
use Rattle.telling.specs.Limits.{room}
use Rattle.telling.specs.Lines.{lines_of}
use Rattle.listing.specs.Answer.{answer, output}
use Rattle.listing.proofs.RightLines.{theme_is, chords_whole}
use Rattle.listing.proofs.Acceptance.{accepted_of, score_is}
use Rattle.telling.proofs.Searching.{lines_few}
use Rattle.telling.proofs.Widths.{refused_le}

-- ---- a right input

right_same : {q p : Request} → right q ≡ right p → q ≡ p
right_same e = cc

faulty_right : {n : ℕ} {q : Request} → faulty n ≡ right q → ⊥
faulty_right e = let z : ◌≡◌ {A = ℕ} 0 1 = cc in omega arith

-- what a request within the limits is, and its text
pub record IsText (input : List ℕ) (q : Request) : Type 0 where
  pub limits : Right q
  pub is : input ≡ text_of q

pub meaning_right : (input : List ℕ) {q : Request} → meaning input ≡ right q → IsText input q
unfolding meaning text_of
meaning_right input {q} e = step (theme_line input) refl e
  where
    scored : (theme : Theme) (rest : List ℕ) (r : Chords) → theme_line input ≡ got theme rest → chords most_columns 0 rest ≡ r → with_chords theme r ≡ right q → IsText input q
    scored theme rest (fault k) p c z = absurd (faulty_right z)
    scored theme rest (all []) p c z = absurd (faulty_right z)
    scored theme rest (all (column ∷ others)) p c z =
        let w = chords_whole 2047 rest c in
        let s = theme_is input p in
        subst (IsText input) (right_same z)
        (record {
          limits =
              record {
                theme = s.right;
                tracks = length column;
                tracks_some = w.tracks_some;
                tracks_few = w.tracks_few;
                columns_some = omega arith;
                columns_few = w.scores.few;
                columns = w.scores.right;
              };
          is = s.is ∙ ap (λ (x : List ℕ). theme_text theme ++ x) w.scores.is;
        })

    step : (r : Read Theme) → theme_line input ≡ r → with_theme r ≡ right q → IsText input q
    step bad p z = absurd (faulty_right z)
    step (got theme rest) p z = scored theme rest (chords most_columns 0 rest) p refl z

-- ---- a faulty line

fault_same : {j k : ℕ} → fault j ≡ fault k → j ≡ k
fault_same e = cc

all_fault : {cs : List (List ℕ)} {k : ℕ} → all cs ≡ fault k → ⊥
all_fault e = let z : ◌≡◌ {A = ℕ} 0 1 = cc in omega arith

pub fault_le : (left h : ℕ) (text : List ℕ) {k : ℕ} → chords left h text ≡ fault k → k ≤ left
unfolding chords
fault_le zero h text {k} e = step (eqb (length text) 0) e
  where
    step : (t : Bool) → cond t (all []) (fault 0) ≡ fault k → k ≤ 0
    step true z = absurd (all_fault z)
    step false z = let s : 0 ≡ k = fault_same z in omega arith
fault_le (suc left) h text {k} e = step (eqb (length text) 0) e (λ c rest n. fault_le left c rest)
  where
    more : (c : List ℕ) (r : Chords) → above c r ≡ fault k → ((n : ℕ) → r ≡ fault n → n ≤ left) → k ≤ suc left
    more c (all ds) z ih = absurd (all_fault z)
    more c (fault n) z ih = let s : suc n ≡ k = fault_same z in omega (arith, ih n refl)

    line : (r : Read (List ℕ)) → on_chord r (λ c rest. above c (chords left (length c) rest)) ≡ fault k
        → ((h : ℕ) (rest : List ℕ) (n : ℕ) → chords left h rest ≡ fault n → n ≤ left) → k ≤ suc left
    line bad z ih = let s : 0 ≡ k = fault_same z in omega arith
    line (got c rest) z ih = more c (chords left (length c) rest) z (λ n p. ih (length c) rest n p)

    step : (t : Bool) → cond t (all []) (on_chord (chord_line h text) (λ c rest. above c (chords left (length c) rest))) ≡ fault k
        → ((h : ℕ) (rest : List ℕ) (n : ℕ) → chords left h rest ≡ fault n → n ≤ left) → k ≤ suc left
    step true z ih = absurd (all_fault z)
    step false z ih = line (chord_line h text) z ih

faulty_same : {j k : ℕ} → faulty j ≡ faulty k → j ≡ k
faulty_same e = cc

right_faulty : {q : Request} {n : ℕ} → right q ≡ faulty n → ⊥
right_faulty e = let z : ◌≡◌ {A = ℕ} 0 1 = cc in omega arith

pub meaning_faulty : (input : List ℕ) {n : ℕ} → meaning input ≡ faulty n → (1 ≤ n) × (n ≤ 2050)
unfolding meaning
meaning_faulty input {n} e = step (theme_line input) e
  where
    scored : (theme : Theme) (rest : List ℕ) (r : Chords) → chords most_columns 0 rest ≡ r → with_chords theme r ≡ faulty n → (1 ≤ n) × (n ≤ 2050)
    scored theme rest (fault k) c z = let s : k + 2 ≡ n = faulty_same z in let l = fault_le most_columns 0 rest c in (omega arith, omega arith)
    scored theme rest (all []) c z = let s : 2 ≡ n = faulty_same z in (omega arith, omega arith)
    scored theme rest (all (column ∷ others)) c z = absurd (right_faulty z)

    step : (r : Read Theme) → with_theme r ≡ faulty n → (1 ≤ n) × (n ≤ 2050)
    step bad z = let s : 1 ≡ n = faulty_same z in (omega arith, omega arith)
    step (got theme rest) z = scored theme rest (chords most_columns 0 rest) refl z

-- ---- the score of a right input

join_length : (h : ℕ) (columns : List (List ℕ)) → Each (IsChord h) columns → length (join columns) ≡ length columns * h
join_length h [] r = sym (zero-mul h)
join_length h (c ∷ columns) r = omega (arith, length-append c (join columns), r.0.wide, join_length h columns r.1, suc-mul (length columns) h)

cut_join : (h : ℕ) (columns : List (List ℕ)) → Each (IsChord h) columns → cut (length columns) h (join columns) ≡ columns
cut_join h [] r = refl
cut_join h (c ∷ columns) r = rw (take_at c (join columns) h r.0.wide, drop_at c (join columns) h r.0.wide, cut_join h columns r.1)

module _ (q : Request) (r : Right q) where
  pub cells_long : length (join q.columns) ≡ length q.columns * r.tracks
  cells_long = join_length r.tracks q.columns r.columns

  -- its cells make its columns
  pub right_score : score_of (join q.columns) r.tracks ≡ q.columns
  right_score = score_is (length q.columns) r.tracks (join q.columns) r.tracks_some cells_long ∙ cut_join r.tracks q.columns r.columns

  -- and it is accepted by every search
  pub right_accepted : Accepted most_notes (join q.columns) r.tracks q.theme.notes
  right_accepted =
      accepted_of (length q.columns) r.tracks (join q.columns) r.tracks_some cells_long q.theme r.theme r.tracks_few r.columns_some r.columns_few
      (subst (Each (IsChord r.tracks)) (sym (cut_join r.tracks q.columns r.columns)) r.columns)

  pub right_few : length (lines_of q.theme.way q.columns q.theme.notes) ≤ room
  right_few =
      subst (λ (score : List (List ℕ)). length (lines_of q.theme.way score q.theme.notes) ≤ room) right_score
      (lines_few (join q.columns) r.tracks q.theme.notes right_accepted q.theme.way)

-- ---- the room

pub output_few : (input : List ℕ) → length (output input) ≤ room
unfolding output
output_few input = step (meaning input) refl
  where
    step : (m : Meaning) → meaning input ≡ m → length (answer m) ≤ room
    step (right q) e = right_few q (meaning_right input e).limits
    step (faulty n) e = let l = meaning_faulty input e in omega (arith, refused_le n (omega arith))
