-- The interval sets: a bit is 0 exactly where the interval is there (`set_bit`), the bits from 12 on are 0, and entry k of
-- the sets belongs to column k and the next with a pitch; where one of them has none it is 4095. Assumes nothing.
use mathlib.Core.Path.{◌≡◌, refl, sym, ap, ◌∙◌, subst}
use mathlib.Core.Bool.{Bool, true, false, cond}
use mathlib.Core.Logic.{◌↔◌}
use mathlib.Core.List.Memᴰ.{not-nil}
use mathlib.Core.List.{List, [], ◌∷◌, map, Memᴰ as In}
use Prim.Native.Nat.{ℕ, zero, suc, ◌+◌, ◌-◌, ◌≤◌, ◌<◌}
use native.Mathlib.Nat.{suc-add, add-zero}
use native.Mathlib.Omega.{arith}
use lib.Dec.{eqb}
use lib.ListN.{length, get_or, take, drop, length-map}
use lib.Seq.{get_or-drop, get_or-take, ext_get_or, length-take-le}
use borrow.Author.Tests.{eqb-true, eq-eqb}
use Rattle.theory.specs.Bits.{bit}
use Rattle.theory.specs.Lists.{some}
use Rattle.theory.proofs.Bits.{bit_number, number_lt, bit_high, bit_ext, bit_ones}
use Rattle.theory.proofs.Lists.{map_at, some_in, in_some}
use Rattle.score.specs.Limits.{highest_set, table_words}
use Rattle.score.specs.declared.quantities.Pitch.{Pitch}
use Rattle.score.specs.declared.quantities.Interval.{Interval}
use Rattle.score.specs.Score.{pitches, heard, has_empty, heard_of, heard_from}
use Rattle.score.specs.Sets.{semitones, IsInterval, interval, Apart, apart, interval_set, next_heard, sets}
use Rattle.score.proofs.Pitches.{pitch_le}
use Rattle.score.proofs.Heard.{empty_none, heard_length, number_at, number_rises, full_heard, full_drop, heard_full}
use Rattle.score.proofs.Intervals.{interval_is, interval_only}

-- ---- what is computed of two columns is what is said of them in integers

abbrev near : (b : List ℕ) (q : ℕ) (x : Pitch) → Bool
near b q x = some (λ y. eqb (interval x y).0 q) (pitches b)

pub apart_true : (a b : List ℕ) (d : Interval) → apart a b d.0 ≡ true → Apart a b d
unfolding apart
apart_true a b d e =
    let f = some_in (near b d.0) (pitches a) e in
    let g = some_in (λ y. eqb (interval f.0 y).0 d.0) (pitches b) f.2 in
    let is : interval f.0 g.0 ≡ d = ap semitones (eqb-true _ _ g.2) in
    record { x = f.0; y = g.0; here = f.1; next = g.1; far = subst (IsInterval f.0 g.0) is (interval_is f.0 g.0 (pitch_le a f.1)) }

pub true_apart : (a b : List ℕ) (d : Interval) → Apart a b d → apart a b d.0 ≡ true
unfolding apart
true_apart a b d p =
    let e : (interval p.x p.y).0 ≡ d.0 = sym (interval_only (pitch_le a p.here) p.far) in
    in_some (near b d.0) (pitches a) p.here
    (in_some (λ y. eqb (interval p.x y).0 d.0) (pitches b) p.next (eq-eqb _ _ e))

-- ---- the bits of a set

-- the bit for a test: 0 where it is passed
abbrev absent : Bool → ℕ
absent t = cond t 0 1

absent_lt : (t : Bool) → absent t < 2
absent_lt true = omega arith
absent_lt false = omega arith

absent_zero : (t : Bool) → absent t ≡ 0 → t ≡ true
absent_zero true e = refl
absent_zero false e = absurd (omega arith)

pub set_number : (a b : List ℕ) (q : ℕ) → q < 12 → bit (interval_set a b) q ≡ cond (apart a b q) 0 1
unfolding interval_set
set_number a b q h = bit_number 12 (λ k. absent (apart a b k)) (λ k. absent_lt (apart a b k)) q h

pub set_lt : (a b : List ℕ) → interval_set a b < table_words
unfolding interval_set
set_lt a b = number_lt 12 (λ k. absent (apart a b k)) (λ k. absent_lt (apart a b k))

pub set_high : (a b : List ℕ) (q : ℕ) → 12 ≤ q → bit (interval_set a b) q ≡ 0
set_high a b q h = bit_high (interval_set a b) q 12 (set_lt a b) h

pub set_bit : (a b : List ℕ) (d : Interval) → d.0 < 12 → (bit (interval_set a b) d.0 ≡ 0) ↔ Apart a b d
set_bit a b d h =
    let e : bit (interval_set a b) d.0 ≡ absent (apart a b d.0) = set_number a b d.0 h in
    (λ z. apart_true a b d (absent_zero (apart a b d.0) (sym e ∙ z)), λ p. e ∙ ap absent (true_apart a b d p))

-- no interval at all
pub set_none : (a b : List ℕ) → ((d : Interval) → Apart a b d → ⊥) → interval_set a b ≡ highest_set
set_none a b f =
    bit_ext 12 (interval_set a b) highest_set (set_lt a b) (omega arith)
    (λ q h. set_number a b q h ∙ step q (apart a b q) refl ∙ sym (bit_ones q 12 h))
  where
    step : (q : ℕ) (t : Bool) → apart a b q ≡ t → absent t ≡ 1
    step q true e = absurd (f (semitones q) (apart_true a b (semitones q) e))
    step q false e = refl

-- ---- the sets of a score

pub sets_length : (score : List (List ℕ)) → length (sets score) ≡ length score - 1
sets_length [] = refl
sets_length (a ∷ []) = refl
sets_length (a ∷ b ∷ score) = omega (arith, sets_length (b ∷ score))

pub sets_at : (score : List (List ℕ)) (k : ℕ) → k + 1 < length score
    → get_or (sets score) k 0 ≡ interval_set (get_or score k []) (next_heard (drop (k + 1) score))
sets_at [] k h = absurd (omega arith)
sets_at (a ∷ []) k h = absurd (omega arith)
sets_at (a ∷ b ∷ score) zero h = refl
sets_at (a ∷ b ∷ score) (suc k) h = rw suc-add (sets_at (b ∷ score) k (omega arith))

pub sets_lt : (score : List (List ℕ)) (k : ℕ) → get_or (sets score) k 0 < table_words
sets_lt [] k = omega arith
sets_lt (a ∷ []) k = omega arith
sets_lt (a ∷ b ∷ score) zero = set_lt a (next_heard (b ∷ score))
sets_lt (a ∷ b ∷ score) (suc k) = sets_lt (b ∷ score) k

-- the next column, where none is empty
pub full_sets_at : (score : List (List ℕ)) → has_empty score ≡ false → (k : ℕ) → k + 1 < length score
    → get_or (sets score) k 0 ≡ interval_set (get_or score k []) (get_or score (k + 1) [])
full_sets_at score e k h =
    let f : heard_of (drop (k + 1) score) ≡ drop (k + 1) score = full_heard (drop (k + 1) score) (full_drop (k + 1) score e) in
    rw (sets_at score k h, f, get_or-drop (k + 1) score 0 [], add-zero)

-- a column without a pitch has no interval
pub set_empty : (a b : List ℕ) → heard a ≡ false → interval_set a b ≡ highest_set
set_empty a b e = set_none a b (λ d p. not-nil (subst (In p.x) (empty_none a e) p.here))

pub set_alone : (a b : List ℕ) → heard b ≡ false → interval_set a b ≡ highest_set
set_alone a b e = set_none a b (λ d p. not-nil (subst (In p.y) (empty_none b e) p.next))

-- the entries of the columns with a pitch, without the last of them, are the sets of the score without its empty columns
pub heard_sets : (score : List (List ℕ)) → map (λ k. get_or (sets score) (k - 1) 0) (take (length (heard_of score) - 1) (heard_from 1 score)) ≡ sets (heard_of score)
heard_sets score = ext_get_or 0 (map entry front) (sets (heard_of score)) long at
  where
    entry : ℕ → ℕ
    entry k = get_or (sets score) (k - 1) 0

    front : List ℕ
    front = take (length (heard_of score) - 1) (heard_from 1 score)

    front_long : length front ≡ length (heard_of score) - 1
    front_long = length-take-le (length (heard_of score) - 1) (heard_from 1 score) (omega (arith, heard_length 1 score))

    long : length (map entry front) ≡ length (sets (heard_of score))
    long = length-map front entry ∙ front_long ∙ sym (sets_length (heard_of score))

    at : (i : ℕ) → i < length (map entry front) → get_or (map entry front) i 0 ≡ get_or (sets (heard_of score)) i 0
    at i l =
        let q : suc i < length (heard_of score) = omega (arith, length-map front entry, front_long) in
        let x = get_or (heard_from 1 score) i 0 in
        let a = number_at 1 score i (omega arith) in
        let b = number_at 1 score (suc i) q in
        let up : x < get_or (heard_from 1 score) (suc i) 0 = number_rises 1 score i (suc i) (omega arith) q in
        let more : x - 1 + 1 ≡ suc (x - 1) = omega arith in
        let next : i + 1 ≡ suc i = omega arith in
        let here : get_or (map entry front) i 0 ≡ entry x =
        map_at entry front i 0 0 (omega (arith, front_long)) ∙ ap entry (get_or-take (length (heard_of score) - 1) (heard_from 1 score) i 0 (omega arith)) in
        let there : get_or (heard_of (drop (suc (x - 1)) score)) 0 [] ≡ get_or (heard_of score) (i + 1) [] =
        rw (a.past, get_or-drop (suc i) (heard_of score) 0 [], add-zero, next) in
        here ∙ sets_at score (x - 1) (omega (arith, b.within)) ∙ rw (more, a.named, there)
        (sym (full_sets_at (heard_of score) (heard_full score) i (omega arith)))
