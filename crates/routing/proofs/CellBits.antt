-- How the set of a column's tracks is made: cell by cell, each turn adds the cell's own bit at its place (`Added`). Of 16 cells it
-- stays below 2 ^ 16. In exact a cell is asked for one pitch (`exact_pitch`), in octave for one class (`octave_class`). Assumes
-- nothing.
use mathlib.Core.Path.{◌≡◌, refl, sym, ap, ◌∙◌}
use mathlib.Core.Bool.{Bool, true, false, cond, ◌&&◌}
use mathlib.Core.Logic.{◌⊎◌, inl, inr}
use mathlib.Core.List.{List, [], ◌∷◌, ◌++◌}
use Prim.Native.Nat.{ℕ, zero, suc, ◌+◌, ◌-◌, ◌*◌, ◌%◌, ◌^◌, ◌≤◌, ◌<◌, zero-le}
use native.Mathlib.Nat.{one-le-pow, pow-suc, zero-mul, not-suc-le-zero, le_of_suc-le-suc}
use native.Mathlib.Decide.{dec_le}
use native.Mathlib.Numerals.{add-one}
use native.Mathlib.Omega.{arith}
use lib.Dec.{leb, eqb}
use lib.ListN.{length, get_or, take, length-take}
use lib.Seq.{take-suc, take_all}
use mir.Val.{bool_byte}
use borrow.Author.Tests.{ne_eqb, le-leb, lt-leb}
use Rattle.theory.proofs.Masks.{one_shl}
use Rattle.score.specs.declared.quantities.Pitch.{Pitch}
use Rattle.score.specs.Limits.{most_tracks, highest_pitch}
use Rattle.ways.specs.declared.way.Way.TheVariants.{Exact, Octave}
use Rattle.ways.proofs.Holding.{eqb_same, holds_below, holds_above}
use Rattle.seeking.specs.Track.{cell_holds}
use Rattle.seeking.proofs.Tracks.{cell_rest, cell_exact, cell_octave}
use Rattle.routing.specs.TrackSets.{set_of}

pub bit_le : (b : Bool) → cond b 1 0 ≤ 1
bit_le true = omega arith
bit_le false = omega arith

-- a bit moved to its place stays within 32 bits
moved_bit : (b : Bool) (i : ℕ) → i < 32 → cond b 1 0 * 2 ^ i % 2 ^ 32 ≡ cond b 1 0 * 2 ^ i
moved_bit true i h = one_shl i 32 h ∙ omega arith
moved_bit false i h = rw zero-mul

-- a bit as code makes it of a bool
pub bit_made : (b : Bool) → bool_byte b ≡ cond b 1 0
bit_made true = refl
bit_made false = refl

-- a set below 2 ^ i, and one bit at place i
pub bit_added : {set i : ℕ} (b : Bool) → set < 2 ^ i → i < 32 → set + cond b 1 0 * 2 ^ i % 2 ^ 32 < 2 ^ (i + 1)
bit_added {set} {i} b low h =
    let next : 2 ^ (i + 1) ≡ 2 ^ i + 2 ^ i = rw (add-one, pow-suc) (omega arith) in
    omega (arith, moved_bit b i h, fit b, next)
  where
    fit : (b : Bool) → cond b 1 0 * 2 ^ i ≤ 2 ^ i
    fit true = omega arith
    fit false = omega arith

module _ (test : ℕ → Bool) where
  pub set_lt : (cells : List ℕ) (n : ℕ) → length cells ≤ n → set_of test cells < 2 ^ n
  unfolding set_of
  set_lt [] n l = one-le-pow n 2 (omega arith)
  set_lt (cell ∷ cells) zero l = absurd (not-suc-le-zero l)
  set_lt (cell ∷ cells) (suc n) l =
      omega (arith, set_lt cells n (le_of_suc-le-suc l), bit_le (test cell), pow-suc 2 n)

  -- one cell more behind
  pub set_more : (cells : List ℕ) (cell : ℕ) → set_of test (cells ++ (cell ∷ [])) ≡ set_of test cells + cond (test cell) 1 0 * 2 ^ length cells
  unfolding set_of
  set_more [] cell = omega arith
  set_more (x ∷ cells) cell = step (test cell) (set_more cells cell)
    where
      step : (b : Bool) {more : ℕ} → more ≡ set_of test cells + cond b 1 0 * 2 ^ length cells
          → cond (test x) 1 0 + more * 2 ≡ cond (test x) 1 0 + set_of test cells * 2 + cond b 1 0 * 2 ^ suc (length cells)
      step true e = omega (arith, e, pow-suc 2 (length cells))
      step false e = omega (arith, e)

  module _ (cells : List ℕ) where
    -- the bits of the first i cells are added up
    pub record Added (i set : ℕ) : Type 0 where
      pub within : i ≤ length cells
      pub so_far : set ≡ set_of test (take i cells)

    pub added_start : Added 0 0
    unfolding set_of
    added_start = record { within = zero-le; so_far = refl }

    module _ (few : length cells ≤ most_tracks) {i set : ℕ} (a : Added i set) (l : i < length cells) {one : ℕ}
        (e : one ≡ cond (test (get_or cells i 0)) 1 0) where
      -- the bit moved to its place stays within 32 bits
      place : one * 2 ^ i % 2 ^ 32 ≡ one * 2 ^ i
      place = ap (λ (n : ℕ). n * 2 ^ i % 2 ^ 32) e ∙ moved_bit (test (get_or cells i 0)) i (omega (arith, l, few)) ∙ ap (λ (n : ℕ). n * 2 ^ i) (sym e)

      sum : set + one * 2 ^ i % 2 ^ 32 ≡ set_of test (take (i + 1) cells)
      sum =
          let next : suc i ≡ i + 1 = omega arith in
          let long : length (take i cells) ≡ i = omega (arith, length-take i cells, l) in
          ap (λ (n : ℕ). set + n) (place ∙ ap (λ (n : ℕ). n * 2 ^ i) e)
          ∙ ap (λ (n : ℕ). n + cond (test (get_or cells i 0)) 1 0 * 2 ^ i) a.so_far
          ∙ ap (λ (n : ℕ). set_of test (take i cells) + cond (test (get_or cells i 0)) 1 0 * 2 ^ n) (sym long)
          ∙ sym (set_more (take i cells) (get_or cells i 0))
          ∙ ap (set_of test) (sym (take-suc cells i 0 l))
          ∙ ap (λ (n : ℕ). set_of test (take n cells)) next

      pub added_more : Added (i + 1) (set + one * 2 ^ i % 2 ^ 32)
      added_more = record { within = omega (arith, l); so_far = sum }

    pub added_end : {i set : ℕ} → Added i set → length cells ≤ i → set ≡ set_of test cells
    added_end {i} {set} a h = a.so_far ∙ ap (set_of test) (take_all i cells h)

-- ---- the cells that are one pitch, or of one class

-- two tests that say the same of each cell
pub set_agree : (f g : ℕ → Bool) (cells : List ℕ) → ((cell : ℕ) → f cell ≡ g cell) → set_of f cells ≡ set_of g cells
unfolding set_of
set_agree f g [] e = refl
set_agree f g (cell ∷ cells) e = rw (e cell, set_agree f g cells e)

none_set : (cells : List ℕ) → set_of (λ cell. false) cells ≡ 0
unfolding set_of
none_set [] = refl
none_set (cell ∷ cells) = rw (none_set cells)

module _ (code : ℕ) (p : Pitch) (column : List ℕ) where
  -- a pitch, 0 to 127, and the moved note: the same, or not
  cell_is : {t : ℕ} → t ≡ p.0 + code - 127 → 127 ≤ p.0 + code → p.0 + code ≤ 254 → (cell : ℕ) → eqb cell t ≡ cell_holds Exact code p cell
  cell_is {t} e low high cell = pick (dec_le cell highest_pitch)
    where
      pick : Dec (cell ≤ highest_pitch) → eqb cell t ≡ cell_holds Exact code p cell
      pick (yes l) =
          eqb_same cell t (cell + 127) (p.0 + code) (λ o. omega (arith, o, e, low)) (λ o. omega (arith, o, e, low)) ∙ cell_exact code p cell l
      pick (no l) =
          ne_eqb cell t (λ o. l (omega (arith, o, e, high))) ∙ cell_rest code p cell Exact (omega (arith, l))

  pub exact_pitch : {t : ℕ} → t ≡ p.0 + code - 127 → 127 ≤ p.0 + code → p.0 + code ≤ 254 → {set : ℕ}
      → set ≡ set_of (λ cell. eqb cell t) column → set ≡ set_of (cell_holds Exact code p) column
  exact_pitch {t} e low high s = s ∙ set_agree (λ cell. eqb cell t) (cell_holds Exact code p) column (cell_is e low high)

  -- the moved note is no pitch
  pub exact_none : (p.0 + code < 127) ⊎ ((127 ≤ p.0 + code) × (254 < p.0 + code)) → 0 ≡ set_of (cell_holds Exact code p) column
  exact_none e = sym (set_agree (cell_holds Exact code p) (λ cell. false) column (λ cell. sym (none cell e)) ∙ none_set column)
    where
      none : (cell : ℕ) → (p.0 + code < 127) ⊎ ((127 ≤ p.0 + code) × (254 < p.0 + code)) → false ≡ cell_holds Exact code p cell
      none cell (inl below) = holds_below code p (cell ∷ []) below
      none cell (inr above) = holds_above code p (cell ∷ []) above.1

  -- a pitch of the moved note's class, or not
  class_is : (cell : ℕ) → (leb cell highest_pitch && eqb (cell % 12) ((p.0 + code) % 12)) ≡ cell_holds Octave code p cell
  class_is cell = pick (dec_le cell highest_pitch)
    where
      pick : Dec (cell ≤ highest_pitch) → (leb cell highest_pitch && eqb (cell % 12) ((p.0 + code) % 12)) ≡ cell_holds Octave code p cell
      pick (yes l) = rw (le-leb cell highest_pitch l) (cell_octave code p cell l)
      pick (no l) = rw (lt-leb cell highest_pitch (omega (arith, l))) (cell_rest code p cell Octave (omega (arith, l)))

  pub octave_class : {set : ℕ} → set ≡ set_of (λ cell. leb cell highest_pitch && eqb (cell % 12) ((p.0 + code) % 12)) column
      → set ≡ set_of (cell_holds Octave code p) column
  octave_class s =
      s ∙ set_agree (λ cell. leb cell highest_pitch && eqb (cell % 12) ((p.0 + code) % 12)) (cell_holds Octave code p) column class_is
