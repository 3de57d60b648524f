-- The lowest track that holds a note: how it is found, and what it is: a column holds a note exactly where one of its cells does
-- (`holds_cells`), and then the lowest track is that of the first (`lowest_there`). Assumes nothing.
use mathlib.Core.Path.{◌≡◌, refl, sym, ap, ◌∙◌}
use mathlib.Core.Bool.{Bool, true, false, cond}
use mathlib.Core.List.{List, [], ◌∷◌}
use Prim.Native.Nat.{ℕ, ◌+◌, ◌-◌, ◌%◌, ◌≤◌, ◌<◌}
use native.Mathlib.Omega.{arith}
use lib.Dec.{leb, ltb, eqb}
use lib.ListN.{length, get_or}
use borrow.Author.Tests.{le-leb, lt-leb, lt-ltb, le-ltb, ltb-true}
use Rattle.theory.specs.Lists.{some, first}
use Rattle.theory.proofs.Lists.{first_before, first_there, some_first}
use Rattle.score.specs.declared.quantities.Pitch.{Pitch}
use Rattle.score.specs.Limits.{highest_pitch}
use Rattle.score.specs.Score.{pitch, pitches}
use Rattle.ways.specs.declared.way.Way.{Way}
use Rattle.ways.specs.declared.way.Way.TheVariants.{Exact, Octave}
use Rattle.ways.specs.Way.{holds}
use Rattle.seeking.specs.Track.{cell_holds, lowest_track}

-- ---- one cell

-- a rest is none; a pitch is by its number, or by its class
only : (b : Bool) → b ≡ cond b true false
only true = refl
only false = refl

module _ (code : ℕ) (p : Pitch) (cell : ℕ) where
  pub cell_rest : (way : Way) → highest_pitch < cell → false ≡ cell_holds way code p cell
  unfolding holds
  cell_rest Exact h = rw (lt-leb cell highest_pitch h)
  cell_rest Octave h = rw (lt-leb cell highest_pitch h)

  pub cell_exact : cell ≤ highest_pitch → eqb (cell + 127) (p.0 + code) ≡ cell_holds Exact code p cell
  unfolding holds
  cell_exact h = rw (le-leb cell highest_pitch h) (only (eqb (cell + 127) (p.0 + code)))

  pub cell_octave : cell ≤ highest_pitch → eqb (cell % 12) ((p.0 + code) % 12) ≡ cell_holds Octave code p cell
  unfolding holds
  cell_octave h = rw (le-leb cell highest_pitch h) (only (eqb (cell % 12) ((p.0 + code) % 12)))

-- ---- by the first cell that holds the note

module _ (way : Way) (code : ℕ) (p : Pitch) (column : List ℕ) {k : ℕ} (e : k ≡ first (cell_holds way code p) column) where
  pub track_found : k < length column → k + 1 ≡ lowest_track way code p column
  unfolding lowest_track
  track_found h = rw (← e, lt-ltb k (length column) h)

  pub track_none : length column ≤ k → 0 ≡ lowest_track way code p column
  unfolding lowest_track
  track_none h = rw (← e, le-ltb k (length column) h)

-- ---- a column holds a note exactly where one of its cells does

some_pitches : (test : Pitch → Bool) (column : List ℕ) → some test (pitches column) ≡ some (λ cell. some test (pitches (cell ∷ []))) column
some_pitches test [] = refl
some_pitches test (cell ∷ column) = step (leb cell highest_pitch) (some_pitches test column)
  where
    once : (b c : Bool) → cond b true c ≡ cond (cond b true false) true c
    once true c = refl
    once false c = refl

    step : (t : Bool) → some test (pitches column) ≡ some (λ cell. some test (pitches (cell ∷ []))) column
        → some test (cond t (pitch cell ∷ pitches column) (pitches column))
        ≡ cond (some test (cond t (pitch cell ∷ []) [])) true (some (λ cell. some test (pitches (cell ∷ []))) column)
    step true ih = ap (cond (test (pitch cell)) true) ih ∙ once (test (pitch cell)) _
    step false ih = ih

pub holds_cells : (way : Way) (code : ℕ) (p : Pitch) (column : List ℕ) → holds way code p column ≡ some (cell_holds way code p) column
unfolding holds
holds_cells Exact code p column = some_pitches (λ t. eqb (t.0 + 127) (p.0 + code)) column
holds_cells Octave code p column = some_pitches (λ t. eqb (t.0 % 12) ((p.0 + code) % 12)) column

-- ---- what the lowest track is

-- track t, from 1, is one of the column; its cell holds the note, and no lower one does
pub record Lowest (way : Way) (code : ℕ) (p : Pitch) (column : List ℕ) (t : ℕ) : Type 0 where
  pub from_first : 1 ≤ t
  pub to_last : t ≤ length column
  pub there : cell_holds way code p (get_or column (t - 1) 0) ≡ true
  pub none_lower : (k : ℕ) → 1 ≤ k → k < t → cell_holds way code p (get_or column (k - 1) 0) ≡ false

module _ (way : Way) (code : ℕ) (p : Pitch) (column : List ℕ) where
  pub lowest_there : holds way code p column ≡ true → Lowest way code p column (lowest_track way code p column)
  unfolding lowest_track
  lowest_there e =
      let test : ℕ → Bool = cell_holds way code p in
      let l : first test column < length column = some_first test column (sym (holds_cells way code p column) ∙ e) in
      let k : first test column + 1 - 1 ≡ first test column = omega arith in
      rw (lt-ltb _ _ l) (record {
        from_first = omega arith;
        to_last = omega (arith, l);
        there = rw k (first_there test column 0 l);
        none_lower = λ k a b. first_before test column 0 (k - 1) (omega arith);
      })

  -- no track is above the last
  pub track_le : lowest_track way code p column ≤ length column
  unfolding lowest_track
  track_le = step (ltb (first (cell_holds way code p) column) (length column)) refl
    where
      step : (t : Bool) → ltb (first (cell_holds way code p) column) (length column) ≡ t → cond t (first (cell_holds way code p) column + 1) 0 ≤ length column
      step true e = omega (arith, ltb-true (first (cell_holds way code p) column) (length column) e)
      step false e = omega arith
