-- What an accepted score and accepted sets have, read off the verdict: none of the rows applies. Assumes nothing.
use mathlib.Core.Path.{◌≡◌, refl}
use mathlib.Core.Bool.{Bool, true, false, cond, not, ◌||◌, true≢false}
use mathlib.Core.List.{List, [], ◌∷◌}
use Prim.Native.Nat.{ℕ, ◌-◌, ◌%◌, ◌≤◌}
use native.Mathlib.Nat.{pos_of_ne-zero}
use native.Mathlib.Omega.{arith}
use lib.Dec.{ltb, eqb}
use lib.ListN.{length}
use borrow.Author.Tests.{not-false, eqb-true, eqb-false, ltb-false}
use Rattle.theory.specs.Lists.{some}
use Rattle.score.specs.Limits.{most_tracks, most_columns}
use Rattle.score.specs.Score.{columns_in}
use Rattle.score.specs.Refusals.{Row, verdict, row1, row2, row3, row6, row7, bad_cell, bad_set}
use Rattle.std.specs.Prelude.{Ok, Err}

-- a score that refusals 1 to 3 do not turn away
pub record Sound (cells : List ℕ) (h : ℕ) : Type 0 where
  pub tracks : 1 ≤ h
  pub few_tracks : h ≤ most_tracks
  pub whole : length cells % h ≡ 0
  pub columns : 1 ≤ columns_in cells h
  pub few_columns : columns_in cells h ≤ most_columns
  pub clean : some bad_cell cells ≡ false

-- sets that refusals 6 and 7 do not turn away
pub record SoundSets (cells : List ℕ) (h : ℕ) (sets : List ℕ) : Type 0 where
  pub long : length sets ≡ columns_in cells h - 1
  pub clean : some bad_set sets ≡ false

-- of rows that accept none applies
accepted_cons : (r : Row) (rows : List Row) → verdict (r ∷ rows) ≡ Ok tt → (r.applies ≡ false) × (verdict rows ≡ Ok tt)
accepted_cons r rows e = step r.applies refl e
  where
    step : (b : Bool) → r.applies ≡ b → cond b (Err r.given) (verdict rows) ≡ Ok tt → (r.applies ≡ false) × (verdict rows ≡ Ok tt)
    step true k e = absurd (let z : ◌≡◌ {A = ℕ} 0 1 = cc in omega arith)
    step false k e = (k, e)

none_or : (a b : Bool) → (a || b) ≡ false → (a ≡ false) × (b ≡ false)
none_or true b e = absurd (true≢false e)
none_or false b e = (refl, e)

pub score_sound : (cells : List ℕ) (h : ℕ) → verdict (row1 h ∷ row2 cells h ∷ row3 cells ∷ []) ≡ Ok tt → Sound cells h
score_sound cells h e =
    let n = columns_in cells h in
    let first = accepted_cons (row1 h) (row2 cells h ∷ row3 cells ∷ []) e in
    let second = accepted_cons (row2 cells h) (row3 cells ∷ []) first.1 in
    let third = accepted_cons (row3 cells) [] second.1 in
    let height = none_or (eqb h 0) (ltb most_tracks h) first.0 in
    let width = none_or (not (eqb (length cells % h) 0) || eqb n 0) (ltb most_columns n) second.0 in
    let shape = none_or (not (eqb (length cells % h) 0)) (eqb n 0) width.0 in
    record {
      tracks = pos_of_ne-zero (eqb-false h 0 height.0);
      few_tracks = ltb-false most_tracks h height.1;
      whole = eqb-true (length cells % h) 0 (not-false _ shape.0);
      columns = pos_of_ne-zero (eqb-false n 0 shape.1);
      few_columns = ltb-false most_columns n width.1;
      clean = third.0;
    }

pub sets_sound : (cells : List ℕ) (h : ℕ) (sets : List ℕ) → verdict (row6 cells h sets ∷ row7 sets ∷ []) ≡ Ok tt → SoundSets cells h sets
sets_sound cells h sets e =
    let first = accepted_cons (row6 cells h sets) (row7 sets ∷ []) e in
    let second = accepted_cons (row7 sets) [] first.1 in
    record { long = eqb-true (length sets) (columns_in cells h - 1) (not-false _ first.0); clean = second.0 }
