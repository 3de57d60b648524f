-- What the loop along a column keeps that finds the next code: the least code found, with what is left of the column, gives the column's
-- (`Lowering`). The idea: what `holds` says is whether the code is one of those between the note and the column's pitches.
-- Assumes nothing.
use mathlib.Core.Path.{◌≡◌, refl, sym, ap, ◌∙◌}
use mathlib.Core.Bool.{Bool, true, false, cond}
use mathlib.Core.List.{List, [], ◌∷◌, map}
use Prim.Native.Nat.{ℕ, ◌+◌, ◌-◌, ◌%◌, ◌≤◌, ◌<◌, zero-le}
use native.Mathlib.Numerals.{add-one}
use native.Mathlib.Omega.{arith}
use lib.Dec.{leb, eqb}
use lib.ListN.{length, get_or, drop, drop_of_length-le}
use lib.Seq.{drop-cons}
use Rattle.theory.specs.Lists.{some, lower, lowest}
use Rattle.theory.proofs.Lowest.{lowest_first, first_agree}
use Rattle.score.specs.declared.quantities.Pitch.{Pitch}
use Rattle.score.specs.Score.{pitch, pitches}
use Rattle.ways.specs.declared.way.Way.{Way}
use Rattle.ways.specs.declared.way.Way.TheVariants.{Exact, Octave}
use Rattle.ways.specs.Way.{span, holds}
use Rattle.ways.proofs.Holding.{eqb_same, some_agree}
use Rattle.holding.specs.Next.{code_between, lowered, next_code}

-- ---- what holds says, by codes

some_map : (f : Pitch → ℕ) (k : ℕ) (ts : List Pitch) → some (λ d. eqb d k) (map f ts) ≡ some (λ t. eqb (f t) k) ts
some_map f k [] = refl
some_map f k (t ∷ ts) = rw (some_map f k ts)

holds_between : (way : Way) (code : ℕ) (p : Pitch) (column : List ℕ) → p.0 ≤ 127 → code < span way
    → holds way code p column ≡ some (λ d. eqb d code) (map (code_between way p) (pitches column))
unfolding holds
holds_between Exact code p column h k =
    some_agree _ _ column (λ t l. eqb_same (t.0 + 127) (p.0 + code) (t.0 + 127 - p.0) code (λ e. omega arith) (λ e. omega arith))
    ∙ sym (some_map (code_between Exact p) code (pitches column))
holds_between Octave code p column h k =
    some_agree _ _ column
    (λ t l. eqb_same (t.0 % 12) ((p.0 + code) % 12) ((t.0 + 132 - p.0) % 12) code (λ e. omega arith) (λ e. omega arith))
    ∙ sym (some_map (code_between Octave p) code (pitches column))

-- ---- the loop

pub record Lowering (way : Way) (p : Pitch) (column : List ℕ) (x best i : ℕ) : Type 0 where
  pub up_to : i ≤ length column
  pub same : lowest x best (map (code_between way p) (pitches (drop i column))) ≡ lowest x (span way) (map (code_between way p) (pitches column))

module _ (way : Way) (p : Pitch) (column : List ℕ) (x : ℕ) where
  pub low_start : (best : ℕ) → best ≡ span way → Lowering way p column x best 0
  low_start best e = record { up_to = zero-le; same = rw e }

  pub low_turn : (best i : ℕ) → i < length column → Lowering way p column x best i → Lowering way p column x (lowered way p x best (get_or column i 0)) (i + 1)
  low_turn best i k s =
      let d : drop i column ≡ get_or column i 0 ∷ drop (i + 1) column = rw add-one (drop-cons column i 0 k) in
      let q : lowest x best (map (code_between way p) (pitches (get_or column i 0 ∷ drop (i + 1) column))) ≡ lowest x (span way) (map (code_between way p) (pitches column)) =
      rw d at s.same in
      record { up_to = omega arith; same = passed (leb (get_or column i 0) 127) ∙ q }
    where
      passed : (t : Bool)
          → lowest x (cond t (lower x (code_between way p (pitch (get_or column i 0))) best) best) (map (code_between way p) (pitches (drop (i + 1) column)))
          ≡ lowest x best (map (code_between way p) (cond t (pitch (get_or column i 0) ∷ pitches (drop (i + 1) column)) (pitches (drop (i + 1) column))))
      passed true = refl
      passed false = refl

  pub low_end : (best i : ℕ) → p.0 ≤ 127 → x ≤ span way → length column ≤ i → Lowering way p column x best i → best ≡ next_code way p column x
  unfolding next_code
  low_end best i hp hx k s =
      let b : best ≡ lowest x (span way) (map (code_between way p) (pitches column)) = rw (drop_of_length-le column {i = i} k) at s.same in
      let e : span way ≡ x + (span way - x) = omega arith in
      b ∙ ap (λ (n : ℕ). lowest x n (map (code_between way p) (pitches column))) e
      ∙ lowest_first x (span way - x) (map (code_between way p) (pitches column))
      ∙ ap (λ (n : ℕ). x + n) (first_agree _ _ x (span way - x) (λ code u v. sym (holds_between way code p column hp (omega arith))))
