-- The columns in which notes are sought, by their numbers: the i-th number names the i-th of the columns with a pitch from column j
-- on (`Named`); there is a number for each (`sought_at`) and 0 behind them (`sought_past`); and column j has a pitch exactly where
-- the first number is its own (`heard_first`, `empty_first`). Assumes nothing.
use mathlib.Core.Path.{◌≡◌, sym, ap, ◌∙◌}
use mathlib.Core.Bool.{true, false, false≢true}
use mathlib.Core.List.{List, [], ◌∷◌}
use Prim.Native.Nat.{ℕ, zero, suc, ◌+◌, ◌-◌, ◌≤◌, ◌<◌, zero-le}
use native.Mathlib.Nat.{not-suc-le-zero}
use native.Mathlib.Numerals.{add-one}
use native.Mathlib.Decide.{dec_lt}
use native.Mathlib.Omega.{arith}
use lib.ListN.{length, get_or, take, drop, replicate, length-drop, length-take, length-append, drop_of_length-le, get_or-append, get_or-eq_default}
use lib.Seq.{take-suc, drop-cons, get_or-drop, get_or-take, get_or-append-add}
use Rattle.theory.specs.Lists.{over}
use Rattle.theory.proofs.Lists.{over_length}
use Rattle.theory.proofs.Pages.{hits_append}
use Rattle.score.specs.declared.quantities.Column.{Column}
use Rattle.score.specs.Score.{column_at, column, heard, heard_of, heard_from, rank_of, columns_from, onward}
use Rattle.score.proofs.Heard.{heard_length, number_at, number_rises, numbers_drop}
use Rattle.seeking.specs.Limits.{most_sought}
use Rattle.seeking.specs.Sought.{numbers_on, sought, sought_behind}

module _ (score : List (List ℕ)) (j : Column) where
  abbrev numbers : List ℕ
  numbers = numbers_on score j

  pub numbers_length : length numbers ≡ length (onward score j)
  numbers_length = heard_length (j.0 - 1 + 1) (columns_from score j)

  -- number x is that of the i-th column, from 0
  pub record Named (i x : ℕ) : Type 0 where
    pub from_first : 1 ≤ x
    pub to_last : x ≤ length score
    pub not_before : j.0 ≤ x
    pub named : column score (column_at x) ≡ get_or (onward score j) i []

  pub number_named : (i : ℕ) → i < length (onward score j) → Named i (get_or numbers i 0)
  number_named i l =
      let x = get_or numbers i 0 in
      let a = number_at (j.0 - 1 + 1) (columns_from score j) i l in
      let e : j.0 - 1 + (x - (j.0 - 1 + 1)) ≡ x - 1 = omega (arith, a.not_before) in
      record {
        from_first = omega (arith, a.not_before);
        to_last = omega (arith, a.within, a.not_before, length-drop (j.0 - 1) score);
        not_before = omega (arith, a.not_before);
        named = ap (λ (n : ℕ). get_or score n []) (sym e) ∙ sym (get_or-drop (j.0 - 1) score (x - (j.0 - 1 + 1)) []) ∙ a.named;
      }

  pub named_rise : (i k : ℕ) → i < k → k < length (onward score j) → get_or numbers i 0 < get_or numbers k 0
  named_rise i k l h = number_rises (j.0 - 1 + 1) (columns_from score j) i k l h

-- the rank of a column with a pitch is one more than there are columns with a pitch before it
rank_next : (score : List (List ℕ)) (j : Column) → 1 ≤ j.0 → heard (column score j) ≡ true
    → rank_of score j ≡ suc (length (heard_of (take (j.0 - 1) score)))
rank_next score j low e = pick (dec_lt (j.0 - 1) (length score))
  where
    pick : Dec (j.0 - 1 < length score) → rank_of score j ≡ suc (length (heard_of (take (j.0 - 1) score)))
    pick (yes l) =
        let next : j.0 ≡ suc (j.0 - 1) = omega arith in
        ap (λ (n : ℕ). length (heard_of (take n score))) next
        ∙ ap (λ (s : List (List ℕ)). length (heard_of s)) (take-suc score (j.0 - 1) [] l)
        ∙ ap length (hits_append heard (take (j.0 - 1) score) (column score j ∷ []))
        ∙ rw e (length-append (heard_of (take (j.0 - 1) score)) (column score j ∷ []) ∙ add-one (length (heard_of (take (j.0 - 1) score))))
    pick (no l) = absurd (false≢true (rw (get_or-eq_default score [] {n = j.0 - 1} (omega arith)) at e))

-- ---- in 64 places

-- a place of a row of zeros
zeros_at : (n i : ℕ) → get_or (replicate n 0) i 0 ≤ 0
zeros_at zero i = omega (arith, get_or-eq_default {A = ℕ} [] 0 {n = i} zero-le)
zeros_at (suc n) zero = omega arith
zeros_at (suc n) (suc i) = zeros_at n i

-- behind what is written over zeros
pub zeros_behind : (n : ℕ) (vs : List ℕ) (i : ℕ) → length vs ≤ i → get_or (over (replicate n 0) vs) i 0 ≤ 0
zeros_behind n vs i l =
    let k = length vs in
    let e : k + (i - k) ≡ i = omega arith in
    let behind : get_or (over (replicate n 0) vs) i 0 ≡ get_or (drop k (replicate n 0)) (i - k) 0 =
    ap (λ (x : ℕ). get_or (over (replicate n 0) vs) x 0) (sym e) ∙ get_or-append-add vs (drop k (replicate n 0)) (i - k) 0 in
    omega (arith, behind, get_or-drop {A = ℕ} k (replicate n 0) (i - k) 0, zeros_at n (k + (i - k)))

module _ (score : List (List ℕ)) (j : Column) where
  abbrev front : List ℕ
  front = take most_sought (numbers_on score j)

  pub sought_length : length (sought score j) ≡ most_sought
  unfolding sought_behind
  sought_length = over_length (replicate most_sought 0) front (omega (arith, length-take most_sought (numbers_on score j)))

  pub sought_at : (i : ℕ) → i < most_sought → i < length (onward score j) → get_or (sought score j) i 0 ≡ get_or (numbers_on score j) i 0
  unfolding sought_behind
  sought_at i small l =
      let within : i < length front = omega (arith, length-take most_sought (numbers_on score j), numbers_length score j) in
      get_or-append front (drop (length front) (replicate most_sought 0)) 0 i within ∙ get_or-take most_sought (numbers_on score j) i 0 small

  pub sought_past : (i : ℕ) → length (onward score j) ≤ i → get_or (sought score j) i 0 ≤ 0
  unfolding sought_behind
  sought_past i l = zeros_behind most_sought front i (omega (arith, length-take most_sought (numbers_on score j), numbers_length score j))

  -- ---- column j itself

  -- it has a pitch: the first number is its own
  pub heard_first : 1 ≤ j.0 → heard (column score j) ≡ true → get_or (numbers_on score j) 0 0 ≡ j.0
  heard_first low e = pick (dec_lt (j.0 - 1) (length score))
    where
      pick : Dec (j.0 - 1 < length score) → get_or (numbers_on score j) 0 0 ≡ j.0
      pick (yes l) = rw (drop-cons score (j.0 - 1) [] l, e) (omega arith)
      pick (no l) = absurd (false≢true (rw (get_or-eq_default score [] {n = j.0 - 1} (omega arith)) at e))

  -- it has none: the first number, if there is one, is that of a later column
  pub empty_first : 1 ≤ j.0 → heard (column score j) ≡ false → 1 ≤ length (onward score j) → j.0 < get_or (numbers_on score j) 0 0
  empty_first low e some = pick (dec_lt (j.0 - 1) (length score))
    where
      pick : Dec (j.0 - 1 < length score) → j.0 < get_or (numbers_on score j) 0 0
      pick (yes l) =
          let d : columns_from score j ≡ column score j ∷ drop (suc (j.0 - 1)) score = drop-cons score (j.0 - 1) [] l in
          let rest = drop (suc (j.0 - 1)) score in
          let there : 0 < length (heard_of rest) = omega (arith, (rw (d, e) at some)) in
          let a = number_at (suc (j.0 - 1 + 1)) rest 0 there in
          rw (d, e) (omega (arith, a.not_before))
      pick (no l) =
          let past : length score ≤ j.0 - 1 = omega arith in
          absurd (not-suc-le-zero (rw (drop_of_length-le score past) at some))

  -- ---- among the numbers of the whole score

  -- the numbers from a column with a pitch on are those from its rank on
  pub numbers_ranked : 1 ≤ j.0 → heard (column score j) ≡ true → (i : ℕ)
      → get_or (numbers_on score j) i 0 ≡ get_or (heard_from 1 score) (rank_of score j - 1 + i) 0
  numbers_ranked low e i =
      let k = length (heard_of (take (j.0 - 1) score)) in
      let one : 1 + (j.0 - 1) ≡ j.0 - 1 + 1 = omega arith in
      let d : numbers_on score j ≡ drop k (heard_from 1 score) =
      ap (λ (n : ℕ). heard_from n (columns_from score j)) (sym one) ∙ numbers_drop 1 (j.0 - 1) score in
      let r : rank_of score j - 1 ≡ k = omega (arith, rank_next score j low e) in
      ap (λ (l : List ℕ). get_or l i 0) d ∙ get_or-drop k (heard_from 1 score) i 0 ∙ ap (λ (n : ℕ). get_or (heard_from 1 score) (n + i) 0) (sym r)
