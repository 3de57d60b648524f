-- The column by itself: what the numbers of the columns tell of it is what the definition says (`fit_by_is`); and where it fits
-- (`Fitting` of the definition), each note has a column of the score, and each note but the last one with a set. Assumes nothing.
use mathlib.Core.Path.{◌≡◌, refl, sym, ◌∙◌, subst}
use mathlib.Core.Bool.{Bool, true, false, cond}
use mathlib.Core.List.{List}
use Prim.Native.Nat.{ℕ, ◌+◌, ◌-◌, ◌≤◌, ◌<◌}
use native.Mathlib.Decide.{dec_lt}
use native.Mathlib.Omega.{arith}
use lib.Dec.{ltb, eqb}
use lib.ListN.{length, get_or}
use borrow.Author.Tests.{eqb-true, eqb-false, eq-eqb, ne_eqb, lt-ltb, le-ltb, ltb-true, ltb-false}
use Rattle.score.specs.Limits.{most_tracks, most_columns}
use Rattle.score.specs.declared.quantities.Column.{Column}
use Rattle.score.specs.Score.{column, columns_in, score_of, heard, onward}
use Rattle.score.proofs.Columns.{score_length}
use Rattle.seeking.specs.Limits.{most_sought}
use Rattle.seeking.specs.Sought.{numbers_on, sought}
use Rattle.seeking.proofs.Numbers.{sought_length, sought_at, sought_past, number_named, named_rise, heard_first, empty_first}
use Rattle.explaining.specs.declared.fits.Fit.{Fit}
use Rattle.explaining.specs.declared.fits.Fit.TheVariants.{Zero, Short, NoPitch, Fits}
use Rattle.explaining.specs.Explaining.{fit_of, Fitting}
use Rattle.explaining.specs.Inner.{fit_by, ColumnsThere, SetsThere}

-- the cases told apart
abbrev number : Fit → ℕ
number Zero = 0
number Short = 1
number NoPitch = 2
number Fits = 3

module _ (score : List (List ℕ)) (theme : List ℕ) (j : Column) where
  -- ---- the definition's cases

  pub fit_cases : (P : Fit → Type 0)
      → (j.0 ≡ 0 → P Zero)
      → (1 ≤ j.0 → length (onward score j) < length theme → P Short)
      → (1 ≤ j.0 → length theme ≤ length (onward score j) → heard (column score j) ≡ false → P NoPitch)
      → (Fitting score theme j → P Fits)
      → P (fit_of score theme j)
  fit_cases P zero short none fits =
      step (eqb j.0 0) refl (ltb (length (onward score j)) (length theme)) refl (heard (column score j)) refl
    where
      step : (a : Bool) → eqb j.0 0 ≡ a → (b : Bool) → ltb (length (onward score j)) (length theme) ≡ b → (c : Bool) → heard (column score j) ≡ c
          → P (cond a Zero (cond b Short (cond c Fits NoPitch)))
      step true p b q c r = zero (eqb-true j.0 0 p)
      step false p true q c r = let n = eqb-false j.0 0 p in short (omega (arith, n)) (ltb-true _ _ q)
      step false p false q false r = let n = eqb-false j.0 0 p in none (omega (arith, n)) (ltb-false _ _ q) r
      step false p false q true r =
          let n = eqb-false j.0 0 p in fits (record { from_first = omega (arith, n); to_last = ltb-false _ _ q; with_pitch = r })

  pub fits_placed : fit_of score theme j ≡ Fits → Fitting score theme j
  fits_placed =
      fit_cases (λ f. f ≡ Fits → Fitting score theme j) (λ z e. absurd (other e)) (λ a b e. absurd (other e)) (λ a b c e. absurd (other e)) (λ p e. p)
    where
      other : {f : Fit} → f ≡ Fits → cond (eqb (number f) 3) (Unit {0}) ⊥
      other e = subst (λ (g : Fit). cond (eqb (number g) 3) (Unit {0}) ⊥) (sym e) tt

  pub placed_fits : Fitting score theme j → fit_of score theme j ≡ Fits
  placed_fits p =
      rw (ne_eqb j.0 0 (λ e. omega (arith, p.from_first)), le-ltb (length (onward score j)) (length theme) p.to_last, p.with_pitch)

  -- ---- by the numbers

  pub fit_by_is : 1 ≤ length theme → length theme ≤ most_sought → fit_by (sought score j) (length theme) j ≡ fit_of score theme j
  fit_by_is some few = step (eqb j.0 0) refl
    where
      numbers : List ℕ
      numbers = sought score j

      m : ℕ
      m = length theme

      rest : (a b : Bool) → Fit
      rest a b = cond a Short (cond b Fits NoPitch)

      past : 1 ≤ j.0 → Dec (length (onward score j) < m)
          → rest (eqb (get_or numbers (m - 1) 0) 0) (eqb (get_or numbers 0 0) j.0) ≡ rest (ltb (length (onward score j)) m) (heard (column score j))
      past low (yes l) =
          let none : get_or numbers (m - 1) 0 ≡ 0 = omega (arith, sought_past score j (m - 1) (omega arith)) in
          rw (eq-eqb _ _ none, lt-ltb _ _ l)
      past low (no l) =
          let last : get_or numbers (m - 1) 0 ≡ get_or (numbers_on score j) (m - 1) 0 = sought_at score j (m - 1) (omega arith) (omega arith) in
          let first : get_or numbers 0 0 ≡ get_or (numbers_on score j) 0 0 = sought_at score j 0 (omega arith) (omega arith) in
          let there : get_or numbers (m - 1) 0 ≡ 0 → ⊥ = λ e. omega (arith, e, last, (number_named score j (m - 1) (omega arith)).from_first) in
          rw (ne_eqb _ _ there, le-ltb (length (onward score j)) m (omega arith)) (own (heard (column score j)) refl)
        where
          own : (t : Bool) → heard (column score j) ≡ t → cond (eqb (get_or numbers 0 0) j.0) Fits NoPitch ≡ cond t Fits NoPitch
          own true e =
              rw (eq-eqb _ _ (sought_at score j 0 (omega arith) (omega arith) ∙ heard_first score j low e))
          own false e =
              let later : get_or numbers 0 0 ≡ j.0 → ⊥ =
              λ z. omega (arith, z, sought_at score j 0 (omega arith) (omega arith), empty_first score j low e (omega arith)) in
              rw (ne_eqb _ _ later)

      step : (t : Bool) → eqb j.0 0 ≡ t
          → cond t Zero (rest (eqb (get_or numbers (m - 1) 0) 0) (eqb (get_or numbers 0 0) j.0))
          ≡ cond t Zero (rest (ltb (length (onward score j)) m) (heard (column score j)))
      step true e = refl
      step false e = let n = eqb-false j.0 0 e in past (omega (arith, n)) (dec_lt (length (onward score j)) m)

-- ---- where it fits

module _ (cells : List ℕ) (h : ℕ) (theme : List ℕ) (j : Column) (few : length theme ≤ most_sought) (p : Fitting (score_of cells h) theme j) where
  abbrev score : List (List ℕ)
  score = score_of cells h

  abbrev numbers : List ℕ
  numbers = sought score j

  same : (i : ℕ) → i < length theme → get_or numbers i 0 ≡ get_or (numbers_on score j) i 0
  same i l = sought_at score j i (omega arith) (omega (arith, p.to_last))

  pub columns_there : h ≤ most_tracks → ColumnsThere cells h theme numbers
  columns_there t =
      record {
        tracks_few = t;
        notes_few = few;
        room = omega (arith, sought_length score j);
        from_first = λ i l. omega (arith, same i l, (number_named score j i (omega (arith, p.to_last))).from_first);
        to_last = λ i l. omega (arith, same i l, (number_named score j i (omega (arith, p.to_last))).to_last, score_length cells h);
      }

  pub sets_there : 1 ≤ length theme → columns_in cells h ≤ most_columns → (sets : List ℕ) → length sets ≡ columns_in cells h - 1 → SetsThere theme sets numbers
  sets_there some most sets long =
      record {
        notes_some = some;
        sets_few = omega (arith, most, long);
        notes_few = few;
        room = omega (arith, sought_length score j);
        from_first = λ i l. omega (arith, same i (omega arith), (number_named score j i (omega (arith, p.to_last))).from_first);
        to_last = λ i l. omega (
          arith,
          same i (omega arith),
          named_rise score j i (i + 1) (omega arith) (omega (arith, p.to_last)),
          (number_named score j (i + 1) (omega (arith, p.to_last))).to_last,
          score_length cells h,
          long,
        );
      }
