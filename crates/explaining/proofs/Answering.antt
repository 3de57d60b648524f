-- The answer put together: at each fit of the column what the definition says. Assumes nothing.
use mathlib.Core.Path.{◌≡◌, refl, sym, ap, ◌∙◌, subst}
use mathlib.Core.Bool.{Bool, true, false, cond}
use mathlib.Core.List.{List}
use Prim.Native.Nat.{ℕ, ◌+◌, ◌-◌, ◌≤◌, ◌<◌}
use native.Mathlib.Omega.{arith}
use lib.IntN.{ℤ}
use lib.ListN.{length, get_or}
use borrow.Author.Tests.{lt-ltb, le-ltb}
use Rattle.score.specs.declared.quantities.Column.{Column}
use Rattle.score.specs.Score.{pitch, score_of, note}
use Rattle.score.specs.Refusals.{verdict}
use Rattle.ways.specs.declared.way.Way.{Way}
use Rattle.ways.specs.declared.bookmark.Pair.{Pair}
use Rattle.ways.specs.Way.{code_of}
use Rattle.ways.specs.Codes.{no_shift, code_given}
use Rattle.ways.proofs.Coding.{code_of_shift}
use Rattle.asking.specs.Limits.{most_notes}
use Rattle.asking.specs.Asking.{Accepted}
use Rattle.seeking.specs.Limits.{most_sought}
use Rattle.seeking.specs.Sought.{sought}
use Rattle.seeking.proofs.Numbers.{sought_length}
use Rattle.explaining.specs.declared.answer.Explanation.{Explanation}
use Rattle.explaining.specs.declared.answer.Reason.{Reason}
use Rattle.explaining.specs.declared.answer.Reason.TheVariants.{Listed, NoShift, NoColumn, TooFew, Empty}
use Rattle.explaining.specs.declared.answer.Sifted.{Sifted}
use Rattle.explaining.specs.declared.answer.Sifted.TheVariants.{Unasked}
use Rattle.explaining.specs.declared.fits.Fit.{Fit}
use Rattle.explaining.specs.declared.fits.Fit.TheVariants.{Zero, Short, NoPitch, Fits}
use Rattle.explaining.specs.Explaining.{no_tracks, fit_of, failed, held, tracks_of, sifted_by, bare, column_of, explained, explain_rows}
use Rattle.explaining.specs.Inner.{fit_by, column_by, ColumnsThere, SetsThere, first_of, by_notes, at_fit}
use Rattle.explaining.proofs.Fitting.{fits_placed, fit_by_is, columns_there, sets_there}
use Rattle.explaining.proofs.Refusing.{passed_asks}
use Rattle.explaining.proofs.Agreeing.{notes_agree, tracks_agree, columns_same, sifted_same}
use Rattle.std.specs.Prelude.{Ok}

-- ---- the shift comes first

module _ (way : Way) (shift : ℤ) (otherwise : Reason) where
  pub shift_first : no_shift way shift ≡ true → NoShift ≡ first_of way shift otherwise
  shift_first e = rw e

  pub shift_passed : no_shift way shift ≡ false → otherwise ≡ first_of way shift otherwise
  shift_passed e = rw e

-- ---- by the notes

module _ (way : Way) (code : ℕ) (score : List (List ℕ)) (theme numbers : List ℕ) (sifted : Sifted) {k : ℕ}
    (e : k ≡ held way code theme (column_by score numbers)) where
  -- one fails
  pub by_failing : k < length theme → {reason : Reason} → reason ≡ failed way code (pitch (get_or theme k 0)) (k + 1)
      → record { reason = reason; tracks = no_tracks; sifted = sifted } ≡ by_notes way code score theme numbers sifted
  by_failing l {reason} f =
      let n : k + 1 - 1 ≡ k = omega arith in
      let own : reason ≡ failed way code (note theme (k + 1)) (k + 1) = rw n f in
      rw (← e, lt-ltb k (length theme) l, own)

  -- none does
  pub by_listed : length theme ≤ k → {tracks : List ℕ} → tracks ≡ tracks_of way code theme (column_by score numbers)
      → record { reason = Listed; tracks = tracks; sifted = sifted } ≡ by_notes way code score theme numbers sifted
  by_listed l {tracks} f = rw (← e, le-ltb k (length theme) l, f)

-- ---- by the column

-- no tracks and no second part, whether the shift or the column is the reason
reason_alone : (reason : Reason) (t : Bool)
    → bare (cond t NoShift reason) ≡ record { reason = cond t NoShift reason; tracks = cond t no_tracks no_tracks; sifted = Unasked }
reason_alone reason true = refl
reason_alone reason false = refl

module _ (way : Way) (score : List (List ℕ)) (theme : List ℕ) (pair : Pair) (sets : List ℕ) where
  abbrev fit : Fit
  fit = fit_of score theme pair.column

  -- a column that does not fit
  pub at_zero : fit ≡ Zero → bare (first_of way pair.shift NoColumn) ≡ explained way score theme pair sets
  at_zero e = rw e (reason_alone NoColumn (no_shift way pair.shift))

  pub at_short : fit ≡ Short → bare (first_of way pair.shift TooFew) ≡ explained way score theme pair sets
  at_short e = rw e (reason_alone TooFew (no_shift way pair.shift))

  pub at_no_pitch : fit ≡ NoPitch → bare (first_of way pair.shift Empty) ≡ explained way score theme pair sets
  at_no_pitch e = rw e (reason_alone Empty (no_shift way pair.shift))

  -- one that does
  pub at_fits : length theme ≤ most_sought → fit ≡ Fits
      → at_fit way pair.shift score theme (sought score pair.column) (sifted_by theme sets (sought score pair.column)) ≡ explained way score theme pair sets
  at_fits few e =
      let j = pair.column in
      let p = fits_placed score theme j e in
      let code = code_of way pair.shift in
      let f = column_by score (sought score j) in
      let g = column_of way score theme pair sets in
      let same = columns_same score theme j few p in
      rw (e, notes_agree way code theme f g same, tracks_agree way code theme f g same, sifted_same score theme j few p sets)
      (step (no_shift way pair.shift) _ _ _)
    where
      step : (t : Bool) (r : Reason) (l : List ℕ) (s : Sifted)
          → ◌≡◌ {A = Explanation} (cond t (record { reason = NoShift; tracks = no_tracks; sifted = s }) (record { reason = r; tracks = l; sifted = s }))
          (record { reason = cond t NoShift r; tracks = cond t no_tracks l; sifted = s })
      step true r l s = refl
      step false r l s = refl

-- ---- at a column that fits, as the code goes

module _ (way : Way) (shift : ℤ) (score : List (List ℕ)) (theme numbers : List ℕ) (sifted : Sifted) where
  pub fit_no_shift : no_shift way shift ≡ true → record { reason = NoShift; tracks = no_tracks; sifted = sifted } ≡ at_fit way shift score theme numbers sifted
  fit_no_shift e = rw e

  pub fit_notes : no_shift way shift ≡ false → {code : ℕ} → code ≡ code_given way shift → {r : Explanation}
      → r ≡ by_notes way code score theme numbers sifted → r ≡ at_fit way shift score theme numbers sifted
  fit_notes e {code} c {r} f =
      let own : code ≡ code_of way shift = c ∙ code_of_shift way shift e in
      f ∙ rw (e, own)

-- ---- an accepted call, as the code goes

module _ (cells : List ℕ) (h : ℕ) (theme : List ℕ) (way : Way) (pair : Pair) (sets : List ℕ) (v : verdict (explain_rows cells h theme sets) ≡ Ok tt)
    {numbers : List ℕ} (s : numbers ≡ sought (score_of cells h) pair.column) where
  abbrev score : List (List ℕ)
  score = score_of cells h

  abbrev j : Column
  j = pair.column

  accepted : Accepted most_notes cells h theme
  accepted = (passed_asks cells h theme way pair sets v).0

  few : length theme ≤ most_sought
  few = omega (arith, accepted.notes_few)

  pub fit_asked : (1 ≤ length theme) × (length theme ≤ length numbers)
  fit_asked = (omega (arith, accepted.notes_some), omega (arith, few, ap length s, sought_length score j))

  module _ {fit : Fit} (f : fit ≡ fit_by numbers (length theme) j) where
    told : {g : Fit} → fit ≡ g → fit_of score theme j ≡ g
    told e = sym (fit_by_is score theme j fit_asked.0 few) ∙ ap (λ (ns : List ℕ). fit_by ns (length theme) j) (sym s) ∙ sym f ∙ e

    module _ {reason : Reason} {r : Explanation} where
      pub answer_zero : fit ≡ Zero → reason ≡ first_of way pair.shift NoColumn → r ≡ bare reason → r ≡ explained way score theme pair sets
      answer_zero e a b = b ∙ ap bare a ∙ at_zero way score theme pair sets (told e)

      pub answer_short : fit ≡ Short → reason ≡ first_of way pair.shift TooFew → r ≡ bare reason → r ≡ explained way score theme pair sets
      answer_short e a b = b ∙ ap bare a ∙ at_short way score theme pair sets (told e)

      pub answer_no_pitch : fit ≡ NoPitch → reason ≡ first_of way pair.shift Empty → r ≡ bare reason → r ≡ explained way score theme pair sets
      answer_no_pitch e a b = b ∙ ap bare a ∙ at_no_pitch way score theme pair sets (told e)

    pub fit_there : fit ≡ Fits → ColumnsThere cells h theme numbers × SetsThere theme sets numbers
    fit_there e =
        let p = fits_placed score theme j (told e) in
        let c = columns_there cells h theme j few p accepted.tracks_few in
        let t = sets_there cells h theme j few p fit_asked.0 accepted.columns_few sets (passed_asks cells h theme way pair sets v).1.one_less in
        (subst (ColumnsThere cells h theme) (sym s) c, subst (SetsThere theme sets) (sym s) t)

    pub answer_fits : fit ≡ Fits → {sifted : Sifted} → sifted ≡ sifted_by theme sets numbers → {r : Explanation}
        → r ≡ at_fit way pair.shift score theme numbers sifted → r ≡ explained way score theme pair sets
    answer_fits e b a =
        a
        ∙ ap (at_fit way pair.shift score theme numbers) b
        ∙ ap (λ (ns : List ℕ). at_fit way pair.shift score theme ns (sifted_by theme sets ns)) s
        ∙ at_fits way score theme pair sets few (told e)
