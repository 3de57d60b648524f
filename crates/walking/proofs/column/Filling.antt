-- What the loop that tries a column's starts keeps. The starts of a column from a code on begin with its next code; each
-- turn takes one of them, and a hit is written behind those found. Assumes nothing.
use mathlib.Core.Path.{◌≡◌, refl, sym, ap, ◌∙◌}
use mathlib.Core.Bool.{Bool, true, false, cond}
use mathlib.Core.List.{List, [], ◌∷◌}
use Prim.Native.Nat.{ℕ, zero, suc, ◌+◌, ◌-◌, ◌*◌, ◌≤◌, ◌<◌, zero-le}
use native.Mathlib.Nat.{add-zero}
use native.Mathlib.Omega.{arith}
use lib.IntN.{ℤ}
use lib.ListN.{length, get_or, take, drop}
use Rattle.theory.specs.Lists.{count, first}
use Rattle.theory.specs.Pages.{page_hits, page_looks}
use Rattle.theory.proofs.Lowest.{hits_first, hits_none}
use Rattle.score.specs.Score.{pitch, column_at, column, columns_in, score_of}
use Rattle.score.proofs.Columns.{cut_at}
use Rattle.ways.specs.declared.way.Way.{Way}
use Rattle.ways.specs.Way.{span, holds}
use Rattle.hits.specs.Writing.{start_codes, fitting, Puts}
use Rattle.hits.proofs.Fitting.{puts_hit, puts_miss}
use Rattle.score.specs.Score.{note}
use Rattle.walking.specs.Starts.{Place, place, hit, looks}
use Rattle.holding.specs.Next.{next_code, next_given}
use Rattle.holding.proofs.Given.{next_given_lem}
use Rattle.walking.specs.Walk.{Ready, Fits, Trial, column_starts, Tries}
use Rattle.walking.proofs.Order.{span_lt}
use Rattle.walking.proofs.LookBound.{looks_le}
use Rattle.walking.proofs.Taking.{Taking, take_start, take_part, take_full, take_end}

-- ---- the starts of a column from a code on

module _ (way : Way) (cells : List ℕ) (h : ℕ) (theme : List ℕ) (j : ℕ) (f : Fits (columns_in cells h) (length theme) j) (m : 1 ≤ length theme)
    (code next base : ℕ) (b : base ≡ (j - 1) * h) (n : next ≡ next_code way (pitch (get_or theme 0 0)) (take h (drop base cells)) code) where
  -- the next code, by the score's column
  next_is : next ≡ code + first (λ c. holds way c (note theme 1) (column (score_of cells h) (column_at j))) (count code (span way - code))
  unfolding next_code
  next_is =
      n ∙ ap (λ (cs : List ℕ). next_code way (pitch (get_or theme 0 0)) cs code)
      (ap (λ (i : ℕ). take h (drop i cells)) b ∙ sym (cut_at (columns_in cells h) h cells (j - 1) (omega (arith, f.from_first, f.to_last))))

  pub next_le : code ≤ next
  next_le = omega (arith, next_is)

  pub starts_some : next < span way → column_starts way (score_of cells h) theme j code ≡ place j next ∷ column_starts way (score_of cells h) theme j (next + 1)
  starts_some q =
      let k : first (λ c. holds way c (note theme 1) (column (score_of cells h) (column_at j))) (count code (span way - code)) < span way - code =
      omega (arith, next_is) in
      let e : span way - code - (first (λ c. holds way c (note theme 1) (column (score_of cells h) (column_at j))) (count code (span way - code)) + 1)
      ≡ span way - (next + 1) = omega (arith, next_is) in
      rw (hits_first (λ c. holds way c (note theme 1) (column (score_of cells h) (column_at j))) code (span way - code) k, e, ← next_is)

  pub starts_none : span way ≤ next → column_starts way (score_of cells h) theme j code ≡ []
  starts_none q =
      let k : span way - code ≤ first (λ c. holds way c (note theme 1) (column (score_of cells h) (column_at j))) (count code (span way - code)) =
      omega (arith, next_is) in
      rw (hits_none (λ c. holds way c (note theme 1) (column (score_of cells h) (column_at j))) code (span way - code) k)

-- ---- one start is tried: a hit is written behind those found, and nothing else is

module _ (way : Way) (score : List (List ℕ)) (theme : List ℕ) (s : Place) where
  page_none : (r : ℕ) → page_hits (hit way score theme) r [] ≡ []
  page_none zero = refl
  page_none (suc r) = refl

  page_one : (r : ℕ) (b : Bool) → hit way score theme s ≡ b → page_hits (hit way score theme) (suc r) (s ∷ []) ≡ cond b (s ∷ []) []
  page_one r true e = rw (e, page_none r)
  page_one r false e = rw e

  looks_one : (r : ℕ) → page_looks (hit way score theme) (looks way score theme) (suc r) (s ∷ []) ≡ looks way score theme s
  looks_one r = step r (hit way score theme s)
    where
      step : (n : ℕ) (b : Bool) → looks way score theme s
          + cond b (page_looks (hit way score theme) (looks way score theme) n [])
          (page_looks (hit way score theme) (looks way score theme) (suc n) []) ≡ looks way score theme s
      step zero true = add-zero (looks way score theme s)
      step (suc n) true = add-zero (looks way score theme s)
      step n false = add-zero (looks way score theme s)

tries_one : (way : Way) (score : List (List ℕ)) (theme : List ℕ) (j code at : ℕ) (columns : List ℕ) (shifts : List ℤ)
    → code ≤ 255 → at < length columns → length shifts ≡ length columns → (found : Bool) (costs : ℕ) → Trial way score theme j code found costs
    → (at' : ℕ) (columns' : List ℕ) (shifts' : List ℤ) → Puts way j (fitting (start_codes found code) at columns shifts) at columns shifts at' columns' shifts'
    → Tries way score theme (place j code ∷ []) at columns shifts at' costs columns' shifts'
tries_one way score theme j code at columns shifts small room same found costs tried at' columns' shifts' k = step found tried.hits k
  where
    left : length columns - at ≡ suc (length columns - at - 1)
    left = omega arith

    spent : costs ≡ page_looks (hit way score theme) (looks way score theme) (length columns - at) (place j code ∷ [])
    spent = rw left (tried.costs ∙ sym (looks_one way score theme (place j code) (length columns - at - 1)))

    step : (b : Bool) → b ≡ hit way score theme (place j code) → Puts way j
        (fitting (start_codes b code) at columns shifts) at columns shifts at' columns' shifts'
        → Tries way score theme (place j code ∷ []) at columns shifts at' costs columns' shifts'
    step true e k =
        let p = puts_hit way j at columns shifts code at' columns' shifts' small room (omega arith) k in
        let page = page_one way score theme (place j code) (length columns - at - 1) true (sym e) in
        record { count = rw (left, page) p.count; costs = spent; in_columns = rw (left, page) p.in_columns; in_shifts = rw (left, page) p.in_shifts }
    step false e k =
        let p = puts_miss way j at columns shifts code at' columns' shifts' k in
        let page = page_one way score theme (place j code) (length columns - at - 1) false (sym e) in
        record { count = rw (left, page) p.count; costs = spent; in_columns = rw (left, page) p.in_columns; in_shifts = rw (left, page) p.in_shifts }

-- ---- a column under way: its starts below `code` are tried

pub record Filling (way : Way) (cells : List ℕ) (h : ℕ) (theme : List ℕ) (j x found : ℕ) (columns₀ : List ℕ) (shifts₀ : List ℤ)
    (columns : List ℕ) (shifts : List ℤ) (code at spent : ℕ) : Type 0 where
  pub taking : Taking way (score_of cells h) theme (column_starts way (score_of cells h) theme j x) found columns₀ shifts₀
      columns shifts (column_starts way (score_of cells h) theme j code) at spent
  pub low : code ≤ span way
  pub bounded : spent ≤ code * 32

module _ (way : Way) (cells : List ℕ) (h : ℕ) (theme : List ℕ) (j x found : ℕ) (columns₀ : List ℕ) (shifts₀ : List ℤ) where
  pub fill_start : x ≤ span way → found ≤ length columns₀ → length shifts₀ ≡ length columns₀
      → Filling way cells h theme j x found columns₀ shifts₀ columns₀ shifts₀ x found 0
  fill_start a b c = record { taking = take_start _ _ _ _ _ _ _ b c; low = a; bounded = zero-le }

  module _ (columns : List ℕ) (shifts : List ℤ) (code at spent : ℕ)
      (t : Filling way cells h theme j x found columns₀ shifts₀ columns shifts code at spent) where
    -- the column is done with: no room is left, or no start
    pub fill_full : length columns ≤ at → Tries way (score_of cells h) theme
        (column_starts way (score_of cells h) theme j x) found columns₀ shifts₀ at spent columns shifts
    fill_full q = take_full _ _ _ _ _ _ _ _ _ _ _ _ t.taking q

    module _ (r : Ready cells h theme) (f : Fits (columns_in cells h) (length theme) j) (base : ℕ) (b : base ≡ (j - 1) * h) (next : ℕ)
        (given : next ≡ next_given way (pitch (get_or theme 0 0)) (take (base + h - base) (drop base cells)) code) where
      some_notes : 1 ≤ length theme
      some_notes = omega (arith, r.notes)

      n : next ≡ next_code way (pitch (get_or theme 0 0)) (take h (drop base cells)) code
      n =
          let w : base + h - base ≡ h = omega arith in
          (rw w at given) ∙ next_given_lem way (pitch (get_or theme 0 0)) (take h (drop base cells)) code (r.sung 0) t.low

      pub fill_none : span way ≤ next → Tries way (score_of cells h) theme
          (column_starts way (score_of cells h) theme j x) found columns₀ shifts₀ at spent columns shifts
      fill_none q = take_end _ _ _ _ _ _ _ _ _ _ _ _ t.taking (starts_none way cells h theme j f some_notes code next base b n q)

      pub fill_further : code ≤ next
      fill_further = next_le way cells h theme j f some_notes code next base b n

      module _ (q : next < span way) (some_room : at < length columns) (hits : Bool) (costs : ℕ)
          (tried : Trial way (score_of cells h) theme j next hits costs) where
        -- it costs few looks
        pub fill_bound : spent + costs ≤ (next + 1) * 32
        fill_bound = omega (arith, t.bounded, tried.costs, looks_le way (score_of cells h) theme (place j next), r.notes_most, fill_further)

        pub fill_turn : (columns' : List ℕ) (shifts' : List ℤ) (at' : ℕ) → Puts way j
            (fitting (start_codes hits next) at columns shifts) at columns shifts at' columns' shifts'
            → Filling way cells h theme j x found columns₀ shifts₀ columns' shifts' (next + 1) at' (spent + costs)
        fill_turn columns' shifts' at' k =
            let one = place j next ∷ [] in
            let rest = column_starts way (score_of cells h) theme j (next + 1) in
            let same : length shifts ≡ length columns = t.taking.long_shifts ∙ sym t.taking.long in
            let tries = tries_one _ _ _ _ _ _ _ _ (omega (arith, span_lt way)) some_room same _ _ tried _ _ _ k in
            record {
              taking =
                  take_part _ _ _ _ _ _ _ _ _ _ _ one rest (rw (starts_some way cells h theme j f some_notes code next base b n q) at t.taking)
                  _ _ _ _ tries;
              low = omega arith;
              bounded = fill_bound;
            }
