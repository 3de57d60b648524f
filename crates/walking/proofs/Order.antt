-- The starts: their keys rise, so they are in order and each is there once (`starts_rising`); and which places they are
-- (`in_starts`, `starts_in_lem`): those with room whose first note is present. Both by the columns that are left.
-- Assumes nothing.
use mathlib.Core.Path.{◌≡◌, refl, ap, subst}
use mathlib.Core.Bool.{Bool, true, false, cond}
use mathlib.Core.Logic.{⊎_elim}
use mathlib.Core.List.Memᴰ
use mathlib.Core.List.{List, [], ◌∷◌, ◌++◌, map, Memᴰ as In}
use Prim.Native.Nat.{ℕ, zero, suc, ◌+◌, ◌*◌, ◌-◌, ◌≤◌, ◌<◌, zero-le}
use native.Mathlib.Nat.{not-suc-le-zero}
use native.Mathlib.Omega.{arith}
use lib.Dec.{leb}
use lib.ListN.{length, get_or}
use borrow.Author.Tests.{leb-true, le-leb}
use Rattle.theory.specs.Lists.{count}
use Rattle.theory.specs.Pages.{Rising}
use Rattle.theory.proofs.Bookmarks.{rising_append, rising_down, Below}
use Rattle.theory.proofs.Members.{in_count, count_in, rising_count, in_hits, hits_in, rising_hits, rising_map, rising_add, below_in}
use Rattle.score.specs.declared.quantities.Pitch.{Pitch}
use Rattle.ways.specs.declared.way.Way.{Way}
use Rattle.ways.specs.declared.way.Way.TheVariants.{Exact, Octave}
use Rattle.ways.specs.Way.{span, holds}
use Rattle.score.specs.Score.{note}
use Rattle.walking.specs.Starts.{Place, place, key, codes, starts_in, starts}

-- every code is below 256, and so is a bookmark's, which may be the span itself
pub span_lt : (way : Way) → span way < 256
span_lt Exact = omega arith
span_lt Octave = omega arith

module _ (way : Way) (p : Pitch) where
  pub in_codes : (column : List ℕ) (x : ℕ) {code : ℕ} → In code (codes way p column x) → (x ≤ code) × (code < span way) × (holds way code p column ≡ true)
  in_codes column x {code} m =
      let h : In code (count x (span way - x)) × (holds way code p column ≡ true) = in_hits (λ code. holds way code p column) (count x (span way - x)) m in
      let k : (x ≤ code) × (code < x + (span way - x)) = in_count x (span way - x) h.0 in
      (k.0, omega arith, h.1)

  pub codes_in : (column : List ℕ) (x code : ℕ) → x ≤ code → code < span way → holds way code p column ≡ true → In code (codes way p column x)
  codes_in column x code l h e = hits_in (λ code. holds way code p column) (count x (span way - x)) (count_in x (span way - x) code l (omega arith)) e

  -- the starts of one column
  rising_places : (j x : ℕ) (column : List ℕ) → Rising key (j * 256 + x) (map (place j) (codes way p column x))
  rising_places j x column =
      rising_map (place j) key (j * 256 + x) (codes way p column x)
      (rising_add (j * 256) x (codes way p column x)
      (rising_hits (λ code. holds way code p column) (λ (n : ℕ). n) x (count x (span way - x)) (rising_count x (span way - x))))

  below_places : (j x : ℕ) (column : List ℕ) → Below key (suc j * 256) (map (place j) (codes way p column x))
  below_places j x column = below_in key (suc j * 256) (map (place j) (codes way p column x)) low
    where
      low : (s : Place) → In s (map (place j) (codes way p column x)) → key s < suc j * 256
      low s m =
          let t : (code : ℕ) × In code (codes way p column x) × (place j code ≡ s) = Memᴰ.of_map (place j) (codes way p column x) m in
          let k : t.0 < span way = (in_codes column x t.1).1 in
          subst (λ (s : Place). key s < suc j * 256) t.2 (omega (arith, span_lt way))

  module _ (m : ℕ) where
    pub rising_starts_in : (j : ℕ) (columns : List (List ℕ)) → Rising key (j * 256) (starts_in way p m j columns)
    rising_starts_in j [] = tt
    rising_starts_in j (c ∷ columns) = step (leb m (suc (length columns))) (rising_starts_in (suc j) columns)
      where
        step : (b : Bool) → Rising key (suc j * 256) (starts_in way p m (suc j) columns)
            → Rising key (j * 256) (cond b (map (place j) (codes way p c 0)) [] ++ starts_in way p m (suc j) columns)
        step true ih =
            rising_append key (j * 256) (suc j * 256) (map (place j) (codes way p c 0)) (starts_in way p m (suc j) columns)
            (rising_down key (j * 256) (j * 256 + 0) (map (place j) (codes way p c 0)) (omega arith) (rising_places j 0 c))
            (below_places j 0 c) (omega arith) ih
        step false ih = rising_down key (j * 256) (suc j * 256) (starts_in way p m (suc j) columns) (omega arith) ih

    -- s is a start of the columns, of which the first is column j: it stands at the i-th after it
    pub record StartIn (j : ℕ) (columns : List (List ℕ)) (s : Place) : Type 0 where
      pub i : ℕ
      pub at : s.column ≡ j + i
      pub inside : i < length columns
      pub room : i + m ≤ length columns
      pub small : s.code < span way
      pub held : holds way s.code p (get_or columns i []) ≡ true

    later_start : {j : ℕ} {c : List ℕ} {columns : List (List ℕ)} {s : Place} → StartIn (suc j) columns s → StartIn j (c ∷ columns) s
    later_start {j} {c} {columns} {s} t =
        record { i = suc t.i; at = omega arith; inside = omega arith; room = omega arith; small = t.small; held = t.held }

    pub in_starts_in : (j : ℕ) (columns : List (List ℕ)) {s : Place} → In s (starts_in way p m j columns) → StartIn j columns s
    in_starts_in j [] k = absurd (Memᴰ.not-nil k)
    in_starts_in j (c ∷ columns) {s} k = step (leb m (suc (length columns))) refl k (in_starts_in (suc j) columns)
      where
        first : m ≤ suc (length columns) → In s (map (place j) (codes way p c 0)) → StartIn j (c ∷ columns) s
        first h k =
            let t : (code : ℕ) × In code (codes way p c 0) × (place j code ≡ s) = Memᴰ.of_map (place j) (codes way p c 0) k in
            let e : (0 ≤ t.0) × (t.0 < span way) × (holds way t.0 p c ≡ true) = in_codes c 0 t.1 in
            subst (StartIn j (c ∷ columns)) t.2 (record { i = 0; at = omega arith; inside = omega arith; room = omega arith; small = e.1; held = e.2 })

        step : (b : Bool) → leb m (suc (length columns)) ≡ b → In s (cond b (map (place j) (codes way p c 0)) [] ++ starts_in way p m (suc j) columns)
            → (In s (starts_in way p m (suc j) columns) → StartIn (suc j) columns s) → StartIn j (c ∷ columns) s
        step true e k ih =
            ⊎_elim (first (leb-true m (suc (length columns)) e)) (λ t. later_start (ih t)) (Memᴰ.append_cases (map (place j) (codes way p c 0)) k)
        step false e k ih = later_start (ih k)

    pub starts_in_in : (j : ℕ) (columns : List (List ℕ)) {s : Place} → StartIn j columns s → In s (starts_in way p m j columns)
    starts_in_in j [] t = absurd (not-suc-le-zero t.inside)
    starts_in_in j (c ∷ columns) {s} t = step t.i t.at t.inside t.room t.held (starts_in_in (suc j) columns)
      where
        step : (i : ℕ) → s.column ≡ j + i → i < suc (length columns) → i + m ≤ suc (length columns) → holds way s.code p (get_or (c ∷ columns) i []) ≡ true
            → (StartIn (suc j) columns s → In s (starts_in way p m (suc j) columns)) → In s (starts_in way p m j (c ∷ columns))
        step zero at inside room held ih =
            let e : s.column ≡ j = omega arith in
            rw (le-leb m (suc (length columns)) (omega arith))
            (Memᴰ.append_left (starts_in way p m (suc j) columns)
            (Memᴰ.cast (ap (λ (k : ℕ). place k s.code) e) (Memᴰ.map (place j) (codes_in c 0 s.code zero-le t.small held))))
        step (suc i) at inside room held ih =
            Memᴰ.append_right (cond (leb m (suc (length columns))) (map (place j) (codes way p c 0)) [])
            (ih (record { i = i; at = omega arith; inside = omega arith; room = omega arith; small = t.small; held = held }))

-- ---- the starts of a score

module _ (way : Way) (score : List (List ℕ)) (theme : List ℕ) where
  -- every start stands in column 1 or later
  pub starts_rising : Rising key 256 (starts way score theme)
  starts_rising = rising_starts_in way (note theme 1) (length theme) 1 score

  -- s has room for the theme, and its first note is present
  pub record Start (s : Place) : Type 0 where
    pub from_first : 1 ≤ s.column
    pub to_last : s.column + length theme ≤ length score + 1
    pub small : s.code < span way
    pub first_note : holds way s.code (note theme 1) (get_or score (s.column - 1) []) ≡ true

  pub in_starts : {s : Place} → In s (starts way score theme) → Start s
  in_starts {s} k =
      let t : StartIn way (note theme 1) (length theme) 1 score s = in_starts_in way (note theme 1) (length theme) 1 score k in
      let e : s.column - 1 ≡ t.i = omega arith in
      record { from_first = omega arith; to_last = omega arith; small = t.small; first_note = rw e t.held }

  pub starts_in_lem : {s : Place} → 1 ≤ length theme → Start s → In s (starts way score theme)
  starts_in_lem {s} h t =
      starts_in_in way (note theme 1) (length theme) 1 score
      (record { i = s.column - 1; at = omega arith; inside = omega arith; room = omega arith; small = t.small; held = t.first_note })
