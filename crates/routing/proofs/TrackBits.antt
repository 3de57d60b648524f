-- The sets of tracks that hold the notes of a listed pair: which bits they have (`set_bit`, `holders_bit`), that each note has one
-- and it is not empty (`listed_length`, `listed_playable`), and that a route takes its tracks from them (`route_held`).
-- The idea: the sets by their places, each over its own column. Assumes nothing.
use mathlib.Core.Path.{◌≡◌, refl, sym, ap, ◌∙◌, subst}
use mathlib.Core.Bool.{Bool, true, false, not, cond}
use mathlib.Core.Logic.{◌↔◌}
use mathlib.Core.List.{List, [], ◌∷◌}
use Prim.Native.Nat.{ℕ, zero, suc, ◌+◌, ◌-◌, ◌*◌, ◌/◌, ◌^◌, ◌≤◌, ◌<◌, zero-le, suc-le-suc}
use native.Mathlib.Nat.{not-suc-le-zero, le_of_suc-le-suc, le_refl, zero-lt-suc, pow-suc, lt_of_lt_of_le}
use native.Mathlib.Numerals.{add-one}
use native.Mathlib.Omega.{arith}
use lib.Dec.{eqb}
use lib.IntN.{ℤ}
use lib.ListN.{length, get_or, drop}
use lib.Pow.{pow_mono}
use lib.Seq.{get_or-drop}
use borrow.Author.Tests.{eqb-false, ne_eqb}
use Rattle.theory.specs.Bits.{bit}
use Rattle.theory.specs.Lists.{some}
use Rattle.theory.specs.Pages.{hits}
use Rattle.theory.proofs.Bits.{bit_zero, bit_suc, bit_high}
use Rattle.score.specs.Limits.{most_tracks}
use Rattle.score.specs.declared.quantities.Pitch.{Pitch}
use Rattle.score.specs.declared.quantities.Column.{Column}
use Rattle.score.specs.Score.{pitch, columns_in, score_of, heard, onward}
use Rattle.score.proofs.Columns.{column_le}
use Rattle.ways.specs.declared.way.Way.{Way}
use Rattle.ways.specs.declared.way.AnyWay.{AnyWay}
use Rattle.ways.specs.declared.bookmark.Pair.{Pair}
use Rattle.ways.specs.Way.{Holds, shift_of, code_of, holds}
use Rattle.ways.proofs.Shifts.{shift_code}
use Rattle.ways.proofs.Holding.{holds_true, true_holds, eqb_same}
use Rattle.seeking.specs.Track.{cell_holds}
use Rattle.seeking.proofs.Tracks.{holds_cells}
use Rattle.routing.specs.Route.{way_as, Plays, Route}
use Rattle.routing.specs.Routing.{held_along, is_listed}
use Rattle.routing.specs.TrackSets.{set_of, holders, holders_along, holders_at, Tracks, Playable}
use Rattle.routing.proofs.CellBits.{bit_le, set_lt}
use Rattle.routing.proofs.HeldBy.{HeldBy, held_length, held_each, each_held}
use Rattle.routing.proofs.ListedPairs.{HeldEach, held_along_lem, by_along, is_listed_by_lem, is_listed_held}

-- ---- the cells that pass a test, as a set

-- a test as a bit
digit_is : (b : Bool) → ◌≡◌ {A = ℕ} (cond b 1 0) 1 → b ≡ true
digit_is true e = refl
digit_is false e = absurd (omega (arith, e))

module _ (test : ℕ → Bool) where
  -- one cell more: the lowest bit is its own, and the others move up
  set_first : (cell : ℕ) (cells : List ℕ) → bit (set_of test (cell ∷ cells)) 0 ≡ cond (test cell) 1 0
  unfolding set_of
  set_first cell cells = bit_zero (cond (test cell) 1 0 + set_of test cells * 2) ∙ omega (arith, bit_le (test cell))

  set_others : (cell : ℕ) (cells : List ℕ) (k : ℕ) → bit (set_of test (cell ∷ cells)) (suc k) ≡ bit (set_of test cells) k
  unfolding set_of
  set_others cell cells k =
      let e : (cond (test cell) 1 0 + set_of test cells * 2) / 2 ≡ set_of test cells = omega (arith, bit_le (test cell)) in
      bit_suc (cond (test cell) 1 0 + set_of test cells * 2) k ∙ ap (λ (n : ℕ). bit n k) e

  set_empty : (k : ℕ) → bit (set_of test []) k ≡ 0
  unfolding set_of
  set_empty k = bit_high 0 k 0 (zero-lt-suc 0) zero-le

  bit_passes : (cells : List ℕ) (k : ℕ) → bit (set_of test cells) k ≡ 1 → (k < length cells) × (test (get_or cells k 0) ≡ true)
  bit_passes [] k e = absurd (omega (arith, e, set_empty k))
  bit_passes (cell ∷ cells) zero e = (omega arith, digit_is (test cell) (sym (set_first cell cells) ∙ e))
  bit_passes (cell ∷ cells) (suc k) e =
      let ih = bit_passes cells k (sym (set_others cell cells k) ∙ e) in
      (suc-le-suc ih.0, ih.1)

  passes_bit : (cells : List ℕ) (k : ℕ) → k < length cells → test (get_or cells k 0) ≡ true → bit (set_of test cells) k ≡ 1
  passes_bit [] k l e = absurd (not-suc-le-zero l)
  passes_bit (cell ∷ cells) zero l e = set_first cell cells ∙ ap (λ (b : Bool). cond b 1 0) e
  passes_bit (cell ∷ cells) (suc k) l e = set_others cell cells k ∙ passes_bit cells k (le_of_suc-le-suc l) e

  pub set_bit : (cells : List ℕ) (k : ℕ) → (bit (set_of test cells) k ≡ 1) ↔ ((k < length cells) × (test (get_or cells k 0) ≡ true))
  set_bit cells k = (bit_passes cells k, λ h. passes_bit cells k h.0 h.1)

  -- it is 0 exactly where no cell passes
  pub set_none : (cells : List ℕ) → eqb (set_of test cells) 0 ≡ not (some test cells)
  unfolding set_of
  set_none [] = refl
  set_none (cell ∷ cells) = step (test cell) (set_none cells)
    where
      step : (b : Bool) → eqb (set_of test cells) 0 ≡ not (some test cells)
          → eqb (cond b 1 0 + set_of test cells * 2) 0 ≡ not (cond b true (some test cells))
      step true ih = ne_eqb (1 + set_of test cells * 2) 0 (λ e. omega (arith, e))
      step false ih =
          eqb_same (0 + set_of test cells * 2) 0 (set_of test cells) 0 (λ e. omega (arith, e)) (λ e. omega (arith, e)) ∙ ih

-- ---- the tracks of a column that hold a note

module _ (way : Way) (code : ℕ) (p : Pitch) (column : List ℕ) where
  abbrev set : ℕ
  set = set_of (cell_holds way code p) column

  pub holders_zero_bit : bit (holders way code p column) 0 ≡ 0
  holders_zero_bit = bit_zero (set * 2) ∙ omega arith

  bit_up : (t : ℕ) → bit (holders way code p column) (suc t) ≡ bit set t
  bit_up t = let e : set * 2 / 2 ≡ set = omega arith in bit_suc (set * 2) t ∙ ap (λ (n : ℕ). bit n t) e

  -- track t is in the set: it is one of the column, and its cell holds the note
  pub holders_bit : (t : ℕ) → (bit (holders way code p column) t ≡ 1)
      ↔ ((1 ≤ t) × (t ≤ length column) × (cell_holds way code p (get_or column (t - 1) 0) ≡ true))
  holders_bit zero = (λ e. absurd (omega (arith, e, holders_zero_bit)), λ h. absurd (omega (arith, h.0)))
  holders_bit (suc t) =
      let e : suc t - 1 ≡ t = omega arith in
      let s = set_bit (cell_holds way code p) column t in
      rw e (
        λ b. let h = s.0 (sym (bit_up t) ∙ b) in (omega arith, h.0, h.1),
        λ h. bit_up t ∙ s.1 (h.1, h.2),
      )

  pub holders_lt : holders way code p column < 2 ^ (length column + 1)
  holders_lt = rw (add-one (length column), pow-suc) (omega (arith, set_lt (cell_holds way code p) column (length column) (le_refl (length column))))

  -- it is 0 exactly where the column does not hold the note
  pub holders_none : eqb (holders way code p column) 0 ≡ not (holds way code p column)
  holders_none =
      eqb_same (set * 2) 0 set 0 (λ e. omega (arith, e)) (λ e. omega (arith, e))
      ∙ set_none (cell_holds way code p) column
      ∙ ap not (sym (holds_cells way code p column))

  pub holders_tracks : holds way code p column ≡ true → length column ≤ most_tracks → Tracks (holders way code p column)
  holders_tracks e few =
      let n = eqb-false (holders way code p column) 0 (holders_none ∙ ap not e) in
      record {
        some = omega (arith, n);
        few = lt_of_lt_of_le holders_lt (pow_mono {i = length column + 1} {j = most_tracks + 1} (omega (arith, few)));
        not_zero = holders_zero_bit;
      }

-- ---- along the columns: the sets by their places

module _ (way : Way) (code : ℕ) where
  along_length : (theme : List ℕ) (columns : List (List ℕ)) → length theme ≤ length columns
      → length (holders_along way code theme columns) ≡ length theme
  unfolding holders_along
  along_length [] columns room = refl
  along_length (p ∷ theme) [] room = absurd (not-suc-le-zero room)
  along_length (p ∷ theme) (c ∷ columns) room = ap suc (along_length theme columns (le_of_suc-le-suc room))

  along_at : (theme : List ℕ) (columns : List (List ℕ)) → length theme ≤ length columns → (k : ℕ) → k < length theme
      → get_or (holders_along way code theme columns) k 0 ≡ holders way code (pitch (get_or theme k 0)) (get_or columns k [])
  unfolding holders_along
  along_at [] columns room k l = absurd (not-suc-le-zero l)
  along_at (p ∷ theme) [] room k l = absurd (not-suc-le-zero room)
  along_at (p ∷ theme) (c ∷ columns) room zero l = refl
  along_at (p ∷ theme) (c ∷ columns) room (suc k) l = along_at theme columns (le_of_suc-le-suc room) k (le_of_suc-le-suc l)

  module _ (theme : List ℕ) (columns : List (List ℕ)) (e : held_along way code theme columns ≡ true) where
    -- each note is held in its column
    abbrev held : HeldEach way code theme columns
    held = (held_along_lem way code theme columns).0 e

    pub holders_length : length (holders_along way code theme columns) ≡ length theme
    holders_length = along_length theme columns held.room

    pub holders_at_lem : (k : ℕ) → k < length theme
        → get_or (holders_along way code theme columns) k 0 ≡ holders way code (pitch (get_or theme k 0)) (get_or columns k [])
    holders_at_lem k l = along_at theme columns held.room k l

    pub holders_playable : ((k : ℕ) → length (get_or columns k []) ≤ most_tracks) → Playable (holders_along way code theme columns)
    holders_playable few =
        record {
          each = λ k l.
              let m : k < length theme = omega (arith, l, holders_length) in
              subst Tracks (sym (holders_at_lem k m))
              (holders_tracks way code (pitch (get_or theme k 0)) (get_or columns k []) (held.each k m) (few k));
        }

-- ---- the columns of a score have at most as many cells as there are tracks

hits_keep : (P : List ℕ → Type 0) → P [] → (test : List ℕ → Bool) (score : List (List ℕ)) → ((k : ℕ) → P (get_or score k []))
    → (k : ℕ) → P (get_or (hits test score) k [])
hits_keep P none test [] f k = none
hits_keep P none test (c ∷ score) f k = step (test c) k (hits_keep P none test score (λ i. f (suc i)))
  where
    step : (t : Bool) (k : ℕ) → ((i : ℕ) → P (get_or (hits test score) i []))
        → P (get_or (cond t (c ∷ hits test score) (hits test score)) k [])
    step true zero ih = f 0
    step true (suc k) ih = ih k
    step false k ih = ih k

pub onward_le : (cells : List ℕ) (h : ℕ) (j : Column) (k : ℕ) → length (get_or (onward (score_of cells h) j) k []) ≤ h
onward_le cells h j =
    hits_keep (λ (c : List ℕ). length c ≤ h) zero-le heard (drop (j.0 - 1) (score_of cells h))
    (λ k. subst (λ (c : List ℕ). length c ≤ h) (sym (get_or-drop (j.0 - 1) (score_of cells h) k []))
    (column_le (columns_in cells h) h cells (j.0 - 1 + k)))

-- ---- a listed pair

module _ (way : AnyWay) (score : List (List ℕ)) (theme : List ℕ) (pair : Pair) (e : is_listed way score theme pair ≡ true) where
  abbrev w : Way
  w = way_as way

  abbrev c : ℤ
  c = pair.shift

  abbrev code : ℕ
  code = code_of w c

  abbrev columns : List (List ℕ)
  columns = onward score pair.column

  abbrev sets : List ℕ
  sets = holders_at w score theme pair

  along : held_along w code theme columns ≡ true
  along = by_along w score theme pair (is_listed_held way score theme pair e)

  pub listed_length : length (holders_at (way_as way) score theme pair) ≡ length theme
  listed_length = holders_length w code theme columns along

  -- ---- a route takes its tracks from the sets

  back : shift_of w code ≡ c
  back = shift_code w c ((is_listed_by_lem w score theme pair).0 (is_listed_held way score theme pair e)).not_below

  -- note k, from 0, in its column
  abbrev p : ℕ → Pitch
  p k = pitch (get_or theme k 0)

  abbrev at : ℕ → List ℕ
  at k = get_or columns k []

  abbrev cell : (k t : ℕ) → List ℕ
  cell k t = get_or (at k) (t - 1) 0 ∷ []

  plays_bit : (k t : ℕ) → k < length theme → Plays way score theme pair (k + 1) t → bit (get_or sets k 0) t ≡ 1
  plays_bit k t l s =
      let i : k + 1 - 1 ≡ k = omega arith in
      let last : t ≤ length (at k) = rw i at s.to_last in
      let held : Holds w (cell k t) (p k) c = rw i at s.held in
      ap (λ (n : ℕ). bit n t) (holders_at_lem w code theme columns along k l)
      ∙ (holders_bit w code (p k) (at k) t).1
      (s.from_first, last, true_holds w code (p k) (cell k t) (subst (Holds w (cell k t) (p k)) (sym back) held))

  bit_plays : (k t : ℕ) → k < length theme → bit (get_or sets k 0) t ≡ 1 → Plays way score theme pair (k + 1) t
  bit_plays k t l b =
      let i : k + 1 - 1 ≡ k = omega arith in
      let same : get_or sets k 0 ≡ holders w code (p k) (at k) = holders_at_lem w code theme columns along k l in
      let s = (holders_bit w code (p k) (at k) t).0 (ap (λ (n : ℕ). bit n t) (sym same) ∙ b) in
      record {
        from_first = s.0;
        to_last = rw i s.1;
        held = rw i (subst (Holds w (cell k t) (p k)) back (holds_true w code (p k) (cell k t) s.2));
      }

  pub route_held : (route : List ℕ) → Route way score theme pair route ↔ HeldBy (holders_at (way_as way) score theme pair) route
  route_held route = (
    λ r. each_held sets route (r.long ∙ sym listed_length) (λ k l.
        let i : k + 1 - 1 ≡ k = omega arith in
        let m : k < length theme = omega (arith, l, listed_length) in
        plays_bit k (get_or route k 0) m (rw i at (r.plays (k + 1) (omega arith) (omega (arith, m))))),
    λ s. record {
      long = held_length sets route s ∙ listed_length;
      plays = λ i low high.
          let m : i - 1 < length theme = omega (arith, low, high) in
          let up : i - 1 + 1 ≡ i = omega (arith, low) in
          subst (λ (n : ℕ). Plays way score theme pair n (get_or route (i - 1) 0)) up
          (bit_plays (i - 1) (get_or route (i - 1) 0) m (held_each sets route s (i - 1) (omega (arith, m, listed_length))));
    },
  )

pub listed_playable : (way : AnyWay) (cells : List ℕ) (h : ℕ) (theme : List ℕ) (pair : Pair) → h ≤ most_tracks
    → is_listed way (score_of cells h) theme pair ≡ true → Playable (holders_at (way_as way) (score_of cells h) theme pair)
listed_playable way cells h theme pair few e =
    holders_playable (way_as way) (code_of (way_as way) pair.shift) theme (onward (score_of cells h) pair.column)
    (along way (score_of cells h) theme pair e) (λ k. omega (arith, few, onward_le cells h pair.column k))
