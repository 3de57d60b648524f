-- The list of pairs is the published definition: it holds exactly the pairs that stand (`listed_stands`, `stands_listed`),
-- by rising column and then rising shift, and so each once (`listed_ordered`). The idea: from a column with a pitch on, the
-- columns with a pitch are those that a search goes along. Assumes nothing.
use mathlib.Core.Path.{◌≡◌, refl, sym, ap₂, subst}
use mathlib.Core.Bool.{true, false≢true}
use mathlib.Core.Logic.{inl, inr}
use mathlib.Core.List.Memᴰ
use mathlib.Core.List.Memᴰ.{head as here}
use mathlib.Core.List.Memᴰ.{tail as later}
use mathlib.Core.List.{List, [], ◌∷◌, map, Memᴰ as In}
use Prim.Native.Nat.{ℕ, suc, ◌+◌, ◌-◌, ◌≤◌, ◌<◌}
use native.Mathlib.Nat.{add-zero}
use native.Mathlib.Decide.{dec_lt}
use native.Mathlib.Omega.{arith}
use lib.IntN.{ℤ}
use lib.Signed.{◌≤ℤ◌}
use lib.ListN.{length, get_or, length-drop, get_or-eq_default}
use lib.Seq.{get_or-drop}
use Rattle.theory.specs.Pages.{hits, Rising}
use Rattle.theory.proofs.Members.{in_hits, hits_in}
use Rattle.score.specs.declared.quantities.Pitch.{Pitch}
use Rattle.score.specs.Score.{pitch, column_at, column, heard, heard_of, number_of, rank_of, columns_from, onward}
use Rattle.score.proofs.Heard.{NumberOf, number_is, number_found}
use Rattle.ways.specs.declared.way.Way.{Way}
use Rattle.ways.specs.declared.bookmark.Pair.{Pair}
use Rattle.ways.specs.declared.way.Way.TheVariants.{Exact, Octave}
use Rattle.ways.specs.Way.{lowest, code_of, range_of, holds}
use Rattle.score.specs.Score.{note}
use Rattle.search.specs.Definition.{Stands}
use Rattle.walking.specs.Starts.{Place, place, key, starts, hit}
use Rattle.paging.specs.Order.{Before, Ordered, none, one, more, Within}
use Rattle.paging.specs.Search.{renamed}
use Rattle.paging.proofs.Orders.{ordered_hits}
use Rattle.paging.proofs.Renumbered.{renamed_ordered}
use Rattle.search.specs.Pairs.{pair_at, along_search, pairs}
use Rattle.walking.proofs.Order.{span_lt, Start, in_starts, starts_in_lem, starts_rising}
use Rattle.ways.proofs.Shifts.{shift_rises, shift_above, shift_below, shift_code, code_lt}
use Rattle.ways.proofs.Holding.{holds_true, true_holds}
use Rattle.search.proofs.Notes.{Each, hit_each, each_hit}
use Rattle.search.proofs.Numbers.{numbers_rise}

-- ---- places that rise are pairs in order

rising_before : (way : Way) (a b : Place) → a.code < 256 → b.code < 256 → key a < key b → Before (pair_at way a) (pair_at way b)
rising_before way a b h k l = pick (dec_lt a.column b.column)
  where
    pick : Dec (a.column < b.column) → Before (pair_at way a) (pair_at way b)
    pick (yes e) = inl e
    pick (no e) = inr (omega arith, shift_rises way (omega arith))

pub rising_ordered : (way : Way) (b : ℕ) (places : List Place) → ((s : Place) → In s places → s.code < 256) → Rising key b places → Ordered (map (pair_at way) places)
rising_ordered way b [] small r = none
rising_ordered way b (x ∷ []) small r = one
rising_ordered way b (x ∷ y ∷ places) small r =
    more (rising_before way x y (small x (here refl)) (small y (later (here refl))) r.1.0)
    (rising_ordered way (suc (key x)) (y ∷ places) (λ s m. small s (later m)) r.1)

-- ---- along columns

-- a column that holds a note is one of them
none_held : (way : Way) (code : ℕ) (p : Pitch) → holds way code p [] ≡ true → ⊥
unfolding holds
none_held Exact code p e = false≢true e
none_held Octave code p e = false≢true e

held_inside : (way : Way) (code : ℕ) (p : Pitch) (columns : List (List ℕ)) (k : ℕ) → holds way code p (get_or columns k []) ≡ true → k < length columns
held_inside way code p columns k e = pick (dec_lt k (length columns))
  where
    pick : Dec (k < length columns) → k < length columns
    pick (yes l) = l
    pick (no l) =
        let g : length columns ≤ k = omega arith in
        absurd (none_held way code p (rw (get_or-eq_default columns [] g) at e))

module _ (way : Way) (columns : List (List ℕ)) (theme : List ℕ) where
  pub start_inside : {s : Place} → Start way columns theme s → s.column ≤ length columns
  start_inside {s} t = omega (arith, t.from_first, held_inside way s.code (note theme 1) columns (s.column - 1) t.first_note)

  pub start_within : {s : Place} → Start way columns theme s → Within (range_of way) (length columns) (pair_at way s)
  start_within {s} t =
      record { from_first = t.from_first; to_last = start_inside t; not_below = shift_above way s.code; not_above = shift_below way t.small }

  pub along_ordered : Ordered (map (pair_at way) (starts way columns theme))
  along_ordered =
      rising_ordered way 256 (starts way columns theme) (λ s m. omega (arith, span_lt way, (in_starts way columns theme m).small)) (starts_rising way columns theme)

-- ---- in a score

module _ (way : Way) (score : List (List ℕ)) (theme : List ℕ) where
  abbrev heards : List (List ℕ)
  heards = heard_of score

  -- what a start shows
  abbrev pub shown_at : Place → Pair
  shown_at s = renamed (number_of score) (pair_at way s)

  abbrev numbered : {s : Place} → Start way heards theme s → NumberOf score s.column (number_of score s.column)
  numbered {s} t = number_is score s.column t.from_first (start_inside way heards theme t)

  -- a start that is a hit stands
  pub hit_stands : {s : Place} → Start way heards theme s → hit way heards theme s ≡ true → Stands way score theme (shown_at s)
  hit_stands {s} t e =
      let k = numbered t in
      record {
        from_first = k.from_first;
        with_pitch = k.heard_there;
        to_last = rw k.on (omega (arith, length-drop (s.column - 1) heards, t.from_first, t.to_last));
        not_below = shift_above way s.code;
        not_above = shift_below way t.small;
        each_note = λ i l h. rw k.on
            (holds_true way s.code (note theme i) (get_or (columns_from heards (column_at s.column)) (i - 1) [])
            (hit_each way heards theme s t.first_note e (i - 1) (omega arith)));
      }

  pub listed_stands : {pair : Pair} → In pair (pairs way score theme) → Stands way score theme pair
  listed_stands {pair} m =
      let f = Memᴰ.of_map shown_at (hits (hit way heards theme) (starts way heards theme)) m in
      let g = in_hits (hit way heards theme) (starts way heards theme) f.1 in
      subst (Stands way score theme) f.2 (hit_stands (in_starts way heards theme g.0) g.1)

  -- a column with a pitch, as one of those
  pub record Placed (pair : Pair) : Type 0 where
    pub i : ℕ
    pub from_first : 1 ≤ i
    pub to_last : i ≤ length heards
    pub names : number_of score i ≡ pair.column.0

  pub placed : (pair : Pair) → 1 ≤ pair.column.0 → heard (column score pair.column) ≡ true → Placed pair
  placed pair low e =
      let r = number_found score pair.column.0 low e in
      record { i = r.0; from_first = r.1; to_last = r.2; names = r.3 }

  module _ {pair : Pair} (p : Placed pair) where
    abbrev pub start_of : Place
    start_of = place p.i (code_of way pair.shift)

    pub shows : lowest way ≤ℤ pair.shift → shown_at start_of ≡ pair
    shows low = ap₂ {C = Pair} (λ (j : ℕ) (c : ℤ). record { column = column_at j; shift = c }) p.names (shift_code way pair.shift low)

    pub goes_on : onward score pair.column ≡ columns_from heards (column_at p.i)
    goes_on = rw p.names at (number_is score p.i p.from_first p.to_last).on

    pub stands_at : column score pair.column ≡ get_or heards (p.i - 1) []
    stands_at = rw p.names at (number_is score p.i p.from_first p.to_last).named

    pub ranks : rank_of score pair.column ≡ p.i
    ranks = rw p.names at (number_is score p.i p.from_first p.to_last).ranked

  -- a pair that stands is a start, where each note is held
  module _ {pair : Pair} (t : Stands way score theme pair) where
    pub stood : Placed pair
    stood = placed pair t.from_first t.with_pitch

    pub stands_each : Each way (start_of stood).code theme (columns_from heards (column_at stood.i))
    stands_each i h =
        let e : i + 1 - 1 ≡ i = omega arith in
        true_holds way (start_of stood).code (pitch (get_or theme i 0)) (get_or (columns_from heards (column_at stood.i)) i [])
        (rw (shift_code way pair.shift t.not_below) (rw (goes_on stood, e) at (t.each_note (i + 1) (omega arith) (omega arith))))

    pub stands_start : 1 ≤ length theme → Start way heards theme (start_of stood)
    stands_start h =
        record {
          from_first = stood.from_first;
          to_last = omega (arith, length-drop (stood.i - 1) heards, stood.from_first, stood.to_last, rw (goes_on stood) at t.to_last);
          small = code_lt way pair.shift t.not_below t.not_above;
          first_note = rw (get_or-drop (stood.i - 1) heards 0 [], add-zero) at (stands_each 0 h);
        }

  pub stands_listed : {pair : Pair} → 1 ≤ length theme → Stands way score theme pair → In pair (pairs way score theme)
  stands_listed {pair} h t =
      Memᴰ.cast (sym (shows (stood t) t.not_below))
      (Memᴰ.map shown_at
      (hits_in (hit way heards theme) (starts way heards theme) (starts_in_lem way heards theme h (stands_start t h))
      (each_hit way heards theme (start_of (stood t)) (stands_each t))))

  -- in order: the starts, and so the hits among them
  pub starts_ordered : Ordered (map shown_at (starts way heards theme))
  starts_ordered =
      renamed_ordered (length score) (number_of score) (along_search way heards theme) (numbers_rise score) (starts way heards theme)
      (λ s m. start_within way heards theme (in_starts way heards theme m)) (along_ordered way heards theme)

  pub listed_ordered : Ordered (pairs way score theme)
  listed_ordered = ordered_hits (hit way heards theme) shown_at (starts way heards theme) starts_ordered
