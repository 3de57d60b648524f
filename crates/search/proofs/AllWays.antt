-- All ways: the list of the plain call holds exactly the pairs that stand, in order. Of the ways that move the theme that is
-- `Listed`; the pairs of the tune as it is written are the exact pairs with shift 0. Assumes nothing.
use mathlib.Core.Path.{◌≡◌, refl, sym, ap, ap₂, ◌∙◌, subst}
use mathlib.Core.Bool.{true}
use mathlib.Core.List.Memᴰ
use mathlib.Core.List.{List, [], Memᴰ as In}
use Prim.Native.Nat.{ℕ, ◌+◌, ◌-◌, ◌≤◌}
use native.Mathlib.Nat.{add-zero}
use native.Mathlib.Omega.{arith}
use lib.Dec.{eqb}
use lib.IntN.{ℤ, pos, nat_abs}
use lib.ListN.{length, get_or, length-drop}
use lib.Signed.{le_z_yes}
use borrow.Author.Tests.{eq-eqb, eqb-true}
use Rattle.theory.specs.Lists.{count}
use Rattle.theory.specs.Pages.{hits}
use Rattle.theory.proofs.Lists.{some_in, in_some}
use Rattle.theory.proofs.Members.{in_count}
use Rattle.score.specs.declared.quantities.Pitch.{Pitch}
use Rattle.score.specs.Score.{pitch, column_at, pitches, heard_of, number_of, columns_from}
use Rattle.score.proofs.Heard.{number_is}
use Rattle.ways.specs.declared.way.AnyWay.{AnyWay}
use Rattle.ways.specs.declared.way.AnyWay.TheVariants.{Moved, Written}
use Rattle.ways.specs.declared.way.Way.TheVariants.{Exact}
use Rattle.ways.specs.declared.bookmark.Pair.{Pair}
use Rattle.ways.specs.Way.{HoldsExact}
use Rattle.paging.specs.Order.{Ordered}
use Rattle.paging.specs.Search.{renamed}
use Rattle.paging.proofs.Orders.{ordered_hits}
use Rattle.paging.proofs.Renumbered.{renamed_ordered}
use Rattle.written.specs.Written.{has, stands_at, written_search}
use Rattle.written.proofs.Listed.{as_pair, count_ordered, Sounding, listed_each, each_listed}
use Rattle.search.specs.Definition.{StandsAs}
use Rattle.search.specs.Pairs.{pairs_as}
use Rattle.search.proofs.Numbers.{numbers_rise}
use Rattle.search.proofs.Listed.{listed_stands, stands_listed, listed_ordered, Placed, stood, goes_on}

-- a pitch of the column is a note that it holds with shift 0
has_holds : (column : List ℕ) (p : ℕ) → has column p ≡ true → HoldsExact column (pitch p) (pos 0)
has_holds column p e =
    let f = some_in (λ (t : Pitch). eqb t.0 p) (pitches column) e in
    record { t = f.0; there = f.1; moved = ap pos (add-zero p ∙ sym (eqb-true f.0.0 p f.2)) }

holds_has : (column : List ℕ) (p : ℕ) → HoldsExact column (pitch p) (pos 0) → has column p ≡ true
holds_has column p k =
    let same : p + 0 ≡ k.t.0 = ap nat_abs k.moved in
    in_some (λ (t : Pitch). eqb t.0 p) (pitches column) k.there (eq-eqb k.t.0 p (omega arith))

module _ (score : List (List ℕ)) (theme : List ℕ) (some : 1 ≤ length theme) where
  abbrev heards : List (List ℕ)
  heards = heard_of score

  sounding_stands : {pair : Pair} → Sounding heards theme pair → StandsAs Written score theme (renamed (number_of score) pair)
  sounding_stands {pair} s =
      let k = number_is score pair.column.0 s.from_first (omega (arith, s.to_last)) in (
        record {
          from_first = k.from_first;
          with_pitch = k.heard_there;
          to_last = rw k.on (omega (arith, length-drop (pair.column.0 - 1) heards, s.from_first, s.to_last));
          not_below = rw s.untouched (le_z_yes tt);
          not_above = rw s.untouched (le_z_yes tt);
          each_note = λ i low high. rw (s.untouched, k.on)
              (has_holds (get_or (columns_from heards pair.column) (i - 1) []) (get_or theme (i - 1) 0) (s.each (i - 1) (omega arith)));
        },
        s.untouched,
      )

  written_stands : {pair : Pair} → In pair (pairs_as Written score theme) → StandsAs Written score theme pair
  written_stands {pair} m =
      let found = hits (stands_at heards theme) (count 1 (length heards + 1 - length theme)) in
      let f = Memᴰ.of_map (λ j. renamed (number_of score) (as_pair j)) found m in
      subst (StandsAs Written score theme) f.2 (sounding_stands (listed_each heards theme (Memᴰ.map as_pair f.1)))

  -- where it stands among the columns with a pitch
  module _ {pair : Pair} (s : StandsAs Written score theme pair) where
    abbrev p : Placed Exact score theme pair
    p = stood Exact score theme s.0

    stands_sounding : Sounding heards theme (as_pair p.i)
    stands_sounding =
        record {
          from_first = p.from_first;
          to_last = omega (arith, length-drop (p.i - 1) heards, p.from_first, p.to_last, rw (goes_on Exact score theme p) at s.0.to_last);
          untouched = refl;
          each = λ i l.
              let e : i + 1 - 1 ≡ i = omega arith in
              let held = rw (goes_on Exact score theme p, e) at (s.0.each_note (i + 1) (omega arith) (omega arith)) in
              let column = get_or (columns_from heards (column_at p.i)) i [] in
              holds_has column (get_or theme i 0) (subst (λ (c : ℤ). HoldsExact column (pitch (get_or theme i 0)) c) s.1 held);
        }

    stands_written : In pair (pairs_as Written score theme)
    stands_written =
        let found = hits (stands_at heards theme) (count 1 (length heards + 1 - length theme)) in
        let f = Memᴰ.of_map as_pair found (each_listed heards theme some stands_sounding) in
        let e : f.0 ≡ p.i = ap (λ (q : Pair). q.column.0) f.2 in
        let shown : renamed (number_of score) (as_pair f.0) ≡ pair =
        ap₂ {C = Pair} (λ (j : ℕ) (c : ℤ). record { column = column_at j; shift = c }) (ap (number_of score) e ∙ p.names) (sym s.1) in
        Memᴰ.cast (sym shown) (Memᴰ.map (λ j. renamed (number_of score) (as_pair j)) f.1)

-- ---- all ways

pub as_stands : (way : AnyWay) (score : List (List ℕ)) (theme : List ℕ) {pair : Pair} → 1 ≤ length theme → In pair (pairs_as way score theme) → StandsAs way score theme pair
as_stands (Moved way) score theme some m = listed_stands way score theme m
as_stands Written score theme some m = written_stands score theme some m

pub stands_as : (way : AnyWay) (score : List (List ℕ)) (theme : List ℕ) {pair : Pair} → 1 ≤ length theme → StandsAs way score theme pair → In pair (pairs_as way score theme)
stands_as (Moved way) score theme some s = stands_listed way score theme some s
stands_as Written score theme some s = stands_written score theme some s

pub ordered_as : (way : AnyWay) (score : List (List ℕ)) (theme : List ℕ) → 1 ≤ length theme → Ordered (pairs_as way score theme)
ordered_as (Moved way) score theme some = listed_ordered way score theme
ordered_as Written score theme some =
    let heards = heard_of score in
    let columns = count 1 (length heards + 1 - length theme) in
    ordered_hits (stands_at heards theme) (λ j. renamed (number_of score) (as_pair j)) columns
    (renamed_ordered (length score) (number_of score) (written_search heards theme) (numbers_rise score) columns
    (λ j m. let t = in_count 1 (length heards + 1 - length theme) m in
    record { from_first = t.0; to_last = omega (arith, t.1); not_below = le_z_yes tt; not_above = le_z_yes tt })
    (count_ordered 1 (length heards + 1 - length theme)))
