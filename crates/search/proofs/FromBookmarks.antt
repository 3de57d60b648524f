-- The starts that a page goes through from a bookmark on are exactly the starts that do not come before it in the order by
-- column and then shift: of a plain page all of them (`plain_reached_lem`), of a quick page those at the columns that the table and
-- the lent sets make candidates (`quick_reached_lem`). They stand in that order, each once (`plain_reached_ordered`,
-- `quick_reached_ordered`). What makes a column a candidate is `candidate_iff` of `Filtered`. Assumes nothing.
use mathlib.Core.Path.{◌≡◌, sym, subst}
use mathlib.Core.Bool.{Bool, true}
use mathlib.Core.Logic.{◌↔◌}
use mathlib.Core.List.Memᴰ
use mathlib.Core.List.{List, [], map, Memᴰ as In}
use Prim.Native.Nat.{ℕ, ◌-◌, ◌≤◌}
use native.Mathlib.Omega.{arith}
use lib.ListN.{length, get_or, length-drop}
use Rattle.theory.specs.Pages.{hits}
use Rattle.theory.proofs.Members.{in_hits, hits_in}
use Rattle.score.specs.Score.{note, heard_of, rank_of}
use Rattle.score.proofs.Heard.{number_is}
use Rattle.ways.specs.declared.way.Way.{Way}
use Rattle.ways.specs.declared.bookmark.Pair.{Pair}
use Rattle.ways.specs.declared.bookmark.Bookmark.{Bookmark}
use Rattle.ways.specs.Way.{code_of, range_of}
use Rattle.ways.proofs.Shifts.{shift_above, shift_below, shift_code, code_lt}
use Rattle.ways.proofs.Holding.{holds_true, true_holds}
use Rattle.paging.specs.Order.{Before, Ordered, marked_pair}
use Rattle.paging.specs.Search.{Search, left}
use Rattle.paging.proofs.Orders.{ordered_hits}
use Rattle.paging.proofs.AtOrAfter.{left_exactly, left_ordered}
use Rattle.walking.specs.Starts.{Place, starts, hit, looks}
use Rattle.walking.proofs.Order.{Start, in_starts, starts_in_lem}
use Rattle.search.specs.Pairs.{plain_search, candidate_of, quick_search}
use Rattle.search.specs.ReachedStarts.{IsStart, plain_reached, quick_reached}
use Rattle.search.proofs.Listed.{start_inside, shown_at, Placed, placed, start_of, shows, goes_on, stands_at, ranks, starts_ordered}

module _ (way : Way) (score : List (List ℕ)) (theme : List ℕ) where
  abbrev heards : List (List ℕ)
  heards = heard_of score

  abbrev shown : Place → Pair
  shown = shown_at way score theme

  -- ---- a start as a place and as a pair

  start_pair : {s : Place} → Start way heards theme s → IsStart way score theme (shown s)
  start_pair {s} t =
      let k = number_is score s.column t.from_first (start_inside way heards theme t) in
      record {
        from_first = k.from_first;
        with_pitch = k.heard_there;
        to_last = rw k.on (omega (arith, length-drop (s.column - 1) heards, t.from_first, t.to_last));
        not_below = shift_above way s.code;
        not_above = shift_below way t.small;
        first_note = rw k.named (holds_true way s.code (note theme 1) (get_or heards (s.column - 1) []) t.first_note);
      }

  -- where a start stands among the columns with a pitch
  abbrev among : {pair : Pair} → IsStart way score theme pair → Placed way score theme pair
  among {pair} t = placed way score theme pair t.from_first t.with_pitch

  pair_start : {pair : Pair} (t : IsStart way score theme pair) → Start way heards theme (start_of way score theme (among t))
  pair_start {pair} t =
      let p = among t in
      record {
        from_first = p.from_first;
        to_last = omega (arith, length-drop (p.i - 1) heards, p.from_first, p.to_last, rw (goes_on way score theme p) at t.to_last);
        small = code_lt way pair.shift t.not_below t.not_above;
        first_note =
            true_holds way (code_of way pair.shift) (note theme 1) (get_or heards (p.i - 1) [])
            (rw (shift_code way pair.shift t.not_below) (rw (stands_at way score theme p) at t.first_note));
      }

  -- ---- from a bookmark on

  -- along starts at some columns
  module _ (b : Bookmark) (reached : List Place) (At : ℕ → Type 0)
      (exactly : (s : Place) → In s reached ↔ (Start way heards theme s × At s.column)) where
    abbrev S : Search Place
    S =
        record {
          columns = length score;
          range = range_of way;
          starts = reached;
          hit = hit way heards theme;
          looks = looks way heards theme;
          shown = shown;
        }

    abbrev Meant : Pair → Type 0
    Meant pair = IsStart way score theme pair × At (rank_of score pair.column) × (Before pair (marked_pair b) → ⊥)

    reached_exactly : (pair : Pair) → In pair (map shown (left S b)) ↔ Meant pair
    reached_exactly pair = (there, back)
      where
        there : In pair (map shown (left S b)) → Meant pair
        there m =
            let f = Memᴰ.of_map shown (left S b) m in
            let g = (left_exactly S b f.0).0 f.1 in
            let t = (exactly f.0).0 g.0 in
            let e : rank_of score (shown f.0).column ≡ f.0.column
            = (number_is score f.0.column t.0.from_first (start_inside way heards theme t.0)).ranked in
            subst Meant f.2 (start_pair t.0, subst At (sym e) t.1, g.1)

        back : Meant pair → In pair (map shown (left S b))
        back t =
            let p = among t.0 in
            let s = start_of way score theme p in
            let e : shown s ≡ pair = shows way score theme p t.0.not_below in
            let k = (exactly s).1 (pair_start t.0, subst At (ranks way score theme p) t.1) in
            let n : Before (shown s) (marked_pair b) → ⊥ = subst (λ (p : Pair). Before p (marked_pair b) → ⊥) (sym e) t.2 in
            Memᴰ.cast (sym e) (Memᴰ.map shown ((left_exactly S b s).1 (k, n)))

  module _ (some : 1 ≤ length theme) (b : Bookmark) where
    -- a plain page goes through every start that does not come before the bookmark
    pub plain_reached_lem : (pair : Pair)
        → In pair (plain_reached way score theme b) ↔ (IsStart way score theme pair × (Before pair (marked_pair b) → ⊥))
    plain_reached_lem pair =
        let e = reached_exactly b (starts way heards theme) (λ j. Unit {0}) every pair in
        (λ m. let t = e.0 m in (t.0, t.2), λ t. e.1 (t.0, tt, t.1))
      where
        every : (s : Place) → In s (starts way heards theme) ↔ (Start way heards theme s × Unit {0})
        every s = (λ m. (in_starts way heards theme m, tt), λ t. starts_in_lem way heards theme some t.0)

    -- a quick page through those of them at candidates
    module _ (w : ℕ) (table sets : List ℕ) where
      abbrev Candidate : ℕ → Type 0
      Candidate i = candidate_of w score table sets (length theme) i ≡ true

      pub quick_reached_lem : (pair : Pair) → In pair (quick_reached w way score theme table sets b)
          ↔ (IsStart way score theme pair × (candidate_of w score table sets (length theme) (rank_of score pair.column) ≡ true)
          × (Before pair (marked_pair b) → ⊥))
      quick_reached_lem pair = reached_exactly b (hits keep (starts way heards theme)) Candidate exactly pair
        where
          keep : Place → Bool
          keep s = candidate_of w score table sets (length theme) s.column

          exactly : (s : Place) → In s (hits keep (starts way heards theme)) ↔ (Start way heards theme s × Candidate s.column)
          exactly s = (
            λ m. let d = in_hits keep (starts way heards theme) m in (in_starts way heards theme d.0, d.1),
            λ t. hits_in keep (starts way heards theme) (starts_in_lem way heards theme some t.0) t.1,
          )

  -- ---- in order

  module _ (b : Bookmark) where
    pub plain_reached_ordered : Ordered (plain_reached way score theme b)
    plain_reached_ordered = left_ordered (plain_search way score theme) b (starts_ordered way score theme)

    pub quick_reached_ordered : (w : ℕ) (table sets : List ℕ) → Ordered (quick_reached w way score theme table sets b)
    quick_reached_ordered w table sets =
        left_ordered (quick_search w way score theme table sets) b
        (ordered_hits (λ s. candidate_of w score table sets (length theme) s.column) shown (starts way heards theme) (starts_ordered way score theme))
