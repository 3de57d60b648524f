-- Demand 2, and what joins it to the calls: every pair that a page writes stands by the published definition, plain and quick,
-- whatever sets were lent. Looks: an answer's looks are at most the bound. Then sentences that follow from the definition: a
-- theme with more notes than there are columns with a pitch has no pairs, an empty column begins none, and a finished bookmark
-- gives an empty finished page. Assumes nothing.
use mathlib.Core.Path.{◌≡◌, sym, ap, ◌∙◌, subst}
use mathlib.Core.Bool.{true, false, true≢false}
use mathlib.Core.List.Memᴰ.{head as at_head}
use mathlib.Core.List.Memᴰ.{not-nil}
use mathlib.Core.List.Memᴰ.{tail as in_Tail}
use mathlib.Core.List.{List, [], ◌∷◌, Memᴰ as In}
use Prim.Native.Nat.{ℕ, zero, suc, ◌+◌, ◌-◌, ◌≤◌, ◌<◌}
use native.Mathlib.Nat.{le_trans, le_of_eq}
use native.Mathlib.Omega.{arith}
use lib.ListN.{length, take, length-drop}
use Rattle.theory.specs.Lists.{count}
use Rattle.theory.specs.Pages.{hits}
use Rattle.theory.proofs.Looks.{sum_none}
use Rattle.theory.proofs.Members.{in_hits}
use Rattle.score.specs.Limits.{table_words}
use Rattle.score.specs.Score.{column_at, column, score_of, heard, heard_of, rank_of}
use Rattle.ways.specs.declared.way.Way.{Way}
use Rattle.ways.specs.declared.way.AnyWay.{AnyWay}
use Rattle.ways.specs.declared.way.AnyWay.TheVariants.{Moved, Written}
use Rattle.ways.specs.declared.bookmark.Pair.{Pair}
use Rattle.ways.specs.declared.bookmark.Bookmark.{Bookmark}
use Rattle.ways.specs.Way.{range_as}
use Rattle.ways.specs.Bookmarks.{finished_bookmark}
use Rattle.asking.specs.Limits.{most_notes}
use Rattle.asking.specs.Asking.{Accepted, AcceptedSets, PlainAsks}
use Rattle.filter.specs.Limits.{word_bits}
use Rattle.filter.specs.Table.{theme_table}
use Rattle.paging.specs.declared.page.Turn.{Turn}
use Rattle.paging.specs.Lent.{Lent, Room, read_pairs}
use Rattle.paging.specs.Order.{at_or_after}
use Rattle.paging.specs.Search.{spent}
use Rattle.paging.specs.Page.{Leaf}
use Rattle.paging.specs.OnePage.{first_pairs}
use Rattle.paging.proofs.Finished.{finished_again}
use Rattle.paging.proofs.OnePages.{page_within}
use Rattle.search.specs.Definition.{Stands, StandsAs}
use Rattle.search.specs.Pairs.{search_as, candidate_of, quick_search, pairs, pairs_as}
use Rattle.search.specs.Page.{plain_page, quick_page}
use Rattle.search.specs.WholeList.{most_looks, candidate_pairs}
use Rattle.search.proofs.Listed.{listed_stands, stood, goes_on}
use Rattle.search.proofs.AllWays.{as_stands}
use Rattle.search.proofs.Searches.{plain_calls, quick_calls}
use Rattle.search.proofs.PlainCall.{plain_turned, plain_leaf}
use Rattle.search.proofs.QuickCall.{quick_turned, quick_leaf}
use Rattle.search.proofs.WholeLists.{plain_page_lem, quick_page_lem, plain_page_le, quick_page_le}
use Rattle.std.specs.Prelude.{Result, Ok, Err}
use Rattle.score.specs.declared.refusals.Refusal.{Refusal}

-- ---- what a page writes stands

in_take : {A : Type 0} (r : ℕ) (xs : List A) {x : A} → In x (take r xs) → In x xs
in_take zero xs m = absurd (not-nil m)
in_take (suc r) [] m = m
in_take (suc r) (y ∷ xs) (at_head e) = at_head e
in_take (suc r) (y ∷ xs) (in_Tail m) = in_Tail (in_take r xs m)

in_first : (r : ℕ) (b : Bookmark) (list : List Pair) {pair : Pair} → In pair (first_pairs r b list) → In pair list
in_first r b list m = (in_hits (at_or_after b) list (in_take r (hits (at_or_after b) list) m)).0

module _ (cells : List ℕ) (h : ℕ) (theme : List ℕ) (b : Bookmark) (buffers : Lent) where
  pub plain_true : (way : AnyWay) (a : PlainAsks cells h theme way b buffers.columns buffers.shifts) {pair : Pair}
      → In pair (read_pairs (plain_page_lem cells h theme way b buffers a).turn.written (plain_page cells h theme way b buffers).buffers)
      → StandsAs way (score_of cells h) theme pair
  plain_true way a {pair} m =
      let p = plain_page_lem cells h theme way b buffers a in
      as_stands way (score_of cells h) theme (omega (arith, a.accepted.notes_some)) (in_first (length buffers.columns) b (pairs_as way (score_of cells h) theme) (subst (In pair) p.front m))

  -- with sets of any score: nothing false is listed
  pub quick_true : (way : Way) (a : PlainAsks cells h theme (Moved way) b buffers.columns buffers.shifts) (lent table : List ℕ)
      (s : AcceptedSets cells h lent) (e : length table ≡ table_words) {pair : Pair}
      → In pair (read_pairs (quick_page_lem cells h theme way b buffers a lent table s e).turn.written (quick_page cells h theme way b lent table buffers).buffers)
      → Stands way (score_of cells h) theme pair
  quick_true way a lent table s e {pair} m =
      let p = quick_page_lem cells h theme way b buffers a lent table s e in
      let c : In pair (candidate_pairs way (score_of cells h) theme lent)
      = in_first (length buffers.columns) b (candidate_pairs way (score_of cells h) theme lent) (subst (In pair) p.front m) in
      listed_stands way (score_of cells h) theme (in_hits (λ (q : Pair). candidate_of word_bits (score_of cells h) (theme_table word_bits theme) lent (length theme) (rank_of (score_of cells h) q.column)) (pairs way (score_of cells h) theme) c).0

-- ---- looks: the answer's own, within the bound

looks_of : Result Turn Refusal → ℕ
looks_of (Ok t) = t.looks
looks_of (Err r) = 0

module _ (cells : List ℕ) (h : ℕ) (theme : List ℕ) (b : Bookmark) (buffers : Lent) (t : Turn) where
  pub plain_looks_le : (way : AnyWay) → (plain_page cells h theme way b buffers).answer ≡ Ok t → t.looks ≤ most_looks cells h theme
  unfolding looks_of
  plain_looks_le way e =
      let a = (plain_turned cells h theme way b buffers).0 (t, e) in
      let q : t.looks ≡ spent (search_as way (score_of cells h) theme) (length buffers.columns) b =
      ap looks_of (sym e ∙ ap (λ (l : Leaf). l.answer) (plain_leaf cells h theme way b buffers a)) in
      le_trans (le_of_eq q) (plain_page_le cells h theme way b (length buffers.columns))

  -- the tune as it is written costs none
  pub written_looks : (plain_page cells h theme Written b buffers).answer ≡ Ok t → t.looks ≡ 0
  unfolding looks_of
  written_looks e =
      let a = (plain_turned cells h theme Written b buffers).0 (t, e) in
      let q : t.looks ≡ spent (search_as Written (score_of cells h) theme) (length buffers.columns) b =
      ap looks_of (sym e ∙ ap (λ (l : Leaf). l.answer) (plain_leaf cells h theme Written b buffers a)) in
      omega (arith, q, page_within (search_as Written (score_of cells h) theme) (length buffers.columns) b, sum_none (count 1 (length (heard_of (score_of cells h)) + 1 - length theme)))

  pub quick_looks_le : (way : Way) (lent table : List ℕ) → (quick_page cells h theme way b lent table buffers).answer ≡ Ok t → t.looks ≤ most_looks cells h theme
  unfolding looks_of
  quick_looks_le way lent table e =
      let a = (quick_turned cells h theme way b lent table buffers).0 (t, e) in
      let q : t.looks ≡ spent (quick_search word_bits way (score_of cells h) theme (theme_table word_bits theme) lent) (length buffers.columns) b =
      ap looks_of (sym e ∙ ap (λ (l : Leaf). l.answer) (quick_leaf cells h theme way b lent table buffers a)) in
      le_trans (le_of_eq q) (quick_page_le cells h theme way b (length buffers.columns) word_bits (theme_table word_bits theme) lent)

-- ---- what follows from the definition

-- a theme with more notes than there are columns with a pitch has no pairs
pub none_longer : (way : Way) (score : List (List ℕ)) (theme : List ℕ) {pair : Pair} → length (heard_of score) < length theme → Stands way score theme pair → ⊥
none_longer way score theme {pair} h s =
    let p = stood way score theme s in
    omega (arith, h, length-drop (p.i - 1) (heard_of score), rw (goes_on way score theme p) at s.to_last)

-- an empty column begins no pair
pub none_at_rests : (way : Way) (score : List (List ℕ)) (theme : List ℕ) {pair : Pair} → heard (column score pair.column) ≡ false
    → Stands way score theme pair → ⊥
none_at_rests way score theme e s = true≢false (sym s.with_pitch ∙ e)

-- ---- a finished bookmark handed in again: an empty page that is finished, with that bookmark, and nothing is written

abbrev ended : (cells : List ℕ) (h : ℕ) → AnyWay → Bookmark
ended cells h way = finished_bookmark (range_as way) (column_at (length (score_of cells h)))

abbrev end_page : (cells : List ℕ) (h : ℕ) → AnyWay → Lent → Leaf
end_page cells h way buffers =
    record { answer = Ok (record { written = 0; next = ended cells h way; finished = true; looks = 0 }); buffers = buffers }

module _ (cells : List ℕ) (h : ℕ) (theme : List ℕ) (a : Accepted most_notes cells h theme) (r : ℕ) (some : 1 ≤ r) (buffers : Lent) (room : Room r buffers) where
  pub plain_again : (way : AnyWay) → plain_page cells h theme way (ended cells h way) buffers ≡ end_page cells h way buffers
  plain_again way = finished_again (plain_calls cells h theme way a r some) buffers room

  pub quick_again : (way : Way) (lent table : List ℕ) → AcceptedSets cells h lent → length table ≡ table_words
      → quick_page cells h theme way (ended cells h (Moved way)) lent table buffers ≡ end_page cells h (Moved way) buffers
  quick_again way lent table s e = finished_again (quick_calls cells h theme way a r some lent s (λ b l. table) (λ b l. e)) buffers room
