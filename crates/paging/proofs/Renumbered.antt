-- A search whose pairs' columns have other numbers. Where the numbers rise it stays right (`renumbered_right`); where a bookmark
-- among the one numbers and one among the others leave the same starts, its page is that of the search with the columns renamed
-- (`renumbered_pages`); and under its own numbers it turns the same pages (`own_leaf`). Assumes nothing.
use mathlib.Core.Path.{◌≡◌, refl, sym, ap, ◌∙◌}
use mathlib.Core.Logic.{inl, inr}
use mathlib.Core.List.Memᴰ.{head as here}
use mathlib.Core.List.Memᴰ.{tail as later}
use mathlib.Core.List.{List, [], ◌∷◌, map, Memᴰ as In}
use Prim.Native.Nat.{ℕ, ◌≤◌, ◌<◌}
use lib.IntN.{ℤ}
use lib.ListN.{length, take, drop, length-map}
use lib.Seq.{take-append_seam, drop-append_seam}
use Rattle.theory.specs.Lists.{over}
use Rattle.theory.specs.Pages.{page_hits, page_looks}
use Rattle.theory.proofs.Hits.{hits_same}
use Rattle.theory.proofs.Lists.{map_twice}
use Rattle.theory.proofs.Members.{in_hits, in_page}
use Rattle.score.specs.Score.{column_at}
use Rattle.score.specs.Refusals.{Row}
use Rattle.score.proofs.Judged.{Clear}
use Rattle.ways.specs.declared.bookmark.Pair.{Pair}
use Rattle.ways.specs.declared.bookmark.Bookmark.{Bookmark}
use Rattle.ways.specs.Bookmarks.{finished_bookmark}
use Rattle.paging.specs.declared.page.Turn.{Turn}
use Rattle.paging.specs.Lent.{Lent, lent}
use Rattle.paging.specs.Order.{Before, Ordered, none, one, more, at_or_after, Within}
use Rattle.paging.specs.Search.{Search, Right, left, found, spent, renamed, renumbered}
use Rattle.paging.specs.Page.{turn, leaf, paged, Pages}
use Rattle.paging.specs.Turning.{read_turn}
use Rattle.paging.proofs.Buffers.{same_columns, same_shifts}
use Rattle.paging.proofs.Paging.{turned_same}
use Rattle.paging.proofs.Turnings.{went_pages}
use Rattle.std.specs.Prelude.{Ok}

-- ---- numbers that rise

-- the numbers of columns 1 to q rise, and are those of columns of a score of n
pub record Rises (n q : ℕ) (number : ℕ → ℕ) : Type 0 where
  pub rises : (i k : ℕ) → 1 ≤ i → i < k → k ≤ q → number i < number k
  pub from_first : (i : ℕ) → 1 ≤ i → i ≤ q → 1 ≤ number i
  pub to_last : (i : ℕ) → 1 ≤ i → i ≤ q → number i ≤ n

module _ {Start : Type 0} (n : ℕ) (number : ℕ → ℕ) (S : Search Start) where
  module _ (up : Rises n S.columns number) where
    renamed_before : (a b : Pair) → Within S.range S.columns a → Within S.range S.columns b → Before a b → Before (renamed number a) (renamed number b)
    renamed_before a b u v (inl l) = inl (up.rises a.column.0 b.column.0 u.from_first l v.to_last)
    renamed_before a b u v (inr e) = inr (ap number e.0, e.1)

    pub renamed_ordered : (xs : List Start) → ((s : Start) → In s xs → Within S.range S.columns (S.shown s)) → Ordered (map S.shown xs)
        → Ordered (map (renumbered n number S).shown xs)
    renamed_ordered [] w o = none
    renamed_ordered (x ∷ []) w o = one
    renamed_ordered (x ∷ y ∷ xs) w (more p o) =
        more (renamed_before (S.shown x) (S.shown y) (w x (here refl)) (w y (later (here refl))) p) (renamed_ordered (y ∷ xs) (λ s m. w s (later m)) o)

    pub renumbered_right : Right S → n < 65535 → Right (renumbered n number S)
    renumbered_right right few =
        record {
          ordered = renamed_ordered S.starts right.each right.ordered;
          each = λ s m. let w = right.each s m in
              record {
                from_first = up.from_first (S.shown s).column.0 w.from_first w.to_last;
                to_last = up.to_last (S.shown s).column.0 w.from_first w.to_last;
                not_below = w.not_below;
                not_above = w.not_above;
              };
          narrow = right.narrow;
          few = few;
        }

  -- ---- a page from a bookmark, and from the one that leaves the same starts

  module _ (b b' : Bookmark) (same : (s : Start) → In s S.starts → at_or_after b (renamed number (S.shown s)) ≡ at_or_after b' (S.shown s)) where
    pub left_same : left (renumbered n number S) b ≡ left S b'
    left_same = hits_same (λ (s : Start). at_or_after b (renamed number (S.shown s))) (λ (s : Start). at_or_after b' (S.shown s)) S.starts same

    pub found_renamed : (r : ℕ) → found (renumbered n number S) r b ≡ map (renamed number) (found S r b')
    found_renamed r =
        ap (λ (xs : List Start). map (renumbered n number S).shown (page_hits S.hit r xs)) left_same
        ∙ sym (map_twice S.shown (renamed number) (page_hits S.hit r (left S b')))

    pub spent_same : (r : ℕ) → spent (renumbered n number S) r b ≡ spent S r b'
    spent_same r = ap (λ (xs : List Start). page_looks S.hit S.looks r xs) left_same

-- ---- renamed in the buffers

-- what was written over the front, and then written anew by what stands there
over_anew : {A : Type 0} (d vs : List A) (f : A → A) → over (over d vs) (map f (take (length vs) (over d vs))) ≡ over d (map f vs)
over_anew d vs f =
    rw (take-append_seam vs (drop (length vs) d), length-map vs f, drop-append_seam vs (drop (length vs) d))

module _ {Start : Type 0} (n : ℕ) (number : ℕ → ℕ) (S : Search Start) (b b' : Bookmark)
    (same : (s : Start) → In s S.starts → at_or_after b (renamed number (S.shown s)) ≡ at_or_after b' (S.shown s)) (rows : List Row) (columns : List ℕ) (shifts : List ℤ) where
  -- a page of the search was turned, its columns were renamed where they stand, and the answer was read off the buffers
  pub renumbered_pages : 1 ≤ length columns → length shifts ≡ length columns → Clear rows → {t u : Turn} {columns' columns'' : List ℕ} {shifts' : List ℤ}
      → Pages (leaf S b' (lent columns shifts)) (Ok t) (lent columns' shifts')
      → columns'' ≡ over columns' (map number (take t.written columns'))
      → u ≡ read_turn (finished_bookmark S.range (column_at n)) t.written t.looks (lent columns'' shifts')
      → Pages (paged rows (renumbered n number S) b (lent columns shifts)) (Ok u) (lent columns'' shifts')
  renumbered_pages some room clear {t} {u} {columns'} {columns''} {shifts'} p e a =
      let r = length columns in
      let F : List Pair = found S r b' in
      let f : found (renumbered n number S) r b ≡ map (renamed number) F = found_renamed n number S b b' same r in
      let turned : t ≡ turn S.range S.columns r F (spent S r b') = turned_same p.answers in
      let many : t.written ≡ length F = ap (λ (x : Turn). x.written) turned in
      let cs : List ℕ = map (λ (q : Pair). q.column.0) F in
      let long : length cs ≡ length F = length-map F (λ (q : Pair). q.column.0) in
      let held : columns' ≡ over columns cs = same_columns p.writes in
      let renamed_columns : map (λ (q : Pair). q.column.0) (found (renumbered n number S) r b) ≡ map number cs =
      rw f (map_twice (renamed number) (λ (q : Pair). q.column.0) F ∙ sym (map_twice (λ (q : Pair). q.column.0) number F)) in
      let same_shown : map (λ (q : Pair). q.shift) (found (renumbered n number S) r b) ≡ map (λ (q : Pair). q.shift) F =
      rw f (map_twice (renamed number) (λ (q : Pair). q.shift) F) in
      let anew : over columns' (map number (take t.written columns')) ≡ over columns (map number cs) = rw (held, many, ← long) (over_anew columns cs number) in
      let left_columns : columns'' ≡ over columns (map (λ (q : Pair). q.column.0) (found (renumbered n number S) r b)) =
      e ∙ anew ∙ ap (over columns) (sym renamed_columns) in
      let left_shifts : shifts' ≡ over shifts (map (λ (q : Pair). q.shift) (found (renumbered n number S) r b)) =
      same_shifts p.writes ∙ ap (over shifts) (sym same_shown) in
      went_pages rows (renumbered n number S) b (lent columns shifts) r some (record { of_columns = refl; of_shifts = room }) clear
      (many ∙ sym (ap length f ∙ length-map F (renamed number))) (ap (λ (x : Turn). x.looks) turned ∙ sym (spent_same n number S b b' same r))
      (rw (left_columns, left_shifts)) a

-- ---- its own numbers

module _ {Start : Type 0} (number : ℕ → ℕ) (S : Search Start) (own : (s : Start) → In s S.starts → number (S.shown s).column.0 ≡ (S.shown s).column.0) where
  own_shown : (s : Start) → In s S.starts → renamed number (S.shown s) ≡ S.shown s
  own_shown s m = ap {B = Pair} (λ (j : ℕ). record { column = column_at j; shift = (S.shown s).shift }) (own s m)

  own_left : (b : Bookmark) → left (renumbered S.columns number S) b ≡ left S b
  own_left b = left_same S.columns number S b b (λ s m. ap (at_or_after b) (own_shown s m))

  own_map : (xs : List Start) → ((s : Start) → In s xs → In s S.starts) → map (renumbered S.columns number S).shown xs ≡ map S.shown xs
  own_map [] w = refl
  own_map (x ∷ xs) w = rw (own_shown x (w x (here refl))) (ap (λ (l : List Pair). S.shown x ∷ l) (own_map xs (λ s m. w s (later m))))

  own_found : (r : ℕ) (b : Bookmark) → found (renumbered S.columns number S) r b ≡ found S r b
  own_found r b =
      ap (λ (xs : List Start). map (renumbered S.columns number S).shown (page_hits S.hit r xs)) (own_left b)
      ∙ own_map (page_hits S.hit r (left S b)) (λ s m. (in_hits (λ x. at_or_after b (S.shown x)) S.starts (in_page S.hit r (left S b) m)).0)

  pub own_leaf : (b : Bookmark) (buffers : Lent) → leaf (renumbered S.columns number S) b buffers ≡ leaf S b buffers
  own_leaf b buffers =
      let r = length buffers.columns in
      rw (own_found r b, spent_same S.columns number S b b (λ s m. ap (at_or_after b) (own_shown s m)) r)
