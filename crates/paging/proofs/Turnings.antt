-- From what a search has written to the page: where it found the pairs of the page and wrote them, the answer that is read off its buffers is
-- the page's (`turned_page`), and so the call meets its contract (`went_pages`); one that was turned away meets it too
-- (`away_pages`). This is what a new search proves of its code. Assumes nothing.
use mathlib.Core.Path.{◌≡◌, refl, sym, ap, ◌∙◌}
use mathlib.Core.Bool.{false, ◌||◌}
use mathlib.Core.List.{List, [], ◌∷◌, map}
use Prim.Native.Nat.{ℕ, suc, ◌-◌, ◌≤◌, ◌<◌}
use native.Mathlib.Decide.{dec_lt}
use native.Mathlib.Omega.{arith}
use lib.Dec.{ltb, eqb}
use lib.IntN.{pos}
use lib.ListN.{length, get_or, drop, length-map, get_or-append}
use borrow.Author.Tests.{lt-ltb, le-ltb, le-leb, lt-leb, ne_eqb}
use Rattle.theory.specs.Lists.{over, last}
use Rattle.theory.specs.Pages.{page_hits}
use Rattle.theory.proofs.Going.{page_le}
use Rattle.score.specs.declared.refusals.Refusal.{Refusal}
use Rattle.score.specs.Score.{column_at}
use Rattle.score.specs.Refusals.{Row}
use Rattle.score.proofs.Judged.{Clear}
use Rattle.ways.specs.declared.bookmark.Pair.{Pair}
use Rattle.ways.specs.declared.bookmark.Bookmark.{Bookmark}
use Rattle.ways.specs.Way.{Range}
use Rattle.ways.specs.Bookmarks.{finished_bookmark}
use Rattle.paging.specs.declared.page.Turn.{Turn}
use Rattle.paging.specs.Lent.{Lent, Room, written}
use Rattle.paging.specs.Search.{Search, left, found, spent}
use Rattle.paging.specs.Page.{Leaf, turn, paged, away, Pages}
use Rattle.paging.specs.Turning.{read_turn, unfilled}
use Rattle.paging.proofs.Buffers.{written_room}
use Rattle.paging.proofs.Answers.{paged_clear}
use Rattle.std.specs.Prelude.{Ok, Err}

-- the last entry written, where all places were
last_read : {B : Type 0} (f : Pair → B) (d : List B) (z : B) (p : Pair) (ps : List Pair) (r : ℕ) → length ps ≡ r → 1 ≤ r
    → get_or (over d (map f ps)) (r - 1) z ≡ f (last p ps)
last_read f d z p ps r e h =
    get_or-append (map f ps) (drop (length (map f ps)) d) z (r - 1) (omega (arith, length-map ps f)) ∙ go p ps r e h
  where
    go : (q : Pair) (qs : List Pair) (k : ℕ) → length qs ≡ k → 1 ≤ k → get_or (map f qs) (k - 1) z ≡ f (last q qs)
    go q [] k e h = absurd (omega arith)
    go q (x ∷ []) k e h = let o : k - 1 ≡ 0 = omega arith in rw o
    go q (x ∷ y ∷ qs) k e h =
        let o : k - 1 ≡ suc (length qs) = omega arith in
        let s : suc (length qs) - 1 ≡ length qs = omega arith in
        rw o (ap (λ (n : ℕ). get_or (f y ∷ map f qs) n z) (sym s) ∙ go x (y ∷ qs) (suc (length qs)) refl (omega arith))

pub turned_page : (range : Range) (n r : ℕ) (buffers : Lent) (pairs : List Pair) (looks : ℕ) → 1 ≤ r → Room r buffers → length pairs ≤ r
    → read_turn (finished_bookmark range (column_at n)) (length pairs) looks (written buffers pairs) ≡ turn range n r pairs looks
unfolding unfilled
turned_page range n r buffers pairs looks some room few = pick (dec_lt (length pairs) r)
  where
    no_pair : Pair
    no_pair = record { column = column_at 0; shift = pos 0 }

    after : Room r (written buffers pairs)
    after = written_room buffers pairs room few

    pick : Dec (length pairs < r) → read_turn (finished_bookmark range (column_at n)) (length pairs) looks (written buffers pairs) ≡ turn range n r pairs looks
    pick (yes q) = rw (after.of_columns, lt-ltb (length pairs) r q, lt-leb r (length pairs) q)
    pick (no q) =
        let e : length pairs ≡ r = omega arith in
        let o : (ltb (length pairs) r || eqb r 0 || ltb r r) ≡ false =
        rw (le-ltb (length pairs) r (omega arith), ne_eqb r 0 (λ z. omega arith), le-ltb r r (omega arith)) in
        rw (
          after.of_columns,
          after.of_shifts,
          o,
          le-leb r (length pairs) (omega arith),
          last_read (λ p. p.column.0) buffers.columns 0 no_pair pairs r e some,
          last_read (λ p. p.shift) buffers.shifts (pos 0) no_pair pairs r e some,
        )

-- ---- a call that is judged by rows, and then searches

module _ {Start : Type 0} (rows : List Row) (S : Search Start) (b : Bookmark) (buffers : Lent) where
  -- turned away
  pub away_pages : {r : Refusal} {after : Lent} → paged rows S b buffers ≡ away buffers r → after ≡ buffers → Pages (paged rows S b buffers) (Err r) after
  away_pages p e = record { answers = sym (ap (λ (l : Leaf). l.answer) p); writes = e ∙ sym (ap (λ (l : Leaf). l.buffers) p) }

  -- it found the page's pairs, counted its looks and wrote the pairs, and the answer was read off the buffers
  pub went_pages : (r : ℕ) → 1 ≤ r → Room r buffers → Clear rows → {count looks : ℕ} {after : Lent} {t : Turn}
      → count ≡ length (found S r b) → looks ≡ spent S r b → after ≡ written buffers (found S r b)
      → t ≡ read_turn (finished_bookmark S.range (column_at S.columns)) count looks after
      → Pages (paged rows S b buffers) (Ok t) after
  went_pages r some room clear {count} {looks} {after} {t} c l w e =
      let few : length (found S r b) ≤ r = omega (arith, length-map (page_hits S.hit r (left S b)) S.shown, page_le S.hit r (left S b)) in
      let p : t ≡ turn S.range S.columns r (found S r b) (spent S r b) =
      e ∙ rw (c, l, w) (turned_page S.range S.columns r buffers (found S r b) (spent S r b) some room few) in
      let q : record { answer = Ok t; buffers = after } ≡ paged rows S b buffers =
      rw (p, w)
      (sym
      (paged_clear rows S b buffers clear
      ∙ ap (λ (k : ℕ). record { answer = Ok (turn S.range S.columns k (found S k b) (spent S k b)); buffers = written buffers (found S k b) }) room.of_columns)) in
      record { answers = ap (λ (x : Leaf). x.answer) q; writes = ap (λ (x : Leaf). x.buffers) q }
