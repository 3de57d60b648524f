-- A search that leaves out starts: it stays right; and where no hit is left out, it lists the same, on the same pages, at no more looks.
-- Assumes nothing.
use mathlib.Core.Path.{◌≡◌, refl, sym, ap, ◌∙◌, subst}
use mathlib.Core.Bool.{Bool, true, false, cond, not, true≢false}
use mathlib.Core.List.{List, map, Memᴰ as In}
use Prim.Native.Nat.{◌≤◌}
use lib.Dec.{leb}
use lib.ListN.{length}
use Rattle.theory.specs.Pages.{hits}
use Rattle.theory.proofs.Members.{in_hits}
use Rattle.theory.proofs.Hits.{hits_hits, hits_all}
use Rattle.theory.proofs.Looks.{sum_hits}
use Rattle.theory.proofs.Thin.{Thin, thin_filter, thin_hits, thin_looks}
use Rattle.score.specs.Score.{column_at}
use Rattle.score.specs.Refusals.{Row}
use Rattle.score.proofs.Judged.{judge_both}
use Rattle.ways.specs.declared.bookmark.Pair.{Pair}
use Rattle.ways.specs.declared.bookmark.Bookmark.{Bookmark}
use Rattle.ways.specs.Bookmarks.{after_pair, finished_bookmark}
use Rattle.paging.specs.Lent.{Lent, written}
use Rattle.paging.specs.Order.{at_or_after}
use Rattle.paging.specs.Search.{Search, Right, only, listed, all_looks, left, found}
use Rattle.paging.specs.Page.{last_pair, leaf, away, paged}
use Rattle.paging.specs.Listing.{turned, refused, SamePage}
use Rattle.paging.proofs.Orders.{ordered_hits}

module _ {Start : Type 0} (keep : Start → Bool) (S : Search Start) where
  pub only_right : Right S → Right (only keep S)
  only_right right =
      record {
        ordered = ordered_hits keep S.shown S.starts right.ordered;
        each = λ s m. right.each s (in_hits keep S.starts m).0;
        narrow = right.narrow;
        few = right.few;
      }

  -- the pairs of the hits that pass
  pub only_listed : listed (only keep S) ≡ map S.shown (hits keep (hits S.hit S.starts))
  only_listed = ap (map S.shown) (hits_hits S.hit keep S.starts)

  pub only_looks : all_looks (only keep S) ≤ all_looks S
  only_looks = sum_hits S.looks keep S.starts

  -- ---- no hit is left out

  module _ (kept : (s : Start) → In s S.starts → S.hit s ≡ true → keep s ≡ true) where
    pub same_listed : listed (only keep S) ≡ listed S
    same_listed =
        only_listed
        ∙ ap (map S.shown) (hits_all keep (hits S.hit S.starts) (λ s m. let d = in_hits S.hit S.starts m in kept s d.0 d.1))

    miss : (s : Start) → In s S.starts → keep s ≡ false → S.hit s ≡ false
    miss s m e = step (S.hit s) refl
      where
        step : (t : Bool) → S.hit s ≡ t → t ≡ false
        step true f = absurd (true≢false (sym (kept s m f) ∙ e))
        step false f = refl

    thin_left : (b : Bookmark) → Thin S.hit (left S b) (left (only keep S) b)
    thin_left b =
        let test : Start → Bool = λ s. at_or_after b (S.shown s) in
        subst (Thin S.hit (left S b)) (hits_hits keep test S.starts)
        (thin_filter S.hit keep (left S b) (λ s m. miss s (in_hits test S.starts m).0))

    pub same_page : (b : Bookmark) (buffers : Lent) → SamePage (leaf (only keep S) b buffers) (leaf S b buffers)
    same_page b buffers =
        let r = length buffers.columns in
        let e : found (only keep S) r b ≡ found S r b = ap (map S.shown) (thin_hits S.hit r (thin_left b)) in
        record {
          answers =
              turned (ap (λ (l : List Pair). length l) e)
              (ap (λ (l : List Pair). cond (leb r (length l)) (after_pair (last_pair l)) (finished_bookmark S.range (column_at S.columns))) e)
              (ap (λ (l : List Pair). not (leb r (length l))) e) (thin_looks S.hit S.looks r (thin_left b));
          writes = ap (written buffers) e;
        }

    -- the same of calls that judge the same rows
    pub same_paged : (rows : List Row) (b : Bookmark) (buffers : Lent) → SamePage (paged rows (only keep S) b buffers) (paged rows S b buffers)
    same_paged rows b buffers =
        judge_both SamePage (away buffers) (away buffers) (leaf (only keep S) b buffers) (leaf S b buffers)
        (λ r. record { answers = refused; writes = refl }) (same_page b buffers) rows
