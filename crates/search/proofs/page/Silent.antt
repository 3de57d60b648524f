-- A score without a pitch: no column has a note, so nothing is found along all of its columns, and nothing along none of them; the
-- two pages are the same (`silent_leaf`, `silent_quick_leaf`). Where some cell is a pitch, some column has one (`some_heard`).
-- Assumes nothing.
use mathlib.Core.Path.{◌≡◌, refl, sym, ap, ap₂, ◌∙◌}
use mathlib.Core.Bool.{Bool, true, false, cond, true≢false, false≢true}
use mathlib.Core.List.{List, [], ◌∷◌, ◌++◌, map}
use Prim.Native.Nat.{ℕ, zero, suc, ◌+◌, ◌-◌, ◌*◌, ◌≤◌}
use native.Mathlib.Omega.{arith}
use lib.Dec.{leb}
use lib.ListN.{length, get_or, take, drop, length-drop}
use lib.Seq.{get_or-drop}
use Rattle.theory.specs.Pages.{hits, page_hits, page_looks}
use Rattle.theory.proofs.Counts.{count_none}
use Rattle.theory.proofs.Looks.{sum_none, page_looks_le}
use Rattle.score.specs.declared.quantities.Pitch.{Pitch}
use Rattle.score.specs.Limits.{highest_pitch}
use Rattle.score.specs.Score.{column_at, cut, heard, heard_of, columns_from, note}
use Rattle.score.proofs.Heard.{empty_none}
use Rattle.ways.specs.declared.way.Way.{Way}
use Rattle.ways.specs.declared.way.Way.TheVariants.{Exact, Octave}
use Rattle.ways.specs.declared.way.AnyWay.{AnyWay}
use Rattle.ways.specs.declared.way.AnyWay.TheVariants.{Moved, Written}
use Rattle.ways.specs.declared.bookmark.Pair.{Pair}
use Rattle.ways.specs.declared.bookmark.Bookmark.{Bookmark}
use Rattle.ways.specs.Way.{Range, range_of, range_as, span, holds}
use Rattle.paging.specs.Lent.{Lent, written}
use Rattle.paging.specs.Order.{at_or_after}
use Rattle.paging.specs.Search.{Search, left, found, spent}
use Rattle.paging.specs.Page.{Leaf, turn, leaf}
use Rattle.walking.specs.Starts.{Place, place, starts_in, starts}
use Rattle.walking.specs.Candidates.{candidate}
use Rattle.written.specs.Written.{stands_at}
use Rattle.search.specs.Pairs.{along_as, search_as, candidate_of, quick_search}
use Rattle.search.specs.Along.{quick_along}
use Rattle.std.specs.Prelude.{Ok}

-- ---- cells and columns

-- cells of which the first hold no pitch
heard_behind : (h : ℕ) (cells : List ℕ) → heard (take h cells) ≡ false → heard cells ≡ heard (drop h cells)
heard_behind zero cells e = refl
heard_behind (suc h) [] e = refl
heard_behind (suc h) (x ∷ cells) e = step (leb x highest_pitch) e (heard_behind h cells)
  where
    step : (t : Bool) → cond t true (heard (take h cells)) ≡ false → (heard (take h cells) ≡ false → heard cells ≡ heard (drop h cells))
        → cond t true (heard cells) ≡ heard (drop h cells)
    step true e ih = absurd (true≢false e)
    step false e ih = ih e

unheard_front : (h : ℕ) (cells : List ℕ) → heard cells ≡ false → heard (take h cells) ≡ false
unheard_front zero cells e = refl
unheard_front (suc h) [] e = refl
unheard_front (suc h) (x ∷ cells) e = step (leb x highest_pitch) e (unheard_front h cells)
  where
    step : (t : Bool) → cond t true (heard cells) ≡ false → (heard cells ≡ false → heard (take h cells) ≡ false) → cond t true (heard (take h cells)) ≡ false
    step true e ih = absurd (true≢false e)
    step false e ih = ih e

-- no cell is a pitch: no column has one
pub none_heard : (n h : ℕ) (cells : List ℕ) → heard cells ≡ false → heard_of (cut n h cells) ≡ []
none_heard zero h cells e = refl
none_heard (suc n) h cells e =
    let f = unheard_front h cells e in
    rw f (none_heard n h (drop h cells) (sym (heard_behind h cells f) ∙ e))

-- some cell is a pitch: some column has one
pub some_heard : (n h : ℕ) (cells : List ℕ) → length cells ≡ n * h → heard cells ≡ true → 1 ≤ length (heard_of (cut n h cells))
some_heard zero h [] l e = absurd (false≢true e)
some_heard zero h (x ∷ cells) l e = absurd (omega arith)
some_heard (suc n) h cells l e =
    step (heard (take h cells)) refl (λ f. some_heard n h (drop h cells) (omega (arith, length-drop h cells)) (sym (heard_behind h cells f) ∙ e))
  where
    step : (t : Bool) → heard (take h cells) ≡ t → (heard (take h cells) ≡ false → 1 ≤ length (heard_of (cut n h (drop h cells))))
        → 1 ≤ length (cond t (take h cells ∷ heard_of (cut n h (drop h cells))) (heard_of (cut n h (drop h cells))))
    step true f ih = omega arith
    step false f ih = ih f

-- ---- columns without a pitch

silent_cons : (c : List ℕ) (score : List (List ℕ)) → heard_of (c ∷ score) ≡ [] → (heard c ≡ false) × (heard_of score ≡ [])
silent_cons c score e = step (heard c) e
  where
    step : (t : Bool) → cond t (c ∷ heard_of score) (heard_of score) ≡ [] → (t ≡ false) × (heard_of score ≡ [])
    step true e = absurd (omega (arith, ap length e))
    step false e = (refl, e)

silent_at : (score : List (List ℕ)) → heard_of score ≡ [] → (k : ℕ) → heard (get_or score k []) ≡ false
silent_at [] e k = refl
silent_at (c ∷ score) e zero = (silent_cons c score e).0
silent_at (c ∷ score) e (suc k) = silent_at score (silent_cons c score e).1 k

unheld : (way : Way) (code : ℕ) (p : Pitch) (column : List ℕ) → heard column ≡ false → holds way code p column ≡ false
unfolding holds
unheld Exact code p column e = rw (empty_none column e)
unheld Octave code p column e = rw (empty_none column e)

nothing_more : (t : Bool) {xs ys : List Place} → xs ≡ [] → ys ≡ [] → cond t xs [] ++ ys ≡ []
nothing_more true e f = rw (e, f)
nothing_more false e f = f

silent_starts : (way : Way) (p : Pitch) (m j : ℕ) (score : List (List ℕ)) → heard_of score ≡ [] → starts_in way p m j score ≡ []
silent_starts way p m j [] e = refl
silent_starts way p m j (c ∷ score) e =
    let f = silent_cons c score e in
    nothing_more (leb m (suc (length score)))
    (ap (map (place j)) (count_none (λ code. holds way code p c) 0 (span way - 0) (λ code low high. unheld way code p c f.0)))
    (silent_starts way p m (suc j) score f.1)

silent_stands : (score : List (List ℕ)) (theme : List ℕ) → heard_of score ≡ [] → 1 ≤ length theme → (j : ℕ) → stands_at score theme j ≡ false
unfolding stands_at
silent_stands score [] e l j = absurd (omega arith)
silent_stands score (p ∷ theme) e l j = rw (empty_none (get_or (columns_from score (column_at j)) 0 []) (rw get_or-drop (silent_at score e (j - 1 + 0))))

-- ---- a search that finds nothing

pub record Nothing {Start : Type 0} (S : Search Start) : Type 0 where
  pub finds : (r : ℕ) (b : Bookmark) → found S r b ≡ []
  pub costs : (r : ℕ) (b : Bookmark) → spent S r b ≡ 0

-- two of them have the same pages
module _ (range : Range) (n : ℕ) (b : Bookmark) (buffers : Lent) where
  abbrev page : List Pair → ℕ → Leaf
  page pairs looks = record { answer = Ok (turn range n (length buffers.columns) pairs looks); buffers = written buffers pairs }

  pub nothing_leaf : {A B : Type 0} (S : Search A) (T : Search B) → Nothing S → Nothing T → S.range ≡ range → T.range ≡ range → S.columns ≡ n → T.columns ≡ n
      → leaf S b buffers ≡ leaf T b buffers
  nothing_leaf S T s t e f g k =
      rw (e, f, g, k)
      (ap₂ page (s.finds (length buffers.columns) b) (s.costs (length buffers.columns) b)
      ∙ sym (ap₂ page (t.finds (length buffers.columns) b) (t.costs (length buffers.columns) b)))

none_hits : {A : Type 0} (hit : A → Bool) (r : ℕ) → page_hits hit r [] ≡ []
none_hits hit zero = refl
none_hits hit (suc r) = refl

none_looks : {A : Type 0} (hit : A → Bool) (looks : A → ℕ) (r : ℕ) → page_looks hit looks r [] ≡ 0
none_looks hit looks zero = refl
none_looks hit looks (suc r) = refl

no_hits : {A : Type 0} (hit : A → Bool) → ((x : A) → hit x ≡ false) → (r : ℕ) (xs : List A) → page_hits hit r xs ≡ []
no_hits hit e zero xs = refl
no_hits hit e (suc r) [] = refl
no_hits hit e (suc r) (x ∷ xs) = rw (e x) (no_hits hit e (suc r) xs)

-- one that reaches no start
none_reached : {Start : Type 0} (S : Search Start) → S.starts ≡ [] → Nothing S
none_reached {Start} S e =
    record {
      finds = λ r b. ap (λ (xs : List Start). map S.shown (page_hits S.hit r (hits (λ s. at_or_after b (S.shown s)) xs))) e
          ∙ ap (map S.shown) (none_hits S.hit r);
      costs = λ r b. ap (λ (xs : List Start). page_looks S.hit S.looks r (hits (λ s. at_or_after b (S.shown s)) xs)) e
          ∙ none_looks S.hit S.looks r;
    }

-- ---- a score without a pitch

module _ (score : List (List ℕ)) (theme : List ℕ) (silent : heard_of score ≡ []) (some : 1 ≤ length theme) where
  -- along all columns: as it is written, the columns are reached and none is a hit
  along_nothing : (way : AnyWay) → Nothing (along_as way score theme)
  along_nothing (Moved way) = none_reached (along_as (Moved way) score theme) (silent_starts way (note theme 1) (length theme) 1 score silent)
  along_nothing Written =
      let S = along_as Written score theme in
      record {
        finds = λ r b. ap (map S.shown) (no_hits (stands_at score theme) (silent_stands score theme silent some) r (left S b));
        costs = λ r b. omega (arith, page_looks_le S.hit S.looks r (left S b), sum_none (left S b));
      }

  -- along none
  no_starts : (way : AnyWay) → (along_as way [] theme).starts ≡ []
  no_starts (Moved w) = refl
  no_starts Written = let e : 0 + 1 - length theme ≡ 0 = omega arith in rw e

  search_nothing : (way : AnyWay) → Nothing (search_as way score theme)
  search_nothing way = none_reached (search_as way score theme) (ap (λ (s : List (List ℕ)). (along_as way s theme).starts) silent ∙ no_starts way)

  module _ (b : Bookmark) (buffers : Lent) where
    pub silent_leaf : (way : AnyWay) → leaf (search_as way score theme) b buffers ≡ leaf (along_as way score theme) b buffers
    silent_leaf way =
        nothing_leaf (range_as way) (length score) b buffers (search_as way score theme) (along_as way score theme) (search_nothing way) (along_nothing way) refl refl refl refl

    pub silent_quick_leaf : (w : ℕ) (way : Way) (table sets : List ℕ)
        → leaf (quick_search w way score theme table sets) b buffers ≡ leaf (quick_along w way score theme table sets) b buffers
    silent_quick_leaf w way table sets =
        let S = quick_search w way score theme table sets in
        let T = quick_along w way score theme table sets in
        nothing_leaf (range_of way) (length score) b buffers S T
        (none_reached S (ap (λ (s : List (List ℕ)). hits (λ s. candidate_of w score table sets (length theme) s.column) (starts way s theme)) silent))
        (none_reached T (ap (hits (λ s. candidate w table sets (length theme) s.column)) (silent_starts way (note theme 1) (length theme) 1 score silent)))
        refl refl refl refl
