-- From the walk's words to the page's. A walk goes along places by their keys; a page shows pairs. What a walk has left from a bookmark's key on
-- is what the search has left from the bookmark on (`left_reached`), so what it has found and written is what the page shows and
-- holds. Assumes nothing.
use mathlib.Core.Path.{◌≡◌, ◌∙◌}
use mathlib.Core.Bool.{Bool}
use mathlib.Core.List.{List, map, Memᴰ as In}
use Prim.Native.Nat.{ℕ, ◌<◌}
use native.Mathlib.Omega.{arith}
use lib.Dec.{leb}
use lib.IntN.{ℤ}
use lib.ListN.{length}
use Rattle.theory.specs.Lists.{over}
use Rattle.theory.specs.Pages.{hits, Rising, from}
use Rattle.theory.proofs.Hits.{from_keys, hits_same}
use Rattle.theory.proofs.Lists.{map_twice}
use Rattle.theory.proofs.Members.{in_hits, rising_hits}
use Rattle.ways.specs.declared.way.Way.{Way}
use Rattle.ways.specs.declared.bookmark.Pair.{Pair}
use Rattle.ways.specs.declared.bookmark.Bookmark.{Bookmark}
use Rattle.ways.specs.Way.{span, range_of}
use Rattle.ways.specs.Bookmarks.{key_of}
use Rattle.asking.specs.Asking.{InRange}
use Rattle.paging.specs.Lent.{lent, written}
use Rattle.paging.specs.Order.{at_or_after}
use Rattle.paging.specs.Search.{left}
use Rattle.paging.proofs.Keys.{span_lt, key_order}
use Rattle.walking.specs.Starts.{Place, key, starts}
use Rattle.walking.specs.Candidates.{candidate, quick_starts}
use Rattle.walking.specs.Found.{columns_of, shifts_of}
use Rattle.walking.proofs.Order.{starts_rising, in_starts}
use Rattle.search.specs.Pairs.{pair_at, along_search}
use Rattle.search.specs.Along.{quick_along}

left_reached : (way : Way) (n : ℕ) (b : Bookmark) → InRange (range_of way) n b → (reached : List Place) → Rising key 256 reached
    → ((s : Place) → In s reached → s.code < span way) → from key (key_of way b) reached ≡ hits (λ s. at_or_after b (pair_at way s)) reached
left_reached way n b i reached up small =
    from_keys key (key_of way b) 256 reached up
    ∙ hits_same (λ (s : Place). leb (key_of way b) (key s)) (λ (s : Place). at_or_after b (pair_at way s)) reached
    (λ s m. key_order way b i.not_below i.not_above s.column s.code (omega (arith, small s m, span_lt way)))

module _ (way : Way) (score : List (List ℕ)) (theme : List ℕ) (b : Bookmark) (i : InRange (range_of way) (length score) b) where
  pub left_plain : from key (key_of way b) (starts way score theme) ≡ left (along_search way score theme) b
  left_plain = left_reached way (length score) b i (starts way score theme) (starts_rising way score theme) (λ s m. (in_starts way score theme m).small)

  pub left_quick : (w : ℕ) (table sets : List ℕ)
      → from key (key_of way b) (quick_starts w way score theme table sets) ≡ left (quick_along w way score theme table sets) b
  unfolding quick_starts
  left_quick w table sets =
      let keep : Place → Bool = λ s. candidate w table sets (length theme) s.column in
      left_reached way (length score) b i (hits keep (starts way score theme)) (rising_hits keep key 256 (starts way score theme) (starts_rising way score theme))
      (λ s m. (in_starts way score theme (in_hits keep (starts way score theme) m).0).small)

-- ---- what is written

pub places_written : (way : Way) (places : List Place) (columns : List ℕ) (shifts : List ℤ)
    → lent (over columns (columns_of places)) (over shifts (shifts_of way places)) ≡ written (lent columns shifts) (map (pair_at way) places)
places_written way places columns shifts =
    rw (map_twice (pair_at way) (λ (p : Pair). p.column.0) places, map_twice (pair_at way) (λ (p : Pair). p.shift) places)
