-- With the score's own sets a quick page is the plain page from the same bookmark, with no more looks: `quick_same`. The idea:
-- what the candidates leave out is no hit. Assumes nothing.
use mathlib.Core.Path.{◌≡◌, sym, ap, ◌∙◌}
use mathlib.Core.Bool.{Bool, true}
use mathlib.Core.List.{List, ◌++◌, map, Memᴰ as In}
use Prim.Native.Nat.{ℕ, ◌-◌, ◌≤◌}
use native.Mathlib.Omega.{arith}
use lib.ListN.{length, get_or}
use borrow.Author.Tests.{le-ltb}
use Rattle.theory.specs.Pages.{hits}
use Rattle.theory.proofs.Lists.{none_some, none_over}
use Rattle.theory.proofs.Hits.{hits_map, hits_same}
use Rattle.theory.proofs.Members.{in_hits}
use Rattle.score.specs.Limits.{highest_pitch, highest_set, table_words}
use Rattle.score.specs.Score.{columns_in, score_of, heard_of, rank_of}
use Rattle.score.specs.Sets.{sets}
use Rattle.score.specs.Refusals.{Row, bad_set}
use Rattle.score.proofs.Columns.{score_length}
use Rattle.score.proofs.Heard.{number_is}
use Rattle.score.proofs.IntervalSets.{sets_length, sets_lt}
use Rattle.score.proofs.Judged.{clear_append, judge_skip}
use Rattle.ways.specs.declared.way.Way.{Way}
use Rattle.ways.specs.declared.way.AnyWay.TheVariants.{Moved}
use Rattle.ways.specs.declared.bookmark.Pair.{Pair}
use Rattle.ways.specs.declared.bookmark.Bookmark.{Bookmark}
use Rattle.ways.specs.Way.{range_of}
use Rattle.asking.specs.Limits.{most_notes}
use Rattle.asking.specs.Refusals.{request_rows, sets_rows, page_rows}
use Rattle.asking.specs.Asking.{Accepted, AcceptedSets}
use Rattle.asking.proofs.Rows.{accepted_clear, sets_clear}
use Rattle.filter.specs.Limits.{word_bits}
use Rattle.filter.specs.Table.{theme_table}
use Rattle.paging.specs.Lent.{Lent}
use Rattle.paging.specs.Search.{listed}
use Rattle.paging.specs.Page.{leaf, away, paged}
use Rattle.paging.specs.Listing.{SamePage}
use Rattle.paging.proofs.Fewer.{only_listed, same_listed, same_paged}
use Rattle.walking.specs.Starts.{Place, starts, hit}
use Rattle.walking.proofs.Order.{in_starts}
use Rattle.search.specs.Pairs.{plain_search, candidate_of, quick_search, pairs}
use Rattle.search.specs.Page.{plain_page, quick_page}
use Rattle.search.specs.WholeList.{candidate_pairs}
use Rattle.search.proofs.Listed.{start_inside}
use Rattle.search.proofs.Filtered.{hit_candidate}

-- what the quick search lists: the pairs at candidates
pub quick_pairs : (way : Way) (score : List (List ℕ)) (theme lent : List ℕ)
    → listed (quick_search word_bits way score theme (theme_table word_bits theme) lent) ≡ candidate_pairs way score theme lent
quick_pairs way score theme lent =
    only_listed (λ s. keep s.column) (plain_search way score theme)
    ∙ ap (map shown) (hits_same (λ s. keep s.column) (λ s. keep (rank_of score (shown s).column)) (hits (hit way heards theme) (starts way heards theme)) ranked)
    ∙ sym (hits_map shown (λ (pair : Pair). keep (rank_of score pair.column)) (hits (hit way heards theme) (starts way heards theme)))
  where
    heards : List (List ℕ)
    heards = heard_of score

    shown : Place → Pair
    shown = (plain_search way score theme).shown

    keep : ℕ → Bool
    keep i = candidate_of word_bits score (theme_table word_bits theme) lent (length theme) i

    ranked : (s : Place) → In s (hits (hit way heards theme) (starts way heards theme)) → keep s.column ≡ keep (rank_of score (shown s).column)
    ranked s m =
        let t = in_starts way heards theme (in_hits (hit way heards theme) (starts way heards theme) m).0 in
        ap keep (sym (number_is score s.column t.from_first (start_inside way heards theme t)).ranked)

-- ---- the score's own sets are accepted, and the notes are pitches

pub own_sets : {cells : List ℕ} {h : ℕ} → AcceptedSets cells h (sets (score_of cells h))
own_sets {cells} {h} =
    record {
      one_less = sets_length (score_of cells h) ∙ ap (λ (n : ℕ). n - 1) (score_length cells h);
      sets_good = none_some bad_set (sets (score_of cells h)) 0 (λ i l. le-ltb highest_set (get_or (sets (score_of cells h)) i 0) (omega (arith, sets_lt (score_of cells h) i)));
    }

note_le : {cells : List ℕ} {h : ℕ} {theme : List ℕ} → Accepted most_notes cells h theme → (i : ℕ) → get_or theme i 0 ≤ highest_pitch
note_le {theme = theme} a i = none_over highest_pitch theme a.notes_good i

-- ---- what the candidates leave out is no hit

module _ (cells : List ℕ) (h : ℕ) (theme : List ℕ) (way : Way) (a : Accepted most_notes cells h theme) where
  abbrev score : List (List ℕ)
  score = score_of cells h

  abbrev keep : Place → Bool
  keep s = candidate_of word_bits score (theme_table word_bits theme) (sets score) (length theme) s.column

  kept : (s : Place) → In s (starts way (heard_of score) theme) → hit way (heard_of score) theme s ≡ true → keep s ≡ true
  kept s m e = hit_candidate word_bits way score theme a.notes_some a.notes_few (note_le a) m e

  -- so all pairs are listed
  pub own_listed : listed (quick_search word_bits way score theme (theme_table word_bits theme) (sets score)) ≡ pairs way score theme
  own_listed = same_listed keep (plain_search way score theme) kept

  pub own_pairs : candidate_pairs way score theme (sets score) ≡ pairs way score theme
  own_pairs = sym (quick_pairs way score theme (sets score)) ∙ own_listed

  -- ---- any page: both calls come to the rows of the room and the bookmark

  module _ (b : Bookmark) (buffers : Lent) where
    abbrev last_rows : List Row
    last_rows = page_rows (range_of way) (columns_in cells h) b (length buffers.columns) (length buffers.shifts)

    plain_skip : plain_page cells h theme (Moved way) b buffers ≡ paged last_rows (plain_search way score theme) b buffers
    unfolding plain_page
    plain_skip =
        judge_skip (away buffers) (leaf (plain_search way score theme) b buffers) (request_rows most_notes cells h theme) last_rows ((accepted_clear most_notes cells h theme).0 a)

    quick_skip : (table : List ℕ) → length table ≡ table_words
        → quick_page cells h theme way b (sets score) table buffers ≡ paged last_rows (quick_search word_bits way score theme (theme_table word_bits theme) (sets score)) b buffers
    unfolding quick_page
    quick_skip table e =
        judge_skip (away buffers) (leaf (quick_search word_bits way score theme (theme_table word_bits theme) (sets score)) b buffers)
        (request_rows most_notes cells h theme ++ sets_rows cells h (sets score) (length table)) last_rows
        (clear_append (request_rows most_notes cells h theme) (sets_rows cells h (sets score) (length table)) ((accepted_clear most_notes cells h theme).0 a)
        ((sets_clear cells h (sets score) table).0 (own_sets, e)))

    pub quick_same : (table : List ℕ) → length table ≡ table_words
        → SamePage (quick_page cells h theme way b (sets score) table buffers) (plain_page cells h theme (Moved way) b buffers)
    quick_same table e = rw (quick_skip table e, plain_skip) (same_paged keep (plain_search way score theme) kept last_rows b buffers)
