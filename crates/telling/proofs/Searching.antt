-- The pages of a search, written out one after the other: the lines of the pairs so far are written, and the pairs and looks
-- that are left are those of the starts left at the bookmark. Laws: start, the turn of a page, end. Assumes nothing.
use mathlib.Core.Path.{◌≡◌, refl, sym, ap, ◌∙◌, subst}
use mathlib.Core.Bool.{Bool, true}
use mathlib.Core.List.{List, [], ◌∷◌, ◌++◌, map, map-append, append_assoc, Memᴰ as In}
use Prim.Native.Nat.{ℕ, ◌+◌, ◌-◌, ◌*◌, ◌≤◌, ◌<◌, zero-le}
use native.Mathlib.Nat.{mul-le-mul}
use native.Mathlib.Omega.{arith}
use lib.IntN.{pos, nat_abs}
use lib.ListN.{length, length-append, length-map}
use Rattle.theory.specs.Lists.{join, count}
use Rattle.theory.specs.Pages.{hits}
use Rattle.theory.proofs.Pages.{hits_le}
use Rattle.theory.proofs.Lists.{count_length}
use Rattle.theory.proofs.Looks.{sum_none}
use Rattle.theory.proofs.Members.{in_hits, in_count}
use Rattle.score.specs.Limits.{most_tracks, most_columns, table_words}
use Rattle.score.specs.Score.{columns_in, score_of, heard_of, number_of}
use Rattle.score.proofs.Heard.{number_is}
use Rattle.score.specs.Sets.{sets as setsOf}
use Rattle.summing.specs.Summary.{summary_of}
use Rattle.preparing.specs.Preparing.{Filled, prepare_rows, Prepares}
use Rattle.score.proofs.Judged.{judge_clear}
use Rattle.asking.specs.Limits.{most_notes}
use Rattle.asking.proofs.Rows.{accepted_clear, row6_clear}
use Rattle.score.proofs.Columns.{score_length, column_le}
use Rattle.ways.specs.declared.way.Way.{Way}
use Rattle.ways.specs.declared.way.AnyWay.{AnyWay}
use Rattle.ways.specs.declared.way.AnyWay.TheVariants.{Moved, Written}
use Rattle.ways.specs.declared.bookmark.Pair.{Pair}
use Rattle.ways.specs.declared.bookmark.Bookmark.{Bookmark}
use Rattle.ways.specs.Way.{shift_of, range_as}
use Rattle.walking.specs.Starts.{Place, starts, hit}
use Rattle.written.specs.Written.{stands_at}
use Rattle.search.specs.Pairs.{quick_search, StartAs, search_as, pairs_as}
use Rattle.search.specs.Page.{PlainPages, QuickPages}
use Rattle.filter.specs.Limits.{word_bits}
use Rattle.filter.specs.Table.{theme_table}
use Rattle.ways.specs.Bookmarks.{first_bookmark}
use Rattle.asking.specs.Asking.{Accepted, AcceptedSets}
use Rattle.paging.specs.Lent.{Lent}
use Rattle.paging.specs.Search.{Search, listed, all_looks}
use Rattle.paging.specs.Page.{Leaf}
use Rattle.paging.proofs.Paging.{Calls}
use Rattle.paging.proofs.UnderWay.{UnderWay, under_way_start}
use Rattle.search.specs.WholeList.{candidate_looks}
use Rattle.walking.proofs.Order.{in_starts}
use Rattle.walking.proofs.LookBound.{starts_le}
use Rattle.search.proofs.Numbers.{heard_few, heard_long}
use Rattle.search.proofs.Searches.{plain_calls, quick_calls}
use Rattle.search.proofs.Quicker.{own_sets, own_listed}
use Rattle.search.proofs.WholeLists.{all_looks_le, candidate_looks_le}
use Rattle.telling.specs.Lines.{hit_line, hit_lines, end_line, told_looks, lines_of}
use Rattle.telling.specs.Limits.{room, page_pairs, most_pairs, most_all_looks}
use Rattle.telling.specs.Steps.{Wrote, Room, told_page, PageTold}
use Rattle.telling.proofs.Puts.{wrote_nil}
use Rattle.telling.proofs.Widths.{shift_le, lines_le, end_le}
use Rattle.std.specs.Prelude.{Result, Ok, Err}
use Rattle.paging.specs.declared.page.Turn.{Turn}
use Rattle.score.specs.declared.refusals.Refusal.{Refusal}
use Rattle.summing.specs.declared.summary.Summary.{Summary}

-- what is sought: the quick search by the theme's table; or the columns at which the tune stands as it is written
abbrev by_way : (cells : List ℕ) (h : ℕ) (theme : List ℕ) (way : AnyWay) (lent : List ℕ) → Search (StartAs way)
by_way cells h theme (Moved way) lent = quick_search word_bits way (score_of cells h) theme (theme_table word_bits theme) lent
by_way cells h theme Written lent = search_as Written (score_of cells h) theme

abbrev pub search_of : (cells : List ℕ) (h : ℕ) (theme : List ℕ) (way : AnyWay) (lent : List ℕ) → Search (StartAs way)
search_of cells h theme way lent =
    let S = by_way cells h theme way lent in
    record { columns = length (score_of cells h); range = range_as way; starts = S.starts; hit = S.hit; looks = S.looks; shown = S.shown }

-- a page of it, as the two calls promise it
module _ {cells : List ℕ} {h : ℕ} {theme : List ℕ} {b : Bookmark} {buffers : Lent} {answer : Result Turn Refusal} {after : Lent} where
  pub quick_told : {way : Way} {sets table table' : List ℕ} → QuickPages cells h theme way b sets table buffers answer table' after
      → PageTold cells h theme (Moved way) b sets table buffers answer after
  quick_told q = record { pages = q.pages }

  pub plain_told : (sets table : List ℕ) → PlainPages cells h theme Written b buffers answer after → PageTold cells h theme Written b sets table buffers answer after
  plain_told sets table q = record { pages = q.pages }

-- ---- the sets that are prepared are the score's own

pub prepared_own : (cells : List ℕ) (h : ℕ) (theme : List ℕ) {lent after : List ℕ} {answer : Result Summary Refusal} → Accepted most_notes cells h theme → length lent ≡ columns_in cells h - 1
    → Prepares cells h lent answer after → after ≡ setsOf (score_of cells h)
prepared_own cells h theme {lent} a l p =
    let c = (accepted_clear most_notes cells h theme).0 a in
    p.fills
    ∙ ap (λ (f : Filled). f.sets)
    (judge_clear (λ r. record { answer = Err r; sets = lent })
    (record { answer = Ok (summary_of (setsOf (score_of cells h))); sets = setsOf (score_of cells h) })
    (prepare_rows cells h lent) (c.0, (c.1.0, (c.1.1.0, ((row6_clear cells h lent).1 l, tt)))))

-- ---- lines of a list in two parts

join_append : (a b : List (List ℕ)) → join (a ++ b) ≡ join a ++ join b
join_append [] b = refl
join_append (l ∷ a) b = rw (join_append a b) (sym (append_assoc l (join a) (join b)))

pub lines_append : (a b : List Pair) → hit_lines (a ++ b) ≡ hit_lines a ++ hit_lines b
lines_append a b = ap join (map-append hit_line a b) ∙ join_append (map hit_line a) (map hit_line b)

-- ---- bounds

module _ (cells : List ℕ) (h : ℕ) (theme : List ℕ) (a : Accepted most_notes cells h theme) where
  abbrev heards : List (List ℕ)
  heards = heard_of (score_of cells h)

  heards_few : length heards ≤ most_columns
  heards_few = omega (arith, heard_few (score_of cells h), score_length cells h, a.columns_few)

  -- the columns with a pitch from which on the theme has room
  abbrev fitting : ℕ
  fitting = length heards + 1 - length theme

  fitting_few : fitting ≤ most_columns - 1
  fitting_few = omega (arith, heards_few, a.notes_some)

  pub pairs_few : (way : AnyWay) → length (pairs_as way (score_of cells h) theme) ≤ most_pairs
  pairs_few (Moved way) =
      omega (
        arith,
        length-map (hits (hit way heards theme) (starts way heards theme)) (search_as (Moved way) (score_of cells h) theme).shown,
        hits_le (hit way heards theme) (starts way heards theme),
        starts_le way heards theme h (heard_long (score_of cells h) h (column_le (columns_in cells h) h cells)),
        mul-le-mul {n₁ = fitting} {m₁ = h} {n₂ = most_columns - 1} {m₂ = most_tracks} fitting_few a.tracks_few,
      )
  pairs_few Written =
      omega (
        arith,
        length-map (hits (stands_at heards theme) (count 1 fitting)) (search_as Written (score_of cells h) theme).shown,
        hits_le (stands_at heards theme) (count 1 fitting),
        count_length 1 fitting,
        fitting_few,
      )

  looks_few_moved : (way : Way) (lent : List ℕ) → candidate_looks way (score_of cells h) theme lent ≤ most_all_looks
  looks_few_moved way lent =
      omega (
        arith,
        candidate_looks_le cells h theme way lent,
        all_looks_le cells h theme (Moved way),
        mul-le-mul {n₁ = fitting * h} {m₁ = length theme - 1} {n₂ = (most_columns - 1) * most_tracks} {m₂ = most_notes - 1}
            (mul-le-mul {n₁ = fitting} {m₁ = h} {n₂ = most_columns - 1} {m₂ = most_tracks} fitting_few a.tracks_few)
            (omega (arith, a.notes_few)),
      )

  pub looks_few : (way : AnyWay) (lent : List ℕ) → all_looks (search_of cells h theme way lent) ≤ most_all_looks
  looks_few (Moved way) lent = looks_few_moved way lent
  looks_few Written lent = omega (arith, sum_none (count 1 fitting))

  -- and what is told of them
  told_few : (way : AnyWay) → told_looks way (score_of cells h) theme ≤ most_all_looks
  told_few (Moved way) = looks_few_moved way (setsOf (score_of cells h))
  told_few Written = zero-le

  -- the number of a column with a pitch has four digits at most
  number_few : (i : ℕ) → 1 ≤ i → i ≤ length heards → number_of (score_of cells h) i < 10000
  number_few i low high = omega (arith, (number_is (score_of cells h) i low high).to_last, score_length cells h, a.columns_few)

  -- the lines of the pairs, each of 14 bytes at most
  hits_few : (way : AnyWay) → length (hit_lines (pairs_as way (score_of cells h) theme)) ≤ length (pairs_as way (score_of cells h) theme) * 14
  hits_few (Moved way) =
      let found = hits (hit way heards theme) (starts way heards theme) in
      let shown = (search_as (Moved way) (score_of cells h) theme).shown in
      omega (arith, length-map found shown, lines_le shown found inside)
    where
      inside : (s : Place) → In s (hits (hit way heards theme) (starts way heards theme))
          → (number_of (score_of cells h) s.column < 10000) × (nat_abs (shift_of way s.code) ≤ 127)
      inside s m =
          let f = in_starts way heards theme (in_hits (hit way heards theme) (starts way heards theme) m).0 in
          (number_few s.column f.from_first (omega (arith, f.to_last, a.notes_some)), shift_le way s.code f.small)
  hits_few Written =
      let found = hits (stands_at heards theme) (count 1 fitting) in
      let shown = (search_as Written (score_of cells h) theme).shown in
      omega (arith, length-map found shown, lines_le shown found inside)
    where
      inside : (j : ℕ) → In j (hits (stands_at heards theme) (count 1 fitting)) → (number_of (score_of cells h) j < 10000) × (nat_abs (pos 0) ≤ 127)
      inside j m =
          let t = in_count 1 fitting (in_hits (stands_at heards theme) (count 1 fitting) m).0 in
          (number_few j t.0 (omega (arith, t.1, a.notes_some)), omega arith)

  -- all lines have room
  pub lines_few : (way : AnyWay) → length (lines_of way (score_of cells h) theme) ≤ room
  unfolding lines_of
  lines_few way =
      omega (
        arith,
        length-append (hit_lines (pairs_as way (score_of cells h) theme)) (end_line (length (pairs_as way (score_of cells h) theme)) (told_looks way (score_of cells h) theme)),
        hits_few way,
        pairs_few way,
        end_le (length (pairs_as way (score_of cells h) theme)) (told_looks way (score_of cells h) theme) (omega (arith, pairs_few way)) (omega (arith, told_few way)),
      )

-- ---- pages under way

pub record Paging (cells : List ℕ) (h : ℕ) (theme : List ℕ) (way : AnyWay) (lent out₀ table : List ℕ) (buffers : Lent) (out : List ℕ) (b : Bookmark)
    (at found spent : ℕ) (more : Bool) : Type 0 where
  pub accepted : Accepted most_notes cells h theme
  pub own : lent ≡ setsOf (score_of cells h)
  pub room : Room table buffers out₀
  pub done : List Pair
  pub under_way : UnderWay (search_of cells h theme way lent) b more done spent
  pub wrote : Wrote (hit_lines done) 0 out₀ at out
  pub counted : found ≡ length done

module _ (cells : List ℕ) (h : ℕ) (theme : List ℕ) (way : AnyWay) (lent : List ℕ) (a : Accepted most_notes cells h theme) (o : lent ≡ setsOf (score_of cells h)) where
  -- all pairs are listed
  pub own_list : listed (search_of cells h theme way lent) ≡ pairs_as way (score_of cells h) theme
  own_list = by way
    where
      by : (way : AnyWay) → listed (search_of cells h theme way lent) ≡ pairs_as way (score_of cells h) theme
      by (Moved way) = rw o (own_listed cells h theme way a)
      by Written = refl

  -- and the looks are those told
  pub own_looks : all_looks (search_of cells h theme way lent) ≡ told_looks way (score_of cells h) theme
  own_looks = by way
    where
      by : (way : AnyWay) → all_looks (search_of cells h theme way lent) ≡ told_looks way (score_of cells h) theme
      by (Moved way) = ap (λ (l : List ℕ). candidate_looks way (score_of cells h) theme l) o
      by Written = sum_none (count 1 (length (heard_of (score_of cells h)) + 1 - length theme))

  abbrev pub call_of : (table : List ℕ) → Bookmark → Lent → Leaf
  call_of table b buffers = told_page cells h theme way b lent table buffers

  lent_right : AcceptedSets cells h lent
  lent_right = subst (AcceptedSets cells h) (sym o) own_sets

  pub calls : (table : List ℕ) → length table ≡ table_words → Calls (search_of cells h theme way lent) page_pairs (call_of table)
  calls table e = by way
    where
      by : (way : AnyWay) → Calls (search_of cells h theme way lent) page_pairs (λ b buffers. told_page cells h theme way b lent table buffers)
      by (Moved way) = quick_calls cells h theme way a page_pairs (omega arith) lent lent_right (λ _ _. table) (λ _ _. e)
      by Written = plain_calls cells h theme Written a page_pairs (omega arith)

  pub paging_start : {table : List ℕ} {buffers : Lent} {out : List ℕ} → Room table buffers out
      → Paging cells h theme way lent out table buffers out (first_bookmark (range_as way)) 0 0 0 true
  paging_start {table} {out = out} r =
      record {
        accepted = a;
        own = o;
        room = r;
        done = [];
        under_way = under_way_start (search_of cells h theme way lent) (calls table r.table_long).right;
        wrote = wrote_nil 0 out;
        counted = refl;
      }
