-- The answer by a page of one place from the first bookmark on: it has a pair exactly where the list has one, as a page of any
-- room has (`first_written`). The rows of the room and the bookmark, the last of a quick call, do not apply. Assumes nothing.
use mathlib.Core.Path.{◌≡◌, refl, sym, ap, ◌∙◌, subst}
use mathlib.Core.Bool.{Bool, cond, not, true, false}
use mathlib.Core.List.{List, [], ◌∷◌, ◌++◌, map}
use Prim.Native.Nat.{ℕ, suc, ◌≤◌, ◌<◌}
use native.Mathlib.Omega.{arith}
use lib.Dec.{eqb}
use lib.ListN.{length, take, length-map}
use Rattle.theory.specs.Pages.{hits, page_hits}
use Rattle.theory.proofs.Pages.{page_take}
use Rattle.theory.proofs.Hits.{take_map}
use Rattle.score.specs.declared.refusals.Refusal.{Refusal}
use Rattle.score.specs.Score.{columns_in, score_of}
use Rattle.score.specs.Refusals.{Row, judge}
use Rattle.score.proofs.Columns.{score_length}
use Rattle.score.proofs.Judging.{judge_append}
use Rattle.score.proofs.Judged.{Clear, clear_split, judge_clear, judge_both}
use Rattle.ways.specs.declared.way.Way.{Way}
use Rattle.ways.specs.declared.bookmark.Pair.{Pair}
use Rattle.ways.specs.declared.bookmark.Bookmark.{Bookmark}
use Rattle.ways.specs.Way.{range_of}
use Rattle.ways.specs.Bookmarks.{first_bookmark}
use Rattle.asking.specs.Refusals.{with_sets_rows, page_rows}
use Rattle.asking.proofs.Rows.{page_clear, quick_clear}
use Rattle.filter.specs.Limits.{word_bits}
use Rattle.filter.specs.Table.{theme_table}
use Rattle.paging.specs.declared.page.Turn.{Turn}
use Rattle.paging.specs.Lent.{Lent, Room}
use Rattle.paging.specs.Search.{Search, Right, listed, left, found}
use Rattle.paging.specs.Page.{Leaf, leaf, away}
use Rattle.paging.proofs.Answers.{turned_refused}
use Rattle.paging.proofs.Bookmarks.{first_range}
use Rattle.paging.proofs.Paging.{left_first, turned_same}
use Rattle.walking.specs.Starts.{Place}
use Rattle.search.specs.Pairs.{quick_search}
use Rattle.search.specs.Page.{quick_page, quick_table, QuickPages}
use Rattle.search.proofs.QuickCall.{quick_turned, quick_leaf}
use Rattle.search.proofs.Searches.{way_narrow, quick_right}
use Rattle.occurring.specs.Occurring.{quick_list, by_list, OccursBy}
use Rattle.std.specs.Prelude.{Result, Ok, Err}

-- whether a list has a pair, by its first place
first_tells : (list : List Pair) → cond (eqb (length (take 1 list)) 0) (Ok false) (Ok true) ≡ by_list list
first_tells [] = refl
first_tells (pair ∷ list) = refl

-- a page from the first bookmark on has the first pairs of the list
first_found : {Start : Type 0} (S : Search Start) → Right S → (r : ℕ) → found S r (first_bookmark S.range) ≡ take r (listed S)
first_found S right r =
    ap (λ xs. map S.shown (page_hits S.hit r xs)) (left_first S right)
    ∙ ap (map S.shown) (page_take S.hit r S.starts)
    ∙ sym (take_map S.shown r (hits S.hit S.starts))

pub first_written : (cells : List ℕ) (h : ℕ) (theme : List ℕ) (way : Way) (sets table : List ℕ) (buffers : Lent) {t : Turn} {table' : List ℕ} {after : Lent}
    → QuickPages cells h theme way (first_bookmark (range_of way)) sets table buffers (Ok t) table' after
    → t.written ≡ length (take (length buffers.columns) (quick_list way (score_of cells h) theme sets))
first_written cells h theme way sets table buffers {t} q =
    let S = quick_search word_bits way (score_of cells h) theme (theme_table word_bits theme) sets in
    let first = first_bookmark (range_of way) in
    let asks = (quick_turned cells h theme way first sets table buffers).0 (t, sym q.pages.answers) in
    let a = asks.plain.accepted in
    let e : Ok t ≡ (leaf S first buffers).answer =
    q.pages.answers ∙ ap (λ (l : Leaf). l.answer) (quick_leaf cells h theme way first sets table buffers asks) in
    let few : length (score_of cells h) < 65535 = omega (arith, score_length cells h, a.columns_few) in
    let right = quick_right way (score_of cells h) theme a.notes_some few word_bits (theme_table word_bits theme) sets in
    ap (λ (u : Turn). u.written) (turned_same e) ∙ ap length (first_found S right (length buffers.columns))

module _ (cells : List ℕ) (h : ℕ) (theme : List ℕ) (way : Way) (sets table : List ℕ) (buffers : Lent) (room : Room 1 buffers) where
  abbrev first : Bookmark
  first = first_bookmark (range_of way)

  abbrev rows : List Row
  rows = with_sets_rows cells h theme sets (length table)

  abbrev last_rows : List Row
  last_rows = page_rows (range_of way) (columns_in cells h) first (length buffers.columns) (length buffers.shifts)

  abbrev S : Search Place
  S = quick_search word_bits way (score_of cells h) theme (theme_table word_bits theme) sets

  last_clear : Clear last_rows
  last_clear =
      (page_clear (range_of way) (columns_in cells h) first buffers.columns buffers.shifts).0
      (omega (arith, room.of_columns), room.of_shifts ∙ sym room.of_columns, first_range (way_narrow way) (columns_in cells h))

  page_rows_lem : quick_page cells h theme way first sets table buffers ≡ judge rows (away buffers) (leaf S first buffers)
  unfolding quick_page
  page_rows_lem =
      judge_append (away buffers) (leaf S first buffers) rows last_rows
      ∙ ap (judge rows (away buffers)) (judge_clear (away buffers) (leaf S first buffers) last_rows last_clear)

  table_rows : quick_table cells h theme way first sets table buffers ≡ judge rows (λ r. table) (theme_table word_bits theme)
  unfolding quick_table
  table_rows =
      judge_append (λ r. table) (theme_table word_bits theme) rows last_rows
      ∙ ap (judge rows (λ r. table)) (judge_clear (λ r. table) (theme_table word_bits theme) last_rows last_clear)

  -- a page that is turned
  module _ {t : Turn} {table' : List ℕ} {after : Lent} (q : QuickPages cells h theme way first sets table buffers (Ok t) table' after) where
    written_is : t.written ≡ length (take 1 (quick_list way (score_of cells h) theme sets))
    written_is =
        first_written cells h theme way sets table buffers q
        ∙ ap (λ (r : ℕ). length (take r (quick_list way (score_of cells h) theme sets))) room.of_columns

    turned_answers : OccursBy rows cells h theme way sets table (cond (eqb t.written 0) (Ok false) (Ok true)) table'
    turned_answers =
        let clear =
        (clear_split rows last_rows ((quick_clear cells h theme way first sets table buffers.columns buffers.shifts).0
        ((quick_turned cells h theme way first sets table buffers).0 (t, sym q.pages.answers)))).0 in
        record {
          answers = ap (λ (n : ℕ). cond (eqb n 0) (Ok false) (Ok true)) written_is
              ∙ first_tells (quick_list way (score_of cells h) theme sets)
              ∙ sym (judge_clear Err (by_list (quick_list way (score_of cells h) theme sets)) rows clear);
          fills_table = q.fills_table ∙ table_rows;
        }

  -- and one that is refused
  refused_answers : {r : Refusal} {table' : List ℕ} {after : Lent} → QuickPages cells h theme way first sets table buffers (Err r) table' after
      → OccursBy rows cells h theme way sets table (Err r) table'
  refused_answers {r} q =
      record {
        answers = sym (judge_both (λ (l : Leaf) (o : Result Bool Refusal). Err r ≡ l.answer → o ≡ Err r) (away buffers) Err (leaf S first buffers)
            (by_list (quick_list way (score_of cells h) theme sets)) (λ s e. cc) (λ e. absurd (turned_refused (sym e))) rows
            (q.pages.answers ∙ ap (λ (l : Leaf). l.answer) page_rows_lem));
        fills_table = q.fills_table ∙ table_rows;
      }

  -- ---- as the code goes: the page's bookmark is the first, and the page is one or the other

  module _ {b : Bookmark} {p : Result Turn Refusal} {table' : List ℕ} {after : Lent} (begins : b ≡ first)
      (q : QuickPages cells h theme way b sets table buffers p table' after) where
    from_first : {p' : Result Turn Refusal} → p ≡ p' → QuickPages cells h theme way first sets table buffers p' table' after
    from_first {p'} e =
        subst (λ (x : Result Turn Refusal). QuickPages cells h theme way first sets table buffers x table' after) e
        (subst (λ (x : Bookmark). QuickPages cells h theme way x sets table buffers p table' after) begins q)

    pub page_told : {t : Turn} → p ≡ Ok t → OccursBy rows cells h theme way sets table (Ok (not (eqb t.written 0))) table'
    page_told {t} e =
        subst (λ (o : Result Bool Refusal). OccursBy rows cells h theme way sets table o table') (said (eqb t.written 0)) (turned_answers (from_first e))
      where
        said : (b : Bool) → ◌≡◌ {A = Result Bool Refusal} (cond b (Ok false) (Ok true)) (Ok (not b))
        said true = refl
        said false = refl

    pub page_refused : {r : Refusal} → p ≡ Err r → OccursBy rows cells h theme way sets table (Err r) table'
    page_refused e = refused_answers (from_first e)
