-- Demand 3, quick and plain: two readings from one bookmark, one by plain calls and one by quick calls with the score's own
-- sets, have the same pages, and each quick page has no more looks; and so have two pages from any one bookmark. The idea: a
-- page rests on the bookmark and the room alone, so what the buffers held is the same to both; and the next bookmarks are the
-- same. Assumes nothing.
use mathlib.Core.Path.{◌≡◌, refl, sym, ap, ap₂, ◌∙◌, subst}
use mathlib.Core.Bool.{true≢false}
use mathlib.Core.List.{List, [], ◌∷◌}
use Prim.Native.Nat.{ℕ, ◌≤◌}
use lib.ListN.{length}
use Rattle.score.specs.Score.{score_of}
use Rattle.score.specs.Sets.{sets}
use Rattle.score.proofs.Columns.{score_length}
use Rattle.ways.specs.declared.way.Way.{Way}
use Rattle.ways.specs.declared.way.AnyWay.TheVariants.{Moved}
use Rattle.ways.specs.declared.bookmark.Pair.{Pair}
use Rattle.ways.specs.declared.bookmark.Bookmark.{Bookmark}
use Rattle.ways.specs.Way.{range_of}
use Rattle.asking.specs.Limits.{most_notes}
use Rattle.asking.specs.Asking.{Accepted, InRange, PlainAsks, QuickAsks}
use Rattle.paging.specs.declared.page.Turn.{Turn}
use Rattle.paging.specs.Lent.{Lent, read_pairs}
use Rattle.paging.specs.Page.{Leaf}
use Rattle.paging.specs.Reading.{Turns, Reading, last, more}
use Rattle.paging.specs.Listing.{NoDearer, turned}
use Rattle.paging.proofs.Paging.{told, turns_same, call_answer, call_read, next_range}
use Rattle.search.specs.Page.{plain_page, PlainPages, quick_page, quick_table, QuickPages}
use Rattle.search.proofs.PlainCall.{plain_turned}
use Rattle.search.proofs.QuickCall.{quick_turned}
use Rattle.search.proofs.Searches.{plain_calls}
use Rattle.search.proofs.Quicker.{quick_same}
use Rattle.demands.specs.Demands.{PlainCall, QuickCall, NoneDearer, none, more as dearer}
use Rattle.demands.proofs.Whole.{pages_leaf, plainly}
use Rattle.std.specs.Prelude.{Result, Ok, Err}
use Rattle.score.specs.declared.refusals.Refusal.{Refusal}

-- the parts of it
record Near (t u : Turn) : Type 0 where
  written : t.written ≡ u.written
  next : t.next ≡ u.next
  finished : t.finished ≡ u.finished
  looks : t.looks ≤ u.looks

near_turned : {t u : Turn} → Near t u → NoDearer (Ok t) (Ok u)
near_turned n = turned n.written n.next n.finished n.looks

turned_near : {t u : Turn} → NoDearer (Ok t) (Ok u) → Near t u
turned_near (turned a b c d) = record { written = a; next = b; finished = c; looks = d }

module _ (cells : List ℕ) (h : ℕ) (theme : List ℕ) (way : Way) (a : Accepted most_notes cells h theme) (r : ℕ) (room : 1 ≤ r)
    {plain quick : Bookmark → Lent → Leaf} (p : PlainCall cells h theme (Moved way) plain) (q : QuickCall cells h theme way (sets (score_of cells h)) quick) where
  abbrev inside : Bookmark → Type 0
  inside b = InRange (range_of way) (length (score_of cells h)) b

  -- one page
  page_same : {b : Bookmark} {t t' : Turn} {pairs pairs' : List Pair} → inside b → Turns plain r b t pairs → Turns quick r b t' pairs'
      → (pairs' ≡ pairs) × Near t' t
  page_same {b} {t} {t'} {pairs} {pairs'} i x y =
      let c = plain_calls cells h theme (Moved way) a r room in
      let s = quick_same cells h theme way a b y.buffers (q.table b y.buffers) (q.long b y.buffers) in
      let defined : Leaf = quick_page cells h theme way b (sets (score_of cells h)) (q.table b y.buffers) y.buffers in
      let e : quick b y.buffers ≡ defined = pages_leaf (q.promises b y.buffers).pages in
      let mine = turns_same (plainly cells h theme a r room (Moved way) p) i x in
      let answered : Ok t' ≡ defined.answer = sym y.answered ∙ ap (λ (l : Leaf). l.answer) e in
      let other : (plain_page cells h theme (Moved way) b y.buffers).answer ≡ Ok t = call_answer c b i y.buffers y.room ∙ ap Ok (sym mine.0) in
      let near : Near t' t =
      turned_near (subst (λ (z : Result Turn Refusal). NoDearer z (Ok t)) (sym answered)
      (subst (λ (z : Result Turn Refusal). NoDearer defined.answer z) other s.answers)) in
      let read : read_pairs t'.written (quick b y.buffers).buffers ≡ read_pairs (told c b).written (plain_page cells h theme (Moved way) b y.buffers).buffers =
      ap₂ read_pairs (near.written ∙ ap (λ (z : Turn). z.written) mine.0) (ap (λ (l : Leaf). l.buffers) e ∙ s.writes) in
      (y.left ∙ read ∙ call_read c b i y.buffers y.room ∙ sym mine.1, near)

  -- page after page
  pub reading_same : {b : Bookmark} {pages pages' : List (List Pair)} {turns turns' : List Turn} → inside b → Reading plain r b pages turns
      → Reading quick r b pages' turns' → (pages' ≡ pages) × NoneDearer turns' turns
  reading_same i (last x e) (last y f) =
      let s = page_same i x y in
      (ap (λ (l : List Pair). l ∷ []) s.0, dearer (near_turned s.1) none)
  reading_same i (last x e) (more y f g) = let s = page_same i x y in absurd (true≢false (sym e ∙ sym s.1.finished ∙ f))
  reading_same i (more x e g) (last y f) = let s = page_same i x y in absurd (true≢false (sym f ∙ s.1.finished ∙ e))
  reading_same {b} i (more {t = t} x e g) (more {pages = pages'} {turns = turns'} y f k) =
      let c = plainly cells h theme a r room (Moved way) p in
      let s = page_same i x y in
      let n : inside t.next = subst (λ (z : Turn). inside z.next) (sym (turns_same c i x).0) (next_range _ c.right r room b) in
      let m = reading_same n g (subst (λ (z : Bookmark). Reading quick r z pages' turns') s.1.next k) in
      (ap₂ (λ (l : List Pair) (ls : List (List Pair)). l ∷ ls) s.0 m.0, dearer (near_turned s.1) m.1)

-- ---- one page from any bookmark, of answers that meet the contracts

module _ (cells : List ℕ) (h : ℕ) (theme : List ℕ) (way : Way) (b : Bookmark) (buffers buffers' : Lent) (table : List ℕ)
    (same : length buffers'.columns ≡ length buffers.columns) {t u : Turn} {after after' : Lent} {table' : List ℕ}
    (p : PlainPages cells h theme (Moved way) b buffers (Ok u) after)
    (q : QuickPages cells h theme way b (sets (score_of cells h)) table buffers' (Ok t) table' after') where
  plain_asks : PlainAsks cells h theme (Moved way) b buffers.columns buffers.shifts
  plain_asks = (plain_turned cells h theme (Moved way) b buffers).0 (u, sym p.pages.answers)

  quick_asks : QuickAsks cells h theme way b (sets (score_of cells h)) table buffers'.columns buffers'.shifts
  quick_asks = (quick_turned cells h theme way b (sets (score_of cells h)) table buffers').0 (t, sym q.pages.answers)

  -- the defined calls meet their own contracts
  by_plain : PlainCall cells h theme (Moved way) (plain_page cells h theme (Moved way))
  by_plain c l = record { pages = record { answers = refl; writes = refl } }

  by_quick : QuickCall cells h theme way (sets (score_of cells h)) (λ c l. quick_page cells h theme way c (sets (score_of cells h)) table l)
  by_quick =
      record {
        table = λ c l. table;
        table' = λ c l. quick_table cells h theme way c (sets (score_of cells h)) table l;
        long = λ c l. quick_asks.table_long;
        promises = λ c l. record { pages = record { answers = refl; writes = refl }; fills_table = refl };
      }

  pub one_page : (read_pairs t.written after' ≡ read_pairs u.written after) × NoDearer (Ok t) (Ok u)
  one_page =
      let r = length buffers.columns in
      let s =
      page_same cells h theme way plain_asks.accepted r plain_asks.room by_plain by_quick
      (subst (λ (n : ℕ). InRange (range_of way) n b) (sym (score_length cells h)) plain_asks.marked)
      (record {
        buffers = buffers;
        room = record { of_columns = refl; of_shifts = plain_asks.same_room };
        answered = sym p.pages.answers;
        left = ap (read_pairs u.written) p.pages.writes;
      })
      (record {
        buffers = buffers';
        room = record { of_columns = same; of_shifts = quick_asks.plain.same_room ∙ same };
        answered = sym q.pages.answers;
        left = ap (read_pairs t.written) q.pages.writes;
      }) in
      (s.0, near_turned s.1)
