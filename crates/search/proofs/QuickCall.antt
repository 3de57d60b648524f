-- A quick call: it turns a page exactly where it is asked right, otherwise gives exactly the first refusal that applies and writes nothing, the
-- table neither; and its contract leaves one answer. All by the laws of `paging`, at the rows of a quick call. Assumes nothing.
use mathlib.Core.Path.{◌≡◌, refl, sym, ◌∙◌}
use mathlib.Core.Logic.{◌↔◌}
use mathlib.Core.List.{List}
use Prim.Native.Nat.{ℕ}
use Rattle.score.specs.declared.refusals.Rule.{Rule}
use Rattle.score.specs.declared.refusals.Refusal.{Refusal}
use Rattle.score.specs.Score.{score_of}
use Rattle.score.specs.Refusals.{GivenBy, place_by}
use Rattle.score.proofs.Judged.{judge_clear, judge_both}
use Rattle.ways.specs.declared.way.Way.{Way}
use Rattle.ways.specs.declared.bookmark.Bookmark.{Bookmark}
use Rattle.asking.specs.Asking.{QuickAsks}
use Rattle.asking.proofs.Rows.{quick_clear}
use Rattle.filter.specs.Limits.{word_bits}
use Rattle.filter.specs.Table.{theme_table}
use Rattle.paging.specs.declared.page.Turn.{Turn}
use Rattle.paging.specs.Lent.{Lent}
use Rattle.paging.specs.Search.{Search}
use Rattle.paging.specs.Page.{Leaf, leaf, away}
use Rattle.paging.proofs.Answers.{turned_refused, paged_clear, paged_turned, paged_refused, paged_kept, pages_unique}
use Rattle.walking.specs.Starts.{Place}
use Rattle.search.specs.Pairs.{quick_search}
use Rattle.search.specs.Page.{rows_of_quick, quick_page, quick_table, QuickPages}
use Rattle.std.specs.Prelude.{Result, Ok, Err}

module _ (cells : List ℕ) (h : ℕ) (theme : List ℕ) (way : Way) (b : Bookmark) (sets table : List ℕ) (buffers : Lent) where
  abbrev S : Search Place
  S = quick_search word_bits way (score_of cells h) theme (theme_table word_bits theme) sets

  abbrev Asks : Type 0
  Asks = QuickAsks cells h theme way b sets table buffers.columns buffers.shifts

  pub quick_leaf : Asks → quick_page cells h theme way b sets table buffers ≡ leaf S b buffers
  unfolding quick_page
  quick_leaf a =
      paged_clear (rows_of_quick cells h theme way b sets table buffers) S b buffers ((quick_clear cells h theme way b sets table buffers.columns buffers.shifts).0 a)

  -- it leaves the theme's table
  pub quick_fills : Asks → quick_table cells h theme way b sets table buffers ≡ theme_table word_bits theme
  unfolding quick_table
  quick_fills a =
      judge_clear (λ r. table) (theme_table word_bits theme) (rows_of_quick cells h theme way b sets table buffers)
      ((quick_clear cells h theme way b sets table buffers.columns buffers.shifts).0 a)

  pub quick_turned : ((t : Turn) × ((quick_page cells h theme way b sets table buffers).answer ≡ Ok t)) ↔ Asks
  unfolding quick_page
  quick_turned =
      let e = paged_turned (rows_of_quick cells h theme way b sets table buffers) S b buffers in
      let k = quick_clear cells h theme way b sets table buffers.columns buffers.shifts in
      (λ t. k.1 (e.0 t), λ a. e.1 (k.0 a))

  pub quick_refused : (k : Rule) (p : ℕ) → ((quick_page cells h theme way b sets table buffers).answer ≡ Err (record { rule = k; place = p }))
      ↔ (GivenBy (rows_of_quick cells h theme way b sets table buffers) k × (p ≡ place_by (rows_of_quick cells h theme way b sets table buffers) k))
  unfolding quick_page
  quick_refused k p = paged_refused (rows_of_quick cells h theme way b sets table buffers) S b buffers refl k p

  -- nothing is written, the table neither
  pub quick_kept : (r : Refusal) → (quick_page cells h theme way b sets table buffers).answer ≡ Err r
      → ((quick_page cells h theme way b sets table buffers).buffers ≡ buffers) × (quick_table cells h theme way b sets table buffers ≡ table)
  unfolding quick_page quick_table
  quick_kept r e = (
    paged_kept (rows_of_quick cells h theme way b sets table buffers) S b buffers r e,
    judge_both (λ (l : Leaf) (t : List ℕ). l.answer ≡ Err r → t ≡ table) (away buffers) (λ r. table) (leaf S b buffers) (theme_table word_bits theme) (λ s f. refl)
        (λ f. absurd (turned_refused f)) (rows_of_quick cells h theme way b sets table buffers) e,
  )

  pub quick_unique : {a a' : Result Turn Refusal} {t t' : List ℕ} {l l' : Lent} → QuickPages cells h theme way b sets table buffers a t l
      → QuickPages cells h theme way b sets table buffers a' t' l' → ((a ≡ a') × (l ≡ l')) × (t ≡ t')
  quick_unique p q = (pages_unique p.pages q.pages, p.fills_table ∙ sym q.fills_table)
