-- A plain call: it turns a page exactly where it is asked right, otherwise gives exactly the first refusal that applies and
-- writes nothing; and its contract leaves one answer. All by the laws of `paging`, at the rows of a plain call. Assumes
-- nothing.
use mathlib.Core.Path.{◌≡◌, refl}
use mathlib.Core.Bool.{true, false}
use mathlib.Core.Logic.{◌↔◌}
use mathlib.Core.List.{List}
use Prim.Native.Nat.{ℕ}
use Rattle.theory.specs.Lists.{some, first}
use Rattle.score.specs.declared.refusals.Rule.{Rule}
use Rattle.score.specs.declared.refusals.Rule.TheVariants as rule
use Rattle.score.specs.declared.refusals.Refusal.{Refusal}
use Rattle.score.specs.Score.{score_of}
use Rattle.score.specs.Refusals.{bad_cell, row1, row2, GivenBy, place_by}
use Rattle.ways.specs.declared.way.AnyWay.{AnyWay}
use Rattle.ways.specs.declared.bookmark.Bookmark.{Bookmark}
use Rattle.asking.specs.Asking.{PlainAsks}
use Rattle.asking.proofs.Rows.{plain_clear}
use Rattle.paging.specs.declared.page.Turn.{Turn}
use Rattle.paging.specs.Lent.{Lent}
use Rattle.paging.specs.Page.{leaf}
use Rattle.paging.proofs.Answers.{paged_clear, paged_turned, paged_refused, paged_kept, pages_unique}
use Rattle.search.specs.Pairs.{search_as}
use Rattle.search.specs.Page.{rows_of_plain, plain_page, PlainPages}
use Rattle.std.specs.Prelude.{Result, Ok, Err}

module _ (cells : List ℕ) (h : ℕ) (theme : List ℕ) (way : AnyWay) (b : Bookmark) (buffers : Lent) where
  -- it then turns a page, and only then
  pub plain_leaf : PlainAsks cells h theme way b buffers.columns buffers.shifts
      → plain_page cells h theme way b buffers ≡ leaf (search_as way (score_of cells h) theme) b buffers
  unfolding plain_page
  plain_leaf a =
      paged_clear (rows_of_plain cells h theme way b buffers) (search_as way (score_of cells h) theme) b buffers
      ((plain_clear cells h theme way b buffers.columns buffers.shifts).0 a)

  pub plain_turned : ((t : Turn) × ((plain_page cells h theme way b buffers).answer ≡ Ok t)) ↔ PlainAsks cells h theme way b buffers.columns buffers.shifts
  unfolding plain_page
  plain_turned =
      let e = paged_turned (rows_of_plain cells h theme way b buffers) (search_as way (score_of cells h) theme) b buffers in
      let k = plain_clear cells h theme way b buffers.columns buffers.shifts in
      (λ t. k.1 (e.0 t), λ a. e.1 (k.0 a))

  -- otherwise it gives exactly the first refusal that applies
  pub plain_refused : (k : Rule) (p : ℕ) → ((plain_page cells h theme way b buffers).answer ≡ Err (record { rule = k; place = p }))
      ↔ (GivenBy (rows_of_plain cells h theme way b buffers) k × (p ≡ place_by (rows_of_plain cells h theme way b buffers) k))
  unfolding plain_page
  plain_refused k p = paged_refused (rows_of_plain cells h theme way b buffers) (search_as way (score_of cells h) theme) b buffers refl k p

  -- so the answer is refusal 3 exactly where rows 1 and 2 do not apply and row 3 does, with the first bad cell; and so on
  pub plain_refused_3 : (p : ℕ) → ((plain_page cells h theme way b buffers).answer ≡ Err (record { rule = rule.Cell; place = p }))
      ↔ ((((row1 h).applies ≡ false) × (((row2 cells h).applies ≡ false) × (some bad_cell cells ≡ true))) × (p ≡ first bad_cell cells))
  plain_refused_3 p = plain_refused rule.Cell p

  -- and writes nothing
  pub plain_kept : (r : Refusal) → (plain_page cells h theme way b buffers).answer ≡ Err r → (plain_page cells h theme way b buffers).buffers ≡ buffers
  unfolding plain_page
  plain_kept r e = paged_kept (rows_of_plain cells h theme way b buffers) (search_as way (score_of cells h) theme) b buffers r e

  -- there is one answer, and one way to leave the buffers
  pub plain_unique : {a a' : Result Turn Refusal} {l l' : Lent} → PlainPages cells h theme way b buffers a l → PlainPages cells h theme way b buffers a' l' → (a ≡ a') × (l ≡ l')
  plain_unique p q = pages_unique p.pages q.pages
