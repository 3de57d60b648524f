-- What a page call answers that is judged by rows, over any rows and any search: it turns a page exactly where no row applies, otherwise
-- gives exactly the first row's refusal and writes nothing; and its contract leaves one answer. Assumes nothing.
use mathlib.Core.Path.{◌≡◌, refl, sym, ap, ◌∙◌}
use mathlib.Core.Bool.{Bool, true, false, true≢false}
use mathlib.Core.Logic.{◌↔◌}
use mathlib.Core.List.{List}
use Prim.Native.Nat.{ℕ}
use Rattle.score.specs.declared.refusals.Rule.{Rule}
use Rattle.score.specs.declared.refusals.Refusal.{Refusal}
use Rattle.score.specs.Refusals.{Row, distinct, GivenBy, place_by}
use Rattle.score.proofs.Judged.{Clear, judge_clear, judge_clear_of, answer_refused, answer_kept}
use Rattle.ways.specs.declared.bookmark.Bookmark.{Bookmark}
use Rattle.paging.specs.declared.page.Turn.{Turn}
use Rattle.paging.specs.Lent.{Lent}
use Rattle.paging.specs.Search.{Search}
use Rattle.paging.specs.Page.{Leaf, leaf, away, paged, Pages}
use Rattle.std.specs.Prelude.{Result, Ok, Err}

-- ---- a page that was turned is no refusal

abbrev is_turned : Result Turn Refusal → Bool
is_turned (Ok t) = true
is_turned (Err r) = false

pub turned_refused : {t : Turn} {r : Refusal} → Ok t ≡ Err r → ⊥
turned_refused e = true≢false (ap is_turned e)

-- ---- any call

module _ {Start : Type 0} (rows : List Row) (S : Search Start) (b : Bookmark) (buffers : Lent) where
  abbrev answered : Result Turn Refusal
  answered = (paged rows S b buffers).answer

  pub paged_clear : Clear rows → paged rows S b buffers ≡ leaf S b buffers
  paged_clear c = judge_clear (away buffers) (leaf S b buffers) rows c

  pub paged_turned : ((t : Turn) × (answered ≡ Ok t)) ↔ Clear rows
  paged_turned = (
    λ h. judge_clear_of (away buffers) (leaf S b buffers) (λ l. (t : Turn) × (l.answer ≡ Ok t)) (λ r h. turned_refused (sym h.1)) rows h,
    λ c. (_, ap (λ (l : Leaf). l.answer) (paged_clear c)),
  )

  pub paged_refused : distinct rows ≡ true → (k : Rule) (p : ℕ) → (answered ≡ Err (record { rule = k; place = p })) ↔ (GivenBy rows k × (p ≡ place_by rows k))
  paged_refused d k p =
      answer_refused (λ (l : Leaf). l.answer) Err (λ r s e. cc) (away buffers) (leaf S b buffers) (λ r. refl) (λ r e. turned_refused e) rows d k p

  -- a refused call writes nothing
  pub paged_kept : (r : Refusal) → answered ≡ Err r → (paged rows S b buffers).buffers ≡ buffers
  paged_kept r e =
      answer_kept (λ (l : Leaf). l.answer) Err (λ r s e. cc) (away buffers) (leaf S b buffers) (λ r. refl) (λ r e. turned_refused e) rows (λ (l : Leaf). l.buffers ≡ buffers)
      (λ r. refl) r e

-- there is one answer, and one way to leave the buffers
pub pages_unique : {page : Leaf} {a a' : Result Turn Refusal} {l l' : Lent} → Pages page a l → Pages page a' l' → (a ≡ a') × (l ≡ l')
pages_unique p q = (p.answers ∙ sym q.answers, p.writes ∙ sym q.writes)
