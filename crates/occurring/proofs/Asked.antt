-- What the question promises, read off its definition: it is accepted exactly where no row of its call applies, refused with a
-- number and a place exactly where that row is the first that does, and then nothing is written; otherwise it is a yes exactly
-- where the quick list has a pair (`yes_list`). Assumes nothing.
use mathlib.Core.Path.{◌≡◌, refl, sym, ap, ◌∙◌}
use mathlib.Core.Bool.{Bool, true, false, true≢false, false≢true}
use mathlib.Core.Logic.{◌↔◌, ◌⊎◌, inl, inr, ⊎_elim}
use mathlib.Core.List.Memᴰ.{head as here}
use mathlib.Core.List.Memᴰ.{not-nil}
use mathlib.Core.List.{List, [], ◌∷◌, Memᴰ as In}
use Prim.Native.Nat.{ℕ}
use Rattle.score.specs.declared.refusals.Rule.{Rule}
use Rattle.score.specs.declared.refusals.Refusal.{Refusal}
use Rattle.score.specs.Score.{score_of}
use Rattle.score.specs.Refusals.{Row, judge, GivenBy, place_by}
use Rattle.score.proofs.Judged.{Clear, judge_clear, judge_clear_of, judge_both, answer_refused}
use Rattle.summing.specs.declared.summary.Summary.{Summary}
use Rattle.ways.specs.declared.way.Way.{Way}
use Rattle.ways.specs.declared.bookmark.Pair.{Pair}
use Rattle.filter.specs.Limits.{word_bits}
use Rattle.filter.specs.Table.{theme_table}
use Rattle.occurring.specs.Occurring.{quick_list, by_list, occurs_rows, OccursBy, Occurs}
use Rattle.std.specs.Prelude.{Result, Ok, Err}

-- ---- what an answer is

abbrev is_answer : Result Bool Refusal → Bool
is_answer (Ok true) = true
is_answer (Ok false) = true
is_answer (Err r) = false

abbrev is_yes : Result Bool Refusal → Bool
is_yes (Ok true) = true
is_yes (Ok false) = false
is_yes (Err r) = false

list_answers : (list : List Pair) → is_answer (by_list list) ≡ true
list_answers [] = refl
list_answers (pair ∷ list) = refl

list_refused : (list : List Pair) {r : Refusal} → by_list list ≡ Err r → ⊥
list_refused list e = true≢false (sym (list_answers list) ∙ ap is_answer e)

list_either : (list : List Pair) → (by_list list ≡ Ok true) ⊎ (by_list list ≡ Ok false)
list_either [] = inr refl
list_either (pair ∷ list) = inl refl

answer_is : (o : Result Bool Refusal) → (o ≡ Ok true) ⊎ (o ≡ Ok false) → is_answer o ≡ true
answer_is o e = ⊎_elim (λ y. ap is_answer y) (λ n. ap is_answer n) e

-- a yes exactly where there is a pair, and a no exactly where there is none
pub yes_list : (list : List Pair) → (by_list list ≡ Ok true) ↔ ((pair : Pair) × In pair list)
yes_list [] = (λ e. absurd (false≢true (ap is_yes e)), λ p. absurd (not-nil p.1))
yes_list (pair ∷ list) = (λ e. (pair, here refl), λ p. refl)

pub no_list : (list : List Pair) → (by_list list ≡ Ok false) ↔ ((pair : Pair) → In pair list → ⊥)
no_list [] = (λ e pair m. not-nil m, λ f. refl)
no_list (pair ∷ list) = (λ e. absurd (true≢false (ap is_yes e)), λ f. absurd (f pair (here refl)))

-- ---- the call

module _ (cells : List ℕ) (h : ℕ) (theme : List ℕ) (way : Way) (sets : List ℕ) (summary : Summary) (table : List ℕ) where
  abbrev rows : List Row
  rows = occurs_rows cells h theme sets summary table

  abbrev said : Result Bool Refusal
  said = by_list (quick_list way (score_of cells h) theme sets)

  module _ {answer : Result Bool Refusal} {table' : List ℕ} (o : Occurs cells h theme way sets summary table answer table') where
    pub occurs_clear : Clear rows → (answer ≡ said) × (table' ≡ theme_table word_bits theme)
    occurs_clear c = (o.answers ∙ judge_clear Err said rows c, o.fills_table ∙ judge_clear (λ r. table) (theme_table word_bits theme) rows c)

    pub occurs_accepted : ((answer ≡ Ok true) ⊎ (answer ≡ Ok false)) ↔ Clear rows
    occurs_accepted = (
      λ e.
          judge_clear_of Err said (λ (x : Result Bool Refusal). is_answer x ≡ true) (λ r k. false≢true k) rows
          (ap is_answer (sym o.answers) ∙ answer_is answer e),
      λ c.
          let e = (occurs_clear c).0 in
          ⊎_elim (λ y. inl (e ∙ y)) (λ n. inr (e ∙ n)) (list_either (quick_list way (score_of cells h) theme sets)),
    )

    pub occurs_refused : (k : Rule) (p : ℕ) → (answer ≡ Err (record { rule = k; place = p })) ↔ (GivenBy rows k × (p ≡ place_by rows k))
    occurs_refused k p =
        let e =
        answer_refused (λ (x : Result Bool Refusal). x) Err (λ r s e. cc) Err said (λ r. refl)
        (λ r e. list_refused (quick_list way (score_of cells h) theme sets) e) rows refl k p in
        (λ x. e.0 (sym o.answers ∙ x), λ x. o.answers ∙ e.1 x)

    pub occurs_kept : (r : Refusal) → answer ≡ Err r → table' ≡ table
    occurs_kept r e =
        o.fills_table
        ∙ judge_both (λ (x : Result Bool Refusal) (t : List ℕ). x ≡ Err r → t ≡ table) Err (λ r. table) said (theme_table word_bits theme) (λ s f. refl)
        (λ f. absurd (list_refused (quick_list way (score_of cells h) theme sets) f)) rows (sym o.answers ∙ e)

  -- one answer, and one content of the table
  pub occurs_settled : {a b : Result Bool Refusal} {s t : List ℕ} → Occurs cells h theme way sets summary table a s → Occurs cells h theme way sets summary table b t
      → (a ≡ b) × (s ≡ t)
  occurs_settled p q = (p.answers ∙ sym q.answers, p.fills_table ∙ sym q.fills_table)
