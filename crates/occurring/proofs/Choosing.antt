-- From the two ways to answer to what the call promises: with a right summary that lacks no interval of the theme the row of the
-- summary does not apply, and the page's answer is the call's; otherwise the answer without a walk is. Assumes nothing.
use mathlib.Core.Path.{◌≡◌, refl, sym, ap, ◌∙◌, subst}
use mathlib.Core.Bool.{Bool, true, false, not, ◌&&◌, true≢false}
use mathlib.Core.List.{List, [], ◌∷◌, ◌++◌}
use Prim.Native.Nat.{ℕ}
use lib.Dec.{eqb}
use lib.ListN.{length}
use borrow.Author.Tests.{eqb-true}
use Rattle.theory.proofs.Either.{both_left}
use Rattle.score.specs.declared.refusals.Rule.TheVariants as rule
use Rattle.score.specs.declared.refusals.Refusal.{Refusal}
use Rattle.score.specs.Score.{score_of}
use Rattle.score.specs.Refusals.{Row, row, judge}
use Rattle.score.proofs.Judging.{judge_append, judge_next}
use Rattle.summing.specs.declared.summary.Summary.{Summary}
use Rattle.summing.specs.Summary.{summary as summaryIn}
use Rattle.ways.specs.declared.way.Way.{Way}
use Rattle.asking.specs.Refusals.{with_sets_rows}
use Rattle.filter.specs.Limits.{word_bits}
use Rattle.filter.specs.Table.{theme_table}
use Rattle.occurring.specs.Occurring.{lacking, quick_list, by_list, row12, OccursBy, Occurs}
use Rattle.std.specs.Prelude.{Result, Ok, Err}

module _ (cells : List ℕ) (h : ℕ) (theme : List ℕ) (way : Way) (sets : List ℕ) (s : Summary) (table : List ℕ) where
  abbrev rows : List Row
  rows = with_sets_rows cells h theme sets (length table)

  module _ {right : Bool} (e : right ≡ eqb (summaryIn sets) s.0) where
    -- a row that does not apply may come last
    pub by_page_occurs : (lacks : Bool) → (right && not lacks) ≡ true → {answer : Result Bool Refusal} {table' : List ℕ}
        → OccursBy rows cells h theme way sets table answer table' → Occurs cells h theme way sets s table answer table'
    by_page_occurs lacks k a =
        let clear : (row12 sets s).applies ≡ false = ap not (sym e ∙ both_left right (not lacks) k) in
        record {
          answers = a.answers ∙ last Err (by_list (quick_list way (score_of cells h) theme sets)) clear;
          fills_table = a.fills_table ∙ last (λ r. table) (theme_table word_bits theme) clear;
        }
      where
        last : {A : Type 0} (f : Refusal → A) (a : A) → (row12 sets s).applies ≡ false → judge rows f a ≡ judge (rows ++ row12 sets s ∷ []) f a
        last f a clear = sym (judge_append f a rows (row12 sets s ∷ []) ∙ ap (judge rows f) (judge_next f a (row12 sets s) [] clear))

    -- a right summary lacks an interval, where no page was asked for
    pub right_lacks : {lacks : Bool} → lacks ≡ lacking theme s.0 → (right && not lacks) ≡ false → right ≡ true → lacking theme (summaryIn sets) ≡ true
    right_lacks {lacks} l k r =
        let same : summaryIn sets ≡ s.0 = eqb-true (summaryIn sets) s.0 (sym e ∙ r) in
        ap (lacking theme) same ∙ sym l ∙ step lacks (subst (λ (b : Bool). (b && not lacks) ≡ false) r k)
      where
        step : (b : Bool) → (true && not b) ≡ false → b ≡ true
        step true z = refl
        step false z = absurd (true≢false z)

    pub without_walk_occurs : {answer : Result Bool Refusal} {table' : List ℕ}
        → ((w : Way) → OccursBy (rows ++ row rule.Summary (not right) 0 ∷ []) cells h theme w sets table answer table')
        → Occurs cells h theme way sets s table answer table'
    without_walk_occurs {answer} {table'} a =
        subst (λ (b : Bool). OccursBy (rows ++ row rule.Summary (not b) 0 ∷ []) cells h theme way sets table answer table') e (a way)
