-- `second::score::Score::onward` meets its contract: no step leaves the column, and each goes to a column that is heard or to one
-- behind the last.
use Rattle.std.proofs.Common.{◌≡◌, ℕ, ◌+◌, ◌<◌, ◌≤◌, true, rules, arith}
use borrow.Author.Tests.{tests}
use mathlib.Core.Path.{refl}
use Rattle.std.proofs.iter.Yields.{nat_range_steps}
use Rattle.std.specs.List.{range_with_len}
use Rattle.std.proofs.lemmas.Fn.{fold_over}
use Rattle.std.proofs.lemmas.Iterator.{YieldsList-from_range}
use Rattle.std.proofs.lemmas.List.FromFn.{length-range_with_len}
use Rattle.second.specs.Columns.{heard_in}
use Rattle.second.proofs.Seeking.{Walked, one_more}
use Rattle.second.proofs.score.Score.onward.Goals as goal

abbrev Heard : goal.After-fold → ℕ → Type 0
Heard c k = heard_in c.args.self.cells.now c.args.self.h k ≡ true

walked : (c : goal.After-fold) → Walked (Heard c) c.args.self.n c.args.j (range_with_len 0 c.args.steps) c.fold.result
walked c =
    fold_over nat_range_steps (λ x. x) _ (Walked (Heard c) c.args.self.n c.args.j) _
    (λ ys a x b q held called. let within : b ≤ c.args.self.n + 1 = search (rules, tests) in
    let kind : 0 < b → b ≤ c.args.self.n → Heard c b = search (rules, tests) in
    (one_more (Heard c) c.args.self.n c.args.j ys x b within kind, search (rules, tests)))
    (record { start = 0; end = c.args.steps }) _ _ _
    (YieldsList-from_range 0 c.args.steps c.args.steps refl (omega arith)).runs
    ((λ _. refl), (λ some. omega arith), (λ some. absurd (omega arith))) c.fold.ensures.ran

pub returns-clause-none : goal.returns-clause-none
returns-clause-none c none = (walked c).0 (omega (arith, length-range_with_len 0 c.args.steps))

pub returns-clause-within : goal.returns-clause-within
returns-clause-within c some = (walked c).1 (omega (arith, length-range_with_len 0 c.args.steps))

pub returns-clause-heard : goal.returns-clause-heard
returns-clause-heard c some = (walked c).2 (omega (arith, length-range_with_len 0 c.args.steps))
