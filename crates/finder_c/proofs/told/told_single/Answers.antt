-- `finder_c::told::told_single` meets its contract, by cases.
use mathlib.Core.Path.{sym, ap, ◌∙◌}
use mathlib.Core.List.{[], ◌∷◌}
use borrow.Author.Rules.{rules}
use lib.IntN.{ℤ}
use mir.Syntax.{w64}
use mir.Facts.{to_z_pos}
use Rattle.finder_c.specs.Numbers.{single_numbers}
use Rattle.finder_c.proofs.Places.{one}
use Rattle.finder_c.proofs.told.told_single.Goals as goal
use Rattle.std.specs.Prelude.{Result, Ok, Err}
use Prim.Native.Nat.{ℕ}
use Rattle.score.specs.declared.refusals.Refusal.{Refusal}

pub returns-in-Ok-clause-answer_after : goal.returns-in-Ok-clause-answer_after
returns-in-Ok-clause-answer_after c =
    let answer = c.args.answer.now in
    one answer c.requires.answer_len _ ∙ ap (λ (z : ℤ). z ∷ []) (to_z_pos w64 (search rules))
    ∙ sym (ap (λ (s : Result ℕ Refusal). single_numbers s answer) c.in-Ok.is)
