-- `occurring::lacking::lacks` meets its contract: an interval more is looked at.
use Rattle.std.proofs.Common.{◌≡◌, ℕ, ap, ◌∙◌, ap₂}
use Rattle.std.specs.Slice.Iter.{windows_size, windows_rest}
use Rattle.score.specs.Score.{pitch}
use Rattle.score.specs.Sets.{interval}
use Rattle.filter.proofs.Neighbours.{passed, none_passed, neighbours_start, next_two, neighbours_end}
use Rattle.occurring.proofs.Looking.{looked_start, looked_more, looked_end}
use Rattle.occurring.proofs.lacking.lacks.Goals as goal

pub loop-notes-init : goal.loop-notes-init
loop-notes-init c =
    let theme = c.args.theme.now in
    let made = c.into_iter-notes-iterator.ensures.into_iter_gives in
    let rest : windows_rest c.into_iter-notes-iterator.result ≡ theme = ap windows_rest made ∙ c.windows-notes-items.ensures.rest in
    let two : windows_size c.into_iter-notes-iterator.result ≡ 2 = ap windows_size made ∙ c.windows-notes-items.ensures.size in
    let none : passed theme c.into_iter-notes-iterator.result ≡ 0 = none_passed theme c.into_iter-notes-iterator.result rest in
    record { neighbours = neighbours_start theme c.into_iter-notes-iterator.result two rest; looked = rw none (looked_start theme _) }

pub loop-notes-preserved : goal.loop-notes-preserved
loop-notes-preserved c =
    let t = next_two c.args.theme.now _ _ c.loop-notes.invariant.neighbours c.in-Some.is c.next.ensures.steps in
    record {
      neighbours = t.neighbours;
      looked = rw t.more
          (looked_more _ _ c.loop-notes.invariant.looked t.inside
          (c.interval_of-d.ensures ∙ ap₂ (λ (a b : ℕ). interval (pitch a) (pitch b)) t.here t.next));
    }

pub returns : goal.returns
returns c =
    looked_end _ _ c.loop-notes.invariant.looked (neighbours_end _ _ _ c.loop-notes.invariant.neighbours c.in-None.is c.next.ensures.steps)
