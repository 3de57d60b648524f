-- Each public call's contract settles it: one theorem a call, over what the `ensures` in the source says. Each contract is an
-- equation, of the table as it is left or of the answer. Assumes nothing.
use Rattle.std.proofs.Common.{refl}
use Rattle.theory.specs.Settled.{Settles}
use Rattle.theory.proofs.Unique.{settled_unique, ◌beside◌}
use Rattle.filter.proofs.table.fill_table
use Rattle.filter.proofs.register.step
use Rattle.filter.proofs.register.marks

pub fill_table_unique : Settles fill_table.Kinds.ps fill_table.Kinds.r fill_table.Reads.Post
fill_table_unique κs args x y = (refl, refl beside settled_unique x.meets y.meets beside refl)

pub step_unique : Settles step.Kinds.ps step.Kinds.r step.Reads.Post
step_unique κs args x y = (settled_unique x.meets y.meets, refl)

pub marks_unique : Settles marks.Kinds.ps marks.Kinds.r marks.Reads.Post
marks_unique κs args x y = (settled_unique x.meets y.meets, refl)
