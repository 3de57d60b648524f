-- Each public call's contract settles it: one theorem a call, over what the `ensures` in the source says. Where nothing is written
-- the contract is an equation; the others settle what is written too. Assumes nothing.
use mathlib.Core.Path.{refl}
use Rattle.theory.specs.Settled.{Settles}
use Rattle.theory.proofs.Unique.{settled_unique, ◌beside◌}
use Rattle.passing.proofs.empties.any_empty
use Rattle.passing.proofs.empties.is_empty
use Rattle.passing.proofs.taking.take_out
use Rattle.passing.proofs.numbers.kept_sets
use Rattle.passing.proofs.numbers.rank
use Rattle.passing.proofs.numbers.rename

pub any_empty_unique : Settles any_empty.Kinds.ps any_empty.Kinds.r any_empty.Reads.Post
any_empty_unique κs args x y = (settled_unique x.meets y.meets, refl)

pub is_empty_unique : Settles is_empty.Kinds.ps is_empty.Kinds.r is_empty.Reads.Post
is_empty_unique κs args x y = (settled_unique x.meets y.meets, refl)

pub take_out_unique : Settles take_out.Kinds.ps take_out.Kinds.r take_out.Reads.Post
take_out_unique κs args x y =
    let kept = settled_unique x.meets.cells_kept y.meets.cells_kept in
    let numbers = settled_unique x.meets.numbered y.meets.numbered in
    (settled_unique x.meets.counted y.meets.counted, refl beside refl beside kept beside numbers beside refl)

pub kept_sets_unique : Settles kept_sets.Kinds.ps kept_sets.Kinds.r kept_sets.Reads.Post
kept_sets_unique κs args x y = (refl, refl beside refl beside settled_unique x.meets.entries y.meets.entries beside refl)

pub rank_unique : Settles rank.Kinds.ps rank.Kinds.r rank.Reads.Post
rank_unique κs args x y = (settled_unique x.meets y.meets, refl)

pub rename_unique : Settles rename.Kinds.ps rename.Kinds.r rename.Reads.Post
rename_unique κs args x y = (refl, settled_unique x.meets.renamed y.meets.renamed beside refl)
