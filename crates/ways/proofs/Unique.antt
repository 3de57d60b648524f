-- Each public call's contract settles it: one theorem a call, over what the `ensures` in the source says. Each contract is an
-- equation, and no call writes what it was lent. Assumes nothing.
use mathlib.Core.Path.{refl}
use Rattle.theory.specs.Settled.{Settles}
use Rattle.theory.proofs.Unique.{settled_unique}
use Rattle.ways.proofs.bookmark.Bookmark.first
use Rattle.ways.proofs.bookmark.Bookmark.after
use Rattle.ways.proofs.bookmark.Bookmark.finished
use Rattle.ways.proofs.codes.span_of
use Rattle.ways.proofs.codes.no_shift
use Rattle.ways.proofs.codes.out_as
use Rattle.ways.proofs.codes.code_of
use Rattle.ways.proofs.codes.shift_of

pub bookmark_first_unique : Settles first.Kinds.ps first.Kinds.r first.Reads.Post
bookmark_first_unique κs args x y = (settled_unique x.meets y.meets, refl)

pub bookmark_after_unique : Settles after.Kinds.ps after.Kinds.r after.Reads.Post
bookmark_after_unique κs args x y = (settled_unique x.meets y.meets, refl)

pub bookmark_finished_unique : Settles finished.Kinds.ps finished.Kinds.r finished.Reads.Post
bookmark_finished_unique κs args x y = (settled_unique x.meets y.meets, refl)

pub span_of_unique : Settles span_of.Kinds.ps span_of.Kinds.r span_of.Reads.Post
span_of_unique κs args x y = (settled_unique x.meets y.meets, refl)

pub no_shift_unique : Settles no_shift.Kinds.ps no_shift.Kinds.r no_shift.Reads.Post
no_shift_unique κs args x y = (settled_unique x.meets y.meets, refl)

pub out_as_unique : Settles out_as.Kinds.ps out_as.Kinds.r out_as.Reads.Post
out_as_unique κs args x y = (settled_unique x.meets y.meets, refl)

pub code_of_unique : Settles code_of.Kinds.ps code_of.Kinds.r code_of.Reads.Post
code_of_unique κs args x y = (settled_unique x.meets y.meets, refl)

pub shift_of_unique : Settles shift_of.Kinds.ps shift_of.Kinds.r shift_of.Reads.Post
shift_of_unique κs args x y = (settled_unique x.meets y.meets, refl)
