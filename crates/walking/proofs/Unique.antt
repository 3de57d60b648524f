-- Each public call's contract settles it: one theorem a call, over what the `ensures` in the source says. Answer and buffers
-- are settled as those of `Finds` are, and so is the table of a quick walk. Assumes nothing.
use mathlib.Core.Path.{refl}
use Rattle.theory.specs.Settled.{Settles}
use Rattle.theory.proofs.Unique.{◌beside◌}
use Rattle.walking.proofs.Answers.{finds_unique, quick_walks_unique}
use Rattle.walking.proofs.calls.walk_plain
use Rattle.walking.proofs.calls.walk_quick

pub walk_plain_unique : Settles walk_plain.Kinds.ps walk_plain.Kinds.r walk_plain.Reads.Post
walk_plain_unique κs args x y =
    let (answer, columns, shifts) = finds_unique _ _ _ _ _ _ _ _ x.meets y.meets in (
      answer,
      refl beside refl beside refl beside refl beside refl
          beside columns beside shifts beside refl,
    )

pub walk_quick_unique : Settles walk_quick.Kinds.ps walk_quick.Kinds.r walk_quick.Reads.Post
walk_quick_unique κs args x y =
    let ((answer, columns, shifts), table) = quick_walks_unique _ _ _ _ _ _ _ _ _ x.meets y.meets in (
      answer,
      refl beside refl beside refl beside refl beside refl beside refl
          beside table beside columns beside shifts beside refl,
    )
