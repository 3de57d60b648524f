-- The public call's contract settles it, over what the `ensures` in the source says: answer and buffers are settled by the laws
-- of pages. Assumes nothing.
use mathlib.Core.Path.{refl}
use Rattle.theory.specs.Settled.{Settles}
use Rattle.theory.proofs.Unique.{◌beside◌}
use Rattle.paging.proofs.Answers.{pages_unique}
use Rattle.paging.proofs.Buffers.{same_columns, same_shifts}
use Rattle.written.proofs.page.written_page

pub written_page_unique : Settles written_page.Kinds.ps written_page.Kinds.r written_page.Reads.Post
written_page_unique κs args x y =
    let (answer, lent) = pages_unique x.meets.pages y.meets.pages in (
      answer,
      refl beside refl beside refl beside refl beside same_columns lent beside same_shifts lent beside refl,
    )
