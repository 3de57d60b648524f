-- Each public call's contract settles it: one theorem a call, over what the `ensures` in the source says. Answer and buffers
-- are settled by `plain_unique` and `quick_unique`, and so is the table of a quick page. Assumes nothing.
use mathlib.Core.Path.{refl}
use Rattle.theory.specs.Settled.{Settles}
use Rattle.theory.proofs.Unique.{◌beside◌}
use Rattle.paging.proofs.Buffers.{same_columns, same_shifts}
use Rattle.search.proofs.PlainCall.{plain_unique}
use Rattle.search.proofs.QuickCall.{quick_unique}
use Rattle.search.proofs.page.plain_page
use Rattle.search.proofs.page.quick_page

pub plain_page_unique : Settles plain_page.Kinds.ps plain_page.Kinds.r plain_page.Reads.Post
plain_page_unique κs args x y =
    let (answer, lent) = plain_unique _ _ _ _ _ _ x.meets y.meets in (
      answer,
      refl beside refl beside refl beside refl beside refl
          beside same_columns lent beside same_shifts lent beside refl,
    )

pub quick_page_unique : Settles quick_page.Kinds.ps quick_page.Kinds.r quick_page.Reads.Post
quick_page_unique κs args x y =
    let ((answer, lent), table) = quick_unique _ _ _ _ _ _ _ _ x.meets y.meets in (
      answer,
      refl beside refl beside refl beside refl beside refl beside refl
          beside table beside same_columns lent beside same_shifts lent beside refl,
    )
