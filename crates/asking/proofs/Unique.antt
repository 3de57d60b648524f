-- Each public call's contract settles it: one theorem a call, over what the `ensures` in the source says. Each contract is an
-- equation, and no call writes what it was lent. Assumes nothing.
use mathlib.Core.Path.{refl}
use Rattle.theory.specs.Settled.{Settles}
use Rattle.theory.proofs.Unique.{settled_unique}
use Rattle.asking.proofs.checks.check_theme
use Rattle.asking.proofs.checks.check_request
use Rattle.asking.proofs.checks.check_page
use Rattle.asking.proofs.checks.check_plain
use Rattle.asking.proofs.checks.check_with_sets
use Rattle.asking.proofs.checks.check_quick

pub check_theme_unique : Settles check_theme.Kinds.ps check_theme.Kinds.r check_theme.Reads.Post
check_theme_unique κs args x y = (settled_unique x.meets y.meets, refl)

pub check_request_unique : Settles check_request.Kinds.ps check_request.Kinds.r check_request.Reads.Post
check_request_unique κs args x y = (settled_unique x.meets y.meets, refl)

pub check_page_unique : Settles check_page.Kinds.ps check_page.Kinds.r check_page.Reads.Post
check_page_unique κs args x y = (settled_unique x.meets y.meets, refl)

pub check_plain_unique : Settles check_plain.Kinds.ps check_plain.Kinds.r check_plain.Reads.Post
check_plain_unique κs args x y = (settled_unique x.meets y.meets, refl)

pub check_with_sets_unique : Settles check_with_sets.Kinds.ps check_with_sets.Kinds.r check_with_sets.Reads.Post
check_with_sets_unique κs args x y = (settled_unique x.meets y.meets, refl)

pub check_quick_unique : Settles check_quick.Kinds.ps check_quick.Kinds.r check_quick.Reads.Post
check_quick_unique κs args x y = (settled_unique x.meets y.meets, refl)
