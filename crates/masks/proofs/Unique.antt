-- Each public call's contract settles it: one theorem a call, over what the `ensures` in the source says. A word is settled by
-- its number, since both its halves are below 2 ^ 64 (`word_unique`); the width by an equation. Assumes nothing.
use Prim.Native.Nat.{ℕ}
use mathlib.Core.Path.{◌≡◌, refl, ap, ◌∙◌}
use native.Mathlib.Omega.{arith}
use Rattle.theory.specs.Settled.{Settles}
use Rattle.theory.proofs.Unique.{settled_unique}
use Rattle.masks.specs.Masks.{value}
use Rattle.masks.specs.declared.word.Word.{Word}
use Rattle.masks.proofs.Halves.{Halves, value_unique}
use Rattle.masks.proofs.columns.word_of
use Rattle.masks.proofs.moving.moved
use Rattle.masks.proofs.word.all_starts
use Rattle.masks.proofs.word.width_of

-- what is known of every word that a call gives: its halves are numbers of 64 bits
abbrev OfType : Word → Type 0
OfType = (all_starts.Kinds.r).is.Ok tt

halves : (w : Word) → OfType w → Halves w.low w.high
halves w h = record { lower = omega (arith, h); upper = omega (arith, h) }

word_unique : (v w : Word) → OfType v → OfType w → value v.low v.high ≡ value w.low w.high → v ≡ w
word_unique v w h k e =
    let same = value_unique v.low v.high w.low w.high (halves v h) (halves w k) e in
    ap (λ (n : ℕ). record { low = n; high = v.high }) same.0 ∙ ap (λ (n : ℕ). record { low = w.low; high = n }) same.1

pub word_of_unique : Settles word_of.Kinds.ps word_of.Kinds.r word_of.Reads.Post
word_of_unique κs args x y =
    (word_unique x.answer y.answer x.of_type y.of_type (settled_unique x.meets y.meets), refl)

pub moved_unique : Settles moved.Kinds.ps moved.Kinds.r moved.Reads.Post
moved_unique κs args x y =
    (word_unique x.answer y.answer x.of_type y.of_type (settled_unique x.meets y.meets), refl)

pub all_starts_unique : Settles all_starts.Kinds.ps all_starts.Kinds.r all_starts.Reads.Post
all_starts_unique κs args x y =
    (word_unique x.answer y.answer x.of_type y.of_type (settled_unique x.meets y.meets), refl)

pub width_of_unique : Settles width_of.Kinds.ps width_of.Kinds.r width_of.Reads.Post
width_of_unique κs args x y = (settled_unique x.meets y.meets, refl)
