-- `routing::holders::set_of` meets its contract: each turn adds the cell's own bit at its place.
use Rattle.std.proofs.Common.{ℕ, Bool, ap, ◌∙◌, arith}
use mathlib.Core.Bool.{cond}
use Rattle.routing.proofs.CellBits.{bit_made, bit_added, added_start, added_more}
use Rattle.routing.proofs.holders.set_of.Goals as goal

pub loop-i-init : goal.loop-i-init
loop-i-init g c = record { low = omega arith; added = λ passes agrees. added_start passes c.args.column.now }

pub loop-i-preserved : goal.loop-i-preserved
loop-i-preserved g c = record {
  low = rw (bit_made c.test.result) (bit_added c.test.result c.loop-i.invariant.low (omega (arith, c.requires.few)));
  added = λ passes agrees.
      added_more passes c.args.column.now c.requires.few (c.loop-i.invariant.added passes agrees) c.loop-i-test.true
      (bit_made c.test.result
      ∙ ap (λ (b : Bool). cond {A = ℕ} b 1 0) (agrees _ _ (omega (arith, c.type_inv.column c.loop-i.i)) c.test.ensures));
}
