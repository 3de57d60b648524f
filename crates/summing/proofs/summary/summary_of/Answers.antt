-- `summing::summary::summary_of` meets its contract: the fold is the and of all sets.
use mathlib.Core.Path.{ap, sym}
use Prim.Native.Nat.{ℕ}
use lib.Bits.{bit_and}
use Rattle.std.proofs.Common.{rules}
use Rattle.std.proofs.lemmas.Iterator.{YieldsList-from_slice}
use Rattle.theory.proofs.Chains.{folded}
use Rattle.summing.specs.Summary.{summary}
use Rattle.summing.proofs.Summaries.{summary_nil, summary_push}
use Rattle.summing.proofs.summary.summary_of.Goals as goal

pub returns : goal.returns
returns c =
    ap (λ (x : ℕ). record { 0 = x })
    (folded summary bit_and _ _ c.fold.ensures.ran (YieldsList-from_slice c.args.sets.now cc) (sym summary_nil) summary_push
    (λ a x b h k. search rules))
