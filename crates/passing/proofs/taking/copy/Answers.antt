-- `passing::taking::copy` meets its contract: one more cell is stored.
use Rattle.passing.proofs.Copied.{copying_more}
use Rattle.passing.proofs.taking.copy.Goals as goal

pub loop-i-preserved : goal.loop-i-preserved
loop-i-preserved c = copying_more c.loop-i.invariant c.loop-i-test.true
