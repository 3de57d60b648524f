-- The summary of interval sets, 12 bits: bit d is 0 exactly when some set has bit d at 0, and with no sets it is 4095. The
-- definition that matters is `summary`. Assumes nothing.
use Rattle.std.specs.Prelude.{Bool, cond, List, ℕ, eqb}
use Rattle.theory.specs.Bits.{bit, number}
use Rattle.theory.specs.Lists.{some}
use Rattle.summing.specs.declared.summary.Summary.{Summary}

-- some set has the interval d: its bit d is 0
abbrev pub in_some : (sets : List ℕ) (d : ℕ) → Bool
in_some sets d = some (λ set. eqb (bit set d) 0) sets

-- bits 0 to 11, a 0 for each interval that some set has
unfoldable pub summary : (sets : List ℕ) → ℕ
summary sets = number 12 (λ d. cond (in_some sets d) 0 1)

-- the same as a summary, which is a kind of its own
abbrev pub summary_of : (sets : List ℕ) → Summary
summary_of sets = record { 0 = summary sets }
