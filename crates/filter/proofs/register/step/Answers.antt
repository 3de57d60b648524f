-- `filter::register::step` meets its contract: the wrapped sum is the double, its top bit lost. Assumes nothing.
use mathlib.Core.Path.{refl}
use Rattle.theory.specs.Register.{step}
use Rattle.filter.proofs.register.step.Goals as goal

pub returns : goal.returns
unfolding step
returns c = refl
