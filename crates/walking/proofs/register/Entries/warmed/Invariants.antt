-- The invariant: the register has taken the words from `from` up to `at`.
use mathlib.Core.Path.{◌≡◌}
use Rattle.theory.specs.Register.{reg_from}
use Rattle.walking.specs.Scan.{entry_word}
use Rattle.walking.proofs.register.Entries.warmed.Given as goal

abbrev pub invariant-loop-at : goal.invariant-loop-at
invariant-loop-at l = l.register ≡ reg_from 32 (entry_word l.self.table.now l.self.sets.now) l.from l.at
