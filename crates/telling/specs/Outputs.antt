-- What is put into the output, and the room for it. Assumes nothing.
use Rattle.std.specs.Prelude.{◌≡◌, List, ℕ, ◌+◌, ◌≤◌, length}
use Rattle.telling.specs.Steps.{Wrote}
use Rattle.telling.specs.declared.writing.Out.{Out}

-- there is room for these bytes
abbrev pub HasRoom : (bytes : List ℕ) → Out → Type 0
HasRoom bytes o = o.at + length bytes ≤ length o.bytes.now

-- these bytes are put into the same output
pub record Puts (bytes : List ℕ) (before after : Out) : Type 0 where
  pub wrote : Wrote bytes before.at before.bytes.now after.at after.bytes.now
  pub same_output : after.bytes.ghost_name ≡ before.bytes.ghost_name
