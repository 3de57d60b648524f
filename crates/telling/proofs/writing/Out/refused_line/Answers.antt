-- `telling::writing::Out::refused_line` meets its contract: the line is that of its word, 11 and its number.
use Rattle.telling.specs.Lines.{refused_line}
use Rattle.telling.proofs.writing.Out.refused_line.Goals as goal

pub line-requires : goal.line-requires
unfolding refused_line
line-requires c = c.requires

pub returns : goal.returns
unfolding refused_line
returns c = record { wrote = c.line.ensures.wrote; same_output = c.line.ensures.same_output }
