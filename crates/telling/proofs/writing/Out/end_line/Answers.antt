-- `telling::writing::Out::end_line` meets its contract: the line is that of its word and its two numbers.
use Rattle.telling.specs.Lines.{end_line}
use Rattle.telling.proofs.writing.Out.end_line.Goals as goal

pub line-requires : goal.line-requires
unfolding end_line
line-requires c = c.requires

pub returns : goal.returns
unfolding end_line
returns c = record { wrote = c.line.ensures.wrote; same_output = c.line.ensures.same_output }
