-- `telling::writing::Out::line` meets its contract: there is room for each part behind the parts before it.
use mathlib.Core.Path.{◌∙◌}
use Rattle.telling.specs.Text.{decimal, field}
use Rattle.telling.proofs.Puts.{LineRoom, line_word, line_first, line_second, line_last, line_whole}
use Rattle.telling.proofs.writing.Out.line.Goals as goal

pub put_word-requires : goal.put_word-requires
put_word-requires c =
    let room : LineRoom c.args.word.now (field (decimal c.args.first)) (field (decimal c.args.second)) c.args.self.now.at c.args.self.now.bytes.now = record { room = c.requires } in
    line_word room

pub put_field-requires : goal.put_field-requires
put_field-requires c =
    let room : LineRoom c.args.word.now (field (decimal c.args.first)) (field (decimal c.args.second)) c.args.self.now.at c.args.self.now.bytes.now = record { room = c.requires } in
    line_first room c.put_word.ensures.wrote

pub put_field-requires-2 : goal.put_field-requires-2
put_field-requires-2 c =
    let room : LineRoom c.args.word.now (field (decimal c.args.first)) (field (decimal c.args.second)) c.args.self.now.at c.args.self.now.bytes.now = record { room = c.requires } in
    line_second room c.put_word.ensures.wrote c.put_field.ensures.wrote

pub put-requires : goal.put-requires
put-requires c =
    let room : LineRoom c.args.word.now (field (decimal c.args.first)) (field (decimal c.args.second)) c.args.self.now.at c.args.self.now.bytes.now = record { room = c.requires } in
    line_last room c.put_word.ensures.wrote c.put_field.ensures.wrote c.put_field-2.ensures.wrote

pub returns : goal.returns
returns c =
    let room : LineRoom c.args.word.now (field (decimal c.args.first)) (field (decimal c.args.second)) c.args.self.now.at c.args.self.now.bytes.now = record { room = c.requires } in
    record {
      wrote = line_whole room c.put_word.ensures.wrote c.put_field.ensures.wrote c.put_field-2.ensures.wrote c.put.ensures.wrote;
      same_output = c.put.ensures.same_output ∙ c.put_field-2.ensures.same_output ∙ c.put_field.ensures.same_output ∙ c.put_word.ensures.same_output;
    }
