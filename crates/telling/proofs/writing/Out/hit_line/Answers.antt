-- `telling::writing::Out::hit_line` meets its contract: there is room for each part behind the parts before it.
use mathlib.Core.Path.{◌∙◌}
use Rattle.telling.specs.Text.{hit_word, decimal, signed, field}
use Rattle.telling.specs.Lines.{hit_line}
use Rattle.telling.proofs.Puts.{LineRoom, line_word, line_first, line_second, line_last, line_whole}
use Rattle.telling.proofs.Sizes.{read}
use Rattle.telling.proofs.Hitting.{read_room, read_wrote}
use Rattle.telling.proofs.writing.Out.hit_line.Goals as goal

pub put_word-requires : goal.put_word-requires
unfolding hit_line
put_word-requires c =
    let room : LineRoom hit_word (field (decimal c.args.column.0)) (field (signed (read c.args.shift))) c.args.self.now.at c.args.self.now.bytes.now = record { room = read_room c.args.column.0 c.args.shift c.ranges.shift c.args.self.now.at c.args.self.now.bytes.now c.requires } in
    line_word room

pub put_field-requires : goal.put_field-requires
unfolding hit_line
put_field-requires c =
    let room : LineRoom hit_word (field (decimal c.args.column.0)) (field (signed (read c.args.shift))) c.args.self.now.at c.args.self.now.bytes.now = record { room = read_room c.args.column.0 c.args.shift c.ranges.shift c.args.self.now.at c.args.self.now.bytes.now c.requires } in
    line_first room c.put_word.ensures.wrote

pub put_shift-requires : goal.put_shift-requires
unfolding hit_line
put_shift-requires c =
    let room : LineRoom hit_word (field (decimal c.args.column.0)) (field (signed (read c.args.shift))) c.args.self.now.at c.args.self.now.bytes.now = record { room = read_room c.args.column.0 c.args.shift c.ranges.shift c.args.self.now.at c.args.self.now.bytes.now c.requires } in
    line_second room c.put_word.ensures.wrote c.put_field.ensures.wrote

pub put-requires : goal.put-requires
unfolding hit_line
put-requires c =
    let room : LineRoom hit_word (field (decimal c.args.column.0)) (field (signed (read c.args.shift))) c.args.self.now.at c.args.self.now.bytes.now = record { room = read_room c.args.column.0 c.args.shift c.ranges.shift c.args.self.now.at c.args.self.now.bytes.now c.requires } in
    line_last room c.put_word.ensures.wrote c.put_field.ensures.wrote c.put_shift.ensures.wrote

pub returns : goal.returns
unfolding hit_line
returns c =
    let room : LineRoom hit_word (field (decimal c.args.column.0)) (field (signed (read c.args.shift))) c.args.self.now.at c.args.self.now.bytes.now = record { room = read_room c.args.column.0 c.args.shift c.ranges.shift c.args.self.now.at c.args.self.now.bytes.now c.requires } in
    record {
      wrote = read_wrote c.args.column.0 c.args.shift c.ranges.shift (line_whole room c.put_word.ensures.wrote c.put_field.ensures.wrote c.put_shift.ensures.wrote c.put.ensures.wrote);
      same_output = c.put.ensures.same_output ∙ c.put_shift.ensures.same_output ∙ c.put_field.ensures.same_output ∙ c.put_word.ensures.same_output;
    }
