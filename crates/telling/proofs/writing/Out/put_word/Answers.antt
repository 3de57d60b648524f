-- `telling::writing::Out::put_word` meets its contract: the word is copied into its place.
use mathlib.Core.Path.{refl}
use native.Mathlib.Omega.{arith}
use Rattle.telling.proofs.Puts.{wrote_word}
use Rattle.telling.proofs.writing.Out.put_word.Goals as goal

pub returns : goal.returns
returns c =
    record {
      wrote = wrote_word c.args.word.now c.args.self.now.at c.args.self.now.bytes.now c.requires (omega arith) c.copy_from_slice.ensures.after;
      same_output = refl;
    }
