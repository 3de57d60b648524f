-- The requirement's example: the output of its input, byte by byte, by computation. Assumes nothing.
use mathlib.Core.Path.{◌≡◌, refl}
use mathlib.Core.List.{List, [], ◌∷◌, ◌++◌}
use Prim.Native.Nat.{ℕ}
use Rattle.theory.specs.Bits.{bit, number as number_of}
use Rattle.theory.specs.Register.{step, register}
use Rattle.score.specs.Sets.{apart, interval_set}
use Rattle.ways.specs.declared.way.Way.TheVariants.{Exact}
use Rattle.ways.specs.declared.way.AnyWay.TheVariants.{Moved}
use Rattle.ways.specs.Way.{holds}
use Rattle.walking.specs.Starts.{hit, looks}
use Rattle.filter.specs.Table.{word, theme_table}
use Rattle.walking.specs.Candidates.{candidate}
use Rattle.walking.specs.Candidates.{quick_starts}
use Rattle.telling.specs.Text.{digits}
use Rattle.words.specs.Words.{more_digits, number, cell}
use Rattle.reading.specs.Reading.{fields, chord_line, theme_line}
use Rattle.reading.specs.Request.{Request, chords, meaning}
use Rattle.listing.specs.Texts.{fields_text, text_of}
use Rattle.telling.specs.Lines.{hit_line, end_line, refused_line, lines_of}
use Rattle.listing.specs.Answer.{output}

-- score K and the theme 67 62
abbrev pub example : Request
example =
    record {
      theme = record { way = Moved Exact; notes = 67 ∷ 62 ∷ [] };
      columns = (60 ∷ 67 ∷ []) ∷ (62 ∷ 69 ∷ []) ∷ (64 ∷ 255 ∷ []) ∷ (65 ∷ 72 ∷ []) ∷ (255 ∷ 67 ∷ []) ∷ [];
    }

-- hit 1 0, hit 2 2, hit 4 5, end 3 6
abbrev pub said : List ℕ
said =
    (104 ∷ 105 ∷ 116 ∷ 9 ∷ 49 ∷ 9 ∷ 48 ∷ 10 ∷ [])
    ++ ((104 ∷ 105 ∷ 116 ∷ 9 ∷ 50 ∷ 9 ∷ 50 ∷ 10 ∷ [])
    ++ ((104 ∷ 105 ∷ 116 ∷ 9 ∷ 52 ∷ 9 ∷ 53 ∷ 10 ∷ [])
    ++ (101 ∷ 110 ∷ 100 ∷ 9 ∷ 51 ∷ 9 ∷ 54 ∷ 10 ∷ [])))

pub example_said : output (text_of example) ≡ said
unfolding output meaning text_of fields_text chords chord_line theme_line fields cell number more_digits digits hit_line end_line refused_line lines_of quick_starts candidate theme_table word register step bit number_of hit looks holds interval_set apart
example_said = refl
