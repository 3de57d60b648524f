-- The worked cases hold: every row of the table comes out of the definitions as it stands. One theorem, by computation.
-- Assumes nothing.
use mathlib.Core.Path.{◌≡◌, refl}
use mathlib.Core.List.{map}
use Rattle.theory.specs.Bits.{bit, number}
use Rattle.theory.specs.Register.{step, register}
use Rattle.score.specs.Sets.{apart, interval_set}
use Rattle.ways.specs.Way.{holds}
use Rattle.walking.specs.Starts.{hit, looks}
use Rattle.filter.specs.Table.{word, theme_table}
use Rattle.walking.specs.Candidates.{candidate}
use Rattle.written.specs.Written.{stands_at}
use Rattle.search.specs.Page.{plain_page, quick_page}
use Rattle.search.specs.Cases.{cases, made}

pub cases_hold : map made cases ≡ cases
unfolding plain_page quick_page candidate theme_table word register step bit number hit looks stands_at holds interval_set apart
cases_hold = refl
