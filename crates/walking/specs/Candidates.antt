-- Which columns a table and sets make candidates, and the starts there: any table and any sets, and words of any width. The
-- definition that matters is `candidate`. Assumes nothing.
use Rattle.std.specs.Prelude.{Bool, List, ℕ, ◌+◌, ◌-◌, eqb, length, get_or}
use Rattle.theory.specs.Bits.{bit}
use Rattle.theory.specs.Pages.{hits}
use Rattle.theory.specs.Register.{register}
use Rattle.ways.specs.declared.way.Way.{Way}
use Rattle.walking.specs.Starts.{Place, starts}

-- column j is a candidate of a theme of m notes: bit m - 2 of the register of w bits is zero after entry j + m - 2
unfoldable pub candidate : (w : ℕ) (table sets : List ℕ) (m j : ℕ) → Bool
candidate w table sets m j = eqb (bit (register w (λ k. get_or table (get_or sets k 0) 0) (j + m - 2)) (m - 2)) 0

-- the starts at the columns that a table and sets make candidates
unfoldable pub quick_starts : (w : ℕ) → Way → (score : List (List ℕ)) (theme table sets : List ℕ) → List Place
quick_starts w way score theme table sets = hits (λ s. candidate w table sets (length theme) s.column) (starts way score theme)
