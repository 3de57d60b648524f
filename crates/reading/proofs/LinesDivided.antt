-- Every input has the lines that `lines` gives (`lines_divide`), and no others (`divides_unique`). Assumes nothing.
use mathlib.Core.Path.{◌≡◌, refl, sym, ap, ◌∙◌}
use mathlib.Core.Bool.{Bool, true, false, cond}
use mathlib.Core.List.{List, [], ◌∷◌, ◌++◌}
use Prim.Native.Nat.{ℕ, suc, ◌+◌, ◌≤◌}
use native.Mathlib.Omega.{arith}
use lib.Dec.{eqb}
use lib.ListN.{length, length-append}
use borrow.Author.Tests.{eqb-true, eqb-false}
use Rattle.reading.specs.Lines.{line_feed, line_bytes, Divides, empty, unended, ended, in_front, lines}
use Rattle.reading.proofs.LinesRead.{Divided, nothing, feed, more, lines_divided}

-- one byte more, which is no line feed
bytes_more : (b : ℕ) (line : List ℕ) → eqb b line_feed ≡ false → line_bytes (b ∷ line) ≡ suc (line_bytes line)
bytes_more b line e = rw e

in_front_lem : (b : ℕ) {all : List (List ℕ)} {input : List ℕ} → eqb b line_feed ≡ false → Divides all input
    → Divides (in_front b all) (b ∷ input)
in_front_lem b e empty = unended {line = b ∷ []} (omega arith) (bytes_more b [] e)
in_front_lem b e (unended {line} s u) = unended {line = b ∷ line} (omega arith) (bytes_more b line e ∙ ap suc u)
in_front_lem b e (ended {line} {others} {behind} u d) = ended {line = b ∷ line} (omega (arith, bytes_more b line e, u)) d

pub lines_divide : (input : List ℕ) → Divides (lines input) input
lines_divide [] = empty
lines_divide (b ∷ input) = step (eqb b line_feed) refl (lines_divide input)
  where
    step : (t : Bool) → eqb b line_feed ≡ t → Divides (lines input) input
        → Divides (cond t ((b ∷ []) ∷ lines input) (in_front b (lines input))) (b ∷ input)
    step true e d = ended {line = b ∷ []} (rw e) d
    step false e d = in_front_lem b e d

-- ---- no others

ended_divided : (line behind : List ℕ) → line_bytes line + 1 ≡ length line → Divided true line behind (line ++ behind)
ended_divided [] behind e = absurd (omega arith)
ended_divided (b ∷ line) behind e = step (eqb b line_feed) refl e (ended_divided line behind)
  where
    last : (l : List ℕ) → 0 + 1 ≡ suc (length l) → b ≡ line_feed → Divided true (b ∷ l) behind ((b ∷ l) ++ behind)
    last [] e f = rw f feed
    last (c ∷ l) e f = absurd (omega arith)

    step : (t : Bool) → eqb b line_feed ≡ t → cond t 0 (suc (line_bytes line)) + 1 ≡ suc (length line)
        → (line_bytes line + 1 ≡ length line → Divided true line behind (line ++ behind))
        → Divided true (b ∷ line) behind (b ∷ (line ++ behind))
    step true p q ih = last line q (eqb-true b line_feed p)
    step false p q ih = more (eqb-false b line_feed p) (ih (omega arith))

pub unended_divided : (line : List ℕ) → line_bytes line ≡ length line → Divided false line [] line
unended_divided [] e = nothing
unended_divided (b ∷ line) e = step (eqb b line_feed) refl e (unended_divided line)
  where
    step : (t : Bool) → eqb b line_feed ≡ t → cond t 0 (suc (line_bytes line)) ≡ suc (length line)
        → (line_bytes line ≡ length line → Divided false line [] line)
        → Divided false (b ∷ line) [] (b ∷ line)
    step true p q ih = absurd (omega arith)
    step false p q ih = more (eqb-false b line_feed p) (ih (omega arith))

pub divides_unique : {all : List (List ℕ)} {input : List ℕ} → Divides all input → all ≡ lines input
divides_unique empty = refl
divides_unique (unended {line} s u) = sym (lines_divided (unended_divided line u) s)
divides_unique (ended {line} {others} {behind} u d) =
    let some : 1 ≤ length (line ++ behind) = omega (arith, u, length-append line behind) in
    sym (lines_divided (ended_divided line behind u) some ∙ ap (λ (l : List (List ℕ)). line ∷ l) (sym (divides_unique d)))
