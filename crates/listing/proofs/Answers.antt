-- What the output of an input is: a line for each pair of the definition and the line behind them where the input is the text
-- of a request within the limits (`output_right`), and else one refused line (`output_refused`), with the number of the first
-- line that is faulty or missing (`output_fault`). Assumes nothing.
use mathlib.Core.Path.{◌≡◌, refl, ap}
use mathlib.Core.Logic.{◌↔◌}
use mathlib.Core.List.{List}
use Prim.Native.Nat.{ℕ, ◌≤◌}
use Rattle.reading.specs.Request.{Request, Meaning, right, faulty, meaning}
use Rattle.reading.specs.Lines.{lines, FirstFault, AllRight, Stated}
use Rattle.reading.proofs.FirstFaults.{meaning_fault, meaning_request}
use Rattle.listing.specs.Texts.{text_of, Right}
use Rattle.telling.specs.Lines.{lines_of, refused_line}
use Rattle.telling.proofs.RefusedLines.{refused_same, refused_other}
use Rattle.listing.specs.Answer.{answer, output}
use Rattle.listing.proofs.Texts.{meaning_text}
use Rattle.listing.proofs.Outputs.{meaning_right, meaning_faulty}

pub output_right : (q : Request) → Right q → output (text_of q) ≡ lines_of q.theme.way q.columns q.theme.notes
unfolding output
output_right q h = ap answer (meaning_text q h)

-- only a refused line, with the number of a line
pub record Refused (input : List ℕ) : Type 0 where
  pub line : ℕ
  pub line_some : 1 ≤ line
  pub line_few : line ≤ 2050
  pub is : output input ≡ refused_line line

pub output_refused : (input : List ℕ) → ((q : Request) → Right q → input ≡ text_of q → ⊥) → Refused input
unfolding output
output_refused input none = step (meaning input) refl
  where
    step : (m : Meaning) → meaning input ≡ m → Refused input
    step (right q) e = let t = meaning_right input e in absurd (none q t.limits t.is)
    step (faulty n) e =
        let w = meaning_faulty input e in
        record { line = n; line_some = w.0; line_few = w.1; is = ap answer e }

-- ---- by the lines of the input

module _ (input : List ℕ) where
  -- it is the refused line of n exactly where line n is the first that is faulty or missing
  pub output_fault : (n : ℕ) → (output input ≡ refused_line n) ↔ FirstFault (lines input) n
  unfolding output
  output_fault n = (λ e. (meaning_fault input n).0 (step (meaning input) e), λ f. ap answer ((meaning_fault input n).1 f))
    where
      step : (m : Meaning) → answer m ≡ refused_line n → m ≡ faulty n
      step (right q) e = absurd (refused_other q.theme.way q.columns q.theme.notes n e)
      step (faulty k) e = ap faulty (refused_same e)

  -- the lines of the search that right lines state
  pub output_stated : (q : Request) → AllRight (lines input) → Stated (lines input) q
      → output input ≡ lines_of q.theme.way q.columns q.theme.notes
  unfolding output
  output_stated q r s = ap answer ((meaning_request input q).1 (r, s))
