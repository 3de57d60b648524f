-- What `read` answers, by the lines of its input, where both buffers are long enough: the number n exactly where line n is the
-- first fault (`takes_fault`); and else the request that the lines state, with its notes and its cells in the buffers
-- (`takes_stated`). Assumes nothing.
use mathlib.Core.Path.{◌≡◌, subst}
use mathlib.Core.Logic.{◌↔◌}
use mathlib.Core.List.{List}
use Prim.Native.Nat.{ℕ, ◌≤◌}
use lib.ListN.{length}
use Rattle.std.specs.Prelude.{Result, Err}
use Rattle.asking.specs.Limits.{most_notes}
use Rattle.score.specs.Limits.{most_cells}
use Rattle.reading.specs.declared.request.Reading.{Reading}
use Rattle.reading.specs.declared.request.ReadError.{ReadError}
use Rattle.reading.specs.declared.request.ReadError.TheVariants.{Bad}
use Rattle.reading.specs.Request.{Request, Meaning, right}
use Rattle.reading.specs.Lines.{lines, FirstFault, AllRight, Stated}
use Rattle.reading.specs.Taking.{Takes}
use Rattle.reading.proofs.FirstFaults.{meaning_fault, meaning_request}
use Rattle.reading.proofs.Takings.{As, read_as, took_bad, bad_taken}

module _ {input theme cells : List ℕ} {answer : Result Reading ReadError} {theme' cells' : List ℕ}
    (t : Takes input theme cells answer theme' cells') (few : most_notes ≤ length theme) (many : most_cells ≤ length cells) where
  pub takes_fault : (n : ℕ) → (answer ≡ Err (Bad n)) ↔ FirstFault (lines input) n
  takes_fault n =
      let e = meaning_fault input n in
      (λ b. e.0 (took_bad t few many b), λ f. bad_taken t few many (e.1 f))

  pub takes_stated : (q : Request) → AllRight (lines input) → Stated (lines input) q
      → As (right q) theme cells answer theme' cells'
  takes_stated q r s =
      subst (λ (m : Meaning). As m theme cells answer theme' cells') ((meaning_request input q).1 (r, s)) (read_as t few many)
