-- The call's promise, from what was told; and it leaves one answer and one state of the buffer (`lists_unique`). The sizes:
-- a buffer of `room` bytes suffices for every input (`output_few` of `Outputs`). Assumes nothing.
use Rattle.std.specs.Prelude.{Result, Ok, Err}
use mathlib.Core.Path.{◌≡◌, refl, sym, ap, ◌∙◌}
use mathlib.Core.Bool.{Bool, true, false, cond}
use mathlib.Core.List.{List}
use Prim.Native.Nat.{ℕ, ◌≤◌, ◌<◌}
use native.Mathlib.Omega.{arith}
use lib.Dec.{ltb}
use lib.ListN.{length}
use borrow.Author.Tests.{lt-ltb, le-ltb, ltb-false}
use Rattle.score.specs.declared.refusals.Refusal.{Refusal}
use Rattle.telling.specs.declared.calls.TellError.{TellError}
use Rattle.telling.specs.Limits.{room}
use Rattle.telling.specs.Telling.{told, Tells}
use Rattle.listing.specs.declared.output.TooShort.{TooShort}
use Rattle.listing.specs.Answer.{output}
use Rattle.listing.specs.Listing.{Lists}
use Rattle.listing.proofs.Outputs.{output_few}

module _ (input out : List ℕ) where
  pub list_short : length out < room → Lists input out (Err (record {})) out
  list_short h = record { answers = rw (lt-ltb (length out) room h); writes = rw (lt-ltb (length out) room h) }

  module _ (h : room ≤ length out) {r : Result ℕ TellError} {out' : List ℕ} (w : Tells (told (output input) out) r out') where
    -- it is always told: never refused, and never too short
    pub list_told : r ≡ Ok (length (output input))
    unfolding told
    list_told = w.answers ∙ rw (le-ltb (length out) room h)

    pub list_written : {n : ℕ} → r ≡ Ok n → Lists input out (Ok n) out'
    unfolding told
    list_written {n} e =
        let d = list_told in
        let s : n ≡ length (output input) = cc in
        record { answers = rw (le-ltb (length out) room h) (ap Ok s); writes = w.writes ∙ rw (le-ltb (length out) room h) }

  pub lists_unique : {a b : Result ℕ TooShort} {s t : List ℕ} → Lists input out a s → Lists input out b t → (a ≡ b) × (s ≡ t)
  lists_unique p q = (p.answers ∙ sym q.answers, p.writes ∙ sym q.writes)

-- what was written lies within the buffer
short_written : {n : ℕ} → ◌≡◌ {A = Result ℕ TooShort} (Err (record {})) (Ok n) → ⊥
short_written e = let z : ◌≡◌ {A = ℕ} 0 1 = cc in omega arith

written_same : {m n : ℕ} → ◌≡◌ {A = Result ℕ TooShort} (Ok m) (Ok n) → m ≡ n
written_same e = cc

pub lists_within : {input out out' : List ℕ} {answer : Result ℕ TooShort} {n : ℕ} → Lists input out answer out' → answer ≡ Ok n → n ≤ length out
lists_within {input} {out} {out'} {answer} {n} p e = step (ltb (length out) room) refl (sym p.answers ∙ e)
  where
    step : (t : Bool) → ltb (length out) room ≡ t → cond {A = Result ℕ TooShort} t (Err (record {})) (Ok (length (output input))) ≡ Ok n → n ≤ length out
    step true q k = absurd (short_written k)
    step false q k = let s : length (output input) ≡ n = written_same k in omega (arith, output_few input, ltb-false (length out) room q)
