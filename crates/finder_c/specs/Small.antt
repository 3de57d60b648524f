-- What makes an answer's numbers fit 64 bits: a refused place is below 65,536, and the pairs of a page are a number of 32 bits.
-- Asked by inner functions only; that every answer of the finder is so is a law of this crate. Assumes nothing.
use Rattle.std.specs.Prelude.{◌^◌, ◌<◌, Result, Ok, Err, ℕ}
use Rattle.score.specs.declared.refusals.Refusal.{Refusal}
use Rattle.paging.specs.declared.page.Turn.{Turn}
use Rattle.explaining.specs.declared.answer.Explanation.{Explanation}

pub record SmallPlace (r : Refusal) : Type 0 where
  pub place : r.place < 65536

pub record SmallTurn (t : Turn) : Type 0 where
  pub written : t.written < 2 ^ 32

abbrev pub SmallSingle : Result ℕ Refusal → Type 0
SmallSingle (Ok n) = Unit {0}
SmallSingle (Err r) = SmallPlace r

abbrev pub SmallPage : Result Turn Refusal → Type 0
SmallPage (Ok t) = SmallTurn t
SmallPage (Err r) = SmallPlace r

abbrev pub SmallExplanation : Result Explanation Refusal → Type 0
SmallExplanation (Ok e) = Unit {0}
SmallExplanation (Err r) = SmallPlace r
