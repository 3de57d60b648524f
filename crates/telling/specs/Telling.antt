-- What the calls promise, of all that is lent: a text from the front of the buffer, and what they answer. The definitions that
-- matter are `search_told`, the whole text of a search, and `told`. Assumes nothing.
use Rattle.std.specs.Prelude.{◌≡◌, cond, List, ℕ, ltb, length, Result, Ok, Err}
use Rattle.theory.specs.Lists.{over}
use Rattle.score.specs.Score.{score_of}
use Rattle.score.specs.Refusals.{judge}
use Rattle.ways.specs.declared.way.AnyWay.{AnyWay}
use Rattle.asking.specs.Limits.{most_notes}
use Rattle.asking.specs.Refusals.{request_rows}
use Rattle.telling.specs.declared.calls.TellError.{TellError}
use Rattle.telling.specs.declared.calls.TellError.TheVariants.{Refused, Short}
use Rattle.telling.specs.Limits.{room}
use Rattle.telling.specs.Lines.{lines_of}

-- what a call answers, and the lent buffer after it
pub record Tale : Type 0 where
  pub answer : Result ℕ TellError
  pub out : List ℕ

-- a text from the front of the buffer; what stands behind it is kept. A buffer that is too short for some text is not written
unfoldable pub told : (text out : List ℕ) → Tale
told text out = cond (ltb (length out) room) (record { answer = Err Short; out = out }) (record { answer = Ok (length text); out = over out text })

-- a search: refused, by 1 to 5 in this order, and not written; or the text of all its lines
unfoldable pub search_told : (cells : List ℕ) (h : ℕ) (theme : List ℕ) → AnyWay → (out : List ℕ) → Tale
search_told cells h theme way out =
    judge (request_rows most_notes cells h theme) (λ r. record { answer = Err (Refused r); out = out }) (told (lines_of way (score_of cells h) theme) out)

-- what a call promises: this answer, and this buffer
pub record Tells (tale : Tale) (answer : Result ℕ TellError) (out' : List ℕ) : Type 0 where
  pub answers : answer ≡ tale.answer
  pub writes : out' ≡ tale.out
