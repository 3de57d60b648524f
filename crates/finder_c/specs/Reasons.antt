-- An explanation in numbers. `of_reason` has a number for each reason, and `of_sifted` one for what the sets make of the column;
-- the definition that matters is `explanation_numbers`, the 69 places of the answer. Assumes nothing.
use Rattle.std.specs.Prelude.{List, ◌∷◌, map, ℕ, ℤ, pos, Result, Ok, Err}
use Rattle.score.specs.declared.refusals.Refusal.{Refusal}
use Rattle.explaining.specs.declared.answer.Explanation.{Explanation}
use Rattle.explaining.specs.declared.answer.Reason.{Reason}
use Rattle.explaining.specs.declared.answer.Reason.TheVariants as reason
use Rattle.explaining.specs.declared.answer.Sifted.{Sifted}
use Rattle.explaining.specs.declared.answer.Sifted.TheVariants.{Unasked, Kept, Dismissed}
use Rattle.finder_c.specs.declared.reasons.SiftedNumbers.{SiftedNumbers}
use Rattle.finder_c.specs.Numbers.{refusal_number}

-- the reason's number, and the note's or 0
abbrev pub of_reason : Reason → ℕ × ℕ
of_reason reason.Listed = (0, 0)
of_reason reason.NoShift = (1, 0)
of_reason reason.NoColumn = (2, 0)
of_reason reason.TooFew = (3, 0)
of_reason reason.Empty = (4, 0)
of_reason (reason.Outside i) = (5, i)
of_reason (reason.Absent i) = (6, i)

-- 0 where nothing was asked of the sets, 1 kept, 2 dismissed; and the number and the size of the interval, or 0 and 0
abbrev pub of_sifted : Sifted → SiftedNumbers
of_sifted Unasked = record { part = 0; interval = 0; size = 0 }
of_sifted Kept = record { part = 1; interval = 0; size = 0 }
of_sifted (Dismissed l) = record { part = 2; interval = l.number; size = l.size.0 }

-- reason, note, second part, interval, size, and the tracks
abbrev pub told_numbers : (reason note : ℕ) → SiftedNumbers → (tracks : List ℕ) → List ℤ
told_numbers reason note s tracks = pos reason ∷ pos note ∷ pos s.part ∷ pos s.interval ∷ pos s.size ∷ map pos tracks

-- and those of an explanation
abbrev pub explained_numbers : Explanation → List ℤ
explained_numbers e = told_numbers (of_reason e.reason).0 (of_reason e.reason).1 (of_sifted e.sifted) e.tracks

-- ---- the call

abbrev pub explanation_number : Result Explanation Refusal → ℤ
explanation_number (Ok e) = pos 0
explanation_number (Err r) = refusal_number r

-- what the lent answer holds after a call: a refused one writes nothing
abbrev pub explanation_numbers : Result Explanation Refusal → (answer : List ℤ) → List ℤ
explanation_numbers (Ok e) answer = explained_numbers e
explanation_numbers (Err r) answer = answer
