-- Answers of one number: what a preparation, the question, an update and a route say. A refusal stays what it is. Assumes nothing.
use Rattle.std.specs.Prelude.{Bool, true, false, ℕ, Result, Ok, Err}
use Rattle.score.specs.declared.refusals.Refusal.{Refusal}
use Rattle.summing.specs.declared.summary.Summary.{Summary}

-- the summary of the sets, as they are prepared, or as they are after an update
abbrev pub of_summary : Result Summary Refusal → Result ℕ Refusal
of_summary (Ok s) = Ok s.0
of_summary (Err r) = Err r

-- 1 for yes, 0 for no
abbrev pub of_occurrence : Result Bool Refusal → Result ℕ Refusal
of_occurrence (Ok true) = Ok 1
of_occurrence (Ok false) = Ok 0
of_occurrence (Err r) = Err r

-- the changes of the route
abbrev pub of_routed : Result ℕ Refusal → Result ℕ Refusal
of_routed (Ok n) = Ok n
of_routed (Err r) = Err r
