-- When a contract settles a call (`Settles`): any two outcomes that meet it on the same arguments have the same answer, and the
-- same last contents of everything that was lent. The contract is the one that the checker reads from the `ensures` in the
-- source: of a function f, `f.Kinds.ps` are the types of the parameters, `f.Kinds.r` is the type of the answer, and
-- `f.Reads.Post` is the contract. So a theorem over these three fails where an `ensures` leaves anything open. Assumes nothing.
use Rattle.std.specs.Prelude.{ℕ, List, ◌≡◌}
use contract.Lifetimes.{Lfts}
use denote.Triple.Clauses.{Lasts, at_exit}
use borrow.Fn.Kinds.{ParamKind, ResultKind, Out, Dens, res_t, ended_of}

module _ {n : ℕ} (ps : List (ParamKind n)) (r : ResultKind n) (contract : Out n ps r) where
  -- what a call with these arguments may come to: an answer of its type, and last contents of what was lent, a place for each
  -- parameter, that together meet the contract; κs are the times for which slices are lent
  pub record Outcome (κs : Lfts n) (args : Dens κs ps) : Type 0 where
    pub answer : (res_t r κs).Denot
    pub of_type : r.is.Ok κs answer
    pub last : Lasts (ended_of n ps r) κs args
    pub meets : contract κs args answer (at_exit (ended_of n ps r) κs args last)

  abbrev pub Settles : Type 0
  Settles = (κs : Lfts n) (args : Dens κs ps) (x y : Outcome κs args) → (x.answer ≡ y.answer) × (x.last ≡ y.last)
