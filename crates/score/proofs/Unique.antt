-- Each public call's contract settles it: one theorem a call, over what the `ensures` in the source says. Each contract is an
-- equation, and no call writes what it was lent. Assumes nothing.
use mathlib.Core.Path.{refl, ap}
use Prim.Native.Nat.{ℕ}
use Rattle.theory.specs.Settled.{Settles}
use Rattle.theory.proofs.Unique.{settled_unique}
use Rattle.score.specs.declared.quantities.Class.{Class}
use Rattle.score.proofs.checks.check_score
use Rattle.score.proofs.checks.check_sets
use Rattle.score.proofs.checks.columns_in
use Rattle.score.proofs.checks.sets_in
use Rattle.score.proofs.checks.bad_length
use Rattle.score.proofs.quantities.interval_of
use Rattle.score.proofs.quantities.class_of
use Rattle.score.proofs.refusals.Rule.number
use Rattle.score.proofs.refusals.Refusal.new
use Rattle.score.proofs.refusals.Refusal.at

pub check_score_unique : Settles check_score.Kinds.ps check_score.Kinds.r check_score.Reads.Post
check_score_unique κs args x y = (settled_unique x.meets y.meets, refl)

pub check_sets_unique : Settles check_sets.Kinds.ps check_sets.Kinds.r check_sets.Reads.Post
check_sets_unique κs args x y = (settled_unique x.meets y.meets, refl)

pub columns_in_unique : Settles columns_in.Kinds.ps columns_in.Kinds.r columns_in.Reads.Post
columns_in_unique κs args x y = (settled_unique x.meets y.meets, refl)

pub sets_in_unique : Settles sets_in.Kinds.ps sets_in.Kinds.r sets_in.Reads.Post
sets_in_unique κs args x y = (settled_unique x.meets y.meets, refl)

pub bad_length_unique : Settles bad_length.Kinds.ps bad_length.Kinds.r bad_length.Reads.Post
bad_length_unique κs args x y = (settled_unique x.meets y.meets, refl)

pub rule_number_unique : Settles number.Kinds.ps number.Kinds.r number.Reads.Post
rule_number_unique κs args x y = (settled_unique x.meets y.meets, refl)

pub refusal_new_unique : Settles new.Kinds.ps new.Kinds.r new.Reads.Post
refusal_new_unique κs args x y = (settled_unique x.meets y.meets, refl)

pub refusal_at_unique : Settles at.Kinds.ps at.Kinds.r at.Reads.Post
refusal_at_unique κs args x y = (settled_unique x.meets y.meets, refl)

pub interval_of_unique : Settles interval_of.Kinds.ps interval_of.Kinds.r interval_of.Reads.Post
interval_of_unique κs args x y = (settled_unique x.meets y.meets, refl)

pub class_of_unique : Settles class_of.Kinds.ps class_of.Kinds.r class_of.Reads.Post
class_of_unique κs args x y = (ap class (settled_unique x.meets y.meets), refl)
  where
    class : ℕ → Class
    class n = record { 0 = n }
