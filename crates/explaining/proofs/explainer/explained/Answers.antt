-- `explaining::explainer::explained` meets its contract: what the definition says at each fit of the column.
use mir.Syntax.{w16}
use mir.Facts.{to_z-of_z}
use Rattle.std.proofs.Common.{arith}
use Rattle.explaining.proofs.Answering.{answer_zero, answer_short, answer_no_pitch, fit_there, answer_fits}
use Rattle.explaining.proofs.explainer.explained.Goals as goal

pub invariant_of-sieve : goal.invariant_of-sieve
invariant_of-sieve c =
    let a = c.args in
    let there = fit_there a.cells.now a.tracks a.theme.now a.way a.pair a.sets.now c.requires c.sought-numbers.ensures
    c.fit_by-fit.ensures c.in-Fits.is in
    record { sets_there = there.1 }

pub invariant_of-placed : goal.invariant_of-placed
invariant_of-placed c =
    let a = c.args in
    let there = fit_there a.cells.now a.tracks a.theme.now a.way a.pair a.sets.now c.requires c.sought-numbers.ensures
    c.fit_by-fit.ensures c.in-Fits.is in
    record { columns_there = there.0 }

pub returns-in-Zero : goal.returns-in-Zero
returns-in-Zero c =
    let a = c.args in
    answer_zero a.cells.now a.tracks a.theme.now a.way a.pair a.sets.now c.requires c.sought-numbers.ensures c.fit_by-fit.ensures
    c.in-Zero.is (rw (to_z-of_z {w = w16} {z = a.pair.shift} (omega arith)) at c.first_of.ensures) c.bare.ensures

pub returns-in-Short : goal.returns-in-Short
returns-in-Short c =
    let a = c.args in
    answer_short a.cells.now a.tracks a.theme.now a.way a.pair a.sets.now c.requires c.sought-numbers.ensures c.fit_by-fit.ensures
    c.in-Short.is (rw (to_z-of_z {w = w16} {z = a.pair.shift} (omega arith)) at c.first_of-in-Short.ensures)
    c.bare-in-Short.ensures

pub returns-in-NoPitch : goal.returns-in-NoPitch
returns-in-NoPitch c =
    let a = c.args in
    answer_no_pitch a.cells.now a.tracks a.theme.now a.way a.pair a.sets.now c.requires c.sought-numbers.ensures
    c.fit_by-fit.ensures c.in-NoPitch.is
    (rw (to_z-of_z {w = w16} {z = a.pair.shift} (omega arith)) at c.first_of-in-NoPitch.ensures) c.bare-in-NoPitch.ensures

pub returns-in-Fits : goal.returns-in-Fits
returns-in-Fits c =
    let a = c.args in
    answer_fits a.cells.now a.tracks a.theme.now a.way a.pair a.sets.now c.requires c.sought-numbers.ensures c.fit_by-fit.ensures
    c.in-Fits.is c.sift.ensures (rw (to_z-of_z {w = w16} {z = a.pair.shift} (omega arith)) at c.at_fit.ensures)
