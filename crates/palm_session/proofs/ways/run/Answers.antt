use Rattle.std.proofs.Common.{refl}
use Rattle.std.proofs.lemmas.Result.{err_from_is_err_and}
use Rattle.palm_session.specs.Ways.{CanRun}
use Rattle.palm_session.specs.declared.request.Procedure.TheVariants.{Repair, Least}
use Rattle.palm_session.proofs.Running.{proof_runs, repair_runs, writes_front}
use Rattle.palm_session.proofs.Searching.{book_users}
use Rattle.palm_session.proofs.ways.run.Goals as goal

pub solve_by-requires : goal.solve_by-requires
solve_by-requires g c = record { begins = record { fresh = c.requires.fresh; users = book_users c.args.book.now c.args.machine.now.engine.now.state c.requires.listed.active } }

pub repair_by-requires-clause-begins : goal.repair_by-requires-clause-begins
repair_by-requires-clause-begins g c = record { fresh = c.requires.fresh; users = book_users c.args.book.now c.args.machine.now.engine.now.state c.requires.listed.active }

pub repair_by-requires-clause-some : goal.repair_by-requires-clause-some
repair_by-requires-clause-some g c =
    let can : CanRun c.args.machine.now.engine.now.state (Repair c.in-Repair.tabu c.in-Repair.budget) = rw c.in-Repair.is at c.requires.can in
    can

pub minimize_by-requires-clause-none : goal.minimize_by-requires-clause-none
minimize_by-requires-clause-none g c =
    let can : CanRun c.args.machine.now.engine.now.state (Least c.in-Least.target c.in-Least.budget) = rw c.in-Least.is at c.requires.can in
    can.0

pub minimize_by-requires-clause-target : goal.minimize_by-requires-clause-target
minimize_by-requires-clause-target g c =
    let can : CanRun c.args.machine.now.engine.now.state (Least c.in-Least.target c.in-Least.budget) = rw c.in-Least.is at c.requires.can in
    can.1

pub minimize_by-requires-clause-values : goal.minimize_by-requires-clause-values
minimize_by-requires-clause-values g c =
    let can : CanRun c.args.machine.now.engine.now.state (Least c.in-Least.target c.in-Least.budget) = rw c.in-Least.is at c.requires.can in
    can.2

pub returns-in_ok-repair_by-in-Repair-clause-ok : goal.returns-in_ok-repair_by-in-Repair-clause-ok
returns-in_ok-repair_by-in-Repair-clause-ok g c = rw c.in-Repair.is (repair_runs _ _ _ _ _ _ _ _ _ _ _ _ c.in-Repair.tabu c.in-Repair.budget _ refl c.in_ok-repair_by-in-Repair.ensures.ok)

pub returns-in_ok-prove_by-in-Proof-clause-ok : goal.returns-in_ok-prove_by-in-Proof-clause-ok
returns-in_ok-prove_by-in-Proof-clause-ok g c = rw c.in-Proof.is (proof_runs _ _ _ _ _ _ _ _ _ _ _ _ c.in-Proof.budget _ c.in_ok-prove_by-in-Proof.ensures.ok)

pub returns-in_err-prove_by-in-Proof-clause-front : goal.returns-in_err-prove_by-in-Proof-clause-front
returns-in_err-prove_by-in-Proof-clause-front g c =
    let p = err_from_is_err_and c.from_residual-in_err-prove_by-in-Proof.result c.from_residual-in_err-prove_by-in-Proof.ensures.1 in
    rw (c.in-Proof.is, p.1, p.2)
    (writes_front c.in_err-prove_by-in-Proof.field-0.0 _ _ _ _ _ _ _ _ c.store-store.ensures.valid (book_users c.args.book.now c.args.machine.now.engine.now.state c.requires.listed.active) c.in_err-prove_by-in-Proof.ensures.front)
