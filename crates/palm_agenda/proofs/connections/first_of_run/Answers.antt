use Rattle.std.proofs.Common.{◌≡◌, ◌-◌, Some, arith, length, slice_get, subst}
use Rattle.std.proofs.lemmas.List.{length-map}
use Rattle.palm_base.specs.declared.terms.Cid.TheVariants.{User}
use Rattle.palm_agenda.specs.Agenda.{connected_cids}
use Rattle.palm_agenda.proofs.Runs.{run_numbers}
use Rattle.palm_agenda.proofs.cited.Connecting.{cid_of}
use Rattle.palm_agenda.proofs.connections.first_of_run.Goals as goal

pub returns-then-last-first : goal.returns-then-last-first
returns-then-last-first c =
    let cids = connected_cids c.args.users.now in
    let place : c.in_ok-place.place ≡ length cids - 1 = omega (arith, length-map c.args.users.now cid_of) in
    run_numbers cids c.in_ok-first.first c.in_ok-last.last c.requires c.in_ok-first.ensures
    (subst (λ k. slice_get cids k ≡ Some (User c.in_ok-last.last)) place c.in_ok-last.ensures) (omega (arith, place, c.if-last-first.true))
