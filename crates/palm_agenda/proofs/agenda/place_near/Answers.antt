use Rattle.std.proofs.Common.{◌+◌, ◌%◌, subst}
use Rattle.std.specs.Prelude.{IfSome}
use Rattle.palm_base.proofs.cited.RisingLists.{parted_there}
use Rattle.palm_agenda.specs.Agenda.{IsRun}
use Rattle.palm_agenda.proofs.Runs.{run_parted}
use Rattle.palm_agenda.proofs.agenda.place_near.Goals as goal

pub returns-in-Some : goal.returns-in-Some
returns-in-Some c =
    run_parted c.args.connections.now c.requires.rising c.in-Some.run' c.in-User.number
    (subst (λ o. IfSome o (IsRun c.args.connections.now)) c.in-Some.is c.requires.run) c.args.cid.now c.in-User.is c.requires.there

pub returns-then-stands_at : goal.returns-then-stands_at
returns-then-stands_at c =
    parted_there (λ d. d.cid) c.args.connections.now c.requires.rising c.args.cid.now ((c.args.lag.now + c.in-User.number) % 18446744073709551616) c.if-stands_at.ensures
