use Rattle.std.proofs.Common.{arith, subst, sym, true}
use Rattle.palm_agenda.specs.Agenda.{IsStanding, Waiting}
use Rattle.palm_agenda.proofs.cited.Connecting.{standing_connected, standing_parted}
use Rattle.palm_agenda.proofs.cited.Keeping.{place_within, raised_at, set_after}
use Rattle.palm_agenda.proofs.agenda.Agenda.wake_taken.Goals as goal

pub raise-requires : goal.raise-requires
raise-requires c =
    let stands = subst (λ (w : Waiting). IsStanding w.connected c.args.taken.now) (sym c.self.view_is) c.requires in
    let within = place_within c.self.inside.connections c.self.invariant.0.formed.rising c.args.taken.now.cid c.args.taken.now.at
    (standing_parted c.self.inside.connections c.self.invariant.0.formed.rising c.args.taken.now stands)
    (standing_connected c.self.inside.connections c.args.taken.now stands) in
    let same = c.self.invariant.0.flag_each in
    omega arith

pub invariant_of-self : goal.invariant_of-self
invariant_of-self c = (
  set_after c.self.inside.connections c.self.inside.over.items c.self.inside.pending.flags c.raise.new.self.flags _ _ c.args.taken.now.at true c.self.invariant.0 c.raise.ensures (omega arith),
  tt,
  tt,
  c.self.invariant.3,
)

pub returns-clause-pending : goal.returns-clause-pending
returns-clause-pending c =
    let stands = subst (λ (w : Waiting). IsStanding w.connected c.args.taken.now) (sym c.self.view_is) c.requires in
    rw (← c.self.view_is)
    (raised_at c.self.inside.connections c.self.invariant.0.formed.rising c.args.taken.now.cid c.args.taken.now.at
    (standing_parted c.self.inside.connections c.self.invariant.0.formed.rising c.args.taken.now stands)
    c.self.inside.pending.flags c.raise.new.self.flags c.self.invariant.0.flag_each (standing_connected c.self.inside.connections c.args.taken.now stands) c.raise.ensures)

pub returns-clause-formed : goal.returns-clause-formed
returns-clause-formed c = (invariant_of-self c).0.formed
