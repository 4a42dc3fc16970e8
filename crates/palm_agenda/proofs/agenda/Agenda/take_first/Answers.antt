use Rattle.std.proofs.Common.{◌≡◌, ◌∙◌, [], ap, arith, false, refl, subst, true}
use Rattle.std.proofs.lemmas.Option.{slice_get_within}
use Rattle.palm_agenda.specs.Agenda.{IsStanding, Waiting, connected_cids}
use Rattle.palm_agenda.specs.Flags.{FlagRow, flagged}
use Rattle.palm_agenda.proofs.cited.Connecting.{cid_of, named_stands}
use Rattle.palm_agenda.proofs.cited.Keeping.{first_taken, given_none, none_pending, set_after}
use Rattle.palm_agenda.proofs.agenda.Agenda.take_first.Goals as goal

pub returns-in_err-place-clause-none : goal.returns-in_err-place-clause-none
returns-in_err-place-clause-none c =
    given_none _
    (subst (λ (w : Waiting). w.pending ≡ []) c.self.view_is (none_pending c.self.inside.connections c.self.inside.over.items c.self.inside.pending.flags _ c.self.invariant.0 c.in_err-place.ensures.0))
    (ap (λ (f : FlagRow). record { connected = c.self.inside.connections; pending = flagged (connected_cids c.self.inside.connections) f.flags }) c.in_err-place.ensures.1 ∙ c.self.view_is)

pub cid_at-cid-requires : goal.cid_at-cid-requires
cid_at-cid-requires c =
    let within = slice_get_within c.self.inside.pending.flags c.in_ok-place.place true c.in_ok-place.ensures.0.raised in
    let same = c.self.invariant.0.flag_each in
    omega arith

pub invariant_of-self-2 : goal.invariant_of-self-2
invariant_of-self-2 c = (
  set_after c.self.inside.connections c.self.inside.over.items c.self.inside.pending.flags c.lower_first.new.self.flags _ _ c.in_ok-place.place false c.self.invariant.0 c.in_ok-place.ensures.1 (omega arith),
  tt,
  tt,
  c.self.invariant.3,
)

pub returns-clause-some : goal.returns-clause-some
returns-clause-some c =
    rw (← c.self.view_is)
    (first_taken c.self.inside.connections c.self.inside.over.items c.self.inside.pending.flags c.lower_first.new.self.flags _ c.self.invariant.0 c.in_ok-place.place c.in_ok-place.ensures.0 c.in_ok-place.ensures.1
    c.self.inside.connections refl c.cid_at-cid.result c.cid_at-cid.ensures)

pub returns-clause-standing : goal.returns-clause-standing
returns-clause-standing c =
    subst (λ (w : Waiting). IsStanding w.connected (record { cid = c.cid_at-cid.result; at = c.in_ok-place.place })) c.self.view_is
    (named_stands cid_of c.self.inside.connections c.in_ok-place.place c.cid_at-cid.result c.cid_at-cid.ensures)
