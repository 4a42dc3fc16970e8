use Rattle.std.proofs.Common.{◌≡◌, ◌∙◌, All, ap, arith, false, slice_set, subst}
use Rattle.palm_agenda.specs.Flags.{FlagRow}
use Rattle.palm_agenda.specs.declared.mark.Mark.TheVariants.{Clear}
use Rattle.palm_agenda.proofs.Clearing.{first_cleared}
use Rattle.palm_agenda.proofs.cited.Keeping.{set_after}
use Rattle.palm_agenda.proofs.agenda.Agenda.take_first_clear.Goals as goal

pub invariant_of-self : goal.invariant_of-self
invariant_of-self c = (
  set_after c.self.inside.connections c.self.inside.over.items c.self.inside.pending.flags c.lower.new.self.flags _ _ c.in-Some.place false c.self.invariant.0
      (c.lower.ensures ∙ ap (λ (f : FlagRow). slice_set f.flags c.in-Some.place false) c.first.ensures.stays) (omega arith),
  tt,
  tt,
  c.self.invariant.3,
)

pub returns-in-Some-clause-taken : goal.returns-in-Some-clause-taken
returns-in-Some-clause-taken c _ =
    rw (← c.self.view_is)
    (first_cleared c.self.inside.connections c.self.inside.over.items c.self.inside.pending.flags c.lower.new.self.flags _ c.self.invariant.0 c.in-Some.place c.in-Some.ensures.first
    (c.lower.ensures ∙ ap (λ (f : FlagRow). slice_set f.flags c.in-Some.place false) c.first.ensures.stays)
    c.at.result.now c.at.ensures (subst (All (λ mark. mark ≡ Clear)) c.marks.ensures.marks c.if-are_clear.ensures))
