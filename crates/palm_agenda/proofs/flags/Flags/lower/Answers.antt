use Rattle.std.proofs.Common.{◌∙◌, ◌<◌, length, subst, sym}
use Rattle.palm_agenda.specs.Flags.{FlagRow}
use Rattle.palm_agenda.proofs.Flagged.{counted_lower, some_raised}
use Rattle.palm_agenda.proofs.flags.Flags.lower.Goals as goal

pub overflow_sub-self : goal.overflow_sub-self
overflow_sub-self c =
    some_raised c.self.inside.flags.items c.self.inside.raised c.self.inside.lowest c.args.place c.index.result.now c.self.invariant
    (subst (λ (f : FlagRow). c.args.place < length f.flags) (sym c.self.view_is) c.requires) (sym c.index.ensures ∙ c.if-index.true)

pub invariant_of-self : goal.invariant_of-self
invariant_of-self c =
    counted_lower c.self.inside.flags.items c.set_flag.new.flags.items c.self.inside.raised c.self.inside.lowest c.self.inside.lowest c.args.place c.index.result.now c.self.invariant
    (subst (λ (f : FlagRow). c.args.place < length f.flags) (sym c.self.view_is) c.requires) (sym c.index.ensures ∙ c.if-index.true) c.set_flag.ensures.items c.self.invariant.below
