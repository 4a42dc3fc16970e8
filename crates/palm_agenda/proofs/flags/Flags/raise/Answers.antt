use Rattle.std.proofs.Common.{◌∙◌, ◌<◌, arith, length, subst, sym}
use Rattle.palm_agenda.specs.Flags.{FlagRow}
use Rattle.palm_agenda.proofs.Flagged.{counted_raise, not_all_raised}
use Rattle.palm_agenda.proofs.flags.Flags.raise.Goals as goal

pub overflow_add-self : goal.overflow_add-self
overflow_add-self c =
    let few = not_all_raised c.self.inside.flags.items c.self.inside.raised c.self.inside.lowest c.args.place c.index.result.now c.self.invariant
    (subst (λ (f : FlagRow). c.args.place < length f.flags) (sym c.self.view_is) c.requires) (sym c.index.ensures ∙ c.if-not-index.true) in
    omega arith

pub invariant_of-self : goal.invariant_of-self
invariant_of-self c =
    counted_raise c.self.inside.flags.items c.set_flag.new.flags.items c.self.inside.raised c.self.inside.lowest c.min-self-inside.result c.args.place c.index.result.now c.self.invariant
    (subst (λ (f : FlagRow). c.args.place < length f.flags) (sym c.self.view_is) c.requires) (sym c.index.ensures ∙ c.if-not-index.true) c.set_flag.ensures.items (omega arith) (omega arith)
