use Rattle.std.proofs.Common.{◌≤◌, arith, length, subst, sym}
use Rattle.palm_agenda.specs.Flags.{FlagRow}
use Rattle.palm_agenda.proofs.Flagged.{counted_insert, few_raised}
use Rattle.palm_agenda.proofs.flags.Flags.insert.Goals as goal

pub overflow_add-self : goal.overflow_add-self
overflow_add-self c =
    let few = few_raised c.self.inside.flags.items in
    let many = c.self.invariant.many in
    omega arith

pub invariant_of-self : goal.invariant_of-self
invariant_of-self c =
    counted_insert c.self.inside.flags.items c.put_flag.new.flags.items c.self.inside.raised c.self.inside.lowest c.min-self-inside.result c.args.place c.self.invariant
    (subst (λ (f : FlagRow). c.args.place ≤ length f.flags) (sym c.self.view_is) c.requires.within) c.put_flag.ensures.items (omega arith) (omega arith)
