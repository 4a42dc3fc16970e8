use Rattle.std.proofs.Common.{◌∙◌, ap}
use Rattle.palm_agenda.specs.Flags.{FlagRow}
use Rattle.palm_agenda.proofs.Flagged.{counted_cut, cut_is, one_less}
use Rattle.palm_agenda.proofs.flags.Flags.remove.Goals as goal

pub invariant_of-self : goal.invariant_of-self
invariant_of-self c =
    counted_cut c.args.self.now.flags c.self.inside.flags.items c.remove.new.self.items c.self.inside.raised c.self.inside.lowest c.saturating_sub-self-inside.result c.args.place c.self.invariant c.requires
    (ap (λ (f : FlagRow). f.flags) c.self.view_is ∙ c.lower.ensures) c.remove.ensures.items (one_less c.self.inside.lowest c.saturating_sub-self-inside.result c.saturating_sub-self-inside.ensures)

pub returns : goal.returns
returns c =
    cut_is c.args.self.now.flags c.self.inside.flags.items c.remove.new.self.items c.self.inside.raised c.self.inside.lowest c.saturating_sub-self-inside.result c.args.place c.self.invariant c.requires
    (ap (λ (f : FlagRow). f.flags) c.self.view_is ∙ c.lower.ensures) c.remove.ensures.items
