use Rattle.std.proofs.Common.{◌∙◌, ℕ, ap}
use Rattle.palm_listed.proofs.Keeping.{keeps_constraint, numbered}
use Rattle.palm_listed.proofs.listed.Listed.list.Goals as goal

pub returns-clause-listed : goal.returns-clause-listed
returns-clause-listed c =
    keeps_constraint c.args.self.now.book c.args.self.now.store c.args.self.now.kinds.items c.args.name c.args.con c.in_ok-from_con.field-0
    c.requires.listed c.in_ok-from_con.ensures c.add_constraint.new.self c.variables.ensures.valid
    (c.in_ok-add_constraint.ensures.ok ∙ ap (λ (n : ℕ). numbered c.args.self.now.book n c.args.name c.args.con) c.constraints.ensures.count) c.push.new.self.items c.in_ok-push.ensures.items
