use Rattle.std.proofs.Common.{◌∙◌, ◌++◌, ◌∷◌, [], List, ℤ, ap}
use Rattle.palm_listed.proofs.Keeping.{keeps_variable}
use Rattle.palm_listed.proofs.listed.Listed.declare.Goals as goal

pub returns-clause-listed : goal.returns-clause-listed
returns-clause-listed c =
    keeps_variable c.args.self.now.book c.args.self.now.store c.args.self.now.kinds.items c.args.name c.args.values
    c.requires.listed c.add_variable-2.new.self c.variables.ensures.valid c.in_ok-add_variable-2.ensures.ok c.add_variable.new.self
    (c.in_ok-add_variable.ensures.ok ∙ ap (λ (vs : List ℤ). c.args.self.now.store ++ record { initial = vs; present = vs } ∷ []) c.as_slice.ensures)
