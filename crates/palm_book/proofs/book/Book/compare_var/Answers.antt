use Rattle.std.proofs.Common.{[], ◌∷◌, rules}
use Rattle.palm_book.specs.Named.{IsUnknownName}
use Rattle.palm_book.proofs.cited.Any.{any_here, any_there}
use Rattle.palm_book.proofs.book.Book.compare_var.Goals as goal

pub returns-in_err-var_of-2-clause-unknown : goal.returns-in_err-var_of-2-clause-unknown
returns-in_err-var_of-2-clause-unknown c =
    let P = IsUnknownName c.args.self.now.variables in
    λ e. any_there P c.args.left.now (c.args.right.now ∷ []) (any_here P c.args.right.now [] (search rules))
