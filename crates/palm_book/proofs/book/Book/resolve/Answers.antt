use Rattle.palm_read.specs.declared.line.NameTerm.{NameTerm}
use Rattle.palm_book.specs.Named.{IsUnknownName}
use Rattle.palm_book.proofs.cited.Any.{any_map}
use Rattle.palm_book.proofs.book.Book.resolve.Goals as goal

pub returns-in-Linear-clause-unknown : goal.returns-in-Linear-clause-unknown
returns-in-Linear-clause-unknown c =
    rw c.in-Linear.is (λ e. any_map (IsUnknownName c.args.self.now.variables) (λ (t : NameTerm). t.name) c.in-Linear.terms (c.linear.ensures.unknown e))
