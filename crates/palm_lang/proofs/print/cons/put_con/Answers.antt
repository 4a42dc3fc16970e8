use Rattle.std.proofs.Common.{◌<◌, length, All, subst}
use Rattle.palm_model.specs.declared.constraint.Con.{Con}
use Rattle.palm_model.specs.Constraint.{scope}
use Rattle.palm_lang.proofs.PrintLemmas.{terms_declared}
use Rattle.palm_lang.proofs.print.cons.put_con.Goals as goal

pub put_linear_con-requires : goal.put_linear_con-requires
put_linear_con-requires c =
    terms_declared (length c.args.book.now.variables) c.in-Linear.terms (subst (λ (con : Con). All (λ x. x < length c.args.book.now.variables) (scope con)) c.in-Linear.is c.requires)
