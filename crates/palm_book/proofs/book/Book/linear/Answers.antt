use Rattle.std.proofs.Common.{rules, ◌∙◌, w64}
use mir.Val.{SFits}
use Rattle.std.proofs.lemmas.Int.{to_z-of_z}
use Rattle.palm_book.proofs.cited.Resolving.{resolves_linear}
use Rattle.palm_book.proofs.book.Book.linear.Goals as goal

pub returns-clause-says : goal.returns-clause-says
returns-clause-says c =
    let fits : SFits w64 c.args.bound.now = search rules in
    rw (to_z-of_z w64 c.args.bound.now fits)
    (resolves_linear _ _ _ _ _ c.in_ok-terms_of.ensures.declared (c.in_ok-terms_of.ensures.named ∙ c.as_slice.ensures))
