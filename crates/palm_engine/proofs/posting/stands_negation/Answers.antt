use Rattle.std.proofs.Common.{◌≡◌, ◌∙◌, IfSome, false, sym, subst}
use Rattle.std.proofs.lemmas.Option.{slice_get_within}
use Rattle.palm_engine.specs.Posted.{is_negation}
use Rattle.palm_engine.proofs.posting.stands_negation.Goals as goal

pub returns-in-Some-clause-within : goal.returns-in-Some-clause-within
returns-in-Some-clause-within g c e = slice_get_within c.args.posted.now.items c.args.place c.in-Some.constraint.now c.in-Some.ensures.found

pub returns-in-Some-clause-other : goal.returns-in-Some-clause-other
returns-in-Some-clause-other g c e = subst (λ o. IfSome o (λ p. is_negation p ≡ false)) (sym c.in-Some.ensures.found) (sym c.is_negation.ensures ∙ e)
