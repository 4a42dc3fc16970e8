use Rattle.std.proofs.Common.{List, Contains, ◌∙◌, subst}
use Rattle.palm_base.specs.declared.terms.Pair.{Pair}
use Rattle.palm_engine.specs.Posted.{active_of}
use Rattle.palm_engine.proofs.Revised.{owner_in_form, owner_filled, reasons_logged}
use Rattle.palm_engine.proofs.Progress.{on_ok, takes_stated}
use Rattle.palm_engine.proofs.values.take_out_listed.Goals as goal

pub reason-requires-clause-formed : goal.reason-requires-clause-formed
reason-requires-clause-formed g c = let r = c.requires.revising in owner_in_form c.args.filtering.now r.0 (active_of g.F.Filter.meaning c.args.constraint.now) r.1

pub reason-requires-clause-filled : goal.reason-requires-clause-filled
reason-requires-clause-filled g c = let r = c.requires.revising in owner_filled c.args.filtering.now r.0 (active_of g.F.Filter.meaning c.args.constraint.now) r.1 c.requires.filled

pub remove-requires-clause-removed : goal.remove-requires-clause-removed
remove-requires-clause-removed g c = let r = c.requires.revising in let kept = r.1.kept in kept.removed

pub remove-requires-clause-earlier : goal.remove-requires-clause-earlier
remove-requires-clause-earlier g c =
    let r = c.requires.revising in
    let e = c.as_slice.ensures ∙ c.in_ok-reason.ensures.ok in
    λ p m. reasons_logged c.args.filtering.now r.0 (active_of g.F.Filter.meaning c.args.constraint.now) c.args.pair r.1 c.requires.filled c.requires.present
    c.requires.lacking p (subst (λ (l : List Pair). Contains l p) e m)

pub returns-clause-taken : goal.returns-clause-taken
returns-clause-taken g c =
    let e = c.as_slice.ensures ∙ c.in_ok-reason.ensures.ok in
    on_ok c.remove.result (λ takes. takes_stated (active_of g.F.Filter.meaning c.args.constraint.now) c.args.pair c.args.filtering.now c.remove.new.self c.cid.result c.as_slice.result.now c.cid.ensures e takes) c.remove.ensures.ok
