use Rattle.std.proofs.Common.{subst}
use Rattle.palm_engine.specs.Advancing.{AreSupportedUnless}
use Rattle.palm_engine.specs.Posted.{active_of}
use Rattle.palm_engine.proofs.Places.{place_past}
use Rattle.palm_engine.proofs.Within.{beyond_of}
use Rattle.palm_engine.proofs.values.revise_marked.Goals as goal

pub returns-in-Clear-clause-walked : goal.returns-in-Clear-clause-walked
returns-in-Clear-clause-walked g c = λ active r.
    let owner = active_of g.F.Filter.meaning c.args.constraint.now in
    let f = c.args.filtering.now in
    let known = subst (λ m. AreSupportedUnless m f owner c.args.var) c.in-Clear.is c.requires.known in
    place_past f active owner c.args.var r (λ v has. known v has (λ may. may))

pub returns-in-Clear-clause-supported : goal.returns-in-Clear-clause-supported
returns-in-Clear-clause-supported g c =
    let owner = active_of g.F.Filter.meaning c.args.constraint.now in
    let f = c.args.filtering.now in
    let known = subst (λ m. AreSupportedUnless m f owner c.args.var) c.in-Clear.is c.requires.known in
    λ v has. known v has (λ may. may)

pub revise_within-requires-clause-known : goal.revise_within-requires-clause-known
revise_within-requires-clause-known g c =
    let owner = active_of g.F.Filter.meaning c.args.constraint.now in
    let f = c.args.filtering.now in
    beyond_of c.in-Between.low c.in-Between.high f owner c.args.var (subst (λ m. AreSupportedUnless m f owner c.args.var) c.in-Between.is c.requires.known)
