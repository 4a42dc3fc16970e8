use Rattle.std.proofs.Common.{List, sym, subst}
use Rattle.std.specs.Prelude.{MatchResult}
use Rattle.palm_base.specs.Order.{BelongsAt, StandsAt}
use Rattle.palm_base.specs.Tells.{Tells}
use Rattle.palm_base.specs.declared.terms.Cid.{Cid}
use Rattle.palm_base.specs.declared.terms.Cid.TheVariants.{Not}
use Rattle.palm_explain.specs.CidSets.{CidMembers, IsMember}
use Rattle.palm_explain.proofs.CidSets.{tells_listed}
use Rattle.palm_explain.proofs.cid_set.CidSet.has.Goals as goal

pub returns-in-Not : goal.returns-in-Not
returns-in-Not c =
    let ids : CidMembers = record { decisions = c.self.inside.decisions; negations = c.self.inside.negations.items; users = c.self.inside.users } in
    subst (λ (v : CidMembers). Tells c.is_ok.result (IsMember v c.args.cid.now)) c.self.view_is
    (subst (λ (cid : Cid). Tells c.is_ok.result (IsMember ids cid)) (sym c.in-Not.is)
    (tells_listed c.self.inside.negations.items (Not c.in-Not.field-0) c.place_for.result
    (subst (λ (l : List Cid). MatchResult c.place_for.result (λ place. StandsAt (λ d. d) l place (Not c.in-Not.field-0)) (λ place. BelongsAt (λ d. d) l place (Not c.in-Not.field-0))) c.deref.ensures.value
    (subst (λ (cid : Cid). MatchResult c.place_for.result (λ place. StandsAt (λ d. d) c.deref.result.now place cid) (λ place. BelongsAt (λ d. d) c.deref.result.now place cid)) c.in-Not.is c.place_for.ensures))
    c.is_ok.result c.is_ok.ensures.value))
