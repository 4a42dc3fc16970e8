use Rattle.std.proofs.Common.{◌≡◌, List, ◌∙◌, ◌∷◌, [], OnOk, ap, sym, subst, arith}
use Rattle.palm_base.specs.declared.terms.Cid.{Cid}
use Rattle.palm_base.specs.declared.terms.Cid.TheVariants.{Decide}
use Rattle.palm_explain.specs.CidSets.{Adds, AddsSome, CidMembers}
use Rattle.palm_explain.specs.Merging.{IsMerged}
use Rattle.palm_explain.proofs.CidSets.{added_decision, added_negation, added_user, kept_decisions, kept_put, kept_users, small_one, some_decision, some_none, some_user}
use Rattle.palm_explain.proofs.Stores.{on_err, on_err_of, on_ok}
use Rattle.palm_explain.proofs.cid_set.CidSet.add.Goals as goal

pub invariant_of-self : goal.invariant_of-self
invariant_of-self c =
    let kept = c.self.invariant in
    kept_decisions c.self.inside.decisions c.self.inside.users c.add.new.self c.self.inside.negations.items kept
    (small_one c.self.inside.decisions c.add.new.self c.var.inside.0 c.var.invariant kept.variables c.add.ensures.only)

pub invariant_of-self-in-Not : goal.invariant_of-self-in-Not
invariant_of-self-in-Not c =
    kept_put c.put.result c.self.inside.decisions c.self.inside.users c.self.inside.negations.items c.put.new.cids.items c.in-Not.field-0 c.self.invariant
    (subst (λ (d : Cid). OnOk c.put.result (IsMerged c.self.inside.negations.items (d ∷ []) c.put.new.cids.items)) c.in-Not.is c.put.ensures.ok) c.put.ensures.err

pub invariant_of-self-in-User : goal.invariant_of-self-in-User
invariant_of-self-in-User c =
    let kept = c.self.invariant in
    kept_users c.self.inside.decisions c.self.inside.users c.add-in-User.new.self c.self.inside.negations.items kept
    (small_one c.self.inside.users c.add-in-User.new.self c.in-User.number (omega arith) kept.numbers c.add-in-User.ensures.only)

pub returns-in-Decide-clause-ok : goal.returns-in-Decide-clause-ok
returns-in-Decide-clause-ok c =
    let ids : CidMembers = record { decisions = c.self.inside.decisions; negations = c.self.inside.negations.items; users = c.self.inside.users } in
    on_ok c.add.result _ _
    (λ there. subst (λ (v : CidMembers). Adds v (λ d. d ≡ c.args.cid.now) (record ids { decisions = c.add.new.self })) c.self.view_is
    (subst (λ (cid : Cid). Adds ids (λ d. d ≡ cid) (record ids { decisions = c.add.new.self })) (sym (c.in-Decide.is ∙ ap Decide (sym c.var.view_is)))
    (added_decision ids c.add.new.self c.var.inside.0 there (some_decision ids c.add.new.self c.var.inside.0 c.add.ensures.stay c.add.ensures.only))))
    c.add.ensures.there

pub returns-in-Decide-clause-err : goal.returns-in-Decide-clause-err
returns-in-Decide-clause-err c =
    let ids : CidMembers = record { decisions = c.self.inside.decisions; negations = c.self.inside.negations.items; users = c.self.inside.users } in
    on_err c.add.result _
    (subst (λ (v : CidMembers). AddsSome v (λ d. d ≡ c.args.cid.now) (record ids { decisions = c.add.new.self })) c.self.view_is
    (subst (λ (cid : Cid). AddsSome ids (λ d. d ≡ cid) (record ids { decisions = c.add.new.self })) (sym (c.in-Decide.is ∙ ap Decide (sym c.var.view_is)))
    (some_decision ids c.add.new.self c.var.inside.0 c.add.ensures.stay c.add.ensures.only)))

pub returns-in-Not-clause-ok : goal.returns-in-Not-clause-ok
returns-in-Not-clause-ok c =
    let ids : CidMembers = record { decisions = c.self.inside.decisions; negations = c.self.inside.negations.items; users = c.self.inside.users } in
    on_ok c.put.result _ _
    (λ merged. subst (λ (v : CidMembers). Adds v (λ d. d ≡ c.args.cid.now) (record ids { negations = c.put.new.cids.items })) c.self.view_is
    (subst (λ (cid : Cid). Adds ids (λ d. d ≡ cid) (record ids { negations = c.put.new.cids.items })) (sym c.in-Not.is)
    (added_negation ids c.put.new.cids.items c.in-Not.field-0 (subst (λ (d : Cid). IsMerged c.self.inside.negations.items (d ∷ []) c.put.new.cids.items) c.in-Not.is merged))))
    c.put.ensures.ok

pub returns-in-Not-clause-err : goal.returns-in-Not-clause-err
returns-in-Not-clause-err c =
    let ids : CidMembers = record { decisions = c.self.inside.decisions; negations = c.self.inside.negations.items; users = c.self.inside.users } in
    on_err_of c.put.result _ _
    (λ same. subst (λ (v : CidMembers). AddsSome v (λ d. d ≡ c.args.cid.now) (record ids { negations = c.put.new.cids.items })) c.self.view_is
    (subst (λ (l : List Cid). AddsSome ids (λ d. d ≡ c.args.cid.now) (record ids { negations = l })) (sym same) (some_none ids (λ d. d ≡ c.args.cid.now))))
    c.put.ensures.err

pub returns-in-User-clause-ok : goal.returns-in-User-clause-ok
returns-in-User-clause-ok c =
    let ids : CidMembers = record { decisions = c.self.inside.decisions; negations = c.self.inside.negations.items; users = c.self.inside.users } in
    on_ok c.add-in-User.result _ _
    (λ there. subst (λ (v : CidMembers). Adds v (λ d. d ≡ c.args.cid.now) (record ids { users = c.add-in-User.new.self })) c.self.view_is
    (subst (λ (cid : Cid). Adds ids (λ d. d ≡ cid) (record ids { users = c.add-in-User.new.self })) (sym c.in-User.is)
    (added_user ids c.add-in-User.new.self c.in-User.number there (some_user ids c.add-in-User.new.self c.in-User.number c.add-in-User.ensures.stay c.add-in-User.ensures.only))))
    c.add-in-User.ensures.there

pub returns-in-User-clause-err : goal.returns-in-User-clause-err
returns-in-User-clause-err c =
    let ids : CidMembers = record { decisions = c.self.inside.decisions; negations = c.self.inside.negations.items; users = c.self.inside.users } in
    on_err c.add-in-User.result _
    (subst (λ (v : CidMembers). AddsSome v (λ d. d ≡ c.args.cid.now) (record ids { users = c.add-in-User.new.self })) c.self.view_is
    (subst (λ (cid : Cid). AddsSome ids (λ d. d ≡ cid) (record ids { users = c.add-in-User.new.self })) (sym c.in-User.is)
    (some_user ids c.add-in-User.new.self c.in-User.number c.add-in-User.ensures.stay c.add-in-User.ensures.only)))
