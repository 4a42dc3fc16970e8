use Rattle.std.proofs.Common.{List, Contains, ◌⊎◌, inl, sym, subst}
use Rattle.palm_base.specs.declared.terms.Cid.{Cid}
use Rattle.palm_explain.specs.CidSets.{Adds, AddsSome, CidMembers, IsMember}
use Rattle.palm_explain.specs.Merging.{IsMerged}
use Rattle.palm_explain.proofs.CidSets.{added_all, some_all, kept_both, kept_decisions, kept_users, small_all}
use Rattle.palm_explain.proofs.Stores.{on_err, on_ok}
use Rattle.palm_explain.proofs.cid_set.CidSet.add_all.Goals as goal
use Rattle.palm_explain.proofs.cid_set.CidSet.add_all.Goals.{After-add_all-2}

pub invariant_of-self : goal.invariant_of-self
invariant_of-self c =
    let kept = c.self.invariant in
    kept_decisions c.self.inside.decisions c.self.inside.users c.add_all.new.self c.self.inside.negations.items kept
    (small_all c.self.inside.decisions c.other.inside.decisions c.add_all.new.self kept.variables c.other.invariant.variables c.in_err-add_all.ensures.only)

pub invariant_of-self-in_err-put_each : goal.invariant_of-self-in_err-put_each
invariant_of-self-in_err-put_each c =
    kept_both
    (record { decisions = c.self.inside.decisions; negations = c.self.inside.negations.items; users = c.self.inside.users })
    (record { decisions = c.other.inside.decisions; negations = c.other.inside.negations.items; users = c.other.inside.users })
    c.add_all.new.self c.put_each.new.cids.items c.self.invariant c.other.invariant c.in_ok-add_all.ensures.only c.in_err-put_each.ensures.rises
    (subst (λ (l : List Cid). (d : Cid) → Contains c.put_each.new.cids.items d → Contains c.self.inside.negations.items d ⊎ Contains l d) c.deref.ensures.value c.in_err-put_each.ensures.only)

pub invariant_of-self-2 : goal.invariant_of-self-2
invariant_of-self-2 c =
    kept_users c.add_all.new.self c.self.inside.users c.add_all-2.new.self c.put_each.new.cids.items
    (kept_both
    (record { decisions = c.self.inside.decisions; negations = c.self.inside.negations.items; users = c.self.inside.users })
    (record { decisions = c.other.inside.decisions; negations = c.other.inside.negations.items; users = c.other.inside.users })
    c.add_all.new.self c.put_each.new.cids.items c.self.invariant c.other.invariant c.in_ok-add_all.ensures.only c.in_ok-put_each.ensures.rises
    (subst (λ (l : List Cid). (d : Cid) → Contains c.put_each.new.cids.items d → Contains c.self.inside.negations.items d ⊎ Contains l d) c.deref.ensures.value c.in_ok-put_each.ensures.only))
    (small_all c.self.inside.users c.other.inside.users c.add_all-2.new.self c.self.invariant.numbers c.other.invariant.numbers c.add_all-2.ensures.only)

pub returns-in_err-add_all-clause-err : goal.returns-in_err-add_all-clause-err
returns-in_err-add_all-clause-err c =
    let ids : CidMembers = record { decisions = c.self.inside.decisions; negations = c.self.inside.negations.items; users = c.self.inside.users } in
    let other : CidMembers = record { decisions = c.other.inside.decisions; negations = c.other.inside.negations.items; users = c.other.inside.users } in
    let more : CidMembers = record ids { decisions = c.add_all.new.self } in
    on_err c.from_residual.result _
    (subst (λ (v : CidMembers). AddsSome v (IsMember c.args.other.now) more) c.self.view_is
    (subst (λ (v : CidMembers). AddsSome ids (IsMember v) more) c.other.view_is
    (some_all ids other more c.in_err-add_all.ensures.stay c.in_err-add_all.ensures.only (λ d m. m) (λ d m. inl m) (λ n h. h) (λ n h. inl h))))

pub returns-in_err-put_each-clause-err : goal.returns-in_err-put_each-clause-err
returns-in_err-put_each-clause-err c =
    let ids : CidMembers = record { decisions = c.self.inside.decisions; negations = c.self.inside.negations.items; users = c.self.inside.users } in
    let other : CidMembers = record { decisions = c.other.inside.decisions; negations = c.other.inside.negations.items; users = c.other.inside.users } in
    let more : CidMembers = record ids { decisions = c.add_all.new.self; negations = c.put_each.new.cids.items } in
    on_err c.from_residual-in_err-put_each.result _
    (subst (λ (v : CidMembers). AddsSome v (IsMember c.args.other.now) more) c.self.view_is
    (subst (λ (v : CidMembers). AddsSome ids (IsMember v) more) c.other.view_is
    (some_all ids other more c.in_ok-add_all.ensures.stay c.in_ok-add_all.ensures.only c.in_err-put_each.ensures.stay
    (subst (λ (l : List Cid). (d : Cid) → Contains c.put_each.new.cids.items d → Contains c.self.inside.negations.items d ⊎ Contains l d) c.deref.ensures.value c.in_err-put_each.ensures.only)
    (λ n h. h) (λ n h. inl h))))

some_added : (c : After-add_all-2) → AddsSome c.args.self.now (IsMember c.args.other.now) (record { decisions = c.add_all.new.self; negations = c.put_each.new.cids.items; users = c.add_all-2.new.self })
some_added c =
    let ids : CidMembers = record { decisions = c.self.inside.decisions; negations = c.self.inside.negations.items; users = c.self.inside.users } in
    let other : CidMembers = record { decisions = c.other.inside.decisions; negations = c.other.inside.negations.items; users = c.other.inside.users } in
    let more : CidMembers = record { decisions = c.add_all.new.self; negations = c.put_each.new.cids.items; users = c.add_all-2.new.self } in
    subst (λ (v : CidMembers). AddsSome v (IsMember c.args.other.now) more) c.self.view_is
    (subst (λ (v : CidMembers). AddsSome ids (IsMember v) more) c.other.view_is
    (some_all ids other more c.in_ok-add_all.ensures.stay c.in_ok-add_all.ensures.only c.in_ok-put_each.ensures.stay
    (subst (λ (l : List Cid). (d : Cid) → Contains c.put_each.new.cids.items d → Contains c.self.inside.negations.items d ⊎ Contains l d) c.deref.ensures.value c.in_ok-put_each.ensures.only)
    c.add_all-2.ensures.stay c.add_all-2.ensures.only))

pub returns-clause-ok : goal.returns-clause-ok
returns-clause-ok c =
    let ids : CidMembers = record { decisions = c.self.inside.decisions; negations = c.self.inside.negations.items; users = c.self.inside.users } in
    let other : CidMembers = record { decisions = c.other.inside.decisions; negations = c.other.inside.negations.items; users = c.other.inside.users } in
    let more : CidMembers = record { decisions = c.add_all.new.self; negations = c.put_each.new.cids.items; users = c.add_all-2.new.self } in
    on_ok c.add_all-2.result _ _
    (λ there. subst (λ (v : CidMembers). Adds v (IsMember c.args.other.now) more) c.self.view_is
    (subst (λ (v : CidMembers). Adds ids (IsMember v) more) c.other.view_is
    (added_all ids other more c.in_ok-add_all.ensures.there
    (subst (λ (l : List Cid). IsMerged c.self.inside.negations.items l c.put_each.new.cids.items) c.deref.ensures.value c.in_ok-put_each.ensures.ok) there
    (subst (λ (v : CidMembers). AddsSome v (IsMember other) more) (sym c.self.view_is) (subst (λ (v : CidMembers). AddsSome c.args.self.now (IsMember v) more) (sym c.other.view_is) (some_added c))))))
    c.add_all-2.ensures.there

pub returns-clause-err : goal.returns-clause-err
returns-clause-err c = on_err c.add_all-2.result _ (some_added c)
