use Rattle.std.proofs.Common.{◌≡◌, ◌++◌, ℕ, ℤ, List, [], ◌∷◌, Contains, sym, ap, ◌∙◌, append-nil, subst}
use Rattle.palm_base.proofs.cited.Telling.{tells_true, tells_false}
use Rattle.palm_base.specs.declared.terms.Pair.{Pair}
use Rattle.palm_domain.specs.Rows.{Ascends, initial_of}
use Rattle.palm_model.specs.Domains.{values_of}
use Rattle.palm_model.specs.Removed.{pairs_of}
use Rattle.filter_compare.specs.Comparison.{meeting_values}
use Rattle.filter_compare.proofs.Comparisons.{bound_alone, bound_missing, bound_outside}
use Rattle.filter_compare.proofs.demand.Demand.push_bound.Goals as goal

-- nothing is written
none_written : (out : List Pair) (x : ℕ) (vs : List ℤ) → vs ≡ [] → out ≡ out ++ pairs_of x vs
none_written out x vs e = sym (ap (λ ws. out ++ pairs_of x ws) e ∙ append-nil out)

pub returns-then-not-is_between : goal.returns-then-not-is_between
returns-then-not-is_between c =
    let d = c.args.self.now in
    let vs = values_of (initial_of c.args.store.now) d.var in
    none_written c.args.out.now.items d.var (meeting_values vs d)
    (bound_outside vs d c.initial_values-values.result.now c.initial_values-values.ensures.values _ _ c.requires.equal c.initial_values-values.ensures.ascend c.initial_values-values.ensures.filled
    c.index-values-0.is c.index-values-values.is (tells_false _ c.is_between.result c.is_between.ensures.between c.if-not-is_between.true))

pub returns-in_ok-push : goal.returns-in_ok-push
returns-in_ok-push c =
    let d = c.args.self.now in
    let initial = initial_of c.args.store.now in
    let up = subst (λ (p : Pair). Ascends (values_of initial p.var)) c.bound_pair.ensures c.declared.ensures.ascend in
    let there = subst (λ (p : Pair). Contains (values_of initial p.var) p.value) c.bound_pair.ensures (tells_true _ c.declared.result c.declared.ensures.tells c.if-declared.true) in
    c.in_ok-push.ensures.ok
    ∙ ap (λ p. c.args.out.now.items ++ p ∷ []) c.bound_pair-then-declared.ensures
    ∙ ap (λ ws. c.args.out.now.items ++ pairs_of d.var ws) (sym (bound_alone (values_of initial d.var) d c.requires.equal up there))

pub returns-else-declared : goal.returns-else-declared
returns-else-declared c =
    let d = c.args.self.now in
    let initial = initial_of c.args.store.now in
    let missing = subst (λ (p : Pair). Contains (values_of initial p.var) p.value → ⊥) c.bound_pair.ensures (tells_false _ c.declared.result c.declared.ensures.tells c.if-declared.false) in
    none_written c.args.out.now.items d.var (meeting_values (values_of initial d.var) d) (bound_missing (values_of initial d.var) d c.requires.equal missing)
