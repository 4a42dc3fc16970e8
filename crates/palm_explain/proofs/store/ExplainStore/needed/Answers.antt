use Rattle.std.proofs.Common.{◌∙◌, ℕ, Contains, ◌↔◌, sym, subst}
use Rattle.palm_explain.specs.Entries.{log_of, pairs_with}
use Rattle.palm_explain.specs.Explanations.{Explanations}
use Rattle.palm_explain.specs.Needed.{AreNeeded, Falls, IsNeededAt}
use Rattle.palm_explain.proofs.NeededPlaces.{needed_reversed}
use Rattle.palm_explain.proofs.Stores.{both_ok, never_ok}
use Rattle.palm_explain.proofs.store.ExplainStore.needed.Goals as goal
use Rattle.palm_explain.proofs.store.ExplainStore.needed.Goals.{then-is_err, else-is_err}

pub returns-clause-ok : goal.returns-clause-ok
returns-clause-ok c =
    let pairs = pairs_with c.args.var c.args.values.now in
    let log = log_of c.self.inside.rows.items c.self.inside.log.items in
    elim c.if-is_err.branch [
      | then-is_err w ↦ never_ok c.add_needed-added.result _ (sym c.is_err.ensures.value ∙ w.if-is_err.true)
      | else-is_err w ↦
          both_ok c.add_needed-added.result _ _ _
          (λ falls each.
          subst (λ (v : Explanations). AreNeeded v.log pairs c.reverse.new.self.items) c.self.view_is
          (needed_reversed log pairs c.if-is_err.places.items c.reverse.new.self.items c.reverse.ensures.items c.reverse.ensures.permutation
          (subst (λ v. Falls v.items) (sym w.places-is) falls)
          (subst (λ v. (place : ℕ) → Contains v.items place ↔ IsNeededAt log pairs place) (sym w.places-is)
          (subst (λ rs. (place : ℕ) → Contains c.add_needed-added.new.visited.items place ↔ IsNeededAt (log_of rs c.self.inside.log.items) pairs place) c.deref-2.ensures.value
          (subst (λ es. (place : ℕ) → Contains c.add_needed-added.new.visited.items place ↔ IsNeededAt (log_of c.deref-2.result.now es) pairs place) c.deref.ensures.value each)))))
          c.add_needed-added.ensures.falls c.add_needed-added.ensures.each
    ]
