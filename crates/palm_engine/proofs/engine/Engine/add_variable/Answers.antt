use Rattle.std.proofs.Common.{◌≡◌, ℤ, List, [], ◌∷◌, ◌++◌, refl, sym, subst}
use Rattle.std.proofs.lemmas.List.{map-append}
use Rattle.palm_model.specs.Domains.{Ascends}
use Rattle.palm_domain.specs.Rows.{Row, initial_of}
use Rattle.palm_model.specs.Event.{Declares}
use Rattle.palm_model.specs.Log.{Active}
use Rattle.palm_engine.specs.Changed.{with_variable}
use Rattle.palm_engine.specs.Kept.{IsEngine, state_of}
use Rattle.palm_engine.specs.Posted.{actives_of}
use Rattle.palm_engine.specs.declared.filtering.Filtering.{Filtering}
use Rattle.palm_engine.proofs.Keeping.{declared_engine}
use Rattle.palm_engine.proofs.cited.Results.{on_either, on_ok}
use Rattle.palm_engine.proofs.engine.Engine.add_variable.Goals as goal

pub invariant_of-self : goal.invariant_of-self
invariant_of-self g c =
    let f = c.self.inside.filtering in
    let active = actives_of g.F.Filter.meaning c.self.inside.posted.items in
    on_either c.add_variable.result _ _ (IsEngine c.add_variable.new.self active) c.add_variable.ensures.ok c.add_variable.ensures.err
    (λ e. subst (λ (h : Filtering). IsEngine h active) (sym e) (declared_engine f (with_variable f.store c.args.values.now) c.args.values.now active c.requires.ascend c.requires.filled refl c.self.invariant))
    (λ e. subst (λ (h : Filtering). IsEngine h active) (sym e) c.self.invariant)

pub returns-clause-valid : goal.returns-clause-valid
returns-clause-valid g c = (invariant_of-self g c).valid

-- one more row declares one more variable
declares : (f : Filtering) (values : List ℤ) (active : List Active) → Ascends values → Declares (state_of f active) values (state_of (record f { store = with_variable f.store values }) active)
declares f values active ascends =
    let row : Row = record { initial = values; present = values } in
    let initial : initial_of (with_variable f.store values) ≡ initial_of f.store ++ values ∷ [] = map-append (λ (r : Row). r.initial) f.store (row ∷ []) in
    record { ascend = ascends; after = (λ i. record { initial = initial i; active = active; log = f.log.log; pending = f.agenda.pending }) }

pub returns-clause-ok : goal.returns-clause-ok
returns-clause-ok g c =
    let f = c.self.inside.filtering in
    let active = actives_of g.F.Filter.meaning c.self.inside.posted.items in
    rw (← c.self.view_is)
    (on_ok c.add_variable.result _ _
    (λ e. subst (λ (h : Filtering). Declares (state_of f active) c.args.values.now (state_of h active)) (sym e) (declares f c.args.values.now active c.requires.ascend))
    c.add_variable.ensures.ok)
