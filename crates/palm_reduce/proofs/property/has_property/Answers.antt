use Rattle.std.proofs.Common.{None, List, sym, subst}
use Rattle.palm_base.specs.Tells.{Tells}
use Rattle.palm_base.proofs.cited.Telling.{tells_false, tells_true}
use Rattle.palm_engine.proofs.cited.Settled.{settling_filters}
use Rattle.palm_model.specs.Domains.{Domains}
use Rattle.palm_model.specs.Log.{Active}
use Rattle.palm_reduce.specs.Properties.{HasProperty, IsCore, MayBeAsked}
use Rattle.palm_reduce.proofs.property.has_property.Goals as goal

pub is_met-requires-clause-allowed : goal.is_met-requires-clause-allowed
is_met-requires-clause-allowed g c =
    let settled = c.in_ok-settle.ensures.ok.settled in
    let filters = settling_filters None c.args.engine.now.state settled.revisions c.settle.new.self.state settled.settles in
    subst (λ (d : Domains). MayBeAsked c.args.property.now d c.settle.new.self.state.active) (sym filters.initial)
    (subst (λ (xs : List Active). MayBeAsked c.args.property.now c.args.engine.now.state.initial xs) (sym filters.active) c.requires)

pub returns-then-not-is_met-clause-tells : goal.returns-then-not-is_met-clause-tells
returns-then-not-is_met-clause-tells g c =
    let settled = c.in_ok-settle.ensures.ok.settled in
    let filters = settling_filters None c.args.engine.now.state settled.revisions c.settle.new.self.state settled.settles in
    let told = subst (λ (d : Domains). Tells c.is_met.result (HasProperty c.args.property.now d c.args.engine.now.state.active)) filters.initial
    (subst (λ (xs : List Active). Tells c.is_met.result (HasProperty c.args.property.now c.settle.new.self.state.initial xs)) filters.active c.is_met.ensures) in
    tells_false _ c.is_met.result told c.if-not-is_met.true

pub returns-then-not-is_met-clause-initial : goal.returns-then-not-is_met-clause-initial
returns-then-not-is_met-clause-initial g c =
    let settled = c.in_ok-settle.ensures.ok.settled in
    (settling_filters None c.args.engine.now.state settled.revisions c.settle.new.self.state settled.settles).initial

pub returns-then-not-is_met-clause-active : goal.returns-then-not-is_met-clause-active
returns-then-not-is_met-clause-active g c =
    let settled = c.in_ok-settle.ensures.ok.settled in
    (settling_filters None c.args.engine.now.state settled.revisions c.settle.new.self.state settled.settles).active

pub tell_core-requires-clause-allowed : goal.tell_core-requires-clause-allowed
tell_core-requires-clause-allowed g c =
    let settled = c.in_ok-settle.ensures.ok.settled in
    let filters = settling_filters None c.args.engine.now.state settled.revisions c.settle.new.self.state settled.settles in
    subst (λ (d : Domains). MayBeAsked c.args.property.now d c.settle.new.self.state.active) (sym filters.initial)
    (subst (λ (xs : List Active). MayBeAsked c.args.property.now c.args.engine.now.state.initial xs) (sym filters.active) c.requires)

pub returns-clause-tells : goal.returns-clause-tells
returns-clause-tells g c =
    let settled = c.in_ok-settle.ensures.ok.settled in
    let filters = settling_filters None c.args.engine.now.state settled.revisions c.settle.new.self.state settled.settles in
    let told = subst (λ (d : Domains). Tells c.is_met.result (HasProperty c.args.property.now d c.args.engine.now.state.active)) filters.initial
    (subst (λ (xs : List Active). Tells c.is_met.result (HasProperty c.args.property.now c.settle.new.self.state.initial xs)) filters.active c.is_met.ensures) in
    tells_true _ c.is_met.result told c.if-not-is_met.false

pub returns-clause-core : goal.returns-clause-core
returns-clause-core g c has =
    let settled = c.in_ok-settle.ensures.ok.settled in
    let filters = settling_filters None c.args.engine.now.state settled.revisions c.settle.new.self.state settled.settles in
    subst (λ (d : Domains). IsCore c.args.property.now d c.args.engine.now.state.active c.tell_core.new.core) filters.initial
    (subst (λ (xs : List Active). IsCore c.args.property.now c.settle.new.self.state.initial xs c.tell_core.new.core) filters.active c.in_ok-tell_core.ensures)

pub returns-clause-initial : goal.returns-clause-initial
returns-clause-initial g c =
    let settled = c.in_ok-settle.ensures.ok.settled in
    (settling_filters None c.args.engine.now.state settled.revisions c.settle.new.self.state settled.settles).initial

pub returns-clause-active : goal.returns-clause-active
returns-clause-active g c =
    let settled = c.in_ok-settle.ensures.ok.settled in
    (settling_filters None c.args.engine.now.state settled.revisions c.settle.new.self.state settled.settles).active
