use Rattle.std.proofs.Common.{Bool, sym, subst}
use Rattle.palm_base.specs.Tells.{Tells}
use Rattle.palm_model.specs.Minimal.{AreConflict}
use Rattle.palm_reduce.specs.Properties.{HasProperty, MayBeAsked}
use Rattle.palm_reduce.specs.declared.property.Property.{Property}
use Rattle.palm_reduce.proofs.Asking.{tells_absence, tells_conflict}
use Rattle.palm_reduce.proofs.property.is_met.Goals as goal

pub returns-in-Conflict : goal.returns-in-Conflict
returns-in-Conflict c =
    let s = c.args.engine.now.state in
    subst (λ (p : Property). Tells c.is_some.result (HasProperty p s.initial s.active)) (sym c.in-Conflict.is)
    (subst (λ (b : Bool). Tells b (AreConflict s.initial s.active)) (sym c.is_some.ensures)
    (tells_conflict s c.requires.valid c.requires.still c.empty_variable.result c.empty_variable.ensures.empty))

pub returns-in-Absence : goal.returns-in-Absence
returns-in-Absence c =
    let s = c.args.engine.now.state in
    let allowed = subst (λ (q : Property). MayBeAsked q s.initial s.active) c.in-Absence.is c.requires.allowed in
    subst (λ (q : Property). Tells c.is_absent.result (HasProperty q s.initial s.active)) (sym c.in-Absence.is)
    (tells_absence s c.requires.valid c.requires.still c.in-Absence.pair allowed.1 c.is_absent.result c.is_absent.ensures)
