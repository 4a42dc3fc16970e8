use Rattle.std.proofs.Common.{ℕ, List, Contains, sym, subst}
use Rattle.palm_engine.proofs.cited.Results.{on_ok}
use Rattle.palm_model.specs.Conflict.{IsKeptConflict}
use Rattle.palm_model.specs.Log.{IsListOf, NamesOfPair, Removal, log_pairs}
use Rattle.palm_model.specs.State.{IsEmptyAt, present}
use Rattle.palm_reduce.specs.Properties.{HasProperty, IsCore, MayBeAsked}
use Rattle.palm_reduce.specs.declared.property.Property.{Property}
use Rattle.palm_reduce.proofs.Asking.{explained_absent, has_empty}
use Rattle.palm_reduce.proofs.Cores.{absent_logged, kept_absence, kept_core}
use Rattle.palm_reduce.proofs.property.tell_core.Goals as goal

pub conflict-requires : goal.conflict-requires
conflict-requires c =
    let s = c.args.engine.now.state in
    has_empty s c.requires.valid c.requires.still (subst (λ (p : Property). HasProperty p s.initial s.active) c.in-Conflict.is c.requires.holds)

pub returns-in-Conflict : goal.returns-in-Conflict
returns-in-Conflict c =
    let s = c.args.engine.now.state in
    let empty = has_empty s c.requires.valid c.requires.still (subst (λ (p : Property). HasProperty p s.initial s.active) c.in-Conflict.is c.requires.holds) in
    on_ok c.conflict.result ((x : ℕ) → IsEmptyAt (present s) x → IsKeptConflict s x c.conflict.new.out) (IsCore c.args.property.now s.initial s.active c.conflict.new.out)
    (λ kept. subst (λ (p : Property). IsCore p s.initial s.active c.conflict.new.out) (sym c.in-Conflict.is)
    (kept_core s c.requires.valid empty.0 empty.1 c.conflict.new.out (kept empty.0 empty.1)))
    c.conflict.ensures.ok

pub explanation-requires : goal.explanation-requires
explanation-requires c =
    let s = c.args.engine.now.state in
    let p = c.in-Absence.pair in
    let allowed = subst (λ (q : Property). MayBeAsked q s.initial s.active) c.in-Absence.is c.requires.allowed in
    let explains = subst (λ (q : Property). HasProperty q s.initial s.active) c.in-Absence.is c.requires.holds in
    subst (λ (log : List Removal). Contains (log_pairs log) p) (sym c.log.ensures)
    (absent_logged s p.var p.value allowed.0 (explained_absent s c.requires.valid c.requires.still p allowed.1 explains))

pub returns-in-Absence : goal.returns-in-Absence
returns-in-Absence c =
    let s = c.args.engine.now.state in
    let p = c.in-Absence.pair in
    let allowed = subst (λ (q : Property). MayBeAsked q s.initial s.active) c.in-Absence.is c.requires.allowed in
    let explains = subst (λ (q : Property). HasProperty q s.initial s.active) c.in-Absence.is c.requires.holds in
    let logged = absent_logged s p.var p.value allowed.0 (explained_absent s c.requires.valid c.requires.still p allowed.1 explains) in
    on_ok c.explanation.result (IsListOf (NamesOfPair c.log.result.now.log p) c.explanation.new.out) (IsCore c.args.property.now s.initial s.active c.explanation.new.out)
    (λ kept. subst (λ (q : Property). IsCore q s.initial s.active c.explanation.new.out) (sym c.in-Absence.is)
    (kept_absence s c.requires.valid p logged c.explanation.new.out (subst (λ (log : List Removal). IsListOf (NamesOfPair log p) c.explanation.new.out) c.log.ensures kept)))
    c.explanation.ensures.ok
