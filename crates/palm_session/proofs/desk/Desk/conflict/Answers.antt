use Rattle.std.proofs.Common.{◌≡◌, ℕ, IfSome, MatchOption, subst}
use Rattle.palm_model.specs.Conflict.{IsKeptConflict}
use Rattle.palm_model.specs.State.{EngineState, HasEmpty, IsEmptyAt, present}
use Rattle.palm_session.proofs.Conflicting.{conflicting, consistent}
use Rattle.palm_session.proofs.Emptied.{conflict_of, none_filled, some_empty}
use Rattle.palm_session.proofs.Users.{conflict_users}
use Rattle.palm_session.proofs.desk.Desk.conflict.Goals as goal

pub returns-then-is_none-clause-tells : goal.returns-then-is_none-clause-tells
returns-then-is_none-clause-tells g c =
    let s = c.args.self.now.state in
    let o = c.empty_variable.result in
    let tells = subst (λ (e : EngineState). MatchOption o (HasEmpty (present e) → ⊥) (IsEmptyAt (present e))) c.engine-engine.ensures.state c.empty_variable.ensures.empty in
    consistent s c.requires.state c.requires.awake (none_filled s o tells c.is_none.result c.is_none.ensures c.if-is_none.true)

pub conflict-requires : goal.conflict-requires
conflict-requires g c =
    let here = record c.args.self.now.state { engine = c.engine-engine.result.now.state } in
    some_empty here c.empty_variable.result c.empty_variable.ensures.empty c.is_none.result c.is_none.ensures c.if-is_none.false

pub returns-clause-tells : goal.returns-clause-tells
returns-clause-tells g c =
    let s = c.args.self.now.state in
    let o = c.empty_variable.result in
    let users = c.conflict.new.out in
    let tells = subst (λ (e : EngineState). MatchOption o (HasEmpty (present e) → ⊥) (IsEmptyAt (present e))) c.engine-engine.ensures.state c.empty_variable.ensures.empty in
    let only = subst (λ (e : EngineState). IfSome o (λ x. (y : ℕ) → IsEmptyAt (present e) y → y ≡ x)) c.engine-engine.ensures.state c.empty_variable.ensures.only in
    let kept = subst (λ (e : EngineState). (x : ℕ) → IsEmptyAt (present e) x → IsKeptConflict e x users) c.engine-engine.ensures.state c.in_ok-conflict.ensures.ok in
    conflicting s c.requires.state users (some_empty s o tells c.is_none.result c.is_none.ensures c.if-is_none.false)
    (conflict_of s o users tells only c.is_none.result c.is_none.ensures c.if-is_none.false kept)

pub returns-clause-fits : goal.returns-clause-fits
returns-clause-fits g c =
    let s = c.args.self.now.state in
    let o = c.empty_variable.result in
    let users = c.conflict.new.out in
    let tells = subst (λ (e : EngineState). MatchOption o (HasEmpty (present e) → ⊥) (IsEmptyAt (present e))) c.engine-engine.ensures.state c.empty_variable.ensures.empty in
    let only = subst (λ (e : EngineState). IfSome o (λ x. (y : ℕ) → IsEmptyAt (present e) y → y ≡ x)) c.engine-engine.ensures.state c.empty_variable.ensures.only in
    let kept = subst (λ (e : EngineState). (x : ℕ) → IsEmptyAt (present e) x → IsKeptConflict e x users) c.engine-engine.ensures.state c.in_ok-conflict.ensures.ok in
    conflict_users s c.requires.state.held users (conflict_of s o users tells only c.is_none.result c.is_none.ensures c.if-is_none.false kept)
