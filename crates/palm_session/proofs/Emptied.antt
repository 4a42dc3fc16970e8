-- What the engine tells of its empty variable.
use Rattle.std.proofs.Common.{◌≡◌, ℕ, Bool, true, false, List, Option, None, Some, MatchOption, IfSome, is_some, sym, subst, arith}
use Rattle.std.specs.Prelude.{not}
use Rattle.palm_base.specs.Tells.{Tells}
use Rattle.palm_base.specs.declared.terms.Cid.{Cid}
use Rattle.palm_model.specs.State.{HasEmpty, IsEmptyAt, present}
use Rattle.palm_model.specs.Conflict.{IsKeptConflict}
use Rattle.palm_session.specs.Answers.{HasConflict, IsLowestEmpty}
use Rattle.palm_session.specs.State.{SessionState, IsState, IsContradiction}
use Rattle.palm_session.proofs.LawsOfDomains.{contradiction_is_empty}

abbrev pub TellsEmpty : SessionState → Option ℕ → Type 0
TellsEmpty s o = MatchOption o (HasEmpty (present s.engine) → ⊥) (IsEmptyAt (present s.engine))

pub tells_contradiction : (s : SessionState) → IsState s → s.paused ≡ false → (o : Option ℕ) → TellsEmpty s o → (b : Bool) → b ≡ is_some o → Tells b (IsContradiction s)
tells_contradiction s is awake None none b e =
    subst (λ (x : Bool). Tells x (IsContradiction s)) (sym e) (λ c. none ((contradiction_is_empty s is awake).0 c))
tells_contradiction s is awake (Some x) at b e =
    subst (λ (x : Bool). Tells x (IsContradiction s)) (sym e) ((contradiction_is_empty s is awake).1 (x, at))

pub none_filled : (s : SessionState) (o : Option ℕ) → TellsEmpty s o → (b : Bool) → is_some o ≡ not b → b ≡ true → HasEmpty (present s.engine) → ⊥
none_filled s None none b e t = none
none_filled s (Some x) at b e t = cc

pub some_empty : (s : SessionState) (o : Option ℕ) → TellsEmpty s o → (b : Bool) → is_some o ≡ not b → b ≡ false → HasEmpty (present s.engine)
some_empty s None none b e f = cc
some_empty s (Some x) at b e f = (x, at)

-- the conflict of the only empty variable
pub conflict_of : (s : SessionState) (o : Option ℕ) (cids : List Cid) → TellsEmpty s o → IfSome o (λ x. (y : ℕ) → IsEmptyAt (present s.engine) y → y ≡ x) → (b : Bool) → is_some o ≡ not b → b ≡ false
    → ((x : ℕ) → IsEmptyAt (present s.engine) x → IsKeptConflict s.engine x cids) → HasConflict s cids
conflict_of s None cids none only b e f kept = cc
conflict_of s (Some x) cids at only b e f kept = record { var = x; empty = at; lowest = λ y h. omega (arith, only y h); is = kept x at }

-- the only empty variable is the lowest
pub only_empty : (s : SessionState) (x : ℕ) → IsEmptyAt (present s.engine) x → ((y : ℕ) → IsEmptyAt (present s.engine) y → y ≡ x) → IsLowestEmpty s x
only_empty s x at only = record { empty = at; lowest = λ y h. omega (arith, only y h) }
