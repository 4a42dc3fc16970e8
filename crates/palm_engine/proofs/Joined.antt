-- Walks over one list of pairs and then over another, and what a walk leaves as it was.
use Rattle.std.proofs.Common.{◌≡◌, ℕ, suc, ◌+◌, ◌≤◌, List, [], ◌∷◌, ◌++◌, length, Contains, ℤ, refl, sym, ap, ◌∙◌, subst, arith, length-append, zero-add}
use Rattle.palm_base.specs.declared.terms.Pair.{Pair}
use Rattle.palm_base.proofs.cited.Members.{member_here, member_there}
use Rattle.palm_model.specs.Domains.{Has}
use Rattle.palm_model.specs.Support.{IsSupported}
use Rattle.palm_model.specs.Log.{Active}
use Rattle.palm_model.specs.State.{EngineState, HasEmpty, IsValid, present}
use Rattle.palm_model.specs.Event.{Removes, removal_of}
use Rattle.palm_events.specs.Scoped.{HasScopedReasons}
use Rattle.palm_events.proofs.cited.Reasons.{reasons_right}
use Rattle.palm_events.proofs.cited.Scoped.{removes_scoped}
use Rattle.palm_events.proofs.cited.Valid.{removes_valid, removed_has}
use Rattle.palm_engine.specs.Settling.{Walks}
use Rattle.palm_engine.specs.Settling.Walks.{walked_all, walked_empty, walked_past, walked_out}
use Rattle.palm_engine.proofs.cited.Walking.{not_empty}

-- ---- one list and then another

-- where a domain is empty a walk takes nothing out
pub empty_takes_none : (a : Active) (pairs : List Pair) (s : EngineState) (n : ℕ) (t : EngineState) → Walks a pairs s n t → HasEmpty (present s) → (n ≡ 0) × (t ≡ s)
empty_takes_none a _ _ _ _ (walked_all s) empty = (refl, refl)
empty_takes_none a _ _ _ _ (walked_empty pairs s e) empty = (refl, refl)
empty_takes_none a _ _ _ _ (walked_past p pairs s n t supported walk) empty = empty_takes_none a pairs s n t walk empty
empty_takes_none a _ _ _ _ (walked_out p pairs s m n t removes walk) empty = absurd (not_empty (present s) removes.filled empty)

empty_then : (a : Active) (pairs more : List Pair) (s : EngineState) (k : ℕ) (t : EngineState) → HasEmpty (present s) → (k ≡ 0) × (t ≡ s) → Walks a (pairs ++ more) s (0 + k) t
empty_then a pairs more s k t empty e =
    subst (λ i. Walks a (pairs ++ more) s i t) (sym (zero-add k))
    (subst (λ i. Walks a (pairs ++ more) s i t) (sym e.0) (subst (λ z. Walks a (pairs ++ more) s 0 z) (sym e.1) (walked_empty (pairs ++ more) s empty)))

pub walk_then : (a : Active) (pairs : List Pair) (s : EngineState) (n : ℕ) (m : EngineState) (more : List Pair) (k : ℕ) (t : EngineState) → Walks a pairs s n m → Walks a more m k t → Walks a (pairs ++ more) s (n + k) t
walk_then a _ _ _ _ more k t (walked_all s) rest = subst (λ i. Walks a more s i t) (sym (zero-add k)) rest
walk_then a _ _ _ _ more k t (walked_empty pairs s empty) rest = empty_then a pairs more s k t empty (empty_takes_none a more s k t rest empty)
walk_then a _ _ _ _ more k t (walked_past p pairs s n m supported walk) rest = walked_past p (pairs ++ more) s (n + k) t supported (walk_then a pairs s n m more k t walk rest)
walk_then a _ _ _ _ more k t (walked_out p pairs s i n m removes walk) rest =
    let e : suc (n + k) ≡ suc n + k = omega arith in
    subst (λ j. Walks a (p ∷ (pairs ++ more)) s j t) e (walked_out p (pairs ++ more) s i (n + k) t removes (walk_then a pairs i n m more k t walk rest))

-- a walk and then one that takes nothing out
pub walk_then_none : (a : Active) (pairs : List Pair) (s : EngineState) (n : ℕ) (m : EngineState) (more : List Pair) → Walks a pairs s n m → Walks a more m 0 m → Walks a (pairs ++ more) s n m
walk_then_none a pairs s n m more walk rest = let e : n + 0 ≡ n = omega arith in subst (λ j. Walks a (pairs ++ more) s j m) e (walk_then a pairs s n m more 0 m walk rest)

-- pairs that have support where they are present are passed
pub walk_past : (a : Active) (pairs : List Pair) (s : EngineState) → ((p : Pair) → Contains pairs p → Has (present s) p.var p.value → IsSupported (present s) a.con p.var p.value) → Walks a pairs s 0 s
walk_past a [] s each = walked_all s
walk_past a (p ∷ pairs) s each = walked_past p pairs s 0 s (each p (member_here p pairs)) (walk_past a pairs s (λ q m. each q (member_there p pairs q m)))

pub walk_one_past : (a : Active) (p : Pair) (s : EngineState) → IsSupported (present s) a.con p.var p.value → Walks a (p ∷ []) s 0 s
walk_one_past a p s supported = walked_past p [] s 0 s (λ has. supported) (walked_all s)

pub walk_one_out : (a : Active) (p : Pair) (s t : EngineState) → Removes s a p t → Walks a (p ∷ []) s 1 t
walk_one_out a p s t removes = walked_out p [] s t 0 t removes (walked_all t)

-- ---- how far a walk goes

-- a walk takes each pair out at most once
pub walk_short : (a : Active) (pairs : List Pair) (s : EngineState) (n : ℕ) (t : EngineState) → Walks a pairs s n t → n ≤ length pairs
walk_short a _ _ _ _ (walked_all s) = omega arith
walk_short a _ _ _ _ (walked_empty pairs s empty) = omega arith
walk_short a _ _ _ _ (walked_past p pairs s n t supported walk) = let k = walk_short a pairs s n t walk in omega (arith, k)
walk_short a _ _ _ _ (walked_out p pairs s m n t removes walk) = let k = walk_short a pairs m n t walk in omega (arith, k)

removal_logged : (s m : EngineState) (a : Active) (p : Pair) → Removes s a p m → length m.log ≡ length s.log + 1
removal_logged s m a p removes = ap (λ (z : EngineState). length z.log) removes.after ∙ length-append s.log (removal_of s a p ∷ [])

-- and the log grows by what it takes out
pub walk_logged : (a : Active) (pairs : List Pair) (s : EngineState) (n : ℕ) (t : EngineState) → Walks a pairs s n t → length t.log ≡ length s.log + n
walk_logged a _ _ _ _ (walked_all s) = omega arith
walk_logged a _ _ _ _ (walked_empty pairs s empty) = omega arith
walk_logged a _ _ _ _ (walked_past p pairs s n t supported walk) = walk_logged a pairs s n t walk
walk_logged a _ _ _ _ (walked_out p pairs s m n t removes walk) =
    let first = removal_logged s m a p removes in
    let rest = walk_logged a pairs m n t walk in
    omega (arith, first, rest)

-- ---- what stays

pub walk_valid : (a : Active) (pairs : List Pair) (s : EngineState) (n : ℕ) (t : EngineState) → Walks a pairs s n t → IsValid s → IsValid t
walk_valid a _ _ _ _ (walked_all s) valid = valid
walk_valid a _ _ _ _ (walked_empty pairs s empty) valid = valid
walk_valid a _ _ _ _ (walked_past p pairs s n t supported walk) valid = walk_valid a pairs s n t walk valid
walk_valid a _ _ _ _ (walked_out p pairs s m n t removes walk) valid = walk_valid a pairs m n t walk (removes_valid reasons_right s m a p removes valid)

-- the reasons stay in the scopes of their constraints
pub walk_scoped : (a : Active) (pairs : List Pair) (s : EngineState) (n : ℕ) (t : EngineState) → Walks a pairs s n t → IsValid s → HasScopedReasons s → HasScopedReasons t
walk_scoped a _ _ _ _ (walked_all s) valid scoped = scoped
walk_scoped a _ _ _ _ (walked_empty pairs s empty) valid scoped = scoped
walk_scoped a _ _ _ _ (walked_past p pairs s n t supported walk) valid scoped = walk_scoped a pairs s n t walk valid scoped
walk_scoped a _ _ _ _ (walked_out p pairs s m n t removes walk) valid scoped =
    walk_scoped a pairs m n t walk (removes_valid reasons_right s m a p removes valid) (removes_scoped s m a p valid removes scoped)

-- no value comes back
pub walk_has : (a : Active) (pairs : List Pair) (s : EngineState) (n : ℕ) (t : EngineState) → Walks a pairs s n t → (x : ℕ) (v : ℤ) → Has (present t) x v → Has (present s) x v
walk_has a _ _ _ _ (walked_all s) x v has = has
walk_has a _ _ _ _ (walked_empty pairs s empty) x v has = has
walk_has a _ _ _ _ (walked_past p pairs s n t supported walk) x v has = walk_has a pairs s n t walk x v has
walk_has a _ _ _ _ (walked_out p pairs s m n t removes walk) x v has =
    removed_has s a p x v (subst (λ z. Has (present z) x v) removes.after (walk_has a pairs m n t walk x v has))
