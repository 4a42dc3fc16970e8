-- What steps one after another lead to.
use Rattle.std.proofs.Common.{List, [], ◌∷◌, ◌++◌, refl, subst}
use Rattle.palm_engine.specs.Following.{LeadsAlong}

pub leads_then : {T X : Type 0} (step : T → X → X → Type 0) (xs ys : List T) (a b c : X) → LeadsAlong step xs a b → LeadsAlong step ys b c → LeadsAlong step (xs ++ ys) a c
leads_then step [] ys a b c led then = subst (λ x. LeadsAlong step ys x c) led then
leads_then step (x ∷ xs) ys a b c led then = (led.0, led.1, leads_then step xs ys led.0 b c led.2 then)

pub leads_split : {T X : Type 0} (step : T → X → X → Type 0) (xs ys : List T) (a c : X) → LeadsAlong step (xs ++ ys) a c → (b : X) × LeadsAlong step xs a b × LeadsAlong step ys b c
leads_split step [] ys a c led = (a, refl, led)
leads_split step (x ∷ xs) ys a c led =
    let split = leads_split step xs ys led.0 c led.2 in
    (split.0, (led.0, led.1, split.1), split.2)
