-- The first of several conditions that holds, each the condition of a cause.
use Rattle.std.specs.Prelude.{◌≡◌, List, [], ◌∷◌, ◌⊎◌, ⊤}

-- the condition of this cause holds, and that of no cause before it in the list
abbrev pub IsFirst : {C : Type 0} → (C → Type 0) → List C → C → Type 0
IsFirst holds [] cause = ⊥
IsFirst holds (c ∷ cs) cause = (holds c × (cause ≡ c)) ⊎ ((holds c → ⊥) × IsFirst holds cs cause)

-- no condition of the list holds
abbrev pub IsNone : {C : Type 0} → (C → Type 0) → List C → Type 0
IsNone holds [] = ⊤
IsNone holds (c ∷ cs) = (holds c → ⊥) × IsNone holds cs
