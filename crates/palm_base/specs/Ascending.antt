-- Lists of numbers in ascending order.
use Rattle.std.specs.Prelude.{ℤ, ◌<ℤ◌, List, [], ◌∷◌, All}

-- each number is below those after it
abbrev pub Ascends : List ℤ → Type 0
Ascends [] = Unit {0}
Ascends (v ∷ vs) = All (λ w. v <ℤ w) vs × Ascends vs
