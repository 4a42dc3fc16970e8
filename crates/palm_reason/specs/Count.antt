-- How low and how high a count can be where one variable of the constraint has a value of its own.
use Rattle.std.specs.Prelude.{ℕ, ℤ, List, [], ◌∷◌, length, filter, nat_eq, if◌then◌else◌}
use Rattle.palm_model.specs.Domains.{Domains, values_of}
use Rattle.palm_model.specs.Removed.{is_alone, is_listed}
use Rattle.palm_model.specs.declared.constraint.Target.{Target}
use Rattle.palm_model.specs.declared.constraint.Target.TheVariants.{Const, Variable}

-- the values that y can have where x has the value v
abbrev pub values_where : Domains → ℕ → ℤ → ℕ → List ℤ
values_where d x v y = if nat_eq y x then v ∷ [] else values_of d y

-- the numbers that the target can be where x has the value v
abbrev pub target_values : Domains → ℕ → ℤ → Target → List ℤ
target_values d x v (Const w) = w ∷ []
target_values d x v (Variable y) = values_where d x v y

-- how many of the variables have no other value
abbrev pub low_count : (ℕ → List ℤ) → ℤ → List ℕ → ℕ
low_count f value vars = length (filter (λ y. is_alone (f y) value) vars)

-- how many of the variables have the value
abbrev pub high_count : (ℕ → List ℤ) → ℤ → List ℕ → ℕ
high_count f value vars = length (filter (λ y. is_listed (f y) value) vars)
