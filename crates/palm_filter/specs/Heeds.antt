-- Which losses of a variable take support from values of the other variables of a constraint, whatever the domains.
use Rattle.std.specs.Prelude.{◌≡◌, ◌≢◌, ⊤, ℕ, ℤ, ◌+ℤ◌, ◌<ℤ◌, Contains, Some, slice_get}
use Rattle.palm_model.specs.Constraint.{scope}
use Rattle.palm_model.specs.Domains.{Domains, Has}
use Rattle.palm_model.specs.Support.{IsSupported}
use Rattle.palm_model.specs.declared.constraint.Con.{Con}
use Rattle.palm_filter.specs.Shapes.{HasTwo}
use Rattle.palm_filter.specs.declared.heed.Heed.{Heed}
use Rattle.palm_filter.specs.declared.heed.Heed.TheVariants.{Each, Least, Greatest, Ends, Alone, Shifted}

-- the variable loses the value, and nothing else changes
pub record Loses (d e : Domains) (x : ℕ) (v : ℤ) : Type 0 where
  pub had : Has d x v
  pub gone : Has e x v → ⊥
  pub stay : (y : ℕ) (w : ℤ) → (y ≡ x → w ≡ v → ⊥) → Has d y w → Has e y w
  pub inside : (y : ℕ) (w : ℤ) → Has e y w → Has d y w

-- a value of another variable keeps its support
abbrev pub KeepsAt : Con → Domains → Domains → ℕ → ℕ → ℤ → Type 0
KeepsAt c d e x y u = Contains (scope c) y → y ≢ x → Has e y u → IsSupported d c y u → IsSupported e c y u

-- each value of each other variable keeps its support
abbrev pub Keeps : Con → Domains → Domains → ℕ → Type 0
Keeps c d e x = (y : ℕ) (u : ℤ) → KeepsAt c d e x y u

-- the variable has a value below this one, and one above it
abbrev pub HasBelow : Domains → ℕ → ℤ → Type 0
HasBelow d x v = (w : ℤ) × Has d x w × (w <ℤ v)

abbrev pub HasAbove : Domains → ℕ → ℤ → Type 0
HasAbove d x v = (w : ℤ) × Has d x w × (v <ℤ w)

-- what a loss of the variable leaves alone
abbrev pub IsHeeded : Con → ℕ → Heed → Type 0
IsHeeded c x Each = ⊤
IsHeeded c x Least = (d e : Domains) (v : ℤ) → Loses d e x v → HasBelow e x v → Keeps c d e x
IsHeeded c x Greatest = (d e : Domains) (v : ℤ) → Loses d e x v → HasAbove e x v → Keeps c d e x
IsHeeded c x Ends = (d e : Domains) (v : ℤ) → Loses d e x v → HasBelow e x v → HasAbove e x v → Keeps c d e x
IsHeeded c x Alone = (d e : Domains) (v : ℤ) → Loses d e x v → HasTwo e x → Keeps c d e x
IsHeeded c x (Shifted by) = (d e : Domains) (v : ℤ) → Loses d e x v → (y : ℕ) (u : ℤ) → u ≢ (v +ℤ by) → KeepsAt c d e x y u

-- the same of the variable at a place of the scope
abbrev pub FitsHeed : Con → ℕ → Heed → Type 0
FitsHeed c place heed = (x : ℕ) → slice_get (scope c) place ≡ Some x → IsHeeded c x heed
