-- Words for trying assignments one after another, and for taking out values that have no support.
use Rattle.std.specs.Prelude.{◌≡◌, ℕ, ℤ, pos, ◌+◌, ◌<◌, ◌≤◌, List, [], ◌∷◌, length, Contains, All, ⊤, Bool, true, false, slice_index_or}
use Rattle.palm_model.specs.Domains.{Domains, Assignment, Has, IsInside, AllAscend, values_of}
use Rattle.palm_model.specs.Linear.{IsFactor}
use Rattle.palm_model.specs.Part.{scope_of, Holds}
use Rattle.palm_model.specs.Support.{HasSupport, IsSupported}
use Rattle.palm_model.specs.Closure.{IsClosedFor}
use Rattle.palm_model.specs.declared.constraint.Con.{Con}
use Rattle.palm_model.specs.declared.limits.TheConstants.{MOST_SCOPE}
use Rattle.palm_model.specs.declared.part.Part.{Part}
use Rattle.palm_model.specs.declared.part.Part.TheVariants.{CompareVar as CompareVarPart, CompareConst as CompareConstPart, Linear as LinearPart, Table as TablePart, Element as ElementPart, Count as CountPart, Differ as DifferPart, Within as WithinPart}

-- the assignment that gives each variable the value at its place
abbrev pub listed : List ℤ → Assignment
listed values x = slice_index_or values x (pos 0)

-- values of the domains for these variables other than x complete the assignment so that it satisfies the part
pub record IsCompleted (d : Domains) (p : Part) (x : ℕ) (open_vars : List ℕ) (a : Assignment) : Type 0 where
  pub assignment : Assignment
  pub fixed : assignment x ≡ a x
  pub same : (y : ℕ) → (Contains open_vars y → ⊥) → assignment y ≡ a y
  pub within : (y : ℕ) → Contains open_vars y → (y ≡ x → ⊥) → Has d y (assignment y)
  pub holds : Holds p assignment

-- closed for every part of a list
abbrev pub IsClosedForAll : List Part → Domains → Type 0
IsClosedForAll parts d = (p : Part) → Contains parts p → IsClosedFor p d

-- how many values there are
abbrev pub value_count : Domains → ℕ
value_count [] = 0
value_count (vs ∷ d) = length vs + value_count d

-- some values are gone, but none of any domains that are closed in this sense
pub record Narrows (Closed : Domains → Type 0) (old new : Domains) : Type 0 where
  pub ascend : AllAscend old → AllAscend new
  pub variables : length new ≡ length old
  pub count : value_count new ≤ value_count old
  pub inside : IsInside new old
  pub keeps : (e : Domains) → IsInside e old → Closed e → IsInside e new

-- the sums of the part stay far below 64 bits
abbrev pub IsSmall : Part → Type 0
IsSmall (CompareVarPart left op right offset) = ⊤
IsSmall (CompareConstPart var op value) = ⊤
IsSmall (LinearPart terms op bound) = All IsFactor terms × (length terms ≤ MOST_SCOPE)
IsSmall (TablePart vars rows) = ⊤
IsSmall (ElementPart outcome index entries) = ⊤
IsSmall (CountPart value vars op target) = ⊤
IsSmall (DifferPart first second) = ⊤
IsSmall (WithinPart var values) = ⊤

-- the part is over the first so many variables, and its sums are small
pub record IsTriable (variables : ℕ) (p : Part) : Type 0 where
  pub declared : All (λ x. x < variables) (scope_of p)
  pub small : IsSmall p

-- trying changed what the list gives to these variables other than x, and nothing else
pub record ChangesOnly (vars : List ℕ) (x : ℕ) (old new : List ℤ) : Type 0 where
  pub fixed : listed new x ≡ listed old x
  pub others : (y : ℕ) → (Contains vars y → ⊥) → listed new y ≡ listed old y

-- the first values of x have support in the part
abbrev pub FirstSupported : Part → ℕ → ℕ → Domains → Type 0
FirstSupported p x n d = (k : ℕ) (e : ℤ) → k < n → HasSupport d p x (slice_index_or (values_of d x) k e)

-- each value of these variables has support in the part
abbrev pub EachSupported : Part → List ℕ → Domains → Type 0
EachSupported p xs d = (x : ℕ) (v : ℤ) → Contains xs x → Has d x v → HasSupport d p x v

-- the value has support in the constraint, where it is present
abbrev pub IsSupportedIfPresent : Con → ℕ → ℤ → Domains → Type 0
IsSupportedIfPresent c x v d = Has d x v → IsSupported d c x v

-- each of these values has support in the constraint, where it is present
abbrev pub AreKept : Con → ℕ → List ℤ → Domains → Type 0
AreKept c x values d = (v : ℤ) → Contains values v → IsSupportedIfPresent c x v d

-- each present value of these variables has support in the constraint
abbrev pub AreSupported : Con → List ℕ → Domains → Type 0
AreSupported c xs d = (x : ℕ) (v : ℤ) → Contains xs x → IsSupportedIfPresent c x v d

-- values were taken out, and it is known whether any was; where none was, the rest holds
pub record Narrowed (Closed Rest : Domains → Type 0) (old new : Domains) (lost : Bool) : Type 0 where
  pub step : Narrows Closed old new
  pub fewer : lost ≡ true → value_count new < value_count old
  pub same : lost ≡ false → new ≡ old
  pub rest : lost ≡ false → Rest new
