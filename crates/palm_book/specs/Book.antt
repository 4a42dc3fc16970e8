-- The book of a session: its variables with their initial values, and its constraints.
use Rattle.std.specs.Prelude.{◌≡◌, ◌≢◌, ℕ, zero, suc, ℤ, ◌+◌, ◌<◌, ◌≤◌, ◌==◌, Bool, true, List, [], ◌∷◌, ◌++◌, length, map, All, Any, AllPairs, if◌then◌else◌, slice_index_or, filter}
use Rattle.palm_base.specs.declared.terms.Cid.{Cid}
use Rattle.palm_base.specs.declared.terms.Cid.TheVariants.{Decide, Not, User}
use Rattle.palm_read.specs.Name.{IsNameText}
use Rattle.palm_read.specs.declared.limits.TheConstants.{MOST_VALUES}
use Rattle.palm_book.specs.declared.book.BookCon.{BookCon}
use Rattle.palm_book.specs.declared.limits.TheConstants.{MOST_VARIABLES, MOST_CONSTRAINTS}
use Rattle.palm_model.specs.Domains.{Domains, Ascends}
use Rattle.palm_model.specs.Log.{Active}
use Rattle.palm_model.specs.State.{user_of}
use Rattle.palm_model.specs.Constraint.{IsWellFormed}
use Rattle.palm_model.specs.Limits.{IsValue}
use Rattle.palm_model.specs.declared.constraint.Con.{Con}

-- a variable
pub record BookVar : Type 0 where
  pub name : List ℕ
  pub values : List ℤ

-- the variables in the order of their declarations, and the constraints by rising number
pub record Contents : Type 0 where
  pub variables : List BookVar
  pub constraints : List BookCon

-- the book whose variables and constraints stand under their names
abbrev pub contents : List (List ℕ × List ℤ) → List (List ℕ × BookCon) → Contents
contents variables constraints = record { variables = map (λ e. record { name = e.0; values = e.1 }) variables; constraints = map (λ e. e.1) constraints }

-- the name of a variable, and of nothing where there is none
abbrev pub name_of : List BookVar → ℕ → List ℕ
name_of variables x = (slice_index_or variables x (record { name = []; values = [] })).name

-- the initial values of a variable, and none where there is none
abbrev pub values_at : List BookVar → ℕ → List ℤ
values_at variables x = (slice_index_or variables x (record { name = []; values = [] })).values

-- the constraint at the place is active or relaxed
abbrev pub with_active : List BookCon → ℕ → Bool → List BookCon
with_active [] place active = []
with_active (c ∷ cs) zero active = record c { active = active } ∷ cs
with_active (c ∷ cs) (suc place) active = c ∷ with_active cs place active

-- the name of the constraint with the number, and of nothing where there is none
abbrev pub number_name : List BookCon → ℕ → List ℕ
number_name [] n = []
number_name (c ∷ cs) n = if c.number == n then c.name else number_name cs n

-- the name of a user's constraint
abbrev pub user_name : List BookCon → Cid → List ℕ
user_name constraints (Decide x) = []
user_name constraints (Not pair) = []
user_name constraints (User n) = number_name constraints n

-- some constraint of the book has the number
abbrev pub HasNumber : Contents → ℕ → Type 0
HasNumber book n = Any (λ c. c.number ≡ n) book.constraints

-- a user's constraint of the book
abbrev pub IsUser : Contents → Cid → Type 0
IsUser book (Decide x) = ⊥
IsUser book (Not pair) = ⊥
IsUser book (User n) = HasNumber book n

-- a variable has the name, or a constraint has
abbrev pub HasVariable : Contents → List ℕ → Type 0
HasVariable book name = Any (λ e. e.name ≡ name) book.variables

abbrev pub HasConstraint : Contents → List ℕ → Type 0
HasConstraint book name = Any (λ c. c.name ≡ name) book.constraints

-- the book with one more variable
abbrev pub with_variable : Contents → List ℕ → List ℤ → Contents
with_variable book name values = record book { variables = book.variables ++ record { name = name; values = values } ∷ [] }

-- the listed constraint with the next number, which is active
abbrev pub listed : Contents → List ℕ → Con → BookCon
listed book name con = record { number = length book.constraints + 1; name = name; active = true; con = con }

-- the book with one more listed constraint
abbrev pub with_listed : Contents → List ℕ → Con → Contents
with_listed book name con = record book { constraints = book.constraints ++ listed book name con ∷ [] }

-- the initial domains
abbrev pub initial_of : Contents → Domains
initial_of book = map (λ e. e.values) book.variables

-- a constraint of the book under its number, which needs no justification
abbrev pub user_at : BookCon → Active
user_at c = user_of c.number c.con

-- the active constraints, by rising number
abbrev pub active_of : Contents → List Active
active_of book = map user_at (filter (λ c. c.active) book.constraints)

-- the values of a variable: at least one, not too many, ascending
pub record AreValues (values : List ℤ) : Type 0 where
  pub some : 0 < length values
  pub few : length values ≤ MOST_VALUES
  pub ascend : Ascends values
  pub each : All IsValue values

-- a book within the limits of the language
pub record IsBook (book : Contents) : Type 0 where
  pub few_variables : length book.variables ≤ MOST_VARIABLES
  pub few_constraints : length book.constraints ≤ MOST_CONSTRAINTS
  pub variable_names : All (λ e. IsNameText e.name) book.variables
  pub values : All (λ e. AreValues e.values) book.variables
  pub different_variables : AllPairs (λ e f. e.name ≢ f.name) book.variables
  pub constraint_names : All (λ c. IsNameText c.name) book.constraints
  pub different_constraints : AllPairs (λ c d. c.name ≢ d.name) book.constraints
  pub rising : AllPairs (λ c d. c.number < d.number) book.constraints
  pub formed : All (λ c. IsWellFormed (length book.variables) c.con) book.constraints
