-- Which lines are refused, and by which refusal.
use Rattle.std.specs.Prelude.{◌≡◌, ◌≤◌, Bool, true, false, List, [], ◌∷◌, ◌⊎◌, ℕ, ℤ, length, Any, Contains, Option, Some, None}
use Rattle.palm_read.specs.Limits.{names_of, IsBeyond}
use Rattle.palm_read.specs.declared.line.Line.{Line}
use Rattle.palm_read.specs.declared.line.Line.TheVariants.{Var, VarIn, Add, Relax, Enforce, Retract, Domain, Why, Minimal, Cert, Pause, Resume, Step, Minimize, Prefer, PreferNone, Guide, Order, DropGuide, DropOrder}
use Rattle.palm_read.specs.declared.parse.LineError.{LineError}
use Rattle.palm_read.specs.declared.parse.LineError.TheVariants.{Bytes, Form, Range as OutOfRange, Empty, Repeated, NoMemory}
use Rattle.palm_lang.specs.declared.reply.Refusal.{Refusal}
use Rattle.palm_lang.specs.declared.reply.Refusal.TheVariants.{E1, E2, E3, E4, E5, E6, E7, E8, E9, E10, E11, E12}
use Rattle.palm_book.specs.Limits.{most_variables, most_constraints}
use Rattle.palm_book.specs.declared.limits.TheConstants.{MOST_ADDED}
use Rattle.palm_session.specs.State.{SessionState, HasVariable, HasConstraint}

-- a name of a variable is wanted and there is none
abbrev pub IsUnknown : SessionState → List ℕ → Type 0
IsUnknown s name = HasVariable s name → ⊥

-- the line declares or adds a name that stands for something already
abbrev pub TakesName : SessionState → Line → Type 0
TakesName s (Var name domain) = HasVariable s name
TakesName s (VarIn name universe domain) = HasVariable s name ⊎ HasConstraint s name
TakesName s (Add name shape) = HasConstraint s name
TakesName s _ = ⊥

-- a name in a variable's place names no variable
abbrev pub NamesNone : SessionState → Line → Type 0
NamesNone s (Add name shape) = Any (IsUnknown s) (names_of shape)
NamesNone s (Domain name) = IsUnknown s name
NamesNone s (Why name value) = IsUnknown s name
NamesNone s (Minimal name value) = IsUnknown s name
NamesNone s (Cert name value) = IsUnknown s name
NamesNone s (Minimize name budget) = IsUnknown s name
NamesNone s _ = ⊥

-- no present constraint has the name that the line gives
abbrev pub NamesNoConstraint : SessionState → Line → Type 0
NamesNoConstraint s (Relax name) = HasConstraint s name → ⊥
NamesNoConstraint s (Enforce name) = HasConstraint s name → ⊥
NamesNoConstraint s (Retract name) = HasConstraint s name → ⊥
NamesNoConstraint s (Prefer name weight) = HasConstraint s name → ⊥
NamesNoConstraint s (PreferNone name) = HasConstraint s name → ⊥
NamesNoConstraint s _ = ⊥

-- there are as many variables as its mode allows
abbrev pub IsFullOfVariables : SessionState → Type 0
IsFullOfVariables s = most_variables s.mode ≤ length s.book.variables

-- there are as many constraints as its mode allows, or no number is left for one more
abbrev pub IsFullOfConstraints : SessionState → Type 0
IsFullOfConstraints s = (most_constraints s.mode ≤ length s.book.constraints) ⊎ (MOST_ADDED ≤ s.accepted)

-- the session is full
abbrev pub HasNoRoom : SessionState → Line → Type 0
HasNoRoom s (Var name domain) = IsFullOfVariables s
HasNoRoom s (VarIn name universe domain) = IsFullOfVariables s ⊎ IsFullOfConstraints s
HasNoRoom s (Add name shape) = IsFullOfConstraints s
HasNoRoom s _ = ⊥

-- the object that the line chooses or drops was never handed in, or was dropped
abbrev pub NamesNoObject : SessionState → Line → Type 0
NamesNoObject s (Guide number) = Contains s.guides number → ⊥
NamesNoObject s (Order number) = Contains s.orders number → ⊥
NamesNoObject s (DropGuide number) = Contains s.guides number → ⊥
NamesNoObject s (DropOrder number) = Contains s.orders number → ⊥
NamesNoObject s _ = ⊥

-- the variable with the name was not declared with the value
abbrev pub IsUndeclared : SessionState → List ℕ → ℤ → Type 0
IsUndeclared s name value = Any (λ e. (e.name ≡ name) × (Contains e.values value → ⊥)) s.book.variables

-- the line asks for a value that its variable was not declared with
abbrev pub AsksUndeclared : SessionState → Line → Type 0
AsksUndeclared s (Why name value) = IsUndeclared s name value
AsksUndeclared s (Minimal name value) = IsUndeclared s name value
AsksUndeclared s (Cert name value) = IsUndeclared s name value
AsksUndeclared s _ = ⊥

-- a present constraint has the name and is active, or is relaxed
abbrev pub HasActive : SessionState → List ℕ → Bool → Type 0
HasActive s name active = Any (λ c. (c.name ≡ name) × (c.active ≡ active)) s.book.constraints

-- what the line would change is so already, or it goes on with what does not wait
abbrev pub IsInWrongState : SessionState → Line → Type 0
IsInWrongState s (Relax name) = HasActive s name false
IsInWrongState s (Enforce name) = HasActive s name true
IsInWrongState s Pause = s.paused ≡ true
IsInWrongState s Resume = s.paused ≡ false
IsInWrongState s (Step count) = s.paused ≡ false
IsInWrongState s _ = ⊥

-- the condition of a refusal, on a line that was read
abbrev pub Meets : SessionState → Line → Refusal → Type 0
Meets s line E3 = TakesName s line
Meets s line E4 = NamesNone s line
Meets s line E5 = NamesNoConstraint s line
Meets s line E7 = IsBeyond line ⊎ HasNoRoom s line
Meets s line E11 = NamesNoObject s line
Meets s line E12 = AsksUndeclared s line
Meets s line E10 = IsInWrongState s line
Meets s line _ = ⊥

-- the order in which a session looks for refusals of a line that was read
abbrev pub in_order : List Refusal
in_order = E3 ∷ E4 ∷ E5 ∷ E7 ∷ E11 ∷ E12 ∷ E10 ∷ []

-- the refusal of a line that could not be read
abbrev pub refusal_of : LineError → Option Refusal
refusal_of Bytes = Some E1
refusal_of Form = Some E2
refusal_of OutOfRange = Some E6
refusal_of Empty = Some E9
refusal_of Repeated = Some E8
refusal_of NoMemory = None
