-- The state of an engine, and when it is valid.
use Rattle.std.specs.Prelude.{◌≡◌, ℕ, ℤ, ⊤, ◌<◌, Bool, true, false, not, ◌||◌, List, [], ◌∷◌, length, filter, Contains, nat_eq}
use Rattle.std.specs.List.{list_any}
use Rattle.palm_base.specs.declared.terms.Pair.{Pair}
use Rattle.palm_base.specs.declared.terms.Cid.{Cid}
use Rattle.palm_base.specs.declared.terms.Cid.TheVariants.{Decide, Not, User}
use Rattle.palm_model.specs.Domains.{Domains, AllAscend, values_of, without}
use Rattle.palm_model.specs.Constraint.{scope, IsWellFormed}
use Rattle.palm_model.specs.Closure.{IsClosedBy}
use Rattle.palm_base.specs.Order.{Rises}
use Rattle.palm_model.specs.Log.{Active, IsActive, Removal, IsWellFounded, cids_of, log_pairs, is_named}
use Rattle.palm_model.specs.declared.constraint.Con.{Con}
use Rattle.palm_model.specs.declared.constraint.Con.TheVariants.{CompareConst}
use Rattle.palm_model.specs.declared.constraint.Op.TheVariants.{Eq, Ne}

-- the declared values, the active constraints by rising id, the removals so far with the oldest first, and the
-- ids of those active constraints that may not be closed
pub record EngineState : Type 0 where
  pub initial : Domains
  pub active : List Active
  pub log : List Removal
  pub pending : List Cid

-- the present domains
abbrev pub present : EngineState → Domains
present s = without s.initial (log_pairs s.log)

-- the state without constraints
abbrev pub blank : Domains → EngineState
blank initial = record { initial = initial; active = []; log = []; pending = [] }

-- ---- empty domains

-- the variable exists and has no value
pub record IsEmptyAt (d : Domains) (x : ℕ) : Type 0 where
  pub exists : x < length d
  pub empty : values_of d x ≡ []

-- some domain is empty
abbrev pub HasEmpty : Domains → Type 0
HasEmpty d = (x : ℕ) × IsEmptyAt d x

-- no domain is empty
abbrev pub AllFilled : Domains → Type 0
AllFilled d = (x : ℕ) → x < length d → 0 < length (values_of d x)

-- ---- pending constraints

-- whether the constraint is over the variable
abbrev pub is_over : Con → ℕ → Bool
is_over c x = list_any (λ y. nat_eq y x) (scope c)

-- the ids of the active constraints that pass the test
abbrev pub cids_where : (Active → Bool) → List Active → List Cid
cids_where test active = cids_of (filter test active)

-- whether the constraint was pending, or is over one of the variables
abbrev pub is_awake : List Cid → List ℕ → Active → Bool
is_awake pending vars a = is_named pending a.cid || list_any (λ x. is_over a.con x) vars

-- the pending ones among the active constraints, and those over one of the variables
abbrev pub woken : List Active → List Cid → List ℕ → List Cid
woken active pending vars = cids_where (is_awake pending vars) active

-- the ids but one
abbrev pub without_cid : Cid → List Cid → List Cid
without_cid cid cids = filter (λ c. not (is_named (cid ∷ []) c)) cids

-- ---- forms

-- a decision or a user's constraint
abbrev pub IsJustifier : Cid → Type 0
IsJustifier (Decide x) = ⊤
IsJustifier (Not p) = ⊥
IsJustifier (User n) = ⊤

-- whether the id is a user's
abbrev pub is_user : Cid → Bool
is_user (Decide x) = false
is_user (Not p) = false
is_user (User n) = true

-- active users' constraints and decisions
abbrev pub AreJustifiers : List Active → List Cid → Type 0
AreJustifiers active justification = (c : Cid) → Contains justification c → IsJustifier c × IsActive active c

-- the decision that the variable of a pair has its value, and the negation that the pair does not hold, for these justifiers
abbrev pub decision_of : Pair → Active
decision_of p = record { cid = Decide p.var; con = CompareConst p.var Eq p.value; justification = [] }

abbrev pub negation_of : Pair → List Cid → Active
negation_of p justification = record { cid = Not p; con = CompareConst p.var Ne p.value; justification = justification }

-- the constraint of a user under its number
abbrev pub user_of : ℕ → Con → Active
user_of number con = record { cid = User number; con = con; justification = [] }

-- what a constraint under this id is: a decision says that its variable has a value, a negation that its pair does
-- not hold, for justifiers that are active; the constraint of a user is well formed. All are over declared variables
abbrev pub IsOfForm : ℕ → List Active → Cid → Con → List Cid → Type 0
IsOfForm variables active (Decide x) con justification = (v : ℤ) × (con ≡ CompareConst x Eq v) × (x < variables) × (justification ≡ [])
IsOfForm variables active (Not p) con justification = (con ≡ CompareConst p.var Ne p.value) × (p.var < variables) × AreJustifiers active justification
IsOfForm variables active (User n) con justification = IsWellFormed variables con × (justification ≡ [])

-- the active constraint is what its id says
pub record FitsCid (variables : ℕ) (active : List Active) (a : Active) : Type 0 where
  pub form : IsOfForm variables active a.cid a.con a.justification

-- ---- validity

-- the log is well founded with active constraints, and each active constraint that is not pending is closed in the
-- present domains; the lists are in order
pub record IsValid (s : EngineState) : Type 0 where
  pub ascend : AllAscend s.initial
  pub rising : Rises (cids_of s.active)
  pub formed : (a : Active) → Contains s.active a → FitsCid (length s.initial) s.active a
  pub founded : IsWellFounded s.initial s.active s.log
  pub waiting : s.pending ≡ woken s.active s.pending []
  pub closed : (a : Active) → Contains s.active a → (Contains s.pending a.cid → ⊥) → IsClosedBy a.con (present s)

-- nothing is pending, and no domain is empty
pub record IsSettled (s : EngineState) : Type 0 where
  pub quiet : s.pending ≡ []
  pub filled : AllFilled (present s)
