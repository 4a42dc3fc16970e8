-- How much a settling may ask.
use Rattle.std.specs.Prelude.{◌≡◌, ℕ, ◌+◌, ◌*◌, ◌<◌, ◌≤◌, ◌⊎◌, ◌&&◌, ◌++◌, if◌then◌else◌, List, [], ◌∷◌, length, filter, map, sum_by, Contains}
use Rattle.palm_base.specs.declared.terms.Pair.{Pair}
use Rattle.palm_base.specs.declared.terms.Cid.{Cid}
use Rattle.palm_model.specs.Domains.{Domains, values_of}
use Rattle.palm_model.specs.Constraint.{scope}
use Rattle.palm_model.specs.Trial.{value_count}
use Rattle.palm_model.specs.Log.{Active, Removal, is_named, log_pairs}
use Rattle.palm_model.specs.State.{EngineState, is_over, is_user, present}
use Rattle.palm_model.specs.Event.{lost_pairs, vars_of}
use Rattle.palm_model.specs.declared.constraint.Con.{Con}
use Rattle.palm_engine.specs.Settling.{Revision}

-- the sizes of the initial domains in the constraint's scope, added up: so many pairs it may be asked in a revision
abbrev pub size_of : Domains → Con → ℕ
size_of initial c = sum_by (λ x. length (values_of initial x)) (scope c)

-- the sizes of the constraints, added up
abbrev pub sizes_of : Domains → List Active → ℕ
sizes_of initial active = sum_by (λ a. size_of initial a.con) active

-- the sizes of the active constraints under these ids
abbrev pub named_sizes : EngineState → List Cid → ℕ
named_sizes s cids = sizes_of s.initial (filter (λ a. is_named cids a.cid) s.active)

-- the sizes of the active constraints over the variable
abbrev pub sizes_over : EngineState → ℕ → ℕ
sizes_over s x = sizes_of s.initial (filter (λ a. is_over a.con x) s.active)

-- what a settling from s that takes out these pairs may ask at most: all pairs of each pending constraint, and for each
-- pair that it takes out all pairs of each active constraint over the pair's variable
abbrev pub most_asked : EngineState → List Pair → ℕ
most_asked s pairs = named_sizes s s.pending + sum_by (λ p. sizes_over s p.var) pairs

-- what these revisions may ask: all pairs of the revised constraint each time
abbrev pub most_asked_in : EngineState → List Revision → ℕ
most_asked_in s rs = sum_by (λ r. named_sizes s (r.cid ∷ [])) rs

-- how often the constraint is asked for one value: a user's once, and a decision and a negation never
abbrev pub asks_of : Active → ℕ
asks_of a = if is_user a.cid then 1 else 0

-- the removals that constraints of users made
abbrev pub users_removals : List Removal → List Removal
users_removals log = filter (λ r. is_user r.by) log

-- the active constraints of users that made some of the removals
abbrev pub removers : List Active → List Removal → List Active
removers active gained = filter (λ a. is_user a.cid && is_named (map (λ r. r.by) gained) a.cid) active

-- how far a settling can still go: values times constraints, and pending ones. It falls in each revision
abbrev pub effort : EngineState → ℕ
effort s = value_count (present s) * (length s.active + 1) + length s.pending

-- a value was taken out, or the same values are left and fewer constraints are pending; either way the effort falls
pub record Falls (s t : EngineState) : Type 0 where
  pub falls : (value_count (present t) < value_count (present s)) ⊎ ((present t ≡ present s) × (length t.pending < length s.pending))
  pub effort : effort t < effort s

-- what was removed on the way from s to t, and the work that it makes
pub record IsPaid (s : EngineState) (rs : List Revision) (t : EngineState) : Type 0 where
  pub gained : List Removal
  pub log : t.log ≡ s.log ++ gained
  pub paid : most_asked_in s rs ≤ most_asked s (log_pairs gained)

-- ---- behind a withdrawal

-- each variable of which a value came back on the way from s to t is among these
abbrev pub HasRestored : EngineState → EngineState → List ℕ → Type 0
HasRestored s t vars = (x : ℕ) → Contains (vars_of (lost_pairs s.log t.log)) x → Contains vars x

-- what may be asked where values of these variables came back and these pairs are taken out: for each variable, and for each
-- pair, all pairs of each active constraint over it
abbrev pub most_asked_back : EngineState → List ℕ → List Pair → ℕ
most_asked_back s vars pairs = sum_by (sizes_over s) vars + sum_by (λ p. sizes_over s p.var) pairs

-- a settling behind a withdrawal from s to m looks at no more than it may ask, and it may ask no more than the variables of
-- which values came back, each once, and the pairs that it takes out give it to ask
pub record IsPaidBack (s m : EngineState) (rs : List Revision) (t : EngineState) : Type 0 where
  pub gained : List Removal
  pub log : t.log ≡ m.log ++ gained
  pub paid : most_asked_in m rs ≤ most_asked m (log_pairs gained)
  pub back : (vars : List ℕ) → HasRestored s m vars → most_asked m (log_pairs gained) ≤ most_asked_back m vars (log_pairs gained)
