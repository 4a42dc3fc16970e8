-- What the constraints of an engine mean.
use Rattle.std.specs.Prelude.{ℕ, Bool, true, false, Option, None, Some, List, map, filter}
use Rattle.palm_base.specs.declared.terms.Pair.{Pair}
use Rattle.palm_base.specs.declared.terms.Cid.{Cid}
use Rattle.palm_model.specs.Log.{Active, cids_of, is_named}
use Rattle.palm_model.specs.State.{FitsCid, decision_of, negation_of, user_of}
use Rattle.palm_model.specs.declared.constraint.Con.{Con}
use Rattle.palm_engine.specs.declared.posted.Posted.{Posted}
use Rattle.palm_engine.specs.declared.posted.Posted.TheVariants.{Decision, Negation, User as UserPosted}

-- the active constraint that is posted, by what its filter means
abbrev pub active_of : {F : Type 0} → (F → Con) → Posted F → Active
active_of meaning (Decision p) = decision_of p
active_of meaning (Negation p justification) = negation_of p justification
active_of meaning (UserPosted number filter) = user_of number (meaning filter)

abbrev pub actives_of : {F : Type 0} → (F → Con) → List (Posted F) → List Active
actives_of meaning posted = map (λ p. active_of meaning p) posted

-- things, and how many more of them find room without more memory
pub record Roomy (T : Type 0) : Type 0 where
  pub items : List T
  pub room : ℕ

-- whether it is a decision
abbrev pub is_decision : {F : Type 0} → Posted F → Bool
is_decision (Decision p) = true
is_decision (Negation p justification) = false
is_decision (UserPosted number filter) = false

-- whether it is a negation
abbrev pub is_negation : {F : Type 0} → Posted F → Bool
is_negation (Decision p) = false
is_negation (Negation p justification) = true
is_negation (UserPosted number filter) = false

-- the pair of a negation
abbrev pub negated : {F : Type 0} → Posted F → Option Pair
negated (Decision p) = None
negated (Negation p justification) = Some p
negated (UserPosted number filter) = None

-- the constraint is what its id says, among some active ones
pub record IsInForm (variables : ℕ) (a : Active) : Type 0 where
  pub active : List Active
  pub fits : FitsCid variables active a

-- the ids of the constraints whose justification holds the id
abbrev pub resting_on : List Active → Cid → List Cid
resting_on active cid = cids_of (filter (λ a. is_named a.justification cid) active)
