-- What a repair keeps beside the search, as its calls see it, and what they do to it.
use Rattle.std.specs.Prelude.{◌≡◌, ℕ, ℤ, ◌<◌, ◌≤◌, Bool, false, not, Option, None, Some, List, [], ◌∷◌, filter, Contains, slice_get}
use Rattle.std.specs.Ordering.{int_eq}
use Rattle.palm_base.specs.declared.terms.Pair.{Pair}
use Rattle.palm_base.specs.declared.terms.Cid.{Cid}
use Rattle.palm_base.specs.declared.terms.Cid.TheVariants.{Decide, Not}
use Rattle.palm_model.specs.Domains.{Has}
use Rattle.palm_model.specs.Log.{IsActive}
use Rattle.palm_model.specs.State.{EngineState, AreJustifiers, negation_of}
use Rattle.palm_model.specs.Event.{Posts}
use Rattle.palm_repair.specs.Posting.{Nogood, Origin, RepairState, justification}
use Rattle.palm_repair.specs.Repair.{weight_of}

-- the listed nogoods with the oldest first, where the active negations come from, a weight for each variable, and how
-- many nogoods were dropped
pub record LearnedView : Type 0 where
  pub nogoods : List Nogood
  pub origins : List Origin
  pub weights : List ℕ
  pub dropped : ℕ

-- an engine with the decisions of a search, and what the repair keeps beside it
abbrev pub repair_state : EngineState → List Pair → LearnedView → RepairState
repair_state engine decisions learned = record {
  search = record { engine = engine; decisions = decisions };
  nogoods = learned.nogoods;
  origins = learned.origins;
  weights = learned.weights;
  dropped = learned.dropped;
}

-- ---- decided values

-- the value that a variable is decided to have, if any, stands at its place
pub record ShowsDecisions (decisions : List Pair) (values : List (Option ℤ)) : Type 0 where
  pub shown : (p : Pair) → Contains decisions p → slice_get values p.var ≡ Some (Some p.value)
  pub decided : (p : Pair) → slice_get values p.var ≡ Some (Some p.value) → Contains decisions p

-- whether this value stands there
abbrev pub is_value : Option (Option ℤ) → ℤ → Bool
is_value None w = false
is_value (Some None) w = false
is_value (Some (Some v)) w = int_eq v w

-- whether the pair is decided, by these values
abbrev pub is_shown : List (Option ℤ) → Pair → Bool
is_shown values p = is_value (slice_get values p.var) p.value

-- the pairs of the nogood that are not decided, by these values
abbrev pub left_open : List (Option ℤ) → Nogood → List Pair
left_open values nogood = filter (λ p. not (is_shown values p)) nogood.pairs

-- the one pair, or none
abbrev pub listed_pair : Option Pair → List Pair
listed_pair None = []
listed_pair (Some p) = p ∷ []

-- ---- posting for one nogood

-- the negation of the pair may be posted for the nogood where it is not active
pub record IsForced (s : EngineState) (nogood : Nogood) (p : Pair) : Type 0 where
  pub declared : Has s.initial p.var p.value
  pub justifiers : AreJustifiers s.active (justification nogood p)

-- the negation of the only undecided pair is posted, or nothing happens: there is no such pair, or its negation is active
abbrev pub Forces : Nogood → List Pair → EngineState → EngineState → Option Pair → Type 0
Forces nogood left s t None = ((p : Pair) → left ≡ p ∷ [] → IsActive s.active (Not p)) × (t ≡ s)
Forces nogood left s t (Some p) = (left ≡ p ∷ []) × Posts s (negation_of p (justification nogood p)) t

-- ---- the heaviest decision

-- the decision at the place is the heaviest among the ids, the latest one of several
pub record IsHeaviestAt (weights : List ℕ) (decisions : List Pair) (cids : List Cid) (place : ℕ) : Type 0 where
  pub pair : Pair
  pub stands : slice_get decisions place ≡ Some pair
  pub held : Contains cids (Decide pair.var)
  pub heaviest : (k : ℕ) (p : Pair) → k < place → slice_get decisions k ≡ Some p → Contains cids (Decide p.var) → weight_of weights p.var ≤ weight_of weights pair.var
  pub latest : (k : ℕ) (p : Pair) → place < k → slice_get decisions k ≡ Some p → Contains cids (Decide p.var) → weight_of weights p.var < weight_of weights pair.var
