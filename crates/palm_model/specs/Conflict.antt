-- The conflict that an empty domain leaves, without the negations in it, and when a negation is justified.
use Rattle.std.specs.Prelude.{◌≡◌, ℕ, ℤ, List, Contains}
use Rattle.palm_base.specs.declared.terms.Pair.{Pair}
use Rattle.palm_base.specs.declared.terms.Cid.{Cid}
use Rattle.palm_base.specs.declared.terms.Cid.TheVariants.{Not}
use Rattle.palm_model.specs.Domains.{Domains, Assignment, Has}
use Rattle.palm_model.specs.Part.{Satisfies}
use Rattle.palm_model.specs.Closure.{IsSolution}
use Rattle.palm_model.specs.Log.{Active, Named, NamesOfPair, IsListOf}
use Rattle.palm_model.specs.State.{EngineState, IsJustifier}

-- the kept conflict of the empty variable x: the ids in the explanations of all its declared values
pub record InConflict (s : EngineState) (x : ℕ) (cid : Cid) : Type 0 where
  pub value : ℤ
  pub declared : Has s.initial x value
  pub names : NamesOfPair s.log (record { var = x; value = value }) cid

-- the ids with each negation replaced by its justification
pub data InFlat (active : List Active) (K : Cid → Type 0) (cid : Cid) : Type 0 where
  as_it_is : K cid → IsJustifier cid → InFlat active K cid
  in_place : (p : Pair) (a : Active) → K (Not p) → Contains active a → a.cid ≡ Not p → Contains a.justification cid → InFlat active K cid

-- the flat conflict of the empty variable x
abbrev pub InFlatConflict : EngineState → ℕ → Cid → Type 0
InFlatConflict s x cid = InFlat s.active (InConflict s x) cid

-- the kept and the flat conflict as lists
abbrev pub IsKeptConflict : EngineState → ℕ → List Cid → Type 0
IsKeptConflict s x cids = IsListOf (InConflict s x) cids

abbrev pub IsFlatConflict : EngineState → ℕ → List Cid → Type 0
IsFlatConflict s x cids = IsListOf (InFlatConflict s x) cids

-- every assignment inside the declared domains that satisfies the justification satisfies the constraint
abbrev pub IsJustified : Domains → List Active → Active → Type 0
IsJustified initial active a = (b : Assignment) → IsSolution initial (Named active (Contains a.justification)) b → Satisfies b a.con

-- all active negations are justified
abbrev pub AreJustified : EngineState → Type 0
AreJustified s = (a : Active) (p : Pair) → Contains s.active a → a.cid ≡ Not p → IsJustified s.initial s.active a
