-- What is answered of a minimal set.
use Rattle.std.specs.Prelude.{List, Option, MatchOption}
use Rattle.palm_base.specs.declared.terms.Cid.{Cid}
use Rattle.palm_model.specs.Log.{Active}
use Rattle.palm_model.specs.Minimal.{IsMinimal}

-- there is none exactly where the constraints do not have the property, and else these are the ids of their minimal set
abbrev pub TellsMinimal : (List Active → Type 0) → List Active → Option (List Cid) → Type 0
TellsMinimal has active answer = MatchOption answer (has active → ⊥) (IsMinimal has active)
