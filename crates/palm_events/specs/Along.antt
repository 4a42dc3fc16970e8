-- What is asked of the steps of a run.
use Rattle.std.specs.Prelude.{◌≡◌, ⊤, ◌⊎◌, List, [], Contains}
use Rattle.palm_base.specs.declared.terms.Pair.{Pair}
use Rattle.palm_base.specs.declared.terms.Cid.{Cid}
use Rattle.palm_base.specs.declared.terms.Cid.TheVariants.{Not}
use Rattle.palm_model.specs.Log.{Active, IsActive}
use Rattle.palm_model.specs.State.{EngineState, HasEmpty, IsJustifier, present}
use Rattle.palm_model.specs.Event.{Step}
use Rattle.palm_model.specs.Event.Event.{Post, Withdraw, Remove}
use Rattle.palm_model.specs.Event.Step.{Happens, Calm, Declare}
use Rattle.palm_model.specs.Conflict.{IsJustified}

-- the justifiers of the negations that stay are none of those that go
abbrev pub KeepsJustifiers : List Active → List Cid → Type 0
KeepsJustifiers active gone = (a : Active) → Contains active a → (Contains gone a.cid → ⊥) → (c : Cid) → Contains a.justification c → IsJustifier c → Contains gone c → ⊥

-- nothing is pending, or a domain is empty
abbrev pub IsStill : EngineState → Type 0
IsStill s = (s.pending ≡ []) ⊎ HasEmpty (present s)

-- no constraint of s has the id
abbrev pub IsNew : EngineState → Cid → Type 0
IsNew s cid = IsActive s.active cid → ⊥

-- all of these ids are none of those of s
abbrev pub AreNew : EngineState → List Cid → Type 0
AreNew s gone = (c : Cid) → Contains gone c → IsNew s c

-- no step withdraws one of the constraints of s
abbrev pub KeepsAll : EngineState → List Step → Type 0
KeepsAll s steps = (cid : Cid) → Contains steps (Happens (Withdraw cid)) → IsNew s cid

-- a removal, or a closed constraint that stops being pending: what filtering is made of
abbrev pub IsFiltering : Step → Type 0
IsFiltering (Happens (Post a)) = ⊥
IsFiltering (Happens (Withdraw cid)) = ⊥
IsFiltering (Happens (Remove a p)) = ⊤
IsFiltering (Calm a) = ⊤
IsFiltering (Declare values) = ⊥

-- where the step posts a negation, it is justified
abbrev pub IsJustifiedPosting : EngineState → Step → Type 0
IsJustifiedPosting s (Happens (Post a)) = (p : Pair) → a.cid ≡ Not p → IsJustified s.initial s.active a
IsJustifiedPosting s (Happens (Withdraw cid)) = ⊤
IsJustifiedPosting s (Happens (Remove a p)) = ⊤
IsJustifiedPosting s (Calm a) = ⊤
IsJustifiedPosting s (Declare values) = ⊤
