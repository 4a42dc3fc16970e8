-- What the constraints of a minimal set have together, and when it may be asked for.
use Rattle.std.specs.Prelude.{⊤, List, Contains}
use Rattle.palm_base.specs.declared.terms.Cid.{Cid}
use Rattle.palm_model.specs.Domains.{Domains, Has}
use Rattle.palm_model.specs.Closure.{Explains, IsConflict}
use Rattle.palm_base.specs.Order.{Rises}
use Rattle.palm_model.specs.Log.{Active, Named}
use Rattle.palm_model.specs.Minimal.{AreConflict, DoExplain}
use Rattle.palm_reduce.specs.declared.property.Property.{Property}
use Rattle.palm_reduce.specs.declared.property.Property.TheVariants.{Conflict, Absence}

-- the constraints have the property
abbrev pub HasProperty : Property → Domains → List Active → Type 0
HasProperty Conflict initial active = AreConflict initial active
HasProperty (Absence pair) initial active = DoExplain initial pair active

-- the absence of a pair is asked for where the pair is declared and the constraints are no conflict
abbrev pub MayBeAsked : Property → Domains → List Active → Type 0
MayBeAsked Conflict initial active = ⊤
MayBeAsked (Absence pair) initial active = Has initial pair.var pair.value × (AreConflict initial active → ⊥)

-- those under the ids have the property by themselves
abbrev pub HaveAlone : Property → Domains → List Active → List Cid → Type 0
HaveAlone Conflict initial active cids = IsConflict initial (Named active (Contains cids))
HaveAlone (Absence pair) initial active cids = Explains initial (Named active (Contains cids)) pair.var pair.value

-- the ids rise, and those under them have the property by themselves
pub record IsCore (property : Property) (initial : Domains) (active : List Active) (cids : List Cid) : Type 0 where
  pub rising : Rises cids
  pub alone : HaveAlone property initial active cids
