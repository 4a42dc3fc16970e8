-- Lists of ids, active constraints, removals, logs of them, and what a removal names.
use Rattle.std.specs.Prelude.{◌≡◌, ⊤, Bool, List, [], ◌∷◌, ◌++◌, map, Contains}
use Rattle.std.specs.List.{list_any}
use Rattle.palm_base.specs.Order.{Rises, same_cid}
use Rattle.palm_base.specs.declared.terms.Pair.{Pair}
use Rattle.palm_base.specs.declared.terms.Cid.{Cid}
use Rattle.palm_model.specs.Domains.{Domains, Has, without}
use Rattle.palm_model.specs.Support.{LacksSupport}
use Rattle.palm_model.specs.declared.constraint.Con.{Con}

-- ---- ids

-- whether the id is among the ids
abbrev pub is_named : List Cid → Cid → Bool
is_named cids cid = list_any (λ c. same_cid c cid) cids

-- the list holds exactly the ids with the property, by rising id and each once
pub record IsListOf (P : Cid → Type 0) (cids : List Cid) : Type 0 where
  pub rising : Rises cids
  pub sound : (c : Cid) → Contains cids c → P c
  pub whole : (c : Cid) → P c → Contains cids c

-- ---- active constraints

-- a constraint under its id; a negation has its justification, and the others have none
pub record Active : Type 0 where
  pub cid : Cid
  pub con : Con
  pub justification : List Cid

-- the ids of active constraints
abbrev pub cids_of : List Active → List Cid
cids_of active = map (λ a. a.cid) active

-- the constraints themselves
abbrev pub cons_of : List Active → List Con
cons_of active = map (λ a. a.con) active

-- an active constraint has the id
pub record IsActive (active : List Active) (cid : Cid) : Type 0 where
  pub owner : Active
  pub posted : Contains active owner
  pub named : owner.cid ≡ cid

-- the constraints of those active ones whose ids have the property
pub record Named (active : List Active) (P : Cid → Type 0) (c : Con) : Type 0 where
  pub owner : Active
  pub posted : Contains active owner
  pub is : owner.con ≡ c
  pub named : P owner.cid

-- ---- logs

-- a pair that was taken out, the id of the constraint that did it, and the pairs for which it did
pub record Removal : Type 0 where
  pub pair : Pair
  pub by : Cid
  pub reasons : List Pair

-- the pairs of a log
abbrev pub log_pairs : List Removal → List Pair
log_pairs log = map (λ r. r.pair) log

-- what a log may hold after the earlier removals: a declared pair that is not among theirs, for reasons that are,
-- taken out by an active constraint in which it lacks support as soon as the reasons are gone
pub record IsRight (initial : Domains) (active : List Active) (earlier : List Removal) (r : Removal) : Type 0 where
  pub owner : Active
  pub posted : Contains active owner
  pub named : owner.cid ≡ r.by
  pub declared : Has initial r.pair.var r.pair.value
  pub fresh : Contains (log_pairs earlier) r.pair → ⊥
  pub reasons : (p : Pair) → Contains r.reasons p → Contains (log_pairs earlier) p
  pub lacks : LacksSupport (without initial r.reasons) owner.con r.pair.var r.pair.value

-- each of the removals is right after the earlier ones and those before it
abbrev pub AreRight : Domains → List Active → List Removal → List Removal → Type 0
AreRight initial active earlier [] = ⊤
AreRight initial active earlier (r ∷ rest) = IsRight initial active earlier r × AreRight initial active (earlier ++ r ∷ []) rest

-- each removal of the log, the oldest first, is right after those before it
abbrev pub IsWellFounded : Domains → List Active → List Removal → Type 0
IsWellFounded initial active log = AreRight initial active [] log

-- the explanation of the removal holds the id: its own constraint's, or one in the explanation of a reason
pub data Names (log : List Removal) (cid : Cid) : Removal → Type 0 where
  by_itself : (r : Removal) → r.by ≡ cid → Names log cid r
  by_reason : (r s : Removal) → Contains log s → Contains r.reasons s.pair → Names log cid s → Names log cid r

-- the ids in the explanation of a pair of the log
pub record NamesOfPair (log : List Removal) (pair : Pair) (cid : Cid) : Type 0 where
  pub removal : Removal
  pub logged : Contains log removal
  pub is : removal.pair ≡ pair
  pub names : Names log cid removal

-- the removal names one of these
pub record NamesSome (log : List Removal) (gone : List Cid) (r : Removal) : Type 0 where
  pub cid : Cid
  pub among : Contains gone cid
  pub names : Names log cid r

-- what the log loses when these ids go: exactly the removals that name one of them; the others stay, in order
pub data Loses (log : List Removal) (gone : List Cid) : List Removal → List Removal → Type 0 where
  none_left : Loses log gone [] []
  is_lost : (r : Removal) (rest left : List Removal) → NamesSome log gone r → Loses log gone rest left → Loses log gone (r ∷ rest) left
  is_kept : (r : Removal) (rest left : List Removal) → (NamesSome log gone r → ⊥) → Loses log gone rest left → Loses log gone (r ∷ rest) (r ∷ left)
