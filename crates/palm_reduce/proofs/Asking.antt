-- What a settled engine tells of its constraints.
use Rattle.std.proofs.Common.{◌≡◌, ℕ, Bool, true, false, not, List, [], Contains, inl, inr, sym, subst, Option, Some, None, MatchOption, is_some}
use Rattle.palm_base.specs.Tells.{Tells}
use Rattle.palm_base.specs.declared.terms.Pair.{Pair}
use Rattle.palm_model.specs.Conflict.{InConflict}
use Rattle.palm_model.specs.Domains.{Domains, Has}
use Rattle.palm_model.specs.Log.{Active, Named, cons_of}
use Rattle.palm_model.specs.Minimal.{AreConflict, DoExplain}
use Rattle.palm_model.specs.State.{EngineState, HasEmpty, IsEmptyAt, IsValid, present}
use Rattle.palm_laws.proofs.cited.Growing.{conflict_more, conflicts_grow, explanations_grow}
use Rattle.palm_laws.proofs.cited.Reducing.{Grows}
use Rattle.palm_laws.proofs.cited.Solutions.{conflict_empty, explained_missing, missing_explained}
use Rattle.palm_events.specs.Along.{IsStill}
use Rattle.palm_events.proofs.cited.Conflicts.{kept_conflict}
use Rattle.palm_events.proofs.cited.Runs.{named_con, quiet_greatest}
use Rattle.palm_reduce.specs.Properties.{HasProperty, MayBeAsked}
use Rattle.palm_reduce.specs.Walked.{AreSame}
use Rattle.palm_reduce.specs.declared.property.Property.{Property}
use Rattle.palm_reduce.specs.declared.property.Property.TheVariants.{Conflict, Absence}

-- ---- conflicts

pub empty_conflicts : (s : EngineState) → IsValid s → HasEmpty (present s) → AreConflict s.initial s.active
empty_conflicts s valid empty =
    conflict_more s.initial (Named s.active (InConflict s empty.0)) (Contains (cons_of s.active)) (named_con s.active (InConflict s empty.0)) (kept_conflict s valid empty.0 empty.1)

pub has_empty : (s : EngineState) → IsValid s → IsStill s → AreConflict s.initial s.active → HasEmpty (present s)
has_empty s valid still conflict = elim still [
  | inl quiet ↦ let e = conflict_empty s.initial (Contains (cons_of s.active)) (present s) (quiet_greatest s valid quiet) conflict in
      (e.0, record { exists = e.1; empty = e.2 })
  | inr empty ↦ empty
]

pub tells_conflict : (s : EngineState) → IsValid s → IsStill s → (o : Option ℕ) → MatchOption o (HasEmpty (present s) → ⊥) (IsEmptyAt (present s)) → Tells (is_some o) (AreConflict s.initial s.active)
tells_conflict s valid still None none = λ conflict. none (has_empty s valid still conflict)
tells_conflict s valid still (Some x) at = empty_conflicts s valid (x, at)

-- ---- explanations

quiet_of : (s : EngineState) → IsValid s → IsStill s → (AreConflict s.initial s.active → ⊥) → s.pending ≡ []
quiet_of s valid still filled = elim still [
  | inl quiet ↦ quiet
  | inr empty ↦ absurd (filled (empty_conflicts s valid empty))
]

-- a pair whose absence the constraints explain is absent
pub explained_absent : (s : EngineState) → IsValid s → IsStill s → (p : Pair) → (AreConflict s.initial s.active → ⊥) → DoExplain s.initial p s.active → Has (present s) p.var p.value → ⊥
explained_absent s valid still p filled explains =
    explained_missing s.initial (Contains (cons_of s.active)) (present s) p.var p.value (quiet_greatest s valid (quiet_of s valid still filled)) explains

pub tells_absence : (s : EngineState) → IsValid s → IsStill s → (p : Pair) → (AreConflict s.initial s.active → ⊥) → (b : Bool) → Tells b (Has (present s) p.var p.value → ⊥) → Tells b (DoExplain s.initial p s.active)
tells_absence s valid still p filled true absent =
    missing_explained s.initial (Contains (cons_of s.active)) (present s) p.var p.value (quiet_greatest s valid (quiet_of s valid still filled)) absent
tells_absence s valid still p filled false there = λ explains. there (explained_absent s valid still p filled explains)

-- ---- the property

pub property_grows : (property : Property) (initial : Domains) → Grows (HasProperty property initial)
property_grows Conflict initial = conflicts_grow initial
property_grows (Absence pair) initial = explanations_grow initial pair

pub allowed_less : (property : Property) (initial : Domains) (active fewer : List Active) → ((a : Active) → Contains fewer a → Contains active a) → MayBeAsked property initial active → MayBeAsked property initial fewer
allowed_less Conflict initial active fewer sub allowed = tt
allowed_less (Absence pair) initial active fewer sub allowed = (allowed.0, λ conflict. allowed.1 (conflicts_grow initial fewer active sub conflict))

pub property_same : (property : Property) (initial : Domains) (xs ys : List Active) → AreSame xs ys → (b : Bool) → Tells b (HasProperty property initial xs) → Tells b (HasProperty property initial ys)
property_same property initial xs ys same true has = property_grows property initial xs ys (λ a m. (same a).0 m) has
property_same property initial xs ys same false lacks = λ has. lacks (property_grows property initial ys xs (λ a m. (same a).1 m) has)

-- ---- from the constraints of an engine to those of a book

pub allowed_at : (property : Property) (d e : Domains) (xs ys : List Active) → d ≡ e → ((a : Active) → Contains xs a → Contains ys a) → MayBeAsked property e ys → MayBeAsked property d xs
allowed_at property d e xs ys is sub allowed = subst (λ (z : Domains). MayBeAsked property z xs) (sym is) (allowed_less property e ys xs sub allowed)

pub tells_at : (property : Property) (d e : Domains) (xs ys : List Active) → d ≡ e → AreSame xs ys → (b : Bool) → Tells b (HasProperty property d xs) → Tells b (HasProperty property e ys)
tells_at property d e xs ys is same b tells = property_same property e xs ys same b (subst (λ (z : Domains). Tells b (HasProperty property z xs)) is tells)

pub tells_not : (P Q : Type 0) (b : Bool) → (P → Q) → (Q → P) → Tells b P → Tells (not b) (Q → ⊥)
tells_not P Q true to back tells = λ n. n (to tells)
tells_not P Q false to back tells = λ q. tells (back q)
