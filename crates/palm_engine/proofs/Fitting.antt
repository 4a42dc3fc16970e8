-- A constraint that is posted is what its id says.
use Rattle.std.proofs.Common.{◌≡◌, ℕ, ◌<◌, ◌⊎◌, ◌↔◌, List, [], ◌∷◌, All, Contains, Ok, Err, length, refl, ap}
use Rattle.std.specs.Prelude.{Result, OnOk, OnErr}
use Rattle.std.proofs.lemmas.List.Elements.{All-contains}
use Rattle.palm_base.specs.declared.terms.Cid.{Cid}
use Rattle.palm_base.specs.declared.terms.Cid.TheVariants.{User}
use Rattle.palm_base.proofs.cited.Members.{member_here}
use Rattle.palm_domain.specs.Rows.{initial_of}
use Rattle.palm_model.specs.Constraint.{scope, IsWellFormed}
use Rattle.palm_model.specs.Event.{with_posted}
use Rattle.palm_model.specs.Log.{Active, IsActive}
use Rattle.palm_model.specs.State.{AreJustifiers, FitsCid}
use Rattle.palm_model.specs.declared.constraint.Con.{Con}
use Rattle.palm_filter.specs.declared.heed.Heed.{Heed}
use Rattle.palm_agenda.specs.Agenda.{Waiting, IsFormed, marked_whole, with_connected}
use Rattle.palm_engine.specs.declared.filtering.Filtering.{Filtering}
use Rattle.palm_engine.specs.declared.posted.Posted.{Posted}
use Rattle.palm_engine.specs.declared.posted.Posted.TheVariants.{Decision, Negation, User as UserPosted}
use Rattle.palm_engine.specs.Kept.{IsEngine, IsHeededAs}
use Rattle.palm_engine.specs.Posted.{active_of, actives_of}
use Rattle.palm_engine.proofs.Keeping.{IsActivated, activated_engine, unchanged_engine}

-- what the filter of a user's constraint says of it
abbrev pub IsShapedUser : Active → Type 0
IsShapedUser a = (number : ℕ) → a.cid ≡ User number → (variables : ℕ) × IsWellFormed variables a.con

fits : {F : Type 0} (meaning : F → Con) (x : Posted F) (n : ℕ) (active : List Active) → All (λ y. y < n) (scope (active_of meaning x).con) → AreJustifiers active (active_of meaning x).justification
    → IsShapedUser (active_of meaning x) → FitsCid n active (active_of meaning x)
fits meaning (Decision p) n active declared justifiers shaped = record {
  form = (p.value, refl, All-contains (λ y. y < n) (p.var ∷ []) p.var declared (member_here p.var []), refl);
}
fits meaning (Negation p justification) n active declared justifiers shaped = record {
  form = (refl, All-contains (λ y. y < n) (p.var ∷ []) p.var declared (member_here p.var []), justifiers);
}
fits meaning (UserPosted number f) n active declared justifiers shaped =
    let formed = (shaped number refl).1 in
    record { form = (record { declared = declared; distinct = formed.distinct; some = formed.some; few = formed.few; shaped = formed.shaped }, refl) }

-- the clauses of a posting that succeeded
pub activated : {F E : Type 0} (meaning : F → Con) (f : Filtering) (w : Waiting) (x : Posted F) (xs ys : List (Posted F)) (r : Result (Unit {0}) E)
    → All (λ y. y < length (initial_of f.store)) (scope (active_of meaning x).con) → AreJustifiers (actives_of meaning xs) (active_of meaning x).justification
    → OnOk r (actives_of meaning ys ≡ with_posted (active_of meaning x) (actives_of meaning xs))
    → OnOk r ((heeds : List Heed) × IsHeededAs (active_of meaning x) heeds × (w.connected ≡ with_connected (marked_whole (active_of meaning x).cid (scope (active_of meaning x).con) heeds) f.agenda.connected))
    → OnOk r ((c : Cid) → Contains w.pending c ↔ (Contains f.agenda.pending c ⊎ (c ≡ (active_of meaning x).cid)))
    → OnOk r (IsFormed w) → OnOk r (IsShapedUser (active_of meaning x))
    → OnOk r (IsActivated f w (active_of meaning x) (actives_of meaning xs) (actives_of meaning ys))
activated meaning f w x xs ys (Ok u) declared justifiers active connected pending formed shaped = record {
  fits = fits meaning x (length (initial_of f.store)) (actives_of meaning xs) declared justifiers shaped;
  posted = active;
  connected = connected;
  pending = pending;
  formed = formed;
}
activated meaning f w x xs ys (Err e) declared justifiers active connected pending formed shaped = tt

pub engine_or_unchanged : {F E : Type 0} (meaning : F → Con) (f : Filtering) (w : Waiting) (x : Posted F) (xs ys : List (Posted F)) (r : Result (Unit {0}) E)
    → (IsActive (actives_of meaning xs) (active_of meaning x).cid → ⊥) → IsEngine f (actives_of meaning xs)
    → OnOk r (IsActivated f w (active_of meaning x) (actives_of meaning xs) (actives_of meaning ys)) → OnErr r ((ys ≡ xs) × (w ≡ f.agenda))
    → IsEngine (record f { agenda = w }) (actives_of meaning ys)
engine_or_unchanged meaning f w x xs ys (Ok u) inactive engine is err = activated_engine f w (active_of meaning x) (actives_of meaning xs) (actives_of meaning ys) inactive is engine
engine_or_unchanged meaning f w x xs ys (Err e) inactive engine is err = unchanged_engine f w (actives_of meaning xs) (actives_of meaning ys) (ap (actives_of meaning) err.0) err.1 engine
