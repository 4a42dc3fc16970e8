-- Constraints of the book in the engine.
use Rattle.std.proofs.Common.{◌≡◌, ◌≢◌, ℕ, zero, suc, ◌+◌, ◌≤◌, Bool, true, false, List, [], ◌∷◌, length, Some, All, AllPairs, Contains, IfSome, Option, ◌<◌, inl, inr, refl, sym, ap, ◌∙◌, subst, arith}
use Rattle.std.specs.Prelude.{slice_get}
use Rattle.std.proofs.lemmas.Bool.{cases_lt}
use Rattle.std.proofs.lemmas.Option.{same_Some, get_or_from_slice_get, slice_get_within}
use Rattle.palm_base.proofs.cited.Members.{member_get, member_place, nat_known}
use Rattle.palm_base.specs.declared.terms.Cid.TheVariants.{User}
use Rattle.palm_model.specs.Domains.{AllAscend}
use Rattle.palm_model.specs.Log.{Active, IsActive, log_pairs}
use Rattle.palm_model.specs.State.{present}
use Rattle.palm_model.proofs.cited.Without.{ascend_without}
use Rattle.palm_book.specs.Book.{user_at}
use Rattle.palm_book.specs.declared.book.BookCon.{BookCon}
use Rattle.palm_book.proofs.cited.Any.{any_member, member_any}
use Rattle.palm_session.specs.Refusals.{HasActive}
use Rattle.palm_session.specs.Requests.{StandsAt}
use Rattle.palm_session.specs.State.{SessionState, HasConstraint, IsHeld}
use Rattle.palm_session.proofs.ActiveLists.{active_member, member_active, user_same, relaxed_inactive}

same_entry : (cs : List BookCon) (place : ℕ) (a b : BookCon) → slice_get cs place ≡ Some a → slice_get cs place ≡ Some b → a ≡ b
same_entry cs place a b one other = same_Some a b (sym one ∙ other)

-- what stands at a place is active or relaxed
pub stands_as : (s : SessionState) (place : ℕ) (active : Bool) (c : BookCon) → StandsAt s place active → slice_get s.book.constraints place ≡ Some c → c.active ≡ active
stands_as s place active c stands at =
    ap (λ (x : BookCon). x.active) (same_entry s.book.constraints place c stands.constraint at stands.at) ∙ stands.is

module _ (s : SessionState) (is : IsHeld s) (place : ℕ) (c : BookCon) (at : slice_get s.book.constraints place ≡ Some c) where
  pub stands_active : c.active ≡ true → IsActive s.engine.active (User c.number)
  stands_active on =
      subst (λ (l : List Active). IsActive l (User c.number)) (sym is.active)
      (record { owner = user_at c; posted = member_active s.book c (member_get s.book.constraints place c at) on; named = refl })

  pub stands_inactive : c.active ≡ false → IsActive s.engine.active (User c.number) → ⊥
  stands_inactive off active =
      relaxed_inactive s.book is.book place c at off (subst (λ (l : List Active). IsActive l (User c.number)) is.active active)

numbered_below : (s : SessionState) (c : BookCon) → All (λ (d : BookCon). d.number ≤ s.accepted) s.book.constraints → Contains s.book.constraints c → c.number ≤ s.accepted
numbered_below s c all m = subst (λ (d : BookCon). d.number ≤ s.accepted) m.2 (all m.0 c m.1)

-- no constraint has the next number yet
pub next_inactive : (s : SessionState) → IsHeld s → IsActive s.engine.active (User (s.accepted + 1)) → ⊥
next_inactive s is active =
    let here = subst (λ (l : List Active). IsActive l (User (s.accepted + 1))) is.active active in
    let r = active_member s.book here.owner here.posted in
    let e : r.0.number ≡ s.accepted + 1 = user_same r.0.number (s.accepted + 1) (ap (λ (x : Active). x.cid) r.3 ∙ here.named) in
    omega (arith, e, numbered_below s r.0 is.numbered r.1)

-- ---- the constraint with a name

module _ (s : SessionState) (name : List ℕ) (place : ℕ) (c : BookCon) (at : slice_get s.book.constraints place ≡ Some c) (named : c.name ≡ name) where
  pub has_constraint : HasConstraint s name
  has_constraint = any_member (λ (d : BookCon). d.name ≡ name) s.book.constraints c (member_get s.book.constraints place c at) named

  pub has_active : (active : Bool) → c.active ≡ active → HasActive s name active
  has_active active is = any_member (λ (d : BookCon). (d.name ≡ name) × (d.active ≡ active)) s.book.constraints c (member_get s.book.constraints place c at) (named, is)

apart_names : (cs : List BookCon) → AllPairs (λ c d. c.name ≢ d.name) cs → (i j : ℕ) (c d : BookCon) → slice_get cs i ≡ Some c → slice_get cs j ≡ Some d → i < j → c.name ≡ d.name → ⊥
apart_names cs pairs i j c d at there lt same =
    pairs i j c lt (slice_get_within cs j d there)
    (ap (λ (x : BookCon). x.name) (get_or_from_slice_get cs i c c at) ∙ same ∙ sym (ap (λ (x : BookCon). x.name) (get_or_from_slice_get cs j d c there)))

-- two places with one name are one place
one_name : (s : SessionState) → IsHeld s → (i j : ℕ) (c d : BookCon) → slice_get s.book.constraints i ≡ Some c → slice_get s.book.constraints j ≡ Some d → c.name ≡ d.name → c ≡ d
one_name s is i j c d at there same = elim (nat_known i j) [
  | inl eq ↦ same_entry s.book.constraints j c d (subst (λ (k : ℕ). slice_get s.book.constraints k ≡ Some c) eq at) there
  | inr ne ↦ elim (cases_lt i j) [
    | inl lt ↦ absurd (apart_names s.book.constraints is.book.different_constraints i j c d at there lt same)
    | inr ge ↦ absurd (apart_names s.book.constraints is.book.different_constraints j i d c there at (omega (arith, ne, ge)) (sym same))
  ]
]

-- the constraint with the name is not the other way
pub not_active : (s : SessionState) → IsHeld s → (name : List ℕ) (place : ℕ) (c : BookCon) → slice_get s.book.constraints place ≡ Some c → c.name ≡ name
    → (active : Bool) → (c.active ≡ active → ⊥) → HasActive s name active → ⊥
not_active s is name place c at named active not has =
    let m = member_any (λ (d : BookCon). (d.name ≡ name) × (d.active ≡ active)) s.book.constraints has in
    let p = member_place s.book.constraints m.0 m.1 in
    not (ap (λ (x : BookCon). x.active) (one_name s is place p.0 c m.0 at p.1 (named ∙ sym m.2.0)) ∙ m.2.1)

-- ---- lines that name a constraint

-- the constraint at a place that was found by its name
pub found_name : (s : SessionState) (place : ℕ) (name : List ℕ) (c : BookCon) → IfSome (slice_get s.book.constraints place) (λ d. d.name ≡ name) → slice_get s.book.constraints place ≡ Some c → c.name ≡ name
found_name s place name c found at = subst (λ (o : Option BookCon). IfSome o (λ d. d.name ≡ name)) at found

-- there is a constraint at each place
pub some_entry : (cs : List BookCon) (place : ℕ) → place < length cs → (c : BookCon) × (slice_get cs place ≡ Some c)
some_entry [] place lt = absurd (omega (arith, lt))
some_entry (c ∷ cs) zero lt = (c, refl)
some_entry (c ∷ cs) (suc place) lt = some_entry cs place (omega (arith, lt))

-- the present values of each variable ascend
pub present_ascends : (s : SessionState) → IsHeld s → AllAscend (present s.engine)
present_ascends s is = ascend_without s.engine.initial (log_pairs s.engine.log) is.valid.ascend
