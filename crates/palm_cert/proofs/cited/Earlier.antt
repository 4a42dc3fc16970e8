-- A step among the others: the numbers of its reasons are those of earlier steps, and it is right behind these.
use Rattle.std.proofs.Common.{◌≡◌, ℕ, ◌+◌, ◌-◌, ◌≤◌, Some, List, [], ◌∷◌, ◌++◌, length, All, Contains, refl, sym, ap, ◌∙◌, subst, append_assoc, append-nil, arith}
use Rattle.std.specs.Prelude.{IfSome, slice_get}
use Rattle.std.proofs.lemmas.List.{get_or_append_left, length-append, length-map, map-append}
use Rattle.std.proofs.lemmas.Option.{get_or_from_slice_get, slice_get-get_or, slice_get_within}
use Rattle.palm_base.specs.declared.terms.Pair.{Pair}
use Rattle.palm_base.specs.declared.terms.Cid.{Cid}
use Rattle.palm_base.specs.declared.terms.Cid.TheVariants.{User}
use Rattle.palm_base.proofs.cited.Members.{all_members, member_map, member_place, member_same}
use Rattle.palm_book.specs.Book.{Contents, IsBook, active_of, initial_of, user_name}
use Rattle.palm_book.specs.declared.book.BookCon.{BookCon}
use Rattle.palm_book.proofs.cited.BookLemmas.{number_name_at}
use Rattle.palm_claim.specs.Step.{IsRight, pair_at, pairs_at}
use Rattle.palm_events.proofs.cited.Agreeing.{lacks_in}
use Rattle.palm_explain.specs.Explanations.{AreLinked, IsLink, IsLinked}
use Rattle.palm_model.specs.Domains.{Domains, Has, without}
use Rattle.palm_model.specs.Log.{Active, AreRight, IsWellFounded, Removal, log_pairs}
use Rattle.palm_model.specs.Log.{IsRight as IsRightRemoval}
use Rattle.palm_model.specs.State.{EngineState, IsValid}
use Rattle.palm_model.specs.Support.{LacksSupport}
use Rattle.palm_model.specs.declared.constraint.Con.{Con}
use Rattle.palm_model.proofs.cited.Without.{without_grows}
use Rattle.palm_cert.specs.Certificate.{numbers_of, steps_of}
use Rattle.palm_cert.proofs.cited.Links.{linked_apart, same_place}
use Rattle.palm_cert.proofs.cited.Logged.{owner_of}
use Rattle.palm_cert.proofs.cited.Needed.{right_linked, steps_founded}
use Rattle.palm_cert.proofs.cited.Numbers.{member_numbers, numbers_member}

-- ---- the removal between earlier and later ones

pub right_between : (initial : Domains) (active : List Active) (front earlier : List Removal) (r : Removal) (later : List Removal) → AreRight initial active front (earlier ++ r ∷ later) → IsRightRemoval initial active (front ++ earlier) r
right_between initial active front [] r later right = subst (λ (l : List Removal). IsRightRemoval initial active l r) (sym (append-nil front)) right.0
right_between initial active front (s ∷ earlier) r later right =
    subst (λ (l : List Removal). IsRightRemoval initial active l r) (append_assoc front (s ∷ []) earlier) (right_between initial active (front ++ s ∷ []) earlier r later right.1)

link_between : (front earlier : List Removal) (r : Removal) (later : List Removal) → AreLinked front (earlier ++ r ∷ later) → IsLink (front ++ earlier) r
link_between front [] r later linked = subst (λ (l : List Removal). IsLink l r) (sym (append-nil front)) linked.0
link_between front (s ∷ earlier) r later linked =
    subst (λ (l : List Removal). IsLink l r) (append_assoc front (s ∷ []) earlier) (link_between (front ++ s ∷ []) earlier r later linked.1)

module _ (earlier : List Removal) (r : Removal) (later : List Removal) (linked : IsLinked (earlier ++ r ∷ later)) where
  -- the numbers of its reasons
  abbrev reason_numbers : List ℕ
  reason_numbers = numbers_of (earlier ++ r ∷ later) r.reasons

  -- a reason has a place among the earlier removals, which is its place among all
  place_of : (p : Pair) → Contains r.reasons p → (j : ℕ) × (slice_get (log_pairs earlier) j ≡ Some p) × (slice_get (log_pairs (earlier ++ r ∷ later)) j ≡ Some p)
  place_of p m =
      let q = (link_between [] earlier r later linked).reasons p m in
      let both = log_pairs earlier ++ log_pairs (r ∷ later) in
      let whole : slice_get both q.0 ≡ Some p =
      slice_get-get_or both q.0 p (omega (arith, q.1, length-append (log_pairs earlier) (log_pairs (r ∷ later)))) ∙ ap Some (get_or_append_left (log_pairs earlier) (log_pairs (r ∷ later)) p q.0 q.1 ∙ q.2) in
      (q.0, slice_get-get_or (log_pairs earlier) q.0 p q.1 ∙ ap Some q.2, rw (map-append (λ (s : Removal). s.pair) earlier (r ∷ later)) whole)

  -- the number of a reason is below its own
  pub number_earlier : (k : ℕ) → Contains reason_numbers k → (1 ≤ k) × (k ≤ length earlier)
  number_earlier k m =
      let q = numbers_member 1 (earlier ++ r ∷ later) r.reasons k m in
      let j = place_of q.pair q.among in
      let e = same_place (log_pairs (earlier ++ r ∷ later)) (linked_apart (earlier ++ r ∷ later) linked) j.0 (k - 1) q.pair j.2 q.at in
      let lt = slice_get_within (log_pairs earlier) j.0 q.pair j.1 in
      (q.from, omega (arith, e, lt, length-map earlier (λ (s : Removal). s.pair), q.from))

  -- so are the numbers of all its reasons
  pub numbers_earlier : All (λ k. (1 ≤ k) × (k ≤ length earlier)) (numbers_of (earlier ++ r ∷ later) r.reasons)
  numbers_earlier = all_members (λ (k : ℕ). (1 ≤ k) × (k ≤ length earlier)) reason_numbers number_earlier

  -- each reason is the pair of one of these numbers
  pub reason_numbered : (p : Pair) → Contains r.reasons p → Contains (pairs_at (log_pairs earlier) reason_numbers) p
  reason_numbered p m =
      let j = place_of p m in
      let n = member_numbers 1 (earlier ++ r ∷ later) r.reasons j.0 (1 + j.0) p j.2 m refl in
      let e : j.0 ≡ (1 + j.0) - 1 = omega arith in
      member_same (pairs_at (log_pairs earlier) reason_numbers) (pair_at (log_pairs earlier) (1 + j.0)) p (rw (← e) (get_or_from_slice_get (log_pairs earlier) j.0 p _ j.1))
      (member_map (pair_at (log_pairs earlier)) reason_numbers (1 + j.0) n)

  -- ---- right in a book

  -- where the removal is right by what a constraint says, its pair lacks support in that behind the earlier ones
  pub lacks_behind : (book : Contents) (initial : Domains) (active : List Active) (right : IsRightRemoval initial active earlier r) (con : Con) → initial ≡ initial_of book → con ≡ right.owner.con
      → LacksSupport (without (initial_of book) (pairs_at (log_pairs earlier) (numbers_of (earlier ++ r ∷ later) r.reasons))) con r.pair.var r.pair.value
  lacks_behind book initial active right con same is =
      let reasons = pairs_at (log_pairs earlier) reason_numbers in
      subst (λ (d : Domains). LacksSupport (without d reasons) con r.pair.var r.pair.value) same
      (lacks_in (without initial r.reasons) (without initial reasons) con r.pair.var r.pair.value
      (λ x v over has. without_grows initial reasons r.reasons reason_numbered x v has)
      (subst (λ (c : Con). LacksSupport (without initial r.reasons) c r.pair.var r.pair.value) (sym is) right.lacks))

-- a constraint of a book stands under the name of its user's id
pub user_named : (book : Contents) → IsBook book → (c : BookCon) → Contains book.constraints c → (by : Cid) → User c.number ≡ by → c.name ≡ user_name book.constraints by
user_named book is c listed by same =
    let at = member_place book.constraints c listed in
    number_name_at book.constraints at.0 c.number c is.rising at.1 (subst (λ z. IfSome z (λ (d : BookCon). d.number ≡ c.number)) (sym at.1) refl)
    ∙ ap (λ (cid : Cid). user_name book.constraints cid) same

-- ---- the steps of an engine with the book's constraints

module _ (s : EngineState) (book : Contents) (is : IsBook book) (valid : IsValid s) (initial : s.initial ≡ initial_of book) (active : s.active ≡ active_of book)
    (pairs : List Pair) (earlier : List Removal) (r : Removal) (later : List Removal) (split : steps_of s.log pairs ≡ earlier ++ r ∷ later) where
  founded : IsWellFounded s.initial s.active (earlier ++ r ∷ later)
  founded = subst (λ (l : List Removal). IsWellFounded s.initial s.active l) split (steps_founded s.initial s.active s.log pairs valid.founded)

  linked : IsLinked (earlier ++ r ∷ later)
  linked = right_linked s.initial s.active [] (earlier ++ r ∷ later) founded

  right : IsRightRemoval s.initial s.active earlier r
  right = right_between s.initial s.active [] earlier r later founded

  pub steps_numbered : All (λ k. (1 ≤ k) × (k ≤ length earlier)) (numbers_of (earlier ++ r ∷ later) r.reasons)
  steps_numbered = numbers_earlier earlier r later linked

  -- the constraint that made the removal, among the book's, in which its pair lacks support behind the earlier steps
  pub record HasOwner : Type 0 where
    pub owner : BookCon
    pub listed : Contains book.constraints owner
    pub by : User owner.number ≡ r.by
    pub lacks : LacksSupport (without (initial_of book) (pairs_at (log_pairs earlier) (numbers_of (earlier ++ r ∷ later) r.reasons))) owner.con r.pair.var r.pair.value

  pub step_owner : HasOwner
  step_owner =
      let o = right.owner in
      let q = owner_of book o (subst (λ (l : List Active). Contains l o) active right.posted) in
      record {
        owner = q.0;
        listed = q.1;
        by = ap (λ (a : Active). a.cid) q.2 ∙ right.named;
        lacks = lacks_behind earlier r later linked book s.initial s.active right q.0.con initial (ap (λ (a : Active). a.con) q.2);
      }

  pub owner_named : (o : HasOwner) → o.owner.name ≡ user_name book.constraints r.by
  owner_named o = user_named book is o.owner o.listed r.by o.by

  pub step_right : IsRight book (log_pairs earlier) r.pair (user_name book.constraints r.by) (numbers_of (earlier ++ r ∷ later) r.reasons)
  step_right = record { owner = step_owner.owner; listed = step_owner.listed; named = owner_named step_owner; lacks = step_owner.lacks }

  -- the pair was declared
  pub step_declared : Has (initial_of book) r.pair.var r.pair.value
  step_declared = subst (λ (d : Domains). Has d r.pair.var r.pair.value) initial right.declared
