-- What an engine with the book's variables and active constraints has removed is of the book.
use Rattle.std.proofs.Common.{◌≡◌, ◌<◌, ℕ, Some, option_map, List, [], ◌∷◌, ◌++◌, length, map, filter, flat_map, All, Contains, inl, inr, refl, sym, ap, ◌∙◌, subst, append-nil}
use Rattle.std.specs.Prelude.{slice_get}
use Rattle.std.proofs.lemmas.List.Elements.{All-contains}
use Rattle.std.proofs.lemmas.Option.{get_or_from_slice_get, same_Some, slice_get-map}
use Rattle.std.proofs.lemmas.List.{length-map}
use Rattle.palm_base.specs.declared.terms.Pair.{Pair}
use Rattle.palm_base.specs.declared.terms.Cid.{Cid}
use Rattle.palm_base.specs.declared.terms.Cid.TheVariants.{Decide, Not, User}
use Rattle.palm_base.proofs.cited.Members.{member_nil, member_cases, member_get, member_unmap, filter_member, all_members}
use Rattle.palm_model.specs.Domains.{Domains, Has}
use Rattle.palm_model.specs.Log.{Active, IsActive, Removal, AreRight, log_pairs}
use Rattle.palm_model.specs.Log.Names.{by_itself}
use Rattle.palm_model.specs.State.{EngineState, IsValid}
use Rattle.palm_model.proofs.cited.Narrowing.{has_declared}
use Rattle.palm_model.proofs.cited.Without.{length_without}
use Rattle.palm_book.specs.Book.{Contents, BookVar, IsUser, active_of, initial_of, user_at}
use Rattle.palm_explain.specs.Explanations.{log_bys, reasons_of}
use Rattle.palm_book.specs.declared.book.BookCon.{BookCon}
use Rattle.palm_book.proofs.cited.Any.{any_member}
use Rattle.palm_claim.specs.declared.verdict.Claim.{Claim}
use Rattle.palm_claim.specs.declared.verdict.Claim.TheVariants.{Gone, Conflict}
use Rattle.palm_events.proofs.cited.Conflicts.{cids_active}
use Rattle.palm_cert.specs.Certificate.{claim_var}
use Rattle.palm_cert.specs.Needs.{CanClaim, IsNumbered, IsOfBook, removals_at}
use Rattle.palm_cert.proofs.cited.Links.{pair_removal}
use Rattle.palm_cert.proofs.cited.Numbers.{pair_at}
use Rattle.palm_cert.proofs.cited.Stepped.{one_at}
pub use Rattle.palm_claim.proofs.cited.ProvedSteps.{some_at as some_removal}

-- an active constraint of the book is one of its constraints
pub owner_of : (book : Contents) (a : Active) → Contains (active_of book) a → (c : BookCon) × Contains book.constraints c × (user_at c ≡ a)
owner_of book a m =
    let r = member_unmap user_at (filter (λ (c : BookCon). c.active) book.constraints) a m in
    (r.0, (filter_member (λ (c : BookCon). c.active) book.constraints r.0 r.1).0, r.2)

pub active_user : (book : Contents) (c : Cid) → IsActive (active_of book) c → IsUser book c
active_user book c active =
    let r = owner_of book active.owner active.posted in
    let e : User r.0.number ≡ c = ap (λ (a : Active). a.cid) r.2 ∙ active.named in
    subst (IsUser book) e (any_member (λ (d : BookCon). d.number ≡ r.0.number) book.constraints r.0 r.1 refl)

pub user_numbered : (book : Contents) (c : Cid) → IsUser book c → IsNumbered c
user_numbered book (Decide x) user = user
user_numbered book (Not p) user = user
user_numbered book (User n) user = tt

-- ---- the removal at a place

pub by_of : (log : List Removal) (place : ℕ) (r : Removal) (by : Cid) → slice_get log place ≡ Some r → slice_get (log_bys log) place ≡ Some by → r.by ≡ by
by_of log place r by at there = same_Some r.by by (sym (slice_get-map (λ (s : Removal). s.by) log place ∙ ap (option_map (λ (s : Removal). s.by)) at) ∙ there)

pub reasons_at : (log : List Removal) (place : ℕ) (r : Removal) → slice_get log place ≡ Some r → reasons_of log place ≡ r.reasons
reasons_at log place r at =
    get_or_from_slice_get (map (λ (s : Removal). s.reasons) log) place r.reasons [] (slice_get-map (λ (s : Removal). s.reasons) log place ∙ ap (option_map (λ (s : Removal). s.reasons)) at)

pair_of : (log : List Removal) (place : ℕ) (r : Removal) (p : Pair) → slice_get log place ≡ Some r → slice_get (log_pairs log) place ≡ Some p → r.pair ≡ p
pair_of log place r p at there = same_Some r.pair p (sym (pair_at log place r at) ∙ there)

-- its text, by what is read there
pub text_read : (f : Pair → Cid → List Pair → List ℕ) (log : List Removal) (place : ℕ) (pair : Pair) (by : Cid) → place < length log → slice_get (log_pairs log) place ≡ Some pair → slice_get (log_bys log) place ≡ Some by
    → f pair by (reasons_of log place) ≡ flat_map (λ r. f r.pair r.by r.reasons) (removals_at log (place ∷ []))
text_read f log place pair by lt there named =
    let r = some_removal log place lt in
    ap (λ (p : Pair). f p by (reasons_of log place)) (sym (pair_of log place r.0 pair r.1 there)) ∙ ap (λ (c : Cid). f r.0.pair c (reasons_of log place)) (sym (by_of log place r.0 by r.1 named))
    ∙ ap (λ (ps : List Pair). f r.0.pair r.0.by ps) (reasons_at log place r.0 r.1)
    ∙ sym (ap (λ (rs : List Removal). flat_map (λ (s : Removal). f s.pair s.by s.reasons) rs) (one_at log place r.0 r.1) ∙ append-nil (f r.0.pair r.0.by r.0.reasons))

module _ (book : Contents) (By : Cid → Type 0) (log : List Removal) (logged : All (IsOfBook book By) log) (place : ℕ) (lt : place < length log) where
  at_place : IsOfBook book By (some_removal log place lt).0
  at_place = All-contains (IsOfBook book By) log (some_removal log place lt).0 logged (member_get log place (some_removal log place lt).0 (some_removal log place lt).1)

  pub by_at_place : (by : Cid) → slice_get (log_bys log) place ≡ Some by → By by
  by_at_place by there =
      let r = some_removal log place lt in
      subst By (by_of log place r.0 by r.1 there) at_place.by

  pub variable_at : (p : Pair) → slice_get (log_pairs log) place ≡ Some p → p.var < length book.variables
  variable_at p there =
      let r = some_removal log place lt in
      subst (λ (q : Pair). q.var < length book.variables) (pair_of log place r.0 p r.1 there) at_place.variable

-- ---- the whole log

pub declared_from : (initial : Domains) (active : List Active) (earlier rest : List Removal) → AreRight initial active earlier rest → (r : Removal) → Contains rest r → Has initial r.pair.var r.pair.value
declared_from initial active earlier [] right r m = absurd (member_nil r m)
declared_from initial active earlier (s ∷ rest) right r m = elim (member_cases s rest r m) [
  | inl e ↦ subst (λ (z : Removal). Has initial z.pair.var z.pair.value) e right.0.declared
  | inr k ↦ declared_from initial active (earlier ++ s ∷ []) rest right.1 r k
]

-- what was removed from the book's values was declared
pub removed_has : (s : EngineState) (book : Contents) → IsValid s → s.initial ≡ initial_of book → (p : Pair) → Contains (log_pairs s.log) p → Has (initial_of book) p.var p.value
removed_has s book valid initial p m =
    let r = pair_removal s.log p m in
    subst (λ (d : Domains). Has d p.var p.value) initial
    (subst (λ (q : Pair). Has s.initial q.var q.value) r.2 (declared_from s.initial s.active [] s.log valid.founded r.0 r.1))

-- domains of the book's variables
pub as_long : (d : Domains) (book : Contents) → d ≡ initial_of book → length d ≡ length book.variables
as_long d book e = ap (λ (f : Domains). length f) e ∙ length-map book.variables (λ (v : BookVar). v.values)

-- the state has the variables of the book
module _ (s : EngineState) (book : Contents) (valid : IsValid s) (initial : s.initial ≡ initial_of book) where
  -- where what is active is named so
  pub log_of_book : (By : Cid → Type 0) → ((c : Cid) → IsActive s.active c → By c) → All (IsOfBook book By) s.log
  log_of_book By named = all_members (IsOfBook book By) s.log (λ r m. record {
    variable = subst (λ (n : ℕ). r.pair.var < n) (as_long s.initial book initial) (has_declared s.initial r.pair.var r.pair.value (declared_from s.initial s.active [] s.log valid.founded r m));
    by = named r.by (cids_active s.initial s.active s.log r.by valid.founded r m (by_itself r refl));
  })

-- and the active constraints
module _ (s : EngineState) (book : Contents) (valid : IsValid s) (initial : s.initial ≡ initial_of book) (active : s.active ≡ active_of book) where
  pub users_logged : All (IsOfBook book (IsUser book)) s.log
  users_logged = log_of_book s book valid initial (IsUser book) (λ c is. active_user book c (subst (λ (l : List Active). IsActive l c) active is))

  -- the claim is about a variable of the book
  pub claim_declared : (claim : Claim) → CanClaim s claim → claim_var claim < length book.variables
  claim_declared (Gone pair) can =
      let r = pair_removal s.log pair can in
      subst (λ (q : Pair). q.var < length book.variables) r.2 (All-contains (IsOfBook book (IsUser book)) s.log r.0 users_logged r.1).variable
  claim_declared (Conflict x) can = subst (λ (n : ℕ). x < n) (length_without s.initial (log_pairs s.log) ∙ as_long s.initial book initial) can.exists
