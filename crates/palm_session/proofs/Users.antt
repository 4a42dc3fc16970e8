-- The ids that explanations, conflicts and the log hold are users' constraints of the book, and their pairs are declared.
use Rattle.std.proofs.Common.{◌≡◌, ◌<◌, ℕ, List, [], ◌∷◌, ◌++◌, length, All, Contains, inl, inr, refl, ap, ◌∙◌, subst}
use Rattle.std.proofs.lemmas.List.{length-map}
use Rattle.palm_base.specs.declared.terms.Pair.{Pair}
use Rattle.palm_base.specs.declared.terms.Cid.{Cid}
use Rattle.palm_base.specs.declared.terms.Cid.TheVariants.{User}
use Rattle.palm_base.proofs.cited.Members.{member_nil, member_cases, member_unmap, all_members}
use Rattle.palm_model.specs.Domains.{Domains, Has}
use Rattle.palm_model.specs.Log.{Active, IsActive, Removal, NamesOfPair, IsListOf, AreRight}
use Rattle.palm_model.specs.Log.Names.{by_itself}
use Rattle.palm_model.proofs.cited.Narrowing.{has_declared}
use Rattle.palm_book.specs.Book.{Contents, BookVar, IsUser, active_of}
use Rattle.palm_book.specs.declared.book.BookCon.{BookCon}
use Rattle.palm_book.proofs.cited.Any.{any_member}
use Rattle.palm_events.proofs.cited.Conflicts.{cids_active}
use Rattle.palm_events.proofs.cited.Logs.{logged}
use Rattle.palm_events.proofs.cited.Undone.{reasons_logged}
use Rattle.palm_session.specs.State.{SessionState, IsHeld}
use Rattle.palm_session.specs.Answers.{HasConflict}
use Rattle.palm_session.specs.Logged.{IsLogged, AreLogged}
use Rattle.palm_session.proofs.ActiveLists.{active_member}
use Rattle.palm_session.proofs.LawsOfDomains.{explanation_active, conflict_cids_active}
use Rattle.palm_laws.proofs.cited.Reducing.{left_within}
use Rattle.palm_model.specs.Minimal.{IsMinimal}

pub active_user : (book : Contents) (c : Cid) → IsActive (active_of book) c → IsUser book c
active_user book c active =
    let r = active_member book active.owner active.posted in
    let e : User r.0.number ≡ c = ap (λ (a : Active). a.cid) r.3 ∙ active.named in
    subst (IsUser book) e (any_member (λ (d : BookCon). d.number ≡ r.0.number) book.constraints r.0 r.1 refl)

pub explanation_users : (s : SessionState) → IsHeld s → (p : Pair) (cids : List Cid) → IsListOf (NamesOfPair s.engine.log p) cids → All (IsUser s.book) cids
explanation_users s is p cids list = all_members (IsUser s.book) cids (λ c m. active_user s.book c (explanation_active s is p cids list c m))

pub conflict_users : (s : SessionState) → IsHeld s → (cids : List Cid) → HasConflict s cids → All (IsUser s.book) cids
conflict_users s is cids conflict = all_members (IsUser s.book) cids (λ c m. active_user s.book c (conflict_cids_active s is cids conflict c m))

-- ---- what the log holds is in the book

pub declared_from : (initial : Domains) (active : List Active) (earlier rest : List Removal) → AreRight initial active earlier rest → (r : Removal) → Contains rest r → Has initial r.pair.var r.pair.value
declared_from initial active earlier [] right r m = absurd (member_nil r m)
declared_from initial active earlier (s ∷ rest) right r m = elim (member_cases s rest r m) [
  | inl e ↦ subst (λ (z : Removal). Has initial z.pair.var z.pair.value) e right.0.declared
  | inr k ↦ declared_from initial active (earlier ++ s ∷ []) rest right.1 r k
]

logged_declared : (s : SessionState) → IsHeld s → (r : Removal) → Contains s.engine.log r → r.pair.var < length s.book.variables
logged_declared s is r m =
    let lt : r.pair.var < length s.engine.initial = has_declared s.engine.initial r.pair.var r.pair.value (declared_from s.engine.initial s.engine.active [] s.engine.log is.valid.founded r m) in
    subst (λ (n : ℕ). r.pair.var < n) (ap (λ (d : Domains). length d) is.initial ∙ length-map s.book.variables (λ (e : BookVar). e.values)) lt

is_logged : (s : SessionState) → IsHeld s → (r : Removal) → Contains s.engine.log r → IsLogged s.book r
is_logged s is r m = record {
  variable = logged_declared s is r m;
  user = active_user s.book r.by (subst (λ (l : List Active). IsActive l r.by) is.active (cids_active s.engine.initial s.engine.active s.engine.log r.by is.valid.founded r m (by_itself r refl)));
  reasons = all_members (λ (p : Pair). p.var < length s.book.variables) r.reasons (λ p k.
      let q = logged s.engine.log p (reasons_logged s.engine.initial s.engine.active s.engine.log is.valid.founded r m p k) in
      subst (λ (z : Pair). z.var < length s.book.variables) q.2 (logged_declared s is q.0 q.1));
}

pub are_logged : (s : SessionState) → IsHeld s → AreLogged s.book s.engine.log
are_logged s is = all_members (IsLogged s.book) s.engine.log (is_logged s is)

-- ---- minimal sets

-- the ids of a minimal set are those of active constraints
pub minimal_active : (P : List Active → Type 0) (active : List Active) (cids : List Cid) → IsMinimal P active cids → (c : Cid) → Contains cids c → IsActive active c
minimal_active P active cids minimal c m =
    let a = member_unmap (λ (a : Active). a.cid) minimal.left c (subst (λ (l : List Cid). Contains l c) minimal.named m) in
    record { owner = a.0; posted = left_within P [] active minimal.left minimal.walk a.0 a.1; named = a.2 }

pub minimal_users : (book : Contents) (P : List Active → Type 0) (cids : List Cid) → IsMinimal P (active_of book) cids → All (IsUser book) cids
minimal_users book P cids minimal = all_members (IsUser book) cids (λ c m. active_user book c (minimal_active P (active_of book) cids minimal c m))
