-- The agenda knows each active constraint by its id and its scope, and how it heeds losses.
use Rattle.std.proofs.Common.{◌≡◌, ℕ, suc, Bool, true, false, not, if◌then◌else◌, nat_eq, List, [], ◌∷◌, ◌++◌, map, filter, cond, Contains, ◌⊎◌, inl, inr, Some, slice_get, eq-eqb, eqb-true, refl, sym, ap, ◌∙◌, subst}
use Rattle.std.proofs.lemmas.Bool.{false≢true}
use Rattle.std.proofs.lemmas.List.{map-append}
use Rattle.std.proofs.lemmas.List.Elements.{Contains-append_cases}
use Rattle.palm_base.specs.declared.terms.Cid.{Cid}
use Rattle.palm_base.proofs.cited.Members.{filter_member, member_cases, member_map, member_nil, member_tail, member_unmap}
use Rattle.palm_model.specs.Constraint.{scope}
use Rattle.palm_base.specs.Order.{Rises, cid_before, same_cid}
use Rattle.palm_model.specs.Log.{Active, IsActive, cids_of, is_named}
use Rattle.palm_model.specs.Event.{with_posted, without_cids}
use Rattle.palm_events.proofs.cited.Names.{single}
use Rattle.palm_events.proofs.cited.States.{with_posted_cases, without_cids_member}
use Rattle.palm_explain.specs.declared.restored.Restored.{Restored}
use Rattle.palm_filter.specs.declared.heed.Heed.{Heed}
use Rattle.palm_filter.specs.Heeds.{FitsHeed, IsHeeded}
use Rattle.palm_agenda.specs.declared.loss.Loss.{Loss}
use Rattle.palm_agenda.specs.declared.taken.Taken.{Taken}
use Rattle.palm_agenda.specs.Agenda.{Connected, IsConnected, IsOver, IsStanding, changed_at, changed_where, connected_cids, is_over, marked_whole, mark_others, mark_own, unmarked, with_connected, without_connected}
use Rattle.palm_agenda.specs.Losses.{heed_of, mark_after}
use Rattle.palm_agenda.proofs.cited.Connecting.{named_stands, stands_named}
use Rattle.palm_base.proofs.cited.RisingLists.{parted_there, rising, sorted_keys}
use Rattle.palm_base.proofs.cited.Sorted.{listed_at}
use Rattle.palm_engine.specs.Kept.{Scoped, AreConnected, AreHeeded, IsHeededAs}
use Rattle.palm_engine.specs.Changed.{widened_by}

abbrev pub scoped : Connected → Scoped
scoped d = record { cid = d.cid; scope = d.scope }

abbrev pub scoped_by : Active → Scoped
scoped_by a = record { cid = a.cid; scope = scope a.con }

-- ---- the constraint that was taken

-- their ids are the same
cids_scoped : (active : List Active) → map (λ (s : Scoped). s.cid) (map scoped_by active) ≡ cids_of active
cids_scoped [] = refl
cids_scoped (a ∷ active) = ap (λ cids. a.cid ∷ cids) (cids_scoped active)

cids_connected : (connected : List Connected) → map (λ (s : Scoped). s.cid) (map scoped connected) ≡ connected_cids connected
cids_connected [] = refl
cids_connected (d ∷ connected) = ap (λ cids. d.cid ∷ cids) (cids_connected connected)

same_cids : (active : List Active) (connected : List Connected) → AreConnected active connected → connected_cids connected ≡ cids_of active
same_cids active connected are = sym (cids_connected connected) ∙ ap (map (λ (s : Scoped). s.cid)) are ∙ cids_scoped active

-- it stands at the same place, whatever becomes of the marks
pub standing_stays : (active : List Active) (before after : List Connected) → AreConnected active before → AreConnected active after → (t : Taken) → IsStanding before t → IsStanding after t
standing_stays active before after was is t standing =
    named_stands (λ (d : Connected). d.cid) after t.at t.cid
    (subst (λ cids. slice_get cids t.at ≡ Some t.cid) (same_cids active before was ∙ sym (same_cids active after is)) (stands_named (λ (d : Connected). d.cid) before t.at t.cid standing))

-- it stands at the same place among the active ones
pub active_standing : (active : List Active) (connected : List Connected) → Rises (cids_of active) → AreConnected active connected → (owner : Active) → Contains active owner → (t : Taken) → owner.cid ≡ t.cid → IsStanding connected t
    → slice_get active t.at ≡ Some owner
active_standing active connected rises are owner posted t named standing =
    let at = named_stands (λ (a : Active). a.cid) active t.at t.cid
    (subst (λ cids. slice_get cids t.at ≡ Some t.cid) (same_cids active connected are) (stands_named (λ (d : Connected). d.cid) connected t.at t.cid standing)) in
    listed_at (λ (a : Active). a.cid) cid_before rising active (sorted_keys (λ (a : Active). a.cid) active rises) t.cid t.at (parted_there (λ (a : Active). a.cid) active rises t.cid t.at at) owner posted named

-- ---- one by one

-- a connected constraint is active, under its id and over its scope
pub record IsKnown (active : List Active) (d : Connected) : Type 0 where
  pub owner : Active
  pub posted : Contains active owner
  pub named : owner.cid ≡ d.cid
  pub scope : scope owner.con ≡ d.scope

pub connected_known : (active : List Active) (connected : List Connected) → AreConnected active connected → (d : Connected) → Contains connected d → IsKnown active d
connected_known active connected are d m =
    let r = member_unmap scoped_by active (scoped d) (subst (λ ss. Contains ss (scoped d)) are (member_map scoped connected d m)) in
    record { owner = r.0; posted = r.1; named = ap (λ (s : Scoped). s.cid) r.2; scope = ap (λ (s : Scoped). s.scope) r.2 }

-- an active constraint is connected, under its id and over its scope
pub record HasConnection (connected : List Connected) (a : Active) : Type 0 where
  pub owner : Connected
  pub listed : Contains connected owner
  pub named : owner.cid ≡ a.cid
  pub scope : owner.scope ≡ scope a.con

pub active_connection : (active : List Active) (connected : List Connected) → AreConnected active connected → (a : Active) → Contains active a → HasConnection connected a
active_connection active connected are a m =
    let r = member_unmap scoped connected (scoped_by a) (subst (λ ss. Contains ss (scoped_by a)) (sym are) (member_map scoped_by active a m)) in
    record { owner = r.0; listed = r.1; named = ap (λ (s : Scoped). s.cid) r.2; scope = ap (λ (s : Scoped). s.scope) r.2 }

pub active_is_connected : (active : List Active) (connected : List Connected) → AreConnected active connected → (c : Cid) → IsActive active c → IsConnected connected c
active_is_connected active connected are c is =
    let r = active_connection active connected are is.owner is.posted in record { owner = r.owner; listed = r.listed; named = r.named ∙ is.named }

pub connected_is_active : (active : List Active) (connected : List Connected) → AreConnected active connected → (c : Cid) → IsConnected connected c → IsActive active c
connected_is_active active connected are c is =
    let r = connected_known active connected are is.owner is.listed in record { owner = r.owner; posted = r.posted; named = r.named ∙ is.named }

-- the scope of the connection under a constraint's id is the constraint's
pub scope_of_owner : (active : List Active) (connected : List Connected) → Rises (cids_of active) → AreConnected active connected
    → (a : Active) (d : Connected) → Contains active a → Contains connected d → d.cid ≡ a.cid → d.scope ≡ scope a.con
scope_of_owner active connected rises are a d m k named =
    let r = connected_known active connected are d k in
    sym r.scope ∙ ap (λ (b : Active). scope b.con) (single active rises r.owner a r.posted m (r.named ∙ named))

pub over_active : (active : List Active) (connected : List Connected) → AreConnected active connected → (x : ℕ) (c : Cid) → IsOver connected x c
    → (a : Active) × Contains active a × (a.cid ≡ c) × Contains (scope a.con) x
over_active active connected are x c is =
    let r = connected_known active connected are is.owner is.listed in
    (r.owner, r.posted, r.named ∙ is.named, subst (λ s. Contains s x) (sym r.scope) is.over)

pub active_over : (active : List Active) (connected : List Connected) → AreConnected active connected → (x : ℕ) (a : Active) → Contains active a → Contains (scope a.con) x → IsOver connected x a.cid
active_over active connected are x a m over =
    let r = active_connection active connected are a m in
    record { owner = r.owner; listed = r.listed; named = r.named; over = subst (λ s. Contains s x) (sym r.scope) over }

-- ---- a change of marks keeps the id, the scope and the heeds

-- a connected constraint but for its marks
abbrev pub bare : Connected → Connected
bare d = record d { marks = [] }

if_bare : (b : Bool) (p q d : Connected) → bare p ≡ bare d → bare q ≡ bare d → bare (if b then p else q) ≡ bare d
if_bare true p q d e f = e
if_bare false p q d e f = f

pub bare_others : (x : ℕ) (loss : Loss) (d : Connected) → bare (mark_others x loss d) ≡ bare d
bare_others x loss d = if_bare (is_over x d) (changed_where (λ y. not (nat_eq y x)) (mark_after (heed_of x d.scope d.heeds) loss) d) d d refl refl

pub bare_widened : (entries : List Restored) (d : Connected) → bare (widened_by entries d) ≡ bare d
bare_widened [] d = refl
bare_widened (r ∷ entries) d = bare_widened entries (mark_own r.var r.low r.high d)

pub bare_unmarked : (cid : Cid) (place : ℕ) (d : Connected) → bare (changed_at cid (unmarked place) d) ≡ bare d
bare_unmarked cid place d = if_bare (same_cid cid d.cid) (unmarked place d) d d refl refl

pub connected_stays : (active : List Active) (connected : List Connected) (f : Connected → Connected) → ((d : Connected) → bare (f d) ≡ bare d) → AreConnected active connected → AreConnected active (map f connected)
connected_stays active connected f same are = map_scoped f same connected ∙ are
  where
    map_scoped : (f : Connected → Connected) → ((d : Connected) → bare (f d) ≡ bare d) → (connected : List Connected) → map scoped (map f connected) ≡ map scoped connected
    map_scoped f same [] = refl
    map_scoped f same (d ∷ connected) = ap (λ s. s ∷ map scoped (map f connected)) (ap scoped (same d)) ∙ ap (λ ss. scoped d ∷ ss) (map_scoped f same connected)

pub heeded_stays : (active : List Active) (connected : List Connected) (f : Connected → Connected) → ((d : Connected) → bare (f d) ≡ bare d) → AreHeeded active connected → AreHeeded active (map f connected)
heeded_stays active connected f same heeded a c m n named =
    let r = member_unmap f connected c n in
    let e : bare r.0 ≡ bare c = sym (same r.0) ∙ ap bare r.2 in
    subst (λ (d : Connected). IsHeededAs a d.heeds) e (heeded a r.0 m r.1 (ap (λ (d : Connected). d.cid) e ∙ named))

-- ---- fewer and more constraints

pub map_filter : {X Y : Type 0} (f : X → Y) (test : Y → Bool) (xs : List X) → map f (filter (λ x. test (f x)) xs) ≡ filter test (map f xs)
map_filter f test [] = refl
map_filter f test (x ∷ xs) = by_test f x (filter (λ y. test (f y)) xs) (filter test (map f xs)) (test (f x)) (map_filter f test xs)
  where
    by_test : {X Y : Type 0} (f : X → Y) (x : X) (ys : List X) (zs : List Y) (b : Bool) → map f ys ≡ zs → map f (cond b (x ∷ ys) ys) ≡ cond b (f x ∷ zs) zs
    by_test f x ys zs true e = ap (λ ws. f x ∷ ws) e
    by_test f x ys zs false e = e

filtered_connected : (active : List Active) (connected : List Connected) (test : Scoped → Bool) → AreConnected active connected
    → AreConnected (filter (λ a. test (scoped_by a)) active) (filter (λ d. test (scoped d)) connected)
filtered_connected active connected test are = map_filter scoped test connected ∙ ap (filter test) are ∙ sym (map_filter scoped_by test active)

pub without_is_connected : (active : List Active) (connected : List Connected) (cid : Cid) → AreConnected active connected → AreConnected (without_cids (cid ∷ []) active) (without_connected cid connected)
without_is_connected active connected cid are = filtered_connected active connected (λ s. not (is_named (cid ∷ []) s.cid)) are

-- the new constraint, or one of those before
pub with_connected_cases : (n : Connected) (connected : List Connected) (c : Connected) → Contains (with_connected n connected) c → (n ≡ c) ⊎ Contains connected c
with_connected_cases n connected c m =
    elim (Contains-append_cases (filter (λ (e : Connected). cid_before e.cid n.cid) connected) (n ∷ filter (λ (e : Connected). cid_before n.cid e.cid) connected) c m) [
      | inl k ↦ inr (filter_member (λ (e : Connected). cid_before e.cid n.cid) connected c k).0
      | inr k ↦ elim (member_cases n (filter (λ (e : Connected). cid_before n.cid e.cid) connected) c k) [
        | inl e ↦ inl e
        | inr l ↦ inr (filter_member (λ (e : Connected). cid_before n.cid e.cid) connected c l).0
      ]
    ]

pub with_is_connected : (active : List Active) (connected : List Connected) (a : Active) (heeds : List Heed) → AreConnected active connected
    → AreConnected (with_posted a active) (with_connected (marked_whole a.cid (scope a.con) heeds) connected)
with_is_connected active connected a heeds are =
    let low = filter (λ (d : Connected). cid_before d.cid a.cid) connected in
    let high = filter (λ (d : Connected). cid_before a.cid d.cid) connected in
    let below = filter (λ (b : Active). cid_before b.cid a.cid) active in
    let above = filter (λ (b : Active). cid_before a.cid b.cid) active in
    map-append scoped low (marked_whole a.cid (scope a.con) heeds ∷ high)
    ∙ ap (λ ss. ss ++ scoped_by a ∷ map scoped high) (filtered_connected active connected (λ s. cid_before s.cid a.cid) are)
    ∙ ap (λ ss. map scoped_by below ++ scoped_by a ∷ ss) (filtered_connected active connected (λ s. cid_before a.cid s.cid) are)
    ∙ sym (map-append scoped_by below (a ∷ above))

-- heeds that fit place by place fit the constraint
pub heeds_fit : (a : Active) (heeds : List Heed) → ((k : ℕ) (h : Heed) → slice_get heeds k ≡ Some h → FitsHeed a.con k h) → IsHeededAs a heeds
heeds_fit a heeds each x m = fit (scope a.con) heeds (λ k h y e at. each k h e y at) x m
  where
    fit : (vars : List ℕ) (heeds : List Heed) → ((k : ℕ) (h : Heed) (y : ℕ) → slice_get heeds k ≡ Some h → slice_get vars k ≡ Some y → IsHeeded a.con y h)
        → (x : ℕ) → Contains vars x → IsHeeded a.con x (heed_of x vars heeds)
    fit [] heeds each x m = absurd (member_nil x m)
    fit (y ∷ vars) [] each x m = tt
    fit (y ∷ vars) (h ∷ heeds) each x m = by_var (nat_eq y x) refl (λ n. fit vars heeds (λ k i z f at. each (suc k) i z f at) x n)
      where
        by_var : (b : Bool) → nat_eq y x ≡ b → (Contains vars x → IsHeeded a.con x (heed_of x vars heeds)) → IsHeeded a.con x (if b then h else heed_of x vars heeds)
        by_var true e rest = each 0 h x refl (ap Some (eqb-true y x e))
        by_var false e rest = rest (member_tail y vars x (λ same. false≢true (sym e ∙ eq-eqb y x same)) m)

-- a new constraint is heeded as its heeds fit it
pub with_heeded : (active : List Active) (connected : List Connected) (a : Active) (heeds : List Heed) → AreConnected active connected → (IsActive active a.cid → ⊥) → IsHeededAs a heeds
    → AreHeeded active connected → AreHeeded (with_posted a active) (with_connected (marked_whole a.cid (scope a.con) heeds) connected)
with_heeded active connected a heeds are inactive fit heeded b c m n named = elim (with_connected_cases (marked_whole a.cid (scope a.con) heeds) connected c n) [
  | inl e ↦ elim (with_posted_cases a active b m) [
    | inl same ↦ subst (λ (d : Connected). IsHeededAs b d.heeds) e (subst (λ (d : Active). IsHeededAs d heeds) same fit)
    | inr k ↦ absurd (inactive (record { owner = b; posted = k; named = sym named ∙ ap (λ (d : Connected). d.cid) (sym e) }))
  ]
  | inr k ↦ elim (with_posted_cases a active b m) [
    | inl same ↦
        let o = connected_known active connected are c k in
        absurd (inactive (record { owner = o.owner; posted = o.posted; named = o.named ∙ named ∙ ap (λ (d : Active). d.cid) (sym same) }))
    | inr l ↦ heeded b c l k named
  ]
]

pub without_heeded : (active : List Active) (connected : List Connected) (cid : Cid) → AreHeeded active connected → AreHeeded (without_cids (cid ∷ []) active) (without_connected cid connected)
without_heeded active connected cid heeded a c m n named =
    heeded a c (without_cids_member (cid ∷ []) active a m).0 (filter_member (λ (d : Connected). not (is_named (cid ∷ []) d.cid)) connected c n).0 named
