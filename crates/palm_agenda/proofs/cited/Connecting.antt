-- Connected constraints: their ids, their places, and what one more and one fewer leaves.
use Rattle.std.proofs.Common.{◌≡◌, ℕ, Bool, not, Option, None, List, [], ◌∷◌, ◌++◌, slice_get, insert, remove, map, filter, zero, suc, arith, Contains, Some, ◌⊎◌, ◌↔◌, inl, inr, refl, sym, ap, ◌∙◌, subst}
use Rattle.std.proofs.lemmas.Bool.{cases_Bool}
use Rattle.std.proofs.lemmas.List.{map-append}
use Rattle.std.proofs.lemmas.Option.{slice_get_within}
use Rattle.std.proofs.lemmas.List.Elements.{Contains-append_left, Contains-append_right, Contains-append_cases}
use Rattle.palm_base.specs.declared.terms.Cid.{Cid}
use Rattle.palm_base.proofs.cited.Members.{member_get, member_here, member_there, member_cases, member_same, member_filter, filter_member, member_map, member_unmap, member_single}
use Rattle.std.specs.Prelude.{IsSomeAnd}
use Rattle.palm_base.specs.Order.{Rises, StandsAt, cid_before, IsPartedAt, with_cid}
use Rattle.palm_model.specs.Log.{is_named}
use Rattle.palm_model.specs.State.{without_cid}
use Rattle.palm_base.proofs.cited.CidOrder.{cid_order}
use Rattle.palm_events.proofs.cited.Names.{member_not_named, not_named_member}
use Rattle.palm_agenda.specs.declared.taken.Taken.{Taken}
use Rattle.palm_agenda.specs.Agenda.{Connected, HasPlace, IsConnected, IsOver, IsStanding, connected_cids, with_connected, without_connected}
use Rattle.palm_base.proofs.cited.Sorted.{IsSortedKeys, filter_passes, filter_fails, inserted, listed_at}
use Rattle.palm_base.proofs.cited.RisingLists.{parted_there, sorted_keys, rising}
use Rattle.palm_agenda.proofs.CidLists.{removed_by_cid}

abbrev pub cid_of : Connected → Cid
cid_of d = d.cid

pub sorted_connected : (connected : List Connected) → Rises (connected_cids connected) → IsSortedKeys cid_of cid_before connected
sorted_connected connected rises = sorted_keys cid_of connected rises

-- ---- ids

pub connected_cid : (connected : List Connected) (c : Cid) → IsConnected connected c → Contains (connected_cids connected) c
connected_cid connected c is = member_same (connected_cids connected) is.owner.cid c is.named (member_map cid_of connected is.owner is.listed)

pub cid_connected : (connected : List Connected) (c : Cid) → Contains (connected_cids connected) c → IsConnected connected c
cid_connected connected c m = let r = member_unmap cid_of connected c m in record { owner = r.0; listed = r.1; named = r.2 }

abbrev pub over_connected : (connected : List Connected) (x : ℕ) (c : Cid) → IsOver connected x c → IsConnected connected c
over_connected connected x c is = record { owner = is.owner; listed = is.listed; named = is.named }

abbrev pub place_connected : (connected : List Connected) (c : Cid) (place : ℕ) → HasPlace connected c place → IsConnected connected c
place_connected connected c place is = record { owner = is.owner; listed = is.listed; named = is.named }

cids_filter : (test : Cid → Bool) (connected : List Connected) → connected_cids (filter (λ d. test d.cid) connected) ≡ filter test (connected_cids connected)
cids_filter test [] = refl
cids_filter test (d ∷ connected) = elim (cases_Bool (test d.cid)) [
  | inl t ↦
      ap connected_cids (filter_passes (λ (e : Connected). test e.cid) d connected t) ∙ ap (λ cids. d.cid ∷ cids) (cids_filter test connected)
      ∙ sym (filter_passes test d.cid (connected_cids connected) t)
  | inr f ↦
      ap connected_cids (filter_fails (λ (e : Connected). test e.cid) d connected f) ∙ cids_filter test connected
      ∙ sym (filter_fails test d.cid (connected_cids connected) f)
]

pub cids_with : (d : Connected) (connected : List Connected) → connected_cids (with_connected d connected) ≡ with_cid d.cid (connected_cids connected)
cids_with d connected =
    map-append cid_of (filter (λ e. cid_before e.cid d.cid) connected) (d ∷ filter (λ e. cid_before d.cid e.cid) connected)
    ∙ ap (λ cids. cids ++ d.cid ∷ connected_cids (filter (λ e. cid_before d.cid e.cid) connected)) (cids_filter (λ c. cid_before c d.cid) connected)
    ∙ ap (λ cids. filter (λ c. cid_before c d.cid) (connected_cids connected) ++ d.cid ∷ cids) (cids_filter (λ c. cid_before d.cid c) connected)

pub cids_without : (cid : Cid) (connected : List Connected) → connected_cids (without_connected cid connected) ≡ without_cid cid (connected_cids connected)
cids_without cid connected = cids_filter (λ c. not (is_named (cid ∷ []) c)) connected

-- ---- places

module _ (connected : List Connected) (rises : Rises (connected_cids connected)) (cid : Cid) (place : ℕ) (at : IsPartedAt (λ d. cid_before d.cid cid) connected place) where
  pub stands : (d : Connected) → Contains connected d → d.cid ≡ cid → slice_get connected place ≡ Some d
  stands d m named = listed_at cid_of cid_before rising connected (sorted_connected connected rises) cid place at d m named

  pub connected_at : (IsConnected connected cid → ⊥) → (d : Connected) → d.cid ≡ cid → insert connected place d ≡ with_connected d connected
  connected_at absent d named =
      subst (λ k. insert connected place d ≡ filter (λ e. cid_before e.cid k) connected ++ d ∷ filter (λ e. cid_before k e.cid) connected) (sym named)
      (inserted cid_of cid_before rising connected (sorted_connected connected rises) cid place at (λ e m n. absent (record { owner = e; listed = m; named = n })) d)

  pub disconnected_at : IsConnected connected cid → remove connected place ≡ without_connected cid connected
  disconnected_at is =
      removed_by_cid cid_of cid_before rising connected (sorted_connected connected rises) cid place is.owner (stands is.owner is.listed is.named) is.named

-- ---- a constraint that was taken

named_item : {X : Type 0} (id : X → Cid) (o : Option X) (cid : Cid) → IsSomeAnd o (λ x. id x ≡ cid) → (x : X) × (o ≡ Some x) × (id x ≡ cid)
named_item id None cid is = absurd is
named_item id (Some x) cid is = (x, refl, is)

-- an item stands under the id where the id stands among the ids
pub stands_named : {X : Type 0} (id : X → Cid) (xs : List X) (place : ℕ) (cid : Cid) → StandsAt id xs place cid → slice_get (map id xs) place ≡ Some cid
stands_named id [] place cid is = let r = named_item id (slice_get [] place) cid is in let within = slice_get_within [] place r.0 r.1 in absurd (omega arith)
stands_named id (x ∷ xs) zero cid is = ap Some is
stands_named id (x ∷ xs) (suc place) cid is = stands_named id xs place cid is

pub named_stands : {X : Type 0} (id : X → Cid) (xs : List X) (place : ℕ) (cid : Cid) → slice_get (map id xs) place ≡ Some cid → StandsAt id xs place cid
named_stands id [] place cid at = let within = slice_get_within (map id []) place cid at in absurd (omega arith)
named_stands id (x ∷ xs) zero cid at = let e : Some (id x) ≡ Some cid = at in cc
named_stands id (x ∷ xs) (suc place) cid at = named_stands id xs place cid at

pub standing_owner : (connected : List Connected) (t : Taken) → IsStanding connected t → (d : Connected) × (slice_get connected t.at ≡ Some d) × (d.cid ≡ t.cid)
standing_owner connected t is = named_item cid_of (slice_get connected t.at) t.cid is

pub standing_connected : (connected : List Connected) (t : Taken) → IsStanding connected t → IsConnected connected t.cid
standing_connected connected t is =
    let r = standing_owner connected t is in
    record { owner = r.0; listed = member_get connected t.at r.0 r.1; named = r.2 }

pub standing_parted : (connected : List Connected) → Rises (connected_cids connected) → (t : Taken) → IsStanding connected t → IsPartedAt (λ d. cid_before d.cid t.cid) connected t.at
standing_parted connected rises t is = parted_there cid_of connected rises t.cid t.at is

-- where the ids are parted, the constraint under the id stands
pub parted_standing : (connected : List Connected) → Rises (connected_cids connected) → (cid : Cid) (place : ℕ) → IsPartedAt (λ d. cid_before d.cid cid) connected place → IsConnected connected cid
    → StandsAt cid_of connected place cid
parted_standing connected rises cid place at is =
    subst (λ o. IsSomeAnd o (λ d. d.cid ≡ cid)) (sym (stands connected rises cid place at is.owner is.listed is.named)) is.named

-- ---- one more

pub with_connected_cases : (d : Connected) (connected : List Connected) (e : Connected) → Contains (with_connected d connected) e → (d ≡ e) ⊎ Contains connected e
with_connected_cases d connected e m =
    elim (Contains-append_cases (filter (λ f. cid_before f.cid d.cid) connected) (d ∷ filter (λ f. cid_before d.cid f.cid) connected) e m) [
      | inl k ↦ inr (filter_member (λ (f : Connected). cid_before f.cid d.cid) connected e k).0
      | inr k ↦ elim (member_cases d (filter (λ f. cid_before d.cid f.cid) connected) e k) [
        | inl s ↦ inl s
        | inr l ↦ inr (filter_member (λ (f : Connected). cid_before d.cid f.cid) connected e l).0
      ]
    ]

pub with_connected_here : (d : Connected) (connected : List Connected) → Contains (with_connected d connected) d
with_connected_here d connected =
    Contains-append_right (filter (λ f. cid_before f.cid d.cid) connected) (d ∷ filter (λ f. cid_before d.cid f.cid) connected) d (member_here d (filter (λ f. cid_before d.cid f.cid) connected))

pub member_with_connected : (d : Connected) (connected : List Connected) (e : Connected) → (IsConnected connected d.cid → ⊥) → Contains connected e → Contains (with_connected d connected) e
member_with_connected d connected e absent m = elim (cid_order e.cid d.cid) [
  | inl t ↦ Contains-append_left (filter (λ f. cid_before f.cid d.cid) connected) (d ∷ filter (λ f. cid_before d.cid f.cid) connected) e (member_filter (λ (f : Connected). cid_before f.cid d.cid) connected e m t)
  | inr r ↦ elim r [
    | inl s ↦ absurd (absent (record { owner = e; listed = m; named = s }))
    | inr t ↦ Contains-append_right (filter (λ f. cid_before f.cid d.cid) connected) (d ∷ filter (λ f. cid_before d.cid f.cid) connected) e
        (member_there d (filter (λ f. cid_before d.cid f.cid) connected) e (member_filter (λ (f : Connected). cid_before d.cid f.cid) connected e m t))
  ]
]

pub over_with : (d : Connected) (connected : List Connected) (x : ℕ) (c : Cid) → (IsConnected connected d.cid → ⊥) → IsOver (with_connected d connected) x c ↔ (IsOver connected x c ⊎ (Contains d.scope x × (c ≡ d.cid)))
over_with d connected x c absent = (
  λ is. elim (with_connected_cases d connected is.owner is.listed) [
    | inl e ↦ inr (subst (λ (f : Connected). Contains f.scope x) (sym e) is.over, sym (ap cid_of e ∙ is.named))
    | inr m ↦ inl (record { owner = is.owner; listed = m; named = is.named; over = is.over })
  ],
  λ h. elim h [
    | inl is ↦ record { owner = is.owner; listed = member_with_connected d connected is.owner absent is.listed; named = is.named; over = is.over }
    | inr both ↦ record { owner = d; listed = with_connected_here d connected; named = sym both.1; over = both.0 }
  ],
)

-- ---- one fewer

pub without_connected_member : (cid : Cid) (connected : List Connected) (d : Connected) → Contains (without_connected cid connected) d → Contains connected d × (d.cid ≡ cid → ⊥)
without_connected_member cid connected d m =
    let r = filter_member (λ (e : Connected). not (is_named (cid ∷ []) e.cid)) connected d m in
    (r.0, λ e. not_named_member (cid ∷ []) d.cid r.1 (member_same (cid ∷ []) cid d.cid (sym e) (member_here cid [])))

pub member_without_connected : (cid : Cid) (connected : List Connected) (d : Connected) → Contains connected d → (d.cid ≡ cid → ⊥) → Contains (without_connected cid connected) d
member_without_connected cid connected d m ne =
    member_filter (λ (e : Connected). not (is_named (cid ∷ []) e.cid)) connected d m (member_not_named (cid ∷ []) d.cid (λ k. ne (sym (member_single cid d.cid k))))

pub over_without : (cid : Cid) (connected : List Connected) (x : ℕ) (c : Cid) → IsOver (without_connected cid connected) x c ↔ (IsOver connected x c × (c ≡ cid → ⊥))
over_without cid connected x c = (
  λ is.
      let r = without_connected_member cid connected is.owner is.listed in
      (record { owner = is.owner; listed = r.0; named = is.named; over = is.over }, λ e. r.1 (is.named ∙ e)),
  λ h. record { owner = h.0.owner; listed = member_without_connected cid connected h.0.owner h.0.listed (λ e. h.1 (sym h.0.named ∙ e)); named = h.0.named; over = h.0.over },
)
