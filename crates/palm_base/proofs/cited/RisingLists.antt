-- Lists by rising id: where an id stands, and what one more id leaves.
use Rattle.std.proofs.Common.{◌≡◌, ℕ, zero, suc, ◌<◌, ◌≤◌, Bool, true, false, List, [], ◌∷◌, map, length, get_or, slice_get, insert, filter, Contains, Option, Some, None, ◌⊎◌, inl, inr, refl, sym, ap, ◌∙◌, subst, arith}
use Rattle.std.specs.Prelude.{IfSome, IsSomeAnd}
use Rattle.std.proofs.lemmas.Bool.{cases_Bool, cases_lt, false≢true}
use Rattle.std.proofs.lemmas.Option.{get_or_from_slice_get, slice_get-get_or, slice_get_within}
use Rattle.std.proofs.lemmas.List.Elements.{All-contains, Contains-get_or, Contains-append_left, Contains-append_right, Contains-append_cases}
use Rattle.palm_base.specs.Order.{BelongsAt, IsPartedAt, Rises, StandsAt, StandsBehind, StandsInFront, cid_before, same_cid, with_cid}
use Rattle.palm_base.specs.Tells.{Tells}
use Rattle.palm_base.specs.declared.terms.Cid.{Cid}
use Rattle.palm_base.proofs.cited.CidOrder.{before_then, cid_order, cid_same, not_before_itself, rises_append, same_cid_itself}
use Rattle.palm_base.proofs.cited.Members.{all_members, filter_member, member_cases, member_filter, member_here, member_map, member_same, member_there}
use Rattle.palm_base.proofs.cited.Sorted.{IsSortedKeys, IsStrict, filter_fails, filter_passes, inserted, listed_at, parted_where}

-- ---- items by rising id

pub rising : IsStrict cid_before
rising = record { itself = not_before_itself; through = before_then; order = cid_order }

keys_rise : {X : Type 0} (id : X → Cid) (xs : List X) → Rises (map id xs) → (i j : ℕ) (d : X) → i < j → j < length xs → cid_before (id (get_or xs i d)) (id (get_or xs j d)) ≡ true
keys_rise id [] rises i j d lt within = absurd (omega arith)
keys_rise id (x ∷ xs) rises zero zero d lt within = absurd (omega arith)
keys_rise id (x ∷ xs) rises zero (suc j) d lt within =
    All-contains (λ e. cid_before (id x) e ≡ true) (map id xs) (id (get_or xs j d)) rises.0
    (member_map id xs (get_or xs j d) (Contains-get_or xs j d (omega arith)))
keys_rise id (x ∷ xs) rises (suc i) zero d lt within = absurd (omega arith)
keys_rise id (x ∷ xs) rises (suc i) (suc j) d lt within = keys_rise id xs rises.1 i j d (omega arith) (omega arith)

pub sorted_keys : {X : Type 0} (id : X → Cid) (xs : List X) → Rises (map id xs) → IsSortedKeys id cid_before xs
sorted_keys id xs rises = record { at = keys_rise id xs rises }

stands_item : {X : Type 0} (id : X → Cid) (cid : Cid) (o : Option X) → IsSomeAnd o (λ x. id x ≡ cid) → (x : X) × (o ≡ Some x) × (id x ≡ cid)
stands_item id cid None h = absurd h
stands_item id cid (Some x) h = (x, refl, h)

-- where an item under the id stands, the ids are parted
pub parted_there : {X : Type 0} (id : X → Cid) (xs : List X) → Rises (map id xs) → (cid : Cid) (place : ℕ) → StandsAt id xs place cid → IsPartedAt (λ x. cid_before (id x) cid) xs place
parted_there id xs rises cid place there =
    let r = stands_item id cid (slice_get xs place) there in
    parted_where id cid_before rising xs (sorted_keys id xs rises) cid place r.0 r.1 r.2

some_item : {X : Type 0} (P : X → Type 0) (o : Option X) → IsSomeAnd o P → (x : X) × (o ≡ Some x) × P x
some_item P None h = absurd h
some_item P (Some x) h = (x, refl, h)

-- where the item before the place comes before the id, and the one at it does not, the ids are parted
pub parted_between : {X : Type 0} (id : X → Cid) (xs : List X) → Rises (map id xs) → (cid : Cid) (place : ℕ) → StandsBehind id xs place cid → StandsInFront id xs place cid → IsPartedAt (λ x. cid_before (id x) cid) xs place
parted_between {X} id xs rises cid place behind front = record {
  within = bound place behind;
  before = λ k d ge lt. passes place behind k d lt;
  after = λ k d ge lt. fails k d ge lt;
}
  where
    bound : (place : ℕ) → StandsBehind id xs place cid → place ≤ length xs
    bound zero h = omega arith
    bound (suc n) h = let r = some_item (λ x. cid_before (id x) cid ≡ true) (slice_get xs n) h in let w = slice_get_within xs n r.0 r.1 in omega (arith, w)

    passes : (place : ℕ) → StandsBehind id xs place cid → (k : ℕ) (d : X) → k < place → cid_before (id (get_or xs k d)) cid ≡ true
    passes zero h k d lt = absurd (omega arith)
    passes (suc n) h k d lt =
        let r = some_item (λ x. cid_before (id x) cid ≡ true) (slice_get xs n) h in
        let last : cid_before (id (get_or xs n d)) cid ≡ true = subst (λ x. cid_before (id x) cid ≡ true) (sym (get_or_from_slice_get xs n r.0 d r.1)) r.2 in
        elim (cases_lt k n) [
          | inl l ↦ rising.through (id (get_or xs k d)) (id (get_or xs n d)) cid (keys_rise id xs rises k n d l (slice_get_within xs n r.0 r.1)) last
          | inr ge ↦ let e : n ≡ k = omega arith in subst (λ j. cid_before (id (get_or xs j d)) cid ≡ true) e last
        ]

    first : (d : X) → place < length xs → cid_before (id (get_or xs place d)) cid ≡ false
    first d lt = subst (λ o. IfSome o (λ x. cid_before (id x) cid ≡ false)) (slice_get-get_or xs place d lt) front

    fails : (k : ℕ) (d : X) → place ≤ k → k < length xs → cid_before (id (get_or xs k d)) cid ≡ false
    fails k d ge lt = elim (cases_lt place k) [
      | inl l ↦ elim (cases_Bool (cid_before (id (get_or xs k d)) cid)) [
        | inl t ↦ absurd (false≢true (sym (first d (omega arith)) ∙ rising.through (id (get_or xs place d)) (id (get_or xs k d)) cid (keys_rise id xs rises place k d l lt) t))
        | inr f ↦ f
      ]
      | inr le ↦ let e : place ≡ k = omega arith in subst (λ j. cid_before (id (get_or xs j d)) cid ≡ false) e (first d (omega arith))
    ]

-- where no item under the id stands at the place, there is none
pub belongs_there : {X : Type 0} (id : X → Cid) (xs : List X) → Rises (map id xs) → (cid : Cid) (place : ℕ) → IsPartedAt (λ x. cid_before (id x) cid) xs place → (StandsAt id xs place cid → ⊥) → BelongsAt id xs place cid
belongs_there id xs rises cid place at other = record {
  parted = at;
  absent = λ x m named.
      let there = listed_at id cid_before rising xs (sorted_keys id xs rises) cid place at x m named in
      other (subst (λ o. IsSomeAnd o (λ y. id y ≡ cid)) (sym there) named);
}

-- whether the id of the item at a place is this one
pub tells_standing : {X : Type 0} (id : X → Cid) (xs : List X) (place : ℕ) (x : X) (item cid : Cid) (same : Bool) → slice_get xs place ≡ Some x → item ≡ id x → same ≡ same_cid item cid → Tells same (StandsAt id xs place cid)
tells_standing id xs place x item cid true at is told =
    subst (λ o. IsSomeAnd o (λ y. id y ≡ cid)) (sym at) (sym is ∙ cid_same item cid (sym told))
tells_standing id xs place x item cid false at is told = λ h.
    let e : id x ≡ cid = subst (λ o. IsSomeAnd o (λ y. id y ≡ cid)) at h in
    differs item cid told (is ∙ e)
  where
    differs : (item cid : Cid) → false ≡ same_cid item cid → item ≡ cid → ⊥
    differs item cid told e = false≢true (told ∙ subst (λ c. same_cid item c ≡ true) e (same_cid_itself item))

-- ---- rising ids

pub rises_at : (xs : List Cid) → Rises xs → (i j : ℕ) (d : Cid) → i < j → j < length xs → cid_before (get_or xs i d) (get_or xs j d) ≡ true
rises_at [] rises i j d lt within = absurd (omega arith)
rises_at (x ∷ xs) rises i zero d lt within = absurd (omega arith)
rises_at (x ∷ xs) rises zero (suc j) d lt within = rises.0 j d (omega arith)
rises_at (x ∷ xs) rises (suc i) (suc j) d lt within = rises_at xs rises.1 i j d (omega arith) (omega arith)

pub sorted_rising : (xs : List Cid) → Rises xs → IsSortedKeys (λ c. c) cid_before xs
sorted_rising xs rises = record { at = rises_at xs rises }

ids_are : (xs : List Cid) → map (λ c. c) xs ≡ xs
ids_are [] = refl
ids_are (x ∷ xs) = ap (λ ys. x ∷ ys) (ids_are xs)

pub rises_itself : (xs : List Cid) → Rises xs → Rises (map (λ c. c) xs)
rises_itself xs rises = subst Rises (sym (ids_are xs)) rises

-- an id among ids that stands at a place
pub stands_cid : (xs : List Cid) (place : ℕ) (cid : Cid) → StandsAt (λ c. c) xs place cid → slice_get xs place ≡ Some cid
stands_cid xs place cid there = let r = stands_item (λ c. c) cid (slice_get xs place) there in r.1 ∙ ap Some r.2

pub cid_stands : (xs : List Cid) (place : ℕ) (cid : Cid) → slice_get xs place ≡ Some cid → StandsAt (λ c. c) xs place cid
cid_stands xs place cid at = subst (λ o. IsSomeAnd o (λ c. c ≡ cid)) (sym at) refl

pub tells_cid : (xs : List Cid) (place : ℕ) (cid : Cid) (b : Bool) → Tells b (StandsAt (λ c. c) xs place cid) → Tells b (slice_get xs place ≡ Some cid)
tells_cid xs place cid true t = stands_cid xs place cid t
tells_cid xs place cid false t = λ e. t (cid_stands xs place cid e)

-- an id that is not there is put at its place
pub put_rising : (xs : List Cid) → Rises xs → (cid : Cid) (place : ℕ) → IsPartedAt (λ c. cid_before c cid) xs place → (Contains xs cid → ⊥) → insert xs place cid ≡ with_cid cid xs
put_rising xs rises cid place at absent = inserted (λ c. c) cid_before rising xs (sorted_rising xs rises) cid place at (λ c m e. absent (member_same xs c cid e m)) cid

-- ---- one more id

pub with_cid_cases : (cid : Cid) (cids : List Cid) (c : Cid) → Contains (with_cid cid cids) c → Contains cids c ⊎ (c ≡ cid)
with_cid_cases cid cids c m =
    elim (Contains-append_cases (filter (λ d. cid_before d cid) cids) (cid ∷ filter (λ d. cid_before cid d) cids) c m) [
      | inl k ↦ inl (filter_member (λ d. cid_before d cid) cids c k).0
      | inr k ↦ elim (member_cases cid (filter (λ d. cid_before cid d) cids) c k) [
        | inl e ↦ inr (sym e)
        | inr l ↦ inl (filter_member (λ d. cid_before cid d) cids c l).0
      ]
    ]

pub with_cid_here : (cid : Cid) (cids : List Cid) → Contains (with_cid cid cids) cid
with_cid_here cid cids =
    Contains-append_right (filter (λ d. cid_before d cid) cids) (cid ∷ filter (λ d. cid_before cid d) cids) cid (member_here cid (filter (λ d. cid_before cid d) cids))

pub member_with_cid : (cid : Cid) (cids : List Cid) (c : Cid) → Contains cids c → Contains (with_cid cid cids) c
member_with_cid cid cids c m = elim (cid_order c cid) [
  | inl t ↦ Contains-append_left (filter (λ d. cid_before d cid) cids) (cid ∷ filter (λ d. cid_before cid d) cids) c (member_filter (λ d. cid_before d cid) cids c m t)
  | inr r ↦ elim r [
    | inl e ↦ member_same (with_cid cid cids) cid c (sym e) (with_cid_here cid cids)
    | inr t ↦ Contains-append_right (filter (λ d. cid_before d cid) cids) (cid ∷ filter (λ d. cid_before cid d) cids) c
        (member_there cid (filter (λ d. cid_before cid d) cids) c (member_filter (λ d. cid_before cid d) cids c m t))
  ]
]

rises_cids : (test : Cid → Bool) (cids : List Cid) → Rises cids → Rises (filter test cids)
rises_cids test [] rises = tt
rises_cids test (c ∷ cids) rises = elim (cases_Bool (test c)) [
  | inl t ↦ subst Rises (sym (filter_passes test c cids t)) (
    all_members (λ d. cid_before c d ≡ true) (filter test cids) (λ d m.
        let k = (filter_member test cids d m).0 in subst (λ e. cid_before c e ≡ true) k.2 (rises.0 k.0 d k.1)),
    rises_cids test cids rises.1,
  )
  | inr f ↦ subst Rises (sym (filter_fails test c cids f)) (rises_cids test cids rises.1)
]

pub with_cid_rises : (cid : Cid) (cids : List Cid) → Rises cids → Rises (with_cid cid cids)
with_cid_rises cid cids rises =
    rises_append (filter (λ d. cid_before d cid) cids) (cid ∷ filter (λ d. cid_before cid d) cids) (rises_cids (λ d. cid_before d cid) cids rises) (
      all_members (λ d. cid_before cid d ≡ true) (filter (λ d. cid_before cid d) cids) (λ d m. (filter_member (λ e. cid_before cid e) cids d m).1),
      rises_cids (λ d. cid_before cid d) cids rises,
    )
    (λ x y m n.
    let low = (filter_member (λ d. cid_before d cid) cids x m).1 in
    elim (member_cases cid (filter (λ d. cid_before cid d) cids) y n) [
      | inl e ↦ subst (λ z. cid_before x z ≡ true) e low
      | inr k ↦ before_then x cid y low (filter_member (λ d. cid_before cid d) cids y k).1
    ])
