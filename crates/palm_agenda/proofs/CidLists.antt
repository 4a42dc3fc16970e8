-- Lists of ids: in rising and falling order, with an id and without it.
use Rattle.std.proofs.Common.{◌≡◌, ℕ, ◌-◌, ◌<◌, ◌≤◌, Bool, true, false, not, List, [], ◌∷◌, ◌++◌, reverse, length, get_or, slice_get, insert, remove, filter, Contains, Some, inl, inr, refl, sym, ap, ◌∙◌, subst, arith}
use Rattle.std.proofs.lemmas.Bool.{cases_Bool}
use Rattle.std.proofs.lemmas.Grind.{reverse_onto}
use Rattle.std.proofs.lemmas.List.{append_assoc, get_or-reverse, length-reverse, reverse-append, reverse-reverse}
use Rattle.std.proofs.lemmas.List.Elements.{Contains-append_left, Contains-append_right, filter-append}
use Rattle.std.proofs.lemmas.Option.{slice_get_within, get_or_from_slice_get}
use Rattle.palm_base.specs.declared.terms.Cid.{Cid}
use Rattle.palm_base.proofs.cited.Members.{member_nil, member_here, member_cases, member_same, member_single, member_get}
use Rattle.palm_base.specs.Tells.{Tells}
use Rattle.palm_base.specs.Order.{Rises, cid_before, IsPartedAt, with_cid}
use Rattle.palm_model.specs.Log.{is_named}
use Rattle.palm_model.specs.State.{without_cid}
use Rattle.palm_base.proofs.cited.CidOrder.{before_then, cid_order, not_before_itself, rising_same}
use Rattle.palm_events.proofs.cited.Names.{member_named, member_not_named}
use Rattle.palm_events.proofs.cited.States.{without_cid_member, member_without_cid, without_cid_rises}
use Rattle.palm_agenda.specs.Cids.{Roomy, HasRoomFor}
use Rattle.palm_base.proofs.cited.RisingLists.{member_with_cid, rises_at, with_cid_cases, with_cid_rises}
use Rattle.palm_base.proofs.cited.Sorted.{IsStrict, IsSortedKeys, filter_removes, filter_fails, filter_passes, inserted, listed_at, apart}

abbrev pub roomy : List Cid → ℕ → Roomy
roomy cids room = record { cids = cids; room = room }

-- ---- orders

abbrev pub cid_after : Cid → Cid → Bool
cid_after a b = cid_before b a

pub falling : IsStrict cid_after
falling = record {
  itself = not_before_itself;
  through = λ a b c h k. before_then c b a k h;
  order = λ a b. elim (cid_order b a) [ inl t ↦ inl t | inr r ↦ elim r [ inl e ↦ inr (inl (sym e)) | inr t ↦ inr (inr t) ] ];
}

-- ---- falling lists

-- a list whose reverse rises falls
pub sorted_falling : (xs : List Cid) → Rises (reverse xs) → IsSortedKeys (λ c. c) cid_after xs
sorted_falling xs rises = record {
  at = λ i j d lt within.
      let low = get_or-reverse xs (length xs - 1 - j) d (omega arith) in
      let high = get_or-reverse xs (length xs - 1 - i) d (omega arith) in
      let back_j : length xs - 1 - (length xs - 1 - j) ≡ j = omega arith in
      let back_i : length xs - 1 - (length xs - 1 - i) ≡ i = omega arith in
      let h = rises_at (reverse xs) rises (length xs - 1 - j) (length xs - 1 - i) d (omega arith) (omega (arith, length-reverse xs)) in
      subst (λ a. cid_before a (get_or xs i d) ≡ true) (low ∙ ap (λ k. get_or xs k d) back_j)
      (subst (λ b. cid_before (get_or (reverse xs) (length xs - 1 - j) d) b ≡ true) (high ∙ ap (λ k. get_or xs k d) back_i) h);
}

-- ---- reversed lists

pub reverse_cons : {X : Type 0} (x : X) (xs : List X) → reverse (x ∷ xs) ≡ reverse xs ++ x ∷ []
reverse_cons x xs = reverse_onto xs x []

pub member_reverse : {X : Type 0} (xs : List X) (x : X) → Contains xs x → Contains (reverse xs) x
member_reverse [] x m = absurd (member_nil x m)
member_reverse (y ∷ xs) x m = subst (λ zs. Contains zs x) (sym (reverse_cons y xs)) (elim (member_cases y xs x m) [
  | inl e ↦ Contains-append_right (reverse xs) (y ∷ []) x (member_same (y ∷ []) y x e (member_here y []))
  | inr k ↦ Contains-append_left (reverse xs) (y ∷ []) x (member_reverse xs x k)
])

pub reverse_member : {X : Type 0} (xs : List X) (x : X) → Contains (reverse xs) x → Contains xs x
reverse_member xs x m = subst (λ zs. Contains zs x) (reverse-reverse xs) (member_reverse (reverse xs) x m)

pub reverse_filter : {X : Type 0} (test : X → Bool) (xs : List X) → reverse (filter test xs) ≡ filter test (reverse xs)
reverse_filter test [] = refl
reverse_filter test (x ∷ xs) = elim (cases_Bool (test x)) [
  | inl t ↦
      ap reverse (filter_passes test x xs t) ∙ reverse_cons x (filter test xs)
      ∙ ap (λ zs. zs ++ x ∷ []) (reverse_filter test xs)
      ∙ ap (λ zs. filter test (reverse xs) ++ zs) (sym (filter_passes test x [] t))
      ∙ sym (filter-append test (reverse xs) (x ∷ [])) ∙ ap (filter test) (sym (reverse_cons x xs))
  | inr f ↦
      ap reverse (filter_fails test x xs f) ∙ reverse_filter test xs
      ∙ sym (append_none (filter test (reverse xs)))
      ∙ ap (λ zs. filter test (reverse xs) ++ zs) (sym (filter_fails test x [] f))
      ∙ sym (filter-append test (reverse xs) (x ∷ [])) ∙ ap (filter test) (sym (reverse_cons x xs))
]
  where
    append_none : {X : Type 0} (ys : List X) → ys ++ [] ≡ ys
    append_none [] = refl
    append_none (y ∷ ys) = ap (λ zs. y ∷ zs) (append_none ys)

-- ---- with an id

-- an id that is there stays where it is
pub with_cid_same : (cid : Cid) (cids : List Cid) → Rises cids → Contains cids cid → cids ≡ with_cid cid cids
with_cid_same cid cids rises there =
    rising_same cids (with_cid cid cids) rises (with_cid_rises cid cids rises) (λ c m. member_with_cid cid cids c m)
    (λ c m. elim (with_cid_cases cid cids c m) [ inl k ↦ k | inr e ↦ member_same cids cid c (sym e) there ])

-- ---- without an id

pub without_cid_same : (cid : Cid) (cids : List Cid) → Rises cids → (Contains cids cid → ⊥) → cids ≡ without_cid cid cids
without_cid_same cid cids rises absent =
    rising_same cids (without_cid cid cids) rises (without_cid_rises cid cids rises)
    (λ c m. member_without_cid cid cids c m (λ e. absent (member_same cids c cid e m)))
    (λ c m. (without_cid_member cid cids c m).0)

not_itself : (c : Cid) → not (is_named (c ∷ []) c) ≡ false
not_itself c = ap not (member_named (c ∷ []) c (member_here c []))

pub not_other : (c d : Cid) → (d ≡ c → ⊥) → not (is_named (c ∷ []) d) ≡ true
not_other c d ne = member_not_named (c ∷ []) d (λ m. ne (sym (member_single c d m)))

-- what stands at one place of a list in order is removed by its id
pub removed_by_cid : {X : Type 0} (key : X → Cid) (before : Cid → Cid → Bool) → IsStrict before → (xs : List X) → IsSortedKeys key before xs
    → (cid : Cid) (place : ℕ) (x : X) → slice_get xs place ≡ Some x → key x ≡ cid → remove xs place ≡ filter (λ y. not (is_named (cid ∷ []) (key y))) xs
removed_by_cid {X} key before strict xs sorted cid place x at named =
    let within = slice_get_within xs place x at in
    let is = λ (d : X). ap key (get_or_from_slice_get xs place x d at) ∙ named in
    filter_removes (λ y. not (is_named (cid ∷ []) (key y))) xs place within (λ d. ap (λ c. not (is_named (cid ∷ []) c)) (is d) ∙ not_itself cid)
    (λ k d lt ne. not_other cid (key (get_or xs k d)) (λ e. apart key before strict xs sorted k place d lt within ne (e ∙ sym (is d))))

-- ---- falling lists with and without an id

module _ (xs : List Cid) (rises : Rises (reverse xs)) (cid : Cid) where
  pub put_falling : (place : ℕ) → IsPartedAt (λ c. cid_before cid c) xs place → (Contains xs cid → ⊥) → reverse (insert xs place cid) ≡ with_cid cid (reverse xs)
  put_falling place at absent =
      ap reverse (inserted (λ c. c) cid_after falling xs (sorted_falling xs rises) cid place at (λ c m e. absent (member_same xs c cid e m)) cid)
      ∙ reverse-append (filter (λ c. cid_before cid c) xs) (cid ∷ filter (λ c. cid_before c cid) xs)
      ∙ ap (λ zs. zs ++ reverse (filter (λ c. cid_before cid c) xs)) (reverse_cons cid (filter (λ c. cid_before c cid) xs))
      ∙ append_assoc (reverse (filter (λ c. cid_before c cid) xs)) (cid ∷ []) (reverse (filter (λ c. cid_before cid c) xs))
      ∙ ap (λ zs. zs ++ cid ∷ reverse (filter (λ c. cid_before cid c) xs)) (reverse_filter (λ c. cid_before c cid) xs)
      ∙ ap (λ zs. filter (λ c. cid_before c cid) (reverse xs) ++ cid ∷ zs) (reverse_filter (λ c. cid_before cid c) xs)

  pub cut_falling : (place : ℕ) → slice_get xs place ≡ Some cid → reverse (remove xs place) ≡ without_cid cid (reverse xs)
  cut_falling place at =
      ap reverse (removed_by_cid (λ c. c) cid_after falling xs (sorted_falling xs rises) cid place cid at refl)
      ∙ reverse_filter (λ c. not (is_named (cid ∷ []) c)) xs

  -- where the id does not stand at its place, it is not there
  pub absent_at : (place : ℕ) → IsPartedAt (λ c. cid_before cid c) xs place → (slice_get xs place ≡ Some cid → ⊥) → Contains xs cid → ⊥
  absent_at place at other m = other (listed_at (λ c. c) cid_after falling xs (sorted_falling xs rises) cid place at cid m refl)

-- ---- how many

pub filter_short : {X : Type 0} (test : X → Bool) (xs : List X) → length (filter test xs) ≤ length xs
filter_short test [] = omega arith
filter_short test (x ∷ xs) = elim (cases_Bool (test x)) [
  | inl t ↦ omega (arith, ap length (filter_passes test x xs t), filter_short test xs)
  | inr f ↦ omega (arith, ap length (filter_fails test x xs f), filter_short test xs)
]

-- ---- the first one

pub first_cut : (cid : Cid) (cids : List Cid) → Rises (cid ∷ cids) → without_cid cid (cid ∷ cids) ≡ cids
first_cut cid cids rises =
    filter_fails (λ d. not (is_named (cid ∷ []) d)) cid cids (not_itself cid)
    ∙ sym (without_cid_same cid cids rises.1 (λ m. not_before_itself cid (subst (λ d. cid_before cid d ≡ true) m.2 (rises.0 m.0 cid m.1))))

-- ---- what the calls of a list leave

-- an id that is not there yet finds room
pub put_room : (cids : List Cid) (cid : Cid) (list : Roomy) (capacity : ℕ) → list ≡ record { cids = reverse cids; room = capacity } → HasRoomFor cid list → (Contains cids cid → ⊥) → length cids < capacity
put_room cids cid list capacity is room absent =
    let at : HasRoomFor cid (record { cids = reverse cids; room = capacity }) = subst (HasRoomFor cid) is room in
    elim at [ inl m ↦ absurd (absent (reverse_member cids cid m)) | inr lt ↦ omega (arith, length-reverse cids) ]

-- whether an id stands at its place tells whether it is there
module _ (xs parts looked : List Cid) (rises : Rises (reverse xs)) (cid : Cid) (place : ℕ) (parted_is : parts ≡ xs) (looked_is : looked ≡ xs)
    (at : IsPartedAt (λ c. cid_before cid c) parts place) (told : Bool) (tells : Tells told (slice_get looked place ≡ Some cid)) where
  pub told_absent : told ≡ false → Contains xs cid → ⊥
  told_absent e =
      let other : Tells false (slice_get looked place ≡ Some cid) = subst (λ b. Tells b (slice_get looked place ≡ Some cid)) e tells in
      absent_at xs rises cid place (subst (λ ys. IsPartedAt (λ c. cid_before cid c) ys place) parted_is at) (λ h. other (subst (λ ys. slice_get ys place ≡ Some cid) (sym looked_is) h))

  pub told_there : told ≡ true → slice_get xs place ≡ Some cid
  told_there e =
      let here : Tells true (slice_get looked place ≡ Some cid) = subst (λ b. Tells b (slice_get looked place ≡ Some cid)) e tells in
      subst (λ ys. slice_get ys place ≡ Some cid) looked_is here

  pub told_member : told ≡ true → Contains (reverse xs) cid
  told_member e = member_reverse xs cid (member_get xs place cid (told_there e))

  pub told_put : told ≡ false → (now : List Cid) → now ≡ insert xs place cid → reverse now ≡ with_cid cid (reverse xs)
  told_put e now is = ap reverse is ∙ put_falling xs rises cid place (subst (λ ys. IsPartedAt (λ c. cid_before cid c) ys place) parted_is at) (told_absent e)

  pub told_put_rises : told ≡ false → (now : List Cid) → now ≡ insert xs place cid → Rises (reverse now)
  told_put_rises e now is = subst Rises (sym (told_put e now is)) (with_cid_rises cid (reverse xs) rises)

  pub told_cut : told ≡ true → (now : List Cid) → now ≡ remove xs place → reverse now ≡ without_cid cid (reverse xs)
  told_cut e now is = ap reverse is ∙ cut_falling xs rises cid place (told_there e)

  pub told_cut_rises : told ≡ true → (now : List Cid) → now ≡ remove xs place → Rises (reverse now)
  told_cut_rises e now is = subst Rises (sym (told_cut e now is)) (without_cid_rises cid (reverse xs) rises)

  pub told_gone : told ≡ false → reverse xs ≡ without_cid cid (reverse xs)
  told_gone e = without_cid_same cid (reverse xs) rises (λ m. told_absent e (reverse_member xs cid m))
