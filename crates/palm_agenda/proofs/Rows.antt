-- A list of ids for each variable: what a longer table and a change of one list leave.
use Rattle.std.proofs.Common.{◌≡◌, ℕ, zero, suc, ◌+◌, ◌<◌, ◌≤◌, List, [], ◌∷◌, ◌++◌, length, get_or, set, take, Contains, ◌⊎◌, ◌↔◌, inl, inr, refl, sym, ap, ◌∙◌, subst, arith, get_or-set_same, get_or-set_other, length-set}
use Rattle.std.proofs.lemmas.List.{get_or_past, take_all, take_more}
use Rattle.std.proofs.lemmas.Bool.{cases_lt}
use Rattle.std.proofs.lemmas.List.Elements.{Contains-append_left, Contains-append_right}
use Rattle.palm_base.specs.declared.terms.Cid.{Cid}
use Rattle.palm_base.proofs.cited.Members.{member_nil, member_here, member_same, member_take_more, nat_known}
use Rattle.palm_model.specs.State.{without_cid}
use Rattle.palm_events.proofs.cited.States.{without_cid_member, member_without_cid}
use Rattle.palm_base.specs.Order.{with_cid}
use Rattle.palm_agenda.specs.Cids.{Roomy, HasRoomFor, HasSpace, cids_at, row_at}
use Rattle.palm_base.proofs.cited.RisingLists.{with_cid_cases, with_cid_here, member_with_cid}
use Rattle.palm_agenda.proofs.CidLists.{roomy}

-- ---- the first members

pub front_more : {X : Type 0} (xs : List X) (i : ℕ) (x y : X) → i < length xs → Contains (take i xs) y → Contains (take (i + 1) xs) y
front_more xs i x y lt m = subst (λ ys. Contains ys y) (sym (take_more xs i x lt)) (Contains-append_left (take i xs) (get_or xs i x ∷ []) y m)

pub front_last : {X : Type 0} (xs : List X) (i : ℕ) (x : X) → i < length xs → x ≡ get_or xs i x → Contains (take (i + 1) xs) x
front_last xs i x lt is =
    subst (λ ys. Contains ys x) (sym (take_more xs i x lt))
    (Contains-append_right (take i xs) (get_or xs i x ∷ []) x (member_same (get_or xs i x ∷ []) (get_or xs i x) x (sym is) (member_here (get_or xs i x) [])))

-- ---- rows

-- an empty list more is as good as none
pub row_pushed : (rows : List Roomy) (x : ℕ) → row_at (rows ++ roomy [] 0 ∷ []) x ≡ row_at rows x
row_pushed [] zero = refl
row_pushed [] (suc x) = refl
row_pushed (r ∷ rows) zero = refl
row_pushed (r ∷ rows) (suc x) = row_pushed rows x

-- a variable with an id has a list
pub row_within : (rows : List Roomy) (x : ℕ) (c : Cid) → Contains (cids_at rows x) c → x < length rows
row_within rows x c m = elim (cases_lt x (length rows)) [
  | inl lt ↦ lt
  | inr past ↦ absurd (member_nil c (subst (λ (r : Roomy). Contains r.cids c) (get_or_past rows x (roomy [] 0) past) m))
]

module _ (rows after : List Roomy) (v : ℕ) (row : Roomy) (within : v < length rows) (is : after ≡ set rows v row) where
  pub row_here : row_at after v ≡ row
  row_here = ap (λ rs. row_at rs v) is ∙ get_or-set_same rows v row (roomy [] 0) within

  pub row_other : (x : ℕ) → (x ≡ v → ⊥) → row_at after x ≡ row_at rows x
  row_other x ne = ap (λ rs. row_at rs x) is ∙ get_or-set_other rows v x row (roomy [] 0) ne

  pub same_many : length after ≡ length rows
  same_many = ap length is ∙ length-set rows v row

  -- the ids stay and the room grows, where they do in this row
  module _ (cids : row.cids ≡ cids_at rows v) (grows : (row_at rows v).room ≤ row.room) where
    pub cids_stay : (x : ℕ) → cids_at after x ≡ cids_at rows x
    cids_stay x = elim (nat_known x v) [
      | inl e ↦ subst (λ k. cids_at after k ≡ cids_at rows k) (sym e) (ap (λ (r : Roomy). r.cids) row_here ∙ cids)
      | inr ne ↦ ap (λ (r : Roomy). r.cids) (row_other x ne)
    ]

    pub room_grows : (x : ℕ) → (row_at rows x).room ≤ (row_at after x).room
    room_grows x = elim (nat_known x v) [
      | inl e ↦ subst (λ k. (row_at rows k).room ≤ (row_at after k).room) (sym e) (subst (λ (r : Roomy). (row_at rows v).room ≤ r.room) (sym row_here) grows)
      | inr ne ↦ subst (λ (r : Roomy). (row_at rows x).room ≤ r.room) (sym (row_other x ne)) (omega arith)
    ]

pub space_stays : (rows after : List Roomy) (x : ℕ) → cids_at after x ≡ cids_at rows x → (row_at rows x).room ≤ (row_at after x).room → length rows ≤ length after → HasSpace rows x → HasSpace after x
space_stays rows after x cids grows longer space = record {
  within = omega (arith, space.within);
  room = omega (arith, space.room, ap length cids);
}

-- ---- an id put into one list

abbrev pub row_put : List Roomy → ℕ → Cid → Roomy
row_put rows v cid = roomy (with_cid cid (cids_at rows v)) (row_at rows v).room

module _ (rows after : List Roomy) (v : ℕ) (cid : Cid) (within : v < length rows) (is : after ≡ set rows v (row_put rows v cid)) where
  put_cases : (x : ℕ) (c : Cid) → Contains (cids_at after x) c → Contains (cids_at rows x) c ⊎ ((x ≡ v) × (c ≡ cid))
  put_cases x c m = elim (nat_known x v) [
    | inl e ↦
        let k : Contains (with_cid cid (cids_at rows v)) c = subst (λ (r : Roomy). Contains r.cids c) (row_here rows after v (row_put rows v cid) within is) (subst (λ y. Contains (cids_at after y) c) e m) in
        elim (with_cid_cases cid (cids_at rows v) c k) [
          | inl n ↦ inl (subst (λ y. Contains (cids_at rows y) c) (sym e) n)
          | inr s ↦ inr (e, s)
        ]
    | inr ne ↦ inl (subst (λ (r : Roomy). Contains r.cids c) (row_other rows after v (row_put rows v cid) within is x ne) m)
  ]

  put_here : Contains (cids_at after v) cid
  put_here = subst (λ (r : Roomy). Contains r.cids cid) (sym (row_here rows after v (row_put rows v cid) within is)) (with_cid_here cid (cids_at rows v))

  put_there : (x : ℕ) (c : Cid) → Contains (cids_at rows x) c → Contains (cids_at after x) c
  put_there x c m = elim (nat_known x v) [
    | inl e ↦ subst (λ y. Contains (cids_at after y) c) (sym e)
        (subst (λ (r : Roomy). Contains r.cids c) (sym (row_here rows after v (row_put rows v cid) within is))
        (member_with_cid cid (cids_at rows v) c (subst (λ y. Contains (cids_at rows y) c) e m)))
    | inr ne ↦ subst (λ (r : Roomy). Contains r.cids c) (sym (row_other rows after v (row_put rows v cid) within is x ne)) m
  ]

  pub put_room_stays : (x : ℕ) → HasRoomFor cid (row_at rows x) → HasRoomFor cid (row_at after x)
  put_room_stays x room = elim (nat_known x v) [
    | inl e ↦ inl (subst (λ y. Contains (cids_at after y) cid) (sym e) put_here)
    | inr ne ↦ subst (HasRoomFor cid) (sym (row_other rows after v (row_put rows v cid) within is x ne)) room
  ]

  module _ (first : List Roomy) (scope : List ℕ) (i : ℕ) (lt : i < length scope) (item : v ≡ get_or scope i v)
      (so_far : (x : ℕ) (c : Cid) → Contains (cids_at rows x) c ↔ (Contains (cids_at first x) c ⊎ (Contains (take i scope) x × (c ≡ cid)))) where
    pub put_more : (x : ℕ) (c : Cid) → Contains (cids_at after x) c ↔ (Contains (cids_at first x) c ⊎ (Contains (take (i + 1) scope) x × (c ≡ cid)))
    put_more x c = (
      λ m. elim (put_cases x c m) [
        | inl k ↦ elim ((so_far x c).0 k) [
          | inl n ↦ inl n
          | inr both ↦ inr (front_more scope i v x lt both.0, both.1)
        ]
        | inr both ↦ inr (subst (λ y. Contains (take (i + 1) scope) y) (sym both.0) (front_last scope i v lt item), both.1)
      ],
      λ h. elim h [
        | inl n ↦ put_there x c ((so_far x c).1 (inl n))
        | inr both ↦ elim (member_take_more scope i v x lt item both.0) [
          | inl k ↦ put_there x c ((so_far x c).1 (inr (k, both.1)))
          | inr e ↦ subst (λ y. Contains (cids_at after y) c) e (member_same (cids_at after v) cid c (sym both.1) put_here)
        ]
      ],
    )

pub put_none : (cids : List Cid) (x : ℕ) (cid c : Cid) → Contains cids c ↔ (Contains cids c ⊎ (Contains {X = ℕ} [] x × (c ≡ cid)))
put_none cids x cid c = (λ m. inl m, λ h. elim h [ inl m ↦ m | inr both ↦ absurd (member_nil x both.0) ])

pub put_all : (rows first : List Roomy) (scope : List ℕ) (i : ℕ) (cid : Cid) → length scope ≤ i
    → ((x : ℕ) (c : Cid) → Contains (cids_at rows x) c ↔ (Contains (cids_at first x) c ⊎ (Contains (take i scope) x × (c ≡ cid))))
    → (x : ℕ) (c : Cid) → Contains (cids_at rows x) c ↔ (Contains (cids_at first x) c ⊎ (Contains scope x × (c ≡ cid)))
put_all rows first scope i cid past so_far x c =
    subst (λ xs. Contains (cids_at rows x) c ↔ (Contains (cids_at first x) c ⊎ (Contains xs x × (c ≡ cid)))) (take_all i scope past) (so_far x c)

-- ---- an id taken out of one list

abbrev pub row_cut : List Roomy → ℕ → Cid → Roomy
row_cut rows v cid = roomy (without_cid cid (cids_at rows v)) (row_at rows v).room

module _ (rows after : List Roomy) (v : ℕ) (cid : Cid) (within : v < length rows) (is : after ≡ set rows v (row_cut rows v cid)) where
  cut_member : (x : ℕ) (c : Cid) → Contains (cids_at after x) c → Contains (cids_at rows x) c × (x ≡ v → c ≡ cid → ⊥)
  cut_member x c m = elim (nat_known x v) [
    | inl e ↦
        let k : Contains (without_cid cid (cids_at rows v)) c = subst (λ (r : Roomy). Contains r.cids c) (row_here rows after v (row_cut rows v cid) within is) (subst (λ y. Contains (cids_at after y) c) e m) in
        let r = without_cid_member cid (cids_at rows v) c k in
        (subst (λ y. Contains (cids_at rows y) c) (sym e) r.0, λ _. r.1)
    | inr ne ↦ (subst (λ (r : Roomy). Contains r.cids c) (row_other rows after v (row_cut rows v cid) within is x ne) m, λ e s. ne e)
  ]

  member_cut : (x : ℕ) (c : Cid) → Contains (cids_at rows x) c → (x ≡ v → c ≡ cid → ⊥) → Contains (cids_at after x) c
  member_cut x c m apart = elim (nat_known x v) [
    | inl e ↦ subst (λ y. Contains (cids_at after y) c) (sym e)
        (subst (λ (r : Roomy). Contains r.cids c) (sym (row_here rows after v (row_cut rows v cid) within is))
        (member_without_cid cid (cids_at rows v) c (subst (λ y. Contains (cids_at rows y) c) e m) (apart e)))
    | inr ne ↦ subst (λ (r : Roomy). Contains r.cids c) (sym (row_other rows after v (row_cut rows v cid) within is x ne)) m
  ]

  module _ (first : List Roomy) (scope : List ℕ) (i : ℕ) (lt : i < length scope) (item : v ≡ get_or scope i v)
      (so_far : (x : ℕ) (c : Cid) → Contains (cids_at rows x) c ↔ (Contains (cids_at first x) c × (Contains (take i scope) x → c ≡ cid → ⊥))) where
    pub cut_more : (x : ℕ) (c : Cid) → Contains (cids_at after x) c ↔ (Contains (cids_at first x) c × (Contains (take (i + 1) scope) x → c ≡ cid → ⊥))
    cut_more x c = (
      λ m.
          let r = cut_member x c m in
          let s = (so_far x c).0 r.0 in
          (s.0, λ k e. elim (member_take_more scope i v x lt item k) [ inl n ↦ s.1 n e | inr h ↦ r.1 (sym h) e ]),
      λ h.
          member_cut x c ((so_far x c).1 (h.0, λ n e. h.1 (front_more scope i v x lt n) e))
          (λ h' e. h.1 (subst (λ y. Contains (take (i + 1) scope) y) (sym h') (front_last scope i v lt item)) e),
    )

pub cut_all : (rows first : List Roomy) (scope : List ℕ) (i : ℕ) (cid : Cid) → length scope ≤ i
    → ((x : ℕ) (c : Cid) → Contains (cids_at rows x) c ↔ (Contains (cids_at first x) c × (Contains (take i scope) x → c ≡ cid → ⊥)))
    → (x : ℕ) (c : Cid) → Contains (cids_at rows x) c ↔ (Contains (cids_at first x) c × (Contains scope x → c ≡ cid → ⊥))
cut_all rows first scope i cid past so_far x c =
    subst (λ xs. Contains (cids_at rows x) c ↔ (Contains (cids_at first x) c × (Contains xs x → c ≡ cid → ⊥))) (take_all i scope past) (so_far x c)
