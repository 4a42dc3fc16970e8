-- Flags place by place: how many are raised, which is the first, and the ids at the raised ones.
use Rattle.std.proofs.Common.{◌≡◌, ℕ, zero, suc, ◌+◌, ◌-◌, ◌<◌, ◌≤◌, Bool, true, false, not, length-set, List, [], ◌∷◌, ◌++◌, length, get_or, set, take, slice_get, insert, remove, Contains, Some, ◌⊎◌, ◌↔◌, inl, inr, refl, sym, ap, ◌∙◌, subst, arith, get_or-set_same, get_or-set_other}
use Rattle.std.specs.List.{AllWithin}
use Rattle.std.proofs.lemmas.Bool.{cases_lt, false≢true}
use Rattle.std.proofs.lemmas.Option.{get_or_from_slice_get}
use Rattle.std.proofs.lemmas.List.Edits.{get_or-insert_below, get_or-remove_below, get_or-remove_above}
use Rattle.palm_base.specs.declared.terms.Cid.{Cid}
use Rattle.palm_base.proofs.cited.Members.{member_nil, member_here, member_there, member_cases, member_same, all_members, nat_known}
use Rattle.palm_base.specs.Order.{Rises, cid_before}
use Rattle.palm_model.specs.Log.{is_named}
use Rattle.palm_model.specs.State.{without_cid}
use Rattle.palm_base.proofs.cited.CidOrder.{not_before_itself}
use Rattle.palm_agenda.specs.Flags.{IsCounted, count_raised, flagged}
use Rattle.palm_agenda.proofs.CidLists.{first_cut, not_other, without_cid_same}
use Rattle.palm_base.proofs.cited.Sorted.{filter_passes}

abbrev pub AreLowered : List Bool → ℕ → Type 0
AreLowered flags place = AllWithin (λ b. b ≡ false) flags 0 place

-- ---- how many are raised

pub few_raised : (flags : List Bool) → count_raised flags ≤ length flags
few_raised [] = omega arith
few_raised (true ∷ flags) = let e = few_raised flags in omega arith
few_raised (false ∷ flags) = let e = few_raised flags in omega arith

pub count_inserted : (flags : List Bool) (i : ℕ) → count_raised (insert flags i true) ≡ suc (count_raised flags)
count_inserted [] zero = refl
count_inserted [] (suc i) = refl
count_inserted (b ∷ flags) zero = refl
count_inserted (true ∷ flags) (suc i) = ap suc (count_inserted flags i)
count_inserted (false ∷ flags) (suc i) = count_inserted flags i

pub count_more : (flags : List Bool) (i : ℕ) (d : Bool) → i < length flags → get_or flags i d ≡ false → count_raised (set flags i true) ≡ suc (count_raised flags)
count_more [] i d lt is = absurd (omega arith)
count_more (true ∷ flags) zero d lt is = absurd (false≢true (sym is))
count_more (false ∷ flags) zero d lt is = refl
count_more (true ∷ flags) (suc i) d lt is = ap suc (count_more flags i d (omega arith) is)
count_more (false ∷ flags) (suc i) d lt is = count_more flags i d (omega arith) is

pub count_less : (flags : List Bool) (i : ℕ) (d : Bool) → i < length flags → get_or flags i d ≡ true → suc (count_raised (set flags i false)) ≡ count_raised flags
count_less [] i d lt is = absurd (omega arith)
count_less (true ∷ flags) zero d lt is = refl
count_less (false ∷ flags) zero d lt is = absurd (false≢true is)
count_less (true ∷ flags) (suc i) d lt is = ap suc (count_less flags i d (omega arith) is)
count_less (false ∷ flags) (suc i) d lt is = count_less flags i d (omega arith) is

count_cut : (flags : List Bool) (i : ℕ) → i < length flags → count_raised (remove (set flags i false) i) ≡ count_raised (set flags i false)
count_cut [] i lt = absurd (omega arith)
count_cut (b ∷ flags) zero lt = refl
count_cut (true ∷ flags) (suc i) lt = ap suc (count_cut flags i (omega arith))
count_cut (false ∷ flags) (suc i) lt = count_cut flags i (omega arith)

remove_set : (flags : List Bool) (i : ℕ) → i < length flags → remove (set flags i false) i ≡ remove flags i
remove_set [] i lt = absurd (omega arith)
remove_set (b ∷ flags) zero lt = refl
remove_set (b ∷ flags) (suc i) lt = ap (λ bs. b ∷ bs) (remove_set flags i (omega arith))

pub none_raised : (flags : List Bool) (place : ℕ) → length flags ≤ place → AreLowered flags place → count_raised flags ≡ 0
none_raised [] place le lowered = refl
none_raised (true ∷ flags) place le lowered = absurd (false≢true (sym (lowered 0 true (omega arith) (omega arith))))
none_raised (false ∷ flags) place le lowered = none_raised flags (place - 1) (omega arith) (λ k d ge lt. lowered (suc k) d (omega arith) (omega arith))

-- ---- none below the lowest

pub counted_insert : (flags after : List Bool) (raised lowest low i : ℕ) → IsCounted flags raised lowest → i ≤ length flags → after ≡ insert flags i true → low ≤ lowest → low ≤ i → IsCounted after (raised + 1) low
counted_insert flags after raised lowest low i counted le is below within = subst (λ bs. IsCounted bs (raised + 1) low) (sym is) (record {
  many = let e = count_inserted flags i in let m = counted.many in omega arith;
  below = λ k d ge lt. get_or-insert_below flags i true d k (omega arith) le ∙ counted.below k d ge (omega arith);
})

pub counted_raise : (flags after : List Bool) (raised lowest low i : ℕ) (d : Bool) → IsCounted flags raised lowest → i < length flags → get_or flags i d ≡ false → after ≡ set flags i true → low ≤ lowest → low ≤ i
    → IsCounted after (raised + 1) low
counted_raise flags after raised lowest low i d counted lt at is below within = subst (λ bs. IsCounted bs (raised + 1) low) (sym is) (record {
  many = let e = count_more flags i d lt at in let m = counted.many in omega arith;
  below = λ k x ge l. get_or-set_other flags i k true x (λ e. omega arith) ∙ counted.below k x ge (omega arith);
})

still_lowered : (flags : List Bool) (i lowest : ℕ) → i < length flags → AreLowered flags lowest → AreLowered (set flags i false) lowest
still_lowered flags i lowest within lowered k d ge lt = elim (nat_known k i) [
  | inl e ↦ subst (λ j. get_or (set flags i false) j d ≡ false) (sym e) (get_or-set_same flags i false d within)
  | inr ne ↦ get_or-set_other flags i k false d ne ∙ lowered k d ge lt
]

pub counted_lower : (flags after : List Bool) (raised lowest low i : ℕ) (d : Bool) → IsCounted flags raised lowest → i < length flags → get_or flags i d ≡ true → after ≡ set flags i false → AreLowered flags low → IsCounted after (raised - 1) low
counted_lower flags after raised lowest low i d counted lt at is lowered = subst (λ bs. IsCounted bs (raised - 1) low) (sym is) (record {
  many = let e = count_less flags i d lt at in let m = counted.many in omega arith;
  below = still_lowered flags i low lt lowered;
})

pub some_raised : (flags : List Bool) (raised lowest i : ℕ) (d : Bool) → IsCounted flags raised lowest → i < length flags → get_or flags i d ≡ true → 1 ≤ raised
some_raised flags raised lowest i d counted lt at = let e = count_less flags i d lt at in let m = counted.many in omega arith

pub not_all_raised : (flags : List Bool) (raised lowest i : ℕ) (d : Bool) → IsCounted flags raised lowest → i < length flags → get_or flags i d ≡ false → raised < length flags
not_all_raised flags raised lowest i d counted lt at =
    let e = count_more flags i d lt at in
    let m = counted.many in
    let few = few_raised (set flags i true) in
    let long = length-set flags i true in
    omega arith

-- the flag at a place is lowered and taken out
module _ (first flags after : List Bool) (raised lowest low i : ℕ) (counted : IsCounted flags raised lowest) (within : i < length first) (lowered : flags ≡ set first i false) (is : after ≡ remove flags i) where
  pub cut_is : after ≡ remove first i
  cut_is = is ∙ ap (λ bs. remove bs i) lowered ∙ remove_set first i within

  pub counted_cut : low + 1 ≤ lowest ⊎ (low ≡ 0) → IsCounted after raised low
  counted_cut less = record {
    many = counted.many ∙ ap count_raised lowered ∙ sym (count_cut first i within) ∙ ap (λ bs. count_raised (remove bs i)) (sym lowered) ∙ ap count_raised (sym is);
    below = λ k d ge lt.
        let long : i < length flags = omega (arith, ap length lowered, length-set first i false) in
        let more : k + 1 < lowest = elim less [ inl h ↦ omega arith | inr h ↦ absurd (omega arith) ] in
        ap (λ bs. get_or bs k d) is ∙ elim (cases_lt k i) [
          | inl l ↦ get_or-remove_below flags i d k l long ∙ counted.below k d ge (omega arith)
          | inr le ↦ get_or-remove_above flags i d k le long ∙ counted.below (k + 1) d (omega arith) more
        ];
  }

pub one_less : (lowest low : ℕ) → low ≡ lowest - 1 → low + 1 ≤ lowest ⊎ (low ≡ 0)
one_less zero low is = inr is
one_less (suc n) low is = inl (omega arith)

-- the walk to the first one
pub lowered_more : (flags : List Bool) (place : ℕ) (b : Bool) → AreLowered flags place → place < length flags → b ≡ get_or flags place b → b ≡ false → AreLowered flags (place + 1)
lowered_more flags place b lowered within item is k d ge lt = elim (cases_lt k place) [
  | inl l ↦ lowered k d ge l
  | inr le ↦
      let e : k ≡ place = omega arith in
      ap (λ j. get_or flags j d) e ∙ get_or_any flags place d b within ∙ sym item ∙ is
]
  where
    get_or_any : (flags : List Bool) (i : ℕ) (d b : Bool) → i < length flags → get_or flags i d ≡ get_or flags i b
    get_or_any [] i d b lt = absurd (omega arith)
    get_or_any (x ∷ flags) zero d b lt = refl
    get_or_any (x ∷ flags) (suc i) d b lt = get_or_any flags i d b (omega arith)

-- ---- the ids at the raised flags

pub flagged_member : (cids : List Cid) (flags : List Bool) (c : Cid) → Contains (flagged cids flags) c → Contains cids c
flagged_member [] flags c m = absurd (member_nil c m)
flagged_member (n ∷ cids) [] c m = absurd (member_nil c m)
flagged_member (n ∷ cids) (true ∷ flags) c m = elim (member_cases n (flagged cids flags) c m) [
  | inl e ↦ member_same (n ∷ cids) n c e (member_here n cids)
  | inr k ↦ member_there n cids c (flagged_member cids flags c k)
]
flagged_member (n ∷ cids) (false ∷ flags) c m = member_there n cids c (flagged_member cids flags c m)

pub flagged_rises : (cids : List Cid) (flags : List Bool) → Rises cids → Rises (flagged cids flags)
flagged_rises [] flags rises = tt
flagged_rises (n ∷ cids) [] rises = tt
flagged_rises (n ∷ cids) (true ∷ flags) rises = (
  all_members (λ d. cid_before n d ≡ true) (flagged cids flags) (λ d m.
      let k = flagged_member cids flags d m in subst (λ e. cid_before n e ≡ true) k.2 (rises.0 k.0 d k.1)),
  flagged_rises cids flags rises.1,
)
flagged_rises (n ∷ cids) (false ∷ flags) rises = flagged_rises cids flags rises.1

pub flagged_length : (cids : List Cid) (flags : List Bool) → length flags ≡ length cids → length (flagged cids flags) ≡ count_raised flags
flagged_length [] [] same = refl
flagged_length [] (b ∷ flags) same = absurd (omega arith)
flagged_length (n ∷ cids) [] same = absurd (omega arith)
flagged_length (n ∷ cids) (true ∷ flags) same = ap suc (flagged_length cids flags (omega arith))
flagged_length (n ∷ cids) (false ∷ flags) same = flagged_length cids flags (omega arith)

-- the id at the place is among them once its flag is raised
module _ (cid c : Cid) where
  pub raised_cases : (cids : List Cid) (flags : List Bool) (i : ℕ) → ((d : Cid) → get_or cids i d ≡ cid) → Contains (flagged cids (set flags i true)) c → Contains (flagged cids flags) c ⊎ (c ≡ cid)
  raised_cases [] flags i at m = absurd (member_nil c m)
  raised_cases (n ∷ cids) [] i at m = inl m
  raised_cases (n ∷ cids) (true ∷ flags) zero at m = inl m
  raised_cases (n ∷ cids) (false ∷ flags) zero at m = elim (member_cases n (flagged cids flags) c m) [
    | inl e ↦ inr (sym e ∙ at n)
    | inr k ↦ inl k
  ]
  raised_cases (n ∷ cids) (true ∷ flags) (suc i) at m = elim (member_cases n (flagged cids (set flags i true)) c m) [
    | inl e ↦ inl (member_same (n ∷ flagged cids flags) n c e (member_here n (flagged cids flags)))
    | inr k ↦ elim (raised_cases cids flags i at k) [
      | inl j ↦ inl (member_there n (flagged cids flags) c j)
      | inr e ↦ inr e
    ]
  ]
  raised_cases (n ∷ cids) (false ∷ flags) (suc i) at m = raised_cases cids flags i at m

  pub still_raised : (cids : List Cid) (flags : List Bool) (i : ℕ) → Contains (flagged cids flags) c → Contains (flagged cids (set flags i true)) c
  still_raised [] flags i m = absurd (member_nil c m)
  still_raised (n ∷ cids) [] i m = absurd (member_nil c m)
  still_raised (n ∷ cids) (true ∷ flags) zero m = m
  still_raised (n ∷ cids) (false ∷ flags) zero m = member_there n (flagged cids flags) c m
  still_raised (n ∷ cids) (true ∷ flags) (suc i) m = elim (member_cases n (flagged cids flags) c m) [
    | inl e ↦ member_same (n ∷ flagged cids (set flags i true)) n c e (member_here n (flagged cids (set flags i true)))
    | inr k ↦ member_there n (flagged cids (set flags i true)) c (still_raised cids flags i k)
  ]
  still_raised (n ∷ cids) (false ∷ flags) (suc i) m = still_raised cids flags i m

  pub inserted_cases : (cids : List Cid) (flags : List Bool) (i : ℕ) → length flags ≡ length cids → Contains (flagged (insert cids i cid) (insert flags i true)) c → Contains (flagged cids flags) c ⊎ (c ≡ cid)
  inserted_cases [] [] zero same m = elim (member_cases cid [] c m) [ inl e ↦ inr (sym e) | inr k ↦ inl k ]
  inserted_cases [] [] (suc i) same m = elim (member_cases cid [] c m) [ inl e ↦ inr (sym e) | inr k ↦ inl k ]
  inserted_cases [] (b ∷ flags) i same m = absurd (omega arith)
  inserted_cases (n ∷ cids) [] i same m = absurd (omega arith)
  inserted_cases (n ∷ cids) (b ∷ flags) zero same m = elim (member_cases cid (flagged (n ∷ cids) (b ∷ flags)) c m) [ inl e ↦ inr (sym e) | inr k ↦ inl k ]
  inserted_cases (n ∷ cids) (true ∷ flags) (suc i) same m = elim (member_cases n (flagged (insert cids i cid) (insert flags i true)) c m) [
    | inl e ↦ inl (member_same (n ∷ flagged cids flags) n c e (member_here n (flagged cids flags)))
    | inr k ↦ elim (inserted_cases cids flags i (omega arith) k) [
      | inl j ↦ inl (member_there n (flagged cids flags) c j)
      | inr e ↦ inr e
    ]
  ]
  inserted_cases (n ∷ cids) (false ∷ flags) (suc i) same m = inserted_cases cids flags i (omega arith) m

  pub still_inserted : (cids : List Cid) (flags : List Bool) (i : ℕ) → length flags ≡ length cids → Contains (flagged cids flags) c → Contains (flagged (insert cids i cid) (insert flags i true)) c
  still_inserted [] flags i same m = absurd (member_nil c m)
  still_inserted (n ∷ cids) [] i same m = absurd (omega arith)
  still_inserted (n ∷ cids) (b ∷ flags) zero same m = member_there cid (flagged (n ∷ cids) (b ∷ flags)) c m
  still_inserted (n ∷ cids) (true ∷ flags) (suc i) same m = elim (member_cases n (flagged cids flags) c m) [
    | inl e ↦ member_same (n ∷ flagged (insert cids i cid) (insert flags i true)) n c e (member_here n (flagged (insert cids i cid) (insert flags i true)))
    | inr k ↦ member_there n (flagged (insert cids i cid) (insert flags i true)) c (still_inserted cids flags i (omega arith) k)
  ]
  still_inserted (n ∷ cids) (false ∷ flags) (suc i) same m = still_inserted cids flags i (omega arith) m

pub raised_here : (cid : Cid) (cids : List Cid) (flags : List Bool) (i : ℕ) → i < length cids → i < length flags → ((d : Cid) → get_or cids i d ≡ cid) → Contains (flagged cids (set flags i true)) cid
raised_here cid [] flags i lt within at = absurd (omega arith)
raised_here cid (n ∷ cids) [] i lt within at = absurd (omega arith)
raised_here cid (n ∷ cids) (b ∷ flags) zero lt within at = member_same (n ∷ flagged cids flags) n cid (at n) (member_here n (flagged cids flags))
raised_here cid (n ∷ cids) (true ∷ flags) (suc i) lt within at = member_there n (flagged cids (set flags i true)) cid (raised_here cid cids flags i (omega arith) (omega arith) at)
raised_here cid (n ∷ cids) (false ∷ flags) (suc i) lt within at = raised_here cid cids flags i (omega arith) (omega arith) at

pub inserted_here : (cid : Cid) (cids : List Cid) (flags : List Bool) (i : ℕ) → length flags ≡ length cids → Contains (flagged (insert cids i cid) (insert flags i true)) cid
inserted_here cid [] [] zero same = member_here cid []
inserted_here cid [] [] (suc i) same = member_here cid []
inserted_here cid [] (b ∷ flags) i same = absurd (omega arith)
inserted_here cid (n ∷ cids) [] i same = absurd (omega arith)
inserted_here cid (n ∷ cids) (b ∷ flags) zero same = member_here cid (flagged (n ∷ cids) (b ∷ flags))
inserted_here cid (n ∷ cids) (true ∷ flags) (suc i) same = member_there n (flagged (insert cids i cid) (insert flags i true)) cid (inserted_here cid cids flags i (omega arith))
inserted_here cid (n ∷ cids) (false ∷ flags) (suc i) same = inserted_here cid cids flags i (omega arith)

pub raised_set : (cid : Cid) (cids : List Cid) (flags : List Bool) (i : ℕ) → i < length cids → i < length flags → ((d : Cid) → get_or cids i d ≡ cid) → (c : Cid)
    → Contains (flagged cids (set flags i true)) c ↔ (Contains (flagged cids flags) c ⊎ (c ≡ cid))
raised_set cid cids flags i lt within at c = (
  raised_cases cid c cids flags i at,
  λ h. elim h [
    | inl m ↦ still_raised cid c cids flags i m
    | inr e ↦ member_same (flagged cids (set flags i true)) cid c (sym e) (raised_here cid cids flags i lt within at)
  ],
)

pub inserted_set : (cid : Cid) (cids : List Cid) (flags : List Bool) (i : ℕ) → length flags ≡ length cids → (c : Cid)
    → Contains (flagged (insert cids i cid) (insert flags i true)) c ↔ (Contains (flagged cids flags) c ⊎ (c ≡ cid))
inserted_set cid cids flags i same c = (
  inserted_cases cid c cids flags i same,
  λ h. elim h [
    | inl m ↦ still_inserted cid c cids flags i same m
    | inr e ↦ member_same (flagged (insert cids i cid) (insert flags i true)) cid c (sym e) (inserted_here cid cids flags i same)
  ],
)

-- the id at the place is not among them once its flag is lowered
pub lowered_without : (cid : Cid) (cids : List Cid) (flags : List Bool) (i : ℕ) → Rises cids → i < length cids → i < length flags → ((d : Cid) → get_or cids i d ≡ cid) → flagged cids (set flags i false) ≡ without_cid cid (flagged cids flags)
lowered_without cid [] flags i rises lt within at = absurd (omega arith)
lowered_without cid (n ∷ cids) [] i rises lt within at = absurd (omega arith)
lowered_without cid (n ∷ cids) (true ∷ flags) zero rises lt within at =
    subst (λ k. flagged cids flags ≡ without_cid k (n ∷ flagged cids flags)) (at n) (sym (first_cut n (flagged cids flags) (flagged_rises (n ∷ cids) (true ∷ flags) rises)))
lowered_without cid (n ∷ cids) (false ∷ flags) zero rises lt within at =
    subst (λ k. flagged cids flags ≡ without_cid k (flagged cids flags)) (at n)
    (without_cid_same n (flagged cids flags) (flagged_rises cids flags rises.1) (λ m.
    let k = flagged_member cids flags n m in
    not_before_itself n (subst (λ d. cid_before n d ≡ true) k.2 (rises.0 k.0 n k.1))))
lowered_without cid (n ∷ cids) (true ∷ flags) (suc i) rises lt within at =
    ap (λ cs. n ∷ cs) (lowered_without cid cids flags i rises.1 (omega arith) (omega arith) at)
    ∙ sym (filter_passes (λ d. not (is_named (cid ∷ []) d)) n (flagged cids flags)
    (not_other cid n (λ e. not_before_itself n (subst (λ d. cid_before n d ≡ true) (at n ∙ sym e) (rises.0 i n (omega arith))))))
lowered_without cid (n ∷ cids) (false ∷ flags) (suc i) rises lt within at = lowered_without cid cids flags i rises.1 (omega arith) (omega arith) at

pub removed_lowered : (cids : List Cid) (flags : List Bool) (i : ℕ) → i < length cids → i < length flags → flagged (remove cids i) (remove flags i) ≡ flagged cids (set flags i false)
removed_lowered [] flags i lt within = absurd (omega arith)
removed_lowered (n ∷ cids) [] i lt within = absurd (omega arith)
removed_lowered (n ∷ cids) (b ∷ flags) zero lt within = refl
removed_lowered (n ∷ cids) (true ∷ flags) (suc i) lt within = ap (λ cs. n ∷ cs) (removed_lowered cids flags i (omega arith) (omega arith))
removed_lowered (n ∷ cids) (false ∷ flags) (suc i) lt within = removed_lowered cids flags i (omega arith) (omega arith)

pub first_flagged : (cid : Cid) (cids : List Cid) (flags : List Bool) (i : ℕ) → i < length cids → i < length flags → ((d : Cid) → get_or cids i d ≡ cid) → ((d : Bool) → get_or flags i d ≡ true) → AreLowered flags i
    → slice_get (flagged cids flags) 0 ≡ Some cid
first_flagged cid [] flags i lt within at raised lowered = absurd (omega arith)
first_flagged cid (n ∷ cids) [] i lt within at raised lowered = absurd (omega arith)
first_flagged cid (n ∷ cids) (true ∷ flags) zero lt within at raised lowered = ap Some (at n)
first_flagged cid (n ∷ cids) (false ∷ flags) zero lt within at raised lowered = absurd (false≢true (raised false))
first_flagged cid (n ∷ cids) (true ∷ flags) (suc i) lt within at raised lowered = absurd (false≢true (sym (lowered 0 true (omega arith) (omega arith))))
first_flagged cid (n ∷ cids) (false ∷ flags) (suc i) lt within at raised lowered =
    first_flagged cid cids flags i (omega arith) (omega arith) at raised (λ k d ge l. lowered (suc k) d (omega arith) (omega arith))

-- ---- a walk over all of them

walked_past : (cids : List Cid) (flags : List Bool) (i : ℕ) (d : Bool) → i < length flags → get_or flags i d ≡ false → flagged (take (suc i) cids) (take (suc i) flags) ≡ flagged (take i cids) (take i flags)
walked_past [] flags zero d within is = refl
walked_past [] flags (suc i) d within is = refl
walked_past (n ∷ cids) [] i d within is = absurd (omega arith)
walked_past (n ∷ cids) (true ∷ flags) zero d within is = absurd (false≢true (sym is))
walked_past (n ∷ cids) (false ∷ flags) zero d within is = refl
walked_past (n ∷ cids) (true ∷ flags) (suc i) d within is = ap (λ cs. n ∷ cs) (walked_past cids flags i d (omega arith) is)
walked_past (n ∷ cids) (false ∷ flags) (suc i) d within is = walked_past cids flags i d (omega arith) is

walked_more : (cids : List Cid) (flags : List Bool) (i : ℕ) (d : Bool) (c : Cid) → i < length cids → i < length flags → get_or flags i d ≡ true
    → flagged (take (suc i) cids) (take (suc i) flags) ≡ flagged (take i cids) (take i flags) ++ get_or cids i c ∷ []
walked_more [] flags i d c lt within is = absurd (omega arith)
walked_more (n ∷ cids) [] i d c lt within is = absurd (omega arith)
walked_more (n ∷ cids) (true ∷ flags) zero d c lt within is = refl
walked_more (n ∷ cids) (false ∷ flags) zero d c lt within is = absurd (false≢true is)
walked_more (n ∷ cids) (true ∷ flags) (suc i) d c lt within is = ap (λ cs. n ∷ cs) (walked_more cids flags i d c (omega arith) (omega arith) is)
walked_more (n ∷ cids) (false ∷ flags) (suc i) d c lt within is = walked_more cids flags i d c (omega arith) (omega arith) is

plus_one : (k : ℕ) → suc k ≡ k + 1
plus_one k = omega arith

pub shown_past : (cids : List Cid) (flags : List Bool) (i : ℕ) (d : Bool) → i < length flags → get_or flags i d ≡ false → flagged (take i cids) (take i flags) ≡ flagged (take (i + 1) cids) (take (i + 1) flags)
shown_past cids flags i d within is = sym (walked_past cids flags i d within is) ∙ ap (λ k. flagged (take k cids) (take k flags)) (plus_one i)

pub shown_more : (cids : List Cid) (flags : List Bool) (i : ℕ) (d : Bool) (cid : Cid) → i < length cids → i < length flags → get_or flags i d ≡ true → get_or cids i cid ≡ cid
    → flagged (take i cids) (take i flags) ++ cid ∷ [] ≡ flagged (take (i + 1) cids) (take (i + 1) flags)
shown_more cids flags i d cid lt within is at =
    ap (λ c. flagged (take i cids) (take i flags) ++ c ∷ []) (sym at) ∙ sym (walked_more cids flags i d cid lt within is) ∙ ap (λ k. flagged (take k cids) (take k flags)) (plus_one i)

-- no id is at a raised flag below the lowest one
pub none_shown : (cids : List Cid) (flags : List Bool) (lowest : ℕ) → AreLowered flags lowest → [] ≡ flagged (take lowest cids) (take lowest flags)
none_shown [] flags zero lowered = refl
none_shown [] flags (suc i) lowered = refl
none_shown (n ∷ cids) flags zero lowered = refl
none_shown (n ∷ cids) [] (suc i) lowered = refl
none_shown (n ∷ cids) (true ∷ flags) (suc i) lowered = absurd (false≢true (sym (lowered 0 true (omega arith) (omega arith))))
none_shown (n ∷ cids) (false ∷ flags) (suc i) lowered = none_shown cids flags i (λ k d ge lt. lowered (suc k) d (omega arith) (omega arith))

-- no id is at a raised flag between two places where none is raised
pub shown_to : (cids : List Cid) (flags : List Bool) (from to gap : ℕ) → to ≡ from + gap → to ≤ length flags → AllWithin (λ b. b ≡ false) flags from to
    → flagged (take from cids) (take from flags) ≡ flagged (take to cids) (take to flags)
shown_to cids flags from to zero is within between = ap (λ k. flagged (take k cids) (take k flags)) (from_to from to is)
  where
    from_to : (from to : ℕ) → to ≡ from + 0 → from ≡ to
    from_to from to is = omega (arith, is)
shown_to cids flags from to (suc gap) is within between =
    shown_past cids flags from false (omega (arith, is)) (between from false (omega arith) (omega (arith, is)))
    ∙ shown_to cids flags (from + 1) to gap (omega (arith, is)) within (λ k d ge lt. between k d (omega arith) lt)

-- the flags up to a place have all raised ones, where none is raised from it on
pub count_ahead : (flags : List Bool) (place to : ℕ) → length flags ≤ to → AllWithin (λ b. b ≡ false) flags place to → count_raised (take place flags) ≡ count_raised flags
count_ahead [] zero to le between = refl
count_ahead [] (suc place) to le between = refl
count_ahead (b ∷ flags) zero to le between = sym (none_raised (b ∷ flags) to le between)
count_ahead (true ∷ flags) (suc place) to le between = ap suc (count_ahead flags place (to - 1) (omega arith) (λ k d ge lt. between (suc k) d (omega arith) (omega arith)))
count_ahead (false ∷ flags) (suc place) to le between = count_ahead flags place (to - 1) (omega arith) (λ k d ge lt. between (suc k) d (omega arith) (omega arith))

-- all ids at raised flags are up to a place, where so many are
pub shown_all : (cids : List Cid) (flags : List Bool) (place : ℕ) → count_raised (take place flags) ≡ count_raised flags → flagged (take place cids) (take place flags) ≡ flagged cids flags
shown_all [] flags zero is = refl
shown_all [] flags (suc place) is = refl
shown_all (n ∷ cids) [] zero is = refl
shown_all (n ∷ cids) [] (suc place) is = refl
shown_all (n ∷ cids) (true ∷ flags) zero is = absurd (omega (arith, is))
shown_all (n ∷ cids) (false ∷ flags) zero is = shown_all cids flags zero is
shown_all (n ∷ cids) (true ∷ flags) (suc place) is = ap (λ cs. n ∷ cs) (shown_all cids flags place (omega (arith, is)))
shown_all (n ∷ cids) (false ∷ flags) (suc place) is = shown_all cids flags place is

-- no flag is raised below a place and from it to another
pub lowered_on : (flags looked : List Bool) (from to : ℕ) → looked ≡ flags → AreLowered flags from → AllWithin (λ b. b ≡ false) looked from to → AreLowered flags to
lowered_on flags looked from to is below between k d ge lt = elim (cases_lt k from) [
  | inl l ↦ below k d ge l
  | inr le ↦ ap (λ bs. get_or bs k d) (sym is) ∙ between k d le lt
]

-- what is taken out of a rising list at a place is taken out by its id
pub removed_from : (cid : Cid) (cids : List Cid) (i : ℕ) → Rises cids → i < length cids → ((d : Cid) → get_or cids i d ≡ cid) → remove cids i ≡ without_cid cid cids
removed_from cid [] i rises lt at = absurd (omega arith)
removed_from cid (n ∷ cids) zero rises lt at = subst (λ k. cids ≡ without_cid k (n ∷ cids)) (at n) (sym (first_cut n cids rises))
removed_from cid (n ∷ cids) (suc i) rises lt at =
    ap (λ cs. n ∷ cs) (removed_from cid cids i rises.1 (omega arith) at)
    ∙ sym (filter_passes (λ d. not (is_named (cid ∷ []) d)) n cids
    (not_other cid n (λ e. not_before_itself n (subst (λ d. cid_before n d ≡ true) (at n ∙ sym e) (rises.0 i n (omega arith))))))

-- ---- a walk that ends once so many are shown

take_same : (cids : List Cid) (flags : List Bool) (place : ℕ) → length flags ≡ length cids → length (take place flags) ≡ length (take place cids)
take_same [] [] zero same = refl
take_same [] [] (suc place) same = refl
take_same [] (b ∷ flags) place same = absurd (omega (arith, same))
take_same (n ∷ cids) [] place same = absurd (omega (arith, same))
take_same (n ∷ cids) (b ∷ flags) zero same = refl
take_same (n ∷ cids) (b ∷ flags) (suc place) same = ap suc (take_same cids flags place (omega (arith, same)))

count_take : (flags : List Bool) (place : ℕ) → count_raised (take place flags) ≤ count_raised flags
count_take [] zero = omega arith
count_take [] (suc place) = omega arith
count_take (b ∷ flags) zero = omega arith
count_take (true ∷ flags) (suc place) = let e = count_take flags place in omega arith
count_take (false ∷ flags) (suc place) = count_take flags place

module _ (cids shown : List Cid) (flags : List Bool) (place raised : ℕ) (same : length flags ≡ length cids) (so_far : shown ≡ flagged (take place cids) (take place flags)) (many : raised ≡ count_raised flags) where
  count_so_far : length shown ≡ count_raised (take place flags)
  count_so_far = ap length so_far ∙ flagged_length (take place cids) (take place flags) (take_same cids flags place same)

  -- one is raised ahead, where fewer are shown
  pub one_ahead : (to : ℕ) → length shown < raised → AllWithin (λ b. b ≡ false) flags place to → to < length flags
  one_ahead to fewer between = elim (cases_lt to (length flags)) [
    | inl l ↦ l
    | inr le ↦ absurd (omega (arith, fewer, many, count_so_far, count_ahead flags place to le between))
  ]

  -- none is left, where so many are shown
  pub none_ahead : raised ≤ length shown → shown ≡ flagged cids flags
  none_ahead enough = so_far ∙ shown_all cids flags place (omega (arith, enough, many, count_so_far, count_take flags place))

  -- the next one is shown
  pub one_more_shown : (to gap : ℕ) (cid : Cid) → to ≡ place + gap → to < length flags → AllWithin (λ b. b ≡ false) flags place to → slice_get flags to ≡ Some true → slice_get cids to ≡ Some cid
      → shown ++ cid ∷ [] ≡ flagged (take (to + 1) cids) (take (to + 1) flags)
  one_more_shown to gap cid is within between raises named =
      ap (λ cs. cs ++ cid ∷ []) (so_far ∙ shown_to cids flags place to gap is (omega (arith, within)) between)
      ∙ shown_more cids flags to true cid (omega (arith, within, same)) within (get_or_from_slice_get flags to true true raises) (get_or_from_slice_get cids to cid cid named)
