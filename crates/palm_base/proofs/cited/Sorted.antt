-- Lists in a strict order of ids: filters by places, where an id stands, and what an edit there leaves.
use Rattle.std.proofs.Common.{◌≡◌, ℕ, zero, suc, ◌<◌, ◌≤◌, Bool, true, false, cond, List, [], ◌∷◌, ◌++◌, map, length, get_or, set, take, drop, slice_get, insert, remove, filter, Contains, Some, ◌⊎◌, inl, inr, refl, sym, ap, ◌∙◌, subst, arith}
use Rattle.std.specs.List.{AllWithin}
use Rattle.std.specs.List.Sorted.{IsPartitionedBy}
use Rattle.std.proofs.lemmas.Bool.{cases_lt, cases_Bool, false≢true}
use Rattle.std.proofs.lemmas.List.Elements.{Contains-get_or}
use Rattle.std.proofs.lemmas.Option.{slice_get-get_or, slice_get_within, get_or_from_slice_get}
use Rattle.palm_base.specs.declared.terms.Cid.{Cid}
use Rattle.palm_base.specs.Order.{IsPartedAt}

-- ---- filters by places

pub filter_passes : {X : Type 0} (test : X → Bool) (x : X) (xs : List X) → test x ≡ true → filter test (x ∷ xs) ≡ x ∷ filter test xs
filter_passes test x xs e = ap (λ b. cond b (x ∷ filter test xs) (filter test xs)) e

pub filter_fails : {X : Type 0} (test : X → Bool) (x : X) (xs : List X) → test x ≡ false → filter test (x ∷ xs) ≡ filter test xs
filter_fails test x xs e = ap (λ b. cond b (x ∷ filter test xs) (filter test xs)) e

-- where those before the place pass and the others fail, the front is kept
pub filter_front : {X : Type 0} (test : X → Bool) (xs : List X) (place : ℕ) → AllWithin (λ x. test x ≡ true) xs 0 place → AllWithin (λ x. test x ≡ false) xs place (length xs) → filter test xs ≡ take place xs
filter_front test [] zero before after = refl
filter_front test [] (suc n) before after = refl
filter_front test (x ∷ xs) zero before after =
    filter_fails test x xs (after 0 x (omega arith) (omega arith))
    ∙ filter_front test xs zero (λ k d ge lt. absurd (omega arith)) (λ k d ge lt. after (suc k) d (omega arith) (omega arith))
filter_front test (x ∷ xs) (suc n) before after =
    filter_passes test x xs (before 0 x (omega arith) (omega arith))
    ∙ ap (λ ys. x ∷ ys) (filter_front test xs n (λ k d ge lt. before (suc k) d (omega arith) (omega arith)) (λ k d ge lt. after (suc k) d (omega arith) (omega arith)))

-- where those before the place fail and the others pass, the rest is kept
pub filter_rest : {X : Type 0} (test : X → Bool) (xs : List X) (place : ℕ) → AllWithin (λ x. test x ≡ false) xs 0 place → AllWithin (λ x. test x ≡ true) xs place (length xs) → filter test xs ≡ drop place xs
filter_rest test [] zero before after = refl
filter_rest test [] (suc n) before after = refl
filter_rest test (x ∷ xs) zero before after =
    filter_passes test x xs (after 0 x (omega arith) (omega arith))
    ∙ ap (λ ys. x ∷ ys) (filter_rest test xs zero (λ k d ge lt. absurd (omega arith)) (λ k d ge lt. after (suc k) d (omega arith) (omega arith)))
filter_rest test (x ∷ xs) (suc n) before after =
    filter_fails test x xs (before 0 x (omega arith) (omega arith))
    ∙ filter_rest test xs n (λ k d ge lt. before (suc k) d (omega arith) (omega arith)) (λ k d ge lt. after (suc k) d (omega arith) (omega arith))

-- where the one at the place fails alone, it is removed
pub filter_removes : {X : Type 0} (test : X → Bool) (xs : List X) (place : ℕ) → place < length xs → ((d : X) → test (get_or xs place d) ≡ false)
    → ((k : ℕ) (d : X) → k < length xs → (k ≡ place → ⊥) → test (get_or xs k d) ≡ true) → remove xs place ≡ filter test xs
filter_removes test [] place within here others = absurd (omega arith)
filter_removes test (x ∷ xs) zero within here others =
    sym (filter_fails test x xs (here x) ∙ filter_rest test xs 0 (λ k d ge lt. absurd (omega arith)) (λ k d ge lt. others (suc k) d (omega arith) (λ e. omega arith)))
filter_removes test (x ∷ xs) (suc n) within here others =
    ap (λ ys. x ∷ ys) (filter_removes test xs n (omega arith) here (λ k d lt apart. others (suc k) d (omega arith) (λ e. apart (omega arith))))
    ∙ sym (filter_passes test x xs (others 0 x (omega arith) (λ e. omega arith)))

-- where a function changes the one at the place alone, it is written there
pub map_sets : {X : Type 0} (f : X → X) (xs : List X) (place : ℕ) (y : X) → place < length xs → ((d : X) → f (get_or xs place d) ≡ y)
    → ((k : ℕ) (d : X) → k < length xs → (k ≡ place → ⊥) → f (get_or xs k d) ≡ get_or xs k d) → set xs place y ≡ map f xs
map_sets f [] place y within here others = absurd (omega arith)
map_sets f (x ∷ xs) zero y within here others =
    ap (λ z. z ∷ xs) (sym (here x)) ∙ ap (λ zs. f x ∷ zs) (same f xs (λ k d lt. others (suc k) d (omega arith) (λ e. omega arith)))
  where
    same : {X : Type 0} (f : X → X) (xs : List X) → ((k : ℕ) (d : X) → k < length xs → f (get_or xs k d) ≡ get_or xs k d) → xs ≡ map f xs
    same f [] each = refl
    same f (x ∷ xs) each = ap (λ z. z ∷ xs) (sym (each 0 x (omega arith))) ∙ ap (λ zs. f x ∷ zs) (same f xs (λ k d lt. each (suc k) d (omega arith)))
map_sets f (x ∷ xs) (suc n) y within here others =
    ap (λ z. z ∷ set xs n y) (sym (others 0 x (omega arith) (λ e. omega arith)))
    ∙ ap (λ zs. f x ∷ zs) (map_sets f xs n y (omega arith) here (λ k d lt apart. others (suc k) d (omega arith) (λ e. apart (omega arith))))

-- ---- a strict order

pub record IsStrict (before : Cid → Cid → Bool) : Type 0 where
  pub itself : (a : Cid) → before a a ≡ true → ⊥
  pub through : (a b c : Cid) → before a b ≡ true → before b c ≡ true → before a c ≡ true
  pub order : (a b : Cid) → (before a b ≡ true) ⊎ ((a ≡ b) ⊎ (before b a ≡ true))

pub not_back : (before : Cid → Cid → Bool) → IsStrict before → (a b : Cid) → before a b ≡ true → before b a ≡ false
not_back before strict a b h = elim (cases_Bool (before b a)) [
  | inl t ↦ absurd (strict.itself a (strict.through a b a h t))
  | inr f ↦ f
]

-- the keys of a list stand in the order
pub record IsSortedKeys {X : Type 0} (key : X → Cid) (before : Cid → Cid → Bool) (xs : List X) : Type 0 where
  pub at : (i j : ℕ) (d : X) → i < j → j < length xs → before (key (get_or xs i d)) (key (get_or xs j d)) ≡ true

module _ {X : Type 0} (key : X → Cid) (before : Cid → Cid → Bool) (strict : IsStrict before) (xs : List X) (sorted : IsSortedKeys key before xs) where
  pub parted : (cid : Cid) → IsPartitionedBy (λ x. before (key x) cid) xs
  parted cid i j d le lt h = elim (cases_lt i j) [
    | inl l ↦ strict.through (key (get_or xs i d)) (key (get_or xs j d)) cid (sorted.at i j d l lt) h
    | inr ge ↦ let e : j ≡ i = omega arith in subst (λ k. before (key (get_or xs k d)) cid ≡ true) e h
  ]

  -- no two places have one key
  pub apart : (i j : ℕ) (d : X) → i < length xs → j < length xs → (i ≡ j → ⊥) → key (get_or xs i d) ≡ key (get_or xs j d) → ⊥
  apart i j d li lj ne e = elim (cases_lt i j) [
    | inl l ↦ strict.itself (key (get_or xs j d)) (subst (λ k. before k (key (get_or xs j d)) ≡ true) e (sorted.at i j d l lj))
    | inr ge ↦ strict.itself (key (get_or xs j d)) (subst (λ k. before (key (get_or xs j d)) k ≡ true) e (sorted.at j i d (below i j ge ne) li))
  ]
    where
      below : (i j : ℕ) → j ≤ i → (i ≡ j → ⊥) → j < i
      below i j ge ne = elim (cases_lt j i) [ inl l ↦ l | inr le ↦ absurd (ne (omega arith)) ]

  -- where one with the id stands, those before it come before the id, and the others do not
  pub parted_where : (cid : Cid) (place : ℕ) (x : X) → slice_get xs place ≡ Some x → key x ≡ cid → IsPartedAt (λ y. before (key y) cid) xs place
  parted_where cid place x at named =
      let within = slice_get_within xs place x at in
      let is : (d : X) → key (get_or xs place d) ≡ cid = λ d. ap key (get_or_from_slice_get xs place x d at) ∙ named in
      record {
        within = omega (arith, within);
        before = λ k d ge lt. subst (λ c. before (key (get_or xs k d)) c ≡ true) (is d) (sorted.at k place d lt within);
        after = λ k d ge lt. elim (cases_lt place k) [
          | inl l ↦ not_back before strict cid (key (get_or xs k d)) (subst (λ c. before c (key (get_or xs k d)) ≡ true) (is d) (sorted.at place k d l lt))
          | inr le ↦
              let e : k ≡ place = omega arith in
              not_itself_at k d (ap (λ j. key (get_or xs j d)) e ∙ is d)
        ];
      }
    where
      not_itself_at : (k : ℕ) (d : X) → key (get_or xs k d) ≡ cid → before (key (get_or xs k d)) cid ≡ false
      not_itself_at k d e = elim (cases_Bool (before (key (get_or xs k d)) cid)) [
        | inl t ↦ absurd (strict.itself cid (subst (λ c. before c cid ≡ true) e t))
        | inr f ↦ f
      ]

  module _ (cid : Cid) (place : ℕ) (at : IsPartedAt (λ x. before (key x) cid) xs place) where
    -- whoever has the id stands at the place
    pub owner_at : (m : ℕ) (d : X) → m < length xs → key (get_or xs m d) ≡ cid → m ≡ place
    owner_at m d lm e = elim (cases_lt m place) [
      | inl l ↦ absurd (strict.itself cid (subst (λ k. before k cid ≡ true) e (at.before m d (omega arith) l)))
      | inr ge ↦ elim (cases_lt place m) [
        | inl l ↦ absurd (false≢true (sym (at.after place d (omega arith) (omega arith)) ∙ subst (λ k. before (key (get_or xs place d)) k ≡ true) e (sorted.at place m d l lm)))
        | inr le ↦ omega arith
      ]
    ]

    pub listed_at : (owner : X) → Contains xs owner → key owner ≡ cid → slice_get xs place ≡ Some owner
    listed_at owner m named =
        let e = owner_at m.0 owner m.1 (ap key m.2 ∙ named) in
        subst (λ k. slice_get xs k ≡ Some owner) e (slice_get-get_or xs m.0 owner m.1 ∙ ap Some m.2)

    pub rest_after : ((x : X) → Contains xs x → key x ≡ cid → ⊥) → AllWithin (λ x. before cid (key x) ≡ true) xs place (length xs)
    rest_after absent k d ge lt = elim (strict.order (key (get_or xs k d)) cid) [
      | inl t ↦ absurd (false≢true (sym (at.after k d ge lt) ∙ t))
      | inr r ↦ elim r [
        | inl e ↦ absurd (absent (get_or xs k d) (Contains-get_or xs k d lt) e)
        | inr t ↦ t
      ]
    ]

    front_not_after : AllWithin (λ x. before cid (key x) ≡ false) xs 0 place
    front_not_after k d ge lt = not_back before strict (key (get_or xs k d)) cid (at.before k d ge lt)

    pub front_is : filter (λ x. before (key x) cid) xs ≡ take place xs
    front_is = filter_front (λ x. before (key x) cid) xs place at.before at.after

    pub rest_is : ((x : X) → Contains xs x → key x ≡ cid → ⊥) → filter (λ x. before cid (key x)) xs ≡ drop place xs
    rest_is absent = filter_rest (λ x. before cid (key x)) xs place front_not_after (rest_after absent)

    -- a new one is put between those before it and those after it
    pub inserted : ((x : X) → Contains xs x → key x ≡ cid → ⊥) → (y : X) → insert xs place y ≡ filter (λ x. before (key x) cid) xs ++ y ∷ filter (λ x. before cid (key x)) xs
    inserted absent y = ap (λ front. front ++ y ∷ drop place xs) (sym front_is) ∙ ap (λ rest. filter (λ x. before (key x) cid) xs ++ y ∷ rest) (sym (rest_is absent))
