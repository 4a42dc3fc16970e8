-- Rows, the columns of a table, and the rows that have a value in a column.
use Rattle.std.proofs.Common.{◌≡◌, ℕ, zero, suc, ◌+◌, ◌-◌, ◌<◌, ◌≤◌, ℤ, pos, Bool, true, false, ◌&&◌, cond, List, [], ◌∷◌, length, map, get_or, slice_get, Some, All, Contains, eqb, eq-eqb, ne_eqb, inl, inr, refl, sym, ap, ◌∙◌, subst, arith}
use Rattle.std.specs.List.{list_any}
use Rattle.std.proofs.lemmas.Bool.{cases_Bool, cases_lt, both_ways, and_parts, and_from}
use Rattle.std.proofs.lemmas.List.{get_or-map, length-map, get_or_default}
use Rattle.std.proofs.lemmas.List.Elements.{Contains-get_or}
use Rattle.std.proofs.lemmas.Option.{slice_get_within, get_or_from_slice_get, slice_get-get_or}
use Rattle.palm_base.proofs.cited.Members.{member_nil, member_single, member_same, member_get, all_members, map_agree}
use Rattle.palm_base.specs.Tells.{Tells}
use Rattle.palm_base.specs.declared.terms.Pair.{Pair}
use Rattle.palm_model.specs.Constraint.{Distinct}
use Rattle.palm_model.specs.Domains.{Domains, Has, is_among}
use Rattle.palm_model.specs.Table.{are_there, first_missing, is_blocked_at, row_pairs}
use Rattle.palm_model.proofs.cited.Supports.{any_member, member_any, among_member, member_among}
use Rattle.palm_reason.proofs.cited.TableRows.{missing_cases, among_gives, gives_among}
use Rattle.filter_table.specs.Table.{HasEntry, IsIndexed, column_values, entry_at, is_support_row, row_at}
use Rattle.filter_table.specs.declared.indexed.IndexedTable.{IndexedTable}
use Rattle.filter_table.proofs.Entries.{entry_has, entry_lacks, two_there, two_not}

-- ---- an assignment with the entries of a row

-- the entry of the row in the column of the variable
abbrev pub entry_of : List ℕ → List ℤ → ℕ → ℤ
entry_of [] row y = pos 0
entry_of (x ∷ xs) [] y = pos 0
entry_of (x ∷ xs) (w ∷ row) y = cond (eqb x y) w (entry_of xs row y)

pub row_is : (vars : List ℕ) (row : List ℤ) → Distinct vars → length row ≡ length vars → row ≡ map (entry_of vars row) vars
row_is [] [] distinct long = refl
row_is [] (w ∷ row) distinct long = absurd (omega (arith, long))
row_is (x ∷ xs) [] distinct long = absurd (omega (arith, long))
row_is (x ∷ xs) (w ∷ row) distinct long =
    let first : w ≡ cond (eqb x x) w (entry_of xs row x) = sym (ap (λ b. cond b w (entry_of xs row x)) (eq-eqb x x refl)) in
    let others : map (entry_of xs row) xs ≡ map (λ y. cond (eqb x y) w (entry_of xs row y)) xs =
    map_agree (entry_of xs row) (λ y. cond (eqb x y) w (entry_of xs row y)) xs (λ y m. sym (ap (λ b. cond b w (entry_of xs row y)) (ne_eqb x y (λ e. distinct.0 (member_same xs y x (sym e) m))))) in
    ap (λ ws. w ∷ ws) (row_is xs row distinct.1 (omega (arith, long)) ∙ others) ∙ ap (λ z. z ∷ map (λ y. cond (eqb x y) w (entry_of xs row y)) xs) first

-- ---- the rows that have a value in a column

module _ (vars : List ℕ) (rows : List (List ℤ)) (distinct : Distinct vars) (long : All (λ row. length row ≡ length vars) rows) where
  -- the entry in the column of x
  column_entry : (c x k : ℕ) → slice_get vars c ≡ Some x → k < length rows → get_or (row_at rows k) c (pos 0) ≡ entry_of vars (row_at rows k) x
  column_entry c x k at lt =
      let row = row_at rows k in
      let a = entry_of vars row in
      let is = row_is vars row distinct (long k [] lt) in
      let inside = slice_get_within vars c x at in
      ap (λ r. get_or r c (pos 0)) is ∙ get_or-map a vars c x (pos 0) inside ∙ ap a (get_or_from_slice_get vars c x x at)

  pub column_at : (c k : ℕ) → k < length rows → slice_get (column_values rows c) k ≡ Some (get_or (row_at rows k) c (pos 0))
  column_at c k lt =
      let entry : List ℤ → ℤ = λ r. get_or r c (pos 0) in
      slice_get-get_or (map entry rows) k (pos 0) (omega (arith, length-map rows entry)) ∙ ap Some (get_or-map entry rows k [] (pos 0) lt)

  pub column_within : (c k : ℕ) (v : ℤ) → slice_get (column_values rows c) k ≡ Some v → k < length rows
  column_within c k v h =
      let entry : List ℤ → ℤ = λ r. get_or r c (pos 0) in
      let lt = slice_get_within (map entry rows) k v h in omega (arith, length-map rows entry)

  pub column_stands : (c x k : ℕ) (v : ℤ) → slice_get vars c ≡ Some x → slice_get (column_values rows c) k ≡ Some v → is_among (row_pairs vars (row_at rows k)) x v ≡ true
  column_stands c x k v at h =
      let lt = column_within c k v h in
      let row = row_at rows k in
      let a = entry_of vars row in
      let same : a x ≡ v = sym (column_entry c x k at lt) ∙ some_same (sym (column_at c k lt) ∙ h) in
      subst (λ r. is_among (row_pairs vars r) x v ≡ true) (sym (row_is vars row distinct (long k [] lt)))
      (gives_among vars a x v (member_get vars c x at) same)
    where
      some_same : {w u : ℤ} → Some w ≡ Some u → w ≡ u
      some_same e = cc

  pub column_every : (c x k : ℕ) (v : ℤ) → slice_get vars c ≡ Some x → k < length rows → is_among (row_pairs vars (row_at rows k)) x v ≡ true → slice_get (column_values rows c) k ≡ Some v
  column_every c x k v at lt h =
      let row = row_at rows k in
      let a = entry_of vars row in
      let g = among_gives vars a x v (subst (λ r. is_among (row_pairs vars r) x v ≡ true) (row_is vars row distinct (long k [] lt)) h) in
      column_at c k lt ∙ ap Some (column_entry c x k at lt ∙ g.1)

  -- the entry in the column is the value
  pub own_entry : (c x k : ℕ) (v : ℤ) → slice_get vars c ≡ Some x → k < length rows → is_among (row_pairs vars (row_at rows k)) x v ≡ true → get_or (row_at rows k) c (pos 0) ≡ v
  own_entry c x k v at lt h =
      let row = row_at rows k in
      column_entry c x k at lt ∙ (among_gives vars (entry_of vars row) x v (subst (λ r. is_among (row_pairs vars r) x v ≡ true) (row_is vars row distinct (long k [] lt)) h)).1

  pub entry_own : (c x k : ℕ) (v : ℤ) → slice_get vars c ≡ Some x → k < length rows → get_or (row_at rows k) c (pos 0) ≡ v → is_among (row_pairs vars (row_at rows k)) x v ≡ true
  entry_own c x k v at lt e = column_stands c x k v at (column_at c k lt ∙ ap Some e)

  -- domains that have the value have the entry in its column
  pub own_has : (d : Domains) (c x k : ℕ) (v : ℤ) → slice_get vars c ≡ Some x → k < length rows → get_or (row_at rows k) c (pos 0) ≡ v → Has d x v → HasEntry d vars (row_at rows k) c
  own_has d c x k v at lt e h =
      subst (λ y. Has d y (get_or (row_at rows k) c (pos 0))) (sym (get_or_from_slice_get vars c x 0 at)) (subst (λ w. Has d x w) (sym e) h)

  pub has_own : (d : Domains) (c x k : ℕ) (v : ℤ) → slice_get vars c ≡ Some x → k < length rows → get_or (row_at rows k) c (pos 0) ≡ v → HasEntry d vars (row_at rows k) c → Has d x v
  has_own d c x k v at lt e h =
      subst (λ y. Has d y v) (get_or_from_slice_get vars c x 0 at) (subst (λ w. Has d (get_or vars c 0) w) e h)

  -- so where the row has the value
  pub own_given : (d : Domains) (c x k : ℕ) (v : ℤ) → slice_get vars c ≡ Some x → k < length rows → is_among (row_pairs vars (row_at rows k)) x v ≡ true → Has d x v → HasEntry d vars (row_at rows k) c
  own_given d c x k v at lt among h = own_has d c x k v at lt (own_entry c x k v at lt among) h

-- ---- the places that the index of a column lends

module _ (t : IndexedTable) (indexed : IsIndexed t) (c x : ℕ) (v : ℤ) (at : slice_get t.vars c ≡ Some x) (list : List ℤ) (of_columns : list ≡ get_or t.columns.items c list) (places : List ℕ) where
  index_is : list ≡ column_values t.rows c
  index_is = of_columns ∙ indexed.columns.each c list (slice_get_within t.vars c x at)

  pub places_within : ((k : ℕ) → Contains places k → slice_get list k ≡ Some v) → All (λ k. k < length t.rows) places
  places_within stands = all_members (λ k. k < length t.rows) places (λ k m.
      column_within t.vars t.rows indexed.distinct indexed.long c k v (subst (λ vs. slice_get vs k ≡ Some v) index_is (stands k m)))

  pub places_stand : ((k : ℕ) → Contains places k → slice_get list k ≡ Some v) → All (λ k. is_among (row_pairs t.vars (row_at t.rows k)) x v ≡ true) places
  places_stand stands = all_members (λ k. is_among (row_pairs t.vars (row_at t.rows k)) x v ≡ true) places (λ k m.
      column_stands t.vars t.rows indexed.distinct indexed.long c x k v at (subst (λ vs. slice_get vs k ≡ Some v) index_is (stands k m)))

  pub places_every : ((k : ℕ) → slice_get list k ≡ Some v → Contains places k) → (k : ℕ) → k < length t.rows → is_among (row_pairs t.vars (row_at t.rows k)) x v ≡ true → Contains places k
  places_every every k lt h =
      every k (subst (λ vs. slice_get vs k ≡ Some v) (sym index_is) (column_every t.vars t.rows indexed.distinct indexed.long c x k v at lt h))

-- ---- some row

pub some_row : (p : List ℤ → Bool) (rows : List (List ℤ)) (k : ℕ) → k < length rows → p (row_at rows k) ≡ true → true ≡ list_any p rows
some_row p rows k lt h = sym (member_any p rows (row_at rows k) (Contains-get_or rows k [] lt) h)

-- every row that passes the test is at one of the places, and no row at these places passes it
pub no_row : (p : List ℤ → Bool) (rows : List (List ℤ)) (places : List ℕ) → ((k : ℕ) → k < length rows → p (row_at rows k) ≡ true → Contains places k) → ((j d : ℕ) → j < length places → p (row_at rows (get_or places j d)) ≡ true → ⊥) → false ≡ list_any p rows
no_row p rows places every none = elim (cases_Bool (list_any p rows)) [
  | inl t ↦
      let r = any_member p rows t in
      let k = r.1.0 in
      let at : row_at rows k ≡ r.0 = get_or_default rows k [] r.0 r.1.1 ∙ r.1.2 in
      let m = every k r.1.1 (ap p at ∙ r.2) in
      absurd (none m.0 k m.1 (ap (λ i. p (row_at rows i)) m.2 ∙ ap p at ∙ r.2))
  | inr f ↦ sym f
]

-- ---- the first entry that is not present is an entry

-- what is known of a row that is blocked at y and w
pub record IsBlocked (initial present : Domains) (vars : List ℕ) (x : ℕ) (v : ℤ) (y : ℕ) (w : ℤ) (row : List ℤ) : Type 0 where
  pub has : is_among (row_pairs vars row) x v ≡ true
  pub declared : are_there initial (row_pairs vars row) ≡ true
  pub first : is_among (first_missing present (row_pairs vars row)) y w ≡ true

pub blocked_parts : (initial present : Domains) (vars : List ℕ) (x : ℕ) (v : ℤ) (y : ℕ) (w : ℤ) (row : List ℤ) → is_blocked_at initial present vars x v y w row ≡ true → IsBlocked initial present vars x v y w row
blocked_parts initial present vars x v y w row h =
    let ps = row_pairs vars row in
    let t = and_parts (is_among ps x v && are_there initial ps) (is_among (first_missing present ps) y w) h in
    let u = and_parts (is_among ps x v) (are_there initial ps) t.0 in
    record { has = u.0; declared = u.1; first = t.1 }

pub missing_entry : (d : Domains) (ps : List Pair) (y : ℕ) (w : ℤ) → is_among (first_missing d ps) y w ≡ true → Contains ps (record { var = y; value = w }) × (Has d y w → ⊥)
missing_entry d ps y w h =
    let here : Pair = record { var = y; value = w } in
    let m = among_member (first_missing d ps) y w h in
    elim (missing_cases d ps) [
      | inl r ↦ absurd (member_nil here (subst (λ qs. Contains qs here) r.1 m))
      | inr r ↦
          let e = member_single r.0 here (subst (λ qs. Contains qs here) r.1 m) in
          (member_same ps r.0 here e r.2, subst (λ (p : Pair). Has d p.var p.value → ⊥) e r.3)
    ]

pub blocked_entry : (initial present : Domains) (vars : List ℕ) (x : ℕ) (v : ℤ) (y : ℕ) (w : ℤ) (row : List ℤ) → is_blocked_at initial present vars x v y w row ≡ true → is_among (row_pairs vars row) y w ≡ true
blocked_entry initial present vars x v y w row h =
    member_among (row_pairs vars row) y w (missing_entry present (row_pairs vars row) y w (blocked_parts initial present vars x v y w row h).first).0

-- ---- the rows that are looked at

module _ (vars : List ℕ) (rows : List (List ℤ)) (places : List ℕ) (x : ℕ) (v : ℤ)
    (every : (k : ℕ) → k < length rows → is_among (row_pairs vars (row_at rows k)) x v ≡ true → Contains places k) where
  -- every row that is looked at has an entry that is not present
  pub none_gives : (present : Domains) → ((j d : ℕ) → j < length places → are_there present (row_pairs vars (row_at rows (get_or places j d))) ≡ false) → false ≡ list_any (is_support_row present vars x v) rows
  none_gives present missing =
      no_row (is_support_row present vars x v) rows places
      (λ k lt h. every k lt (and_parts (is_among (row_pairs vars (row_at rows k)) x v) (are_there present (row_pairs vars (row_at rows k))) h).0)
      (λ j d lt h.
      let row = row_at rows (get_or places j d) in
      both_ways (are_there present (row_pairs vars row)) (missing j d lt) (and_parts (is_among (row_pairs vars row) x v) (are_there present (row_pairs vars row)) h).1)

-- one more row that does not pass a test
pub no_row_more : (p : List ℤ → Bool) (rows : List (List ℤ)) (places : List ℕ) (i : ℕ) (row : List ℤ) (e : ℕ) → i < length places → row ≡ row_at rows (get_or places i e) → p row ≡ false → ((k d : ℕ) → 0 ≤ k → k < i → p (row_at rows (get_or places k d)) ≡ false) → (k d : ℕ) → 0 ≤ k → k < i + 1 → p (row_at rows (get_or places k d)) ≡ false
no_row_more p rows places i row e lt at fails before k d low below = elim (cases_lt k i) [
  | inl l ↦ before k d low l
  | inr ge ↦
      let here : k ≡ i = omega arith in
      let same : get_or places k d ≡ get_or places i e = ap (λ z. get_or places z d) here ∙ get_or_default places i d e lt in
      ap (λ j. p (row_at rows j)) same ∙ ap p (sym at) ∙ fails
]

-- different columns are of different variables
pub columns_apart : (vars : List ℕ) → Distinct vars → (b c : ℕ) → b < c → c < length vars → get_or vars b 0 ≡ get_or vars c 0 → ⊥
columns_apart [] distinct b c below lt e = absurd (omega arith)
columns_apart (x ∷ xs) distinct b zero below lt e = absurd (omega arith)
columns_apart (x ∷ xs) distinct zero (suc c) below lt e = distinct.0 (member_same xs (get_or xs c 0) x (sym e) (Contains-get_or xs c 0 (omega arith)))
columns_apart (x ∷ xs) distinct (suc b) (suc c) below lt e = columns_apart xs distinct.1 b c (omega arith) (omega arith) e

-- ---- the entry beside a value, in a table of two columns

pub beside : (t : IndexedTable) → IsIndexed t → (c k : ℕ) (vars : List ℕ) (y : ℕ) (list values : List ℤ) (w : ℤ) → vars ≡ t.vars → c < length t.vars → k < length t.rows → y ≡ get_or vars c y → list ≡ get_or t.columns.items c list → values ≡ list → w ≡ get_or values k w → record { var = y; value = w } ≡ entry_at t.vars (row_at t.rows k) c
beside t indexed c k vars y list values w same lt klt at_var of_columns of_list at_value =
    let entry : List ℤ → ℤ = λ r. get_or r c (pos 0) in
    let is_var : y ≡ get_or t.vars c 0 = at_var ∙ ap (λ ys. get_or ys c y) same ∙ get_or_default t.vars c y 0 lt in
    let is_value : w ≡ entry (row_at t.rows k) =
    at_value ∙ ap (λ vs. get_or vs k w) (of_list ∙ of_columns ∙ indexed.columns.each c list lt) ∙ get_or-map entry t.rows k [] w klt in
    ap (λ z. pair z w) is_var ∙ ap (pair (get_or t.vars c 0)) is_value
  where
    pair : ℕ → ℤ → Pair
    pair z u = record { var = z; value = u }

module _ (t : IndexedTable) (indexed : IsIndexed t) (two : length t.vars ≡ 2) (d : Domains) (own x : ℕ) (v : ℤ) (at : slice_get t.vars own ≡ Some x) (present : Has d x v) (k : ℕ) (lt : k < length t.rows) (among : is_among (row_pairs t.vars (row_at t.rows k)) x v ≡ true) (p : Pair) (is : p ≡ entry_at t.vars (row_at t.rows k) (1 - own)) (b : Bool) (tells : Tells b (Has d p.var p.value)) where
  own_in : HasEntry d t.vars (row_at t.rows k) own
  own_in = own_given t.vars t.rows indexed.distinct indexed.long d own x k v at lt among present

  pub two_gives : b ≡ true → true ≡ list_any (is_support_row d t.vars x v) t.rows
  two_gives h =
      let row = row_at t.rows k in
      some_row (is_support_row d t.vars x v) t.rows k lt
      (and_from (is_among (row_pairs t.vars row) x v) (are_there d (row_pairs t.vars row)) among
      (two_there d t.vars row (indexed.long k [] lt) two own (slice_get_within t.vars own x at) own_in (entry_has d t.vars row (1 - own) p b is tells h)))

  pub two_fails : b ≡ false → are_there d (row_pairs t.vars (row_at t.rows k)) ≡ false
  two_fails h =
      let row = row_at t.rows k in
      two_not d t.vars row (indexed.long k [] lt) two own (slice_get_within t.vars own x at) own_in (entry_lacks d t.vars row (1 - own) p b is tells h)
