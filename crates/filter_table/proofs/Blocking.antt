-- Whether a row is blocked, and the values of a variable that block the rows at some places.
use Rattle.std.proofs.Common.{◌≡◌, ℕ, ℤ, pos, ◌+◌, ◌<◌, ◌≤◌, Bool, true, false, ◌&&◌, List, [], ◌++◌, length, get_or, slice_get, Some, All, Contains, inl, inr, refl, sym, ap, ◌∙◌, subst, arith, append-nil}
use Rattle.std.specs.List.{list_any}
use Rattle.std.proofs.lemmas.Bool.{both_ways, cases_Bool, cases_lt}
use Rattle.std.proofs.lemmas.List.{get_or_default}
use Rattle.std.proofs.lemmas.Option.{get_or_from_slice_get, slice_get-get_or, slice_get_within}
use Rattle.palm_base.proofs.cited.Members.{filter_member, member_filter, member_nil, member_same}
use Rattle.palm_base.specs.Ascending.{Ascends}
use Rattle.palm_base.specs.declared.terms.Pair.{Pair}
use Rattle.palm_model.specs.Constraint.{Distinct}
use Rattle.palm_model.specs.Domains.{Domains, Has, is_among, values_of}
use Rattle.palm_model.specs.Removed.{pairs_of, removed_values}
use Rattle.palm_model.specs.Table.{are_there, blocking_values, first_missing, is_blocked_at, row_pairs}
use Rattle.palm_model.proofs.cited.Ascending.{ascending_same, ascends_filter}
use Rattle.palm_model.proofs.cited.Reasons.{member_removed}
use Rattle.palm_model.proofs.cited.Supports.{any_member}
use Rattle.filter_table.specs.Ordered.{with_value}
use Rattle.filter_table.specs.Table.{entry_at, row_at}
use Rattle.filter_table.proofs.Columned.{blocked_entry, blocked_parts, entry_own, has_own, missing_entry, own_entry, some_row}
use Rattle.filter_table.proofs.Entries.{there_column}
use Rattle.filter_table.proofs.Ordering.{with_ascends, with_cases, with_itself, with_others}

-- ---- one row

module _ (initial present : Domains) (vars : List ℕ) (x : ℕ) (v : ℤ) (y : ℕ) (w : ℤ) (row : List ℤ) where
  -- a present entry does not block it
  pub present_blocks_none : Has present y w → false ≡ is_blocked_at initial present vars x v y w row
  present_blocks_none has = elim (cases_Bool (is_blocked_at initial present vars x v y w row)) [
    | inl t ↦ absurd ((missing_entry present (row_pairs vars row) y w (blocked_parts initial present vars x v y w row t).first).1 has)
    | inr f ↦ sym f
  ]

  -- the first entry that is not present blocks it, where all are declared
  pub first_blocks : (b : Bool) → is_among (row_pairs vars row) x v ≡ true → are_there initial (row_pairs vars row) ≡ true → b ≡ is_among (first_missing present (row_pairs vars row)) y w → b ≡ is_blocked_at initial present vars x v y w row
  first_blocks b has declared is =
      let ps = row_pairs vars row in
      let first = is_among (first_missing present ps) y w in
      is ∙ sym (ap (λ t. t && are_there initial ps && first) has ∙ ap (λ t. t && first) declared)

-- the row has its own entries
pub own_stands : (vars : List ℕ) (rows : List (List ℤ)) → Distinct vars → All (λ row. length row ≡ length vars) rows → (c k : ℕ) → c < length vars → k < length rows → is_among (row_pairs vars (row_at rows k)) (get_or vars c 0) (get_or (row_at rows k) c (pos 0)) ≡ true
own_stands vars rows distinct long c k lt klt = entry_own vars rows distinct long c (get_or vars c 0) k (get_or (row_at rows k) c (pos 0)) (slice_get-get_or vars c 0 lt) klt refl

-- ---- the values that block the rows at places

-- the pairs of y with some values were added, those that block a row at one of the first n places
pub record AreGathered (initial present : Domains) (vars : List ℕ) (rows : List (List ℤ)) (x : ℕ) (v : ℤ) (y : ℕ) (places : List ℕ) (n : ℕ) (before out : List Pair) : Type 0 where
  pub values : List ℤ
  pub items : out ≡ before ++ pairs_of y values
  pub ascend : Ascends values
  pub sound : (w : ℤ) → Contains values w → (k : ℕ) × (k < length rows) × (is_blocked_at initial present vars x v y w (row_at rows k) ≡ true)
  pub whole : (j d : ℕ) (w : ℤ) → j < n → is_blocked_at initial present vars x v y w (row_at rows (get_or places j d)) ≡ true → Contains values w

module _ (initial present : Domains) (vars : List ℕ) (rows : List (List ℤ)) (distinct : Distinct vars) (long : All (λ row. length row ≡ length vars) rows) (x : ℕ) (v : ℤ) (end y : ℕ) (at : slice_get vars end ≡ Some y) (places : List ℕ) where
  abbrev blocks : ℤ → ℕ → Bool
  blocks w k = is_blocked_at initial present vars x v y w (row_at rows k)

  pub gathered_none : (out : List Pair) → AreGathered initial present vars rows x v y places 0 out out
  gathered_none out = record {
    values = [];
    items = sym (append-nil out);
    ascend = tt;
    sound = λ w m. absurd (member_nil w m);
    whole = λ j d w lt t. absurd (omega arith);
  }

  -- what blocks a row is its entry
  entry_blocks : (k : ℕ) (w : ℤ) → k < length rows → blocks w k ≡ true → get_or (row_at rows k) end (pos 0) ≡ w
  entry_blocks k w lt t = own_entry vars rows distinct long end y k w at lt (blocked_entry initial present vars x v y w (row_at rows k) t)

  module _ (n : ℕ) (inside : n < length places) (k : ℕ) (here : k ≡ get_or places n 0) (klt : k < length rows) (before out now : List Pair) (g : AreGathered initial present vars rows x v y places n before out) (w : ℤ) (is : w ≡ get_or (row_at rows k) end (pos 0)) where
    at_last : (j d : ℕ) (u : ℤ) → j ≡ n → blocks u (get_or places j d) ≡ true → blocks u k ≡ true
    at_last j d u e t = ap (blocks u) (here ∙ get_or_default places n 0 d inside ∙ ap (λ i. get_or places i d) (sym e)) ∙ t

    -- a row that is blocked
    pub gathered_more : blocks w k ≡ true → now ≡ before ++ pairs_of y (with_value g.values w) → AreGathered initial present vars rows x v y places (n + 1) before now
    gathered_more t put = record {
      values = with_value g.values w;
      items = put;
      ascend = with_ascends g.values w g.ascend;
      sound = λ u m. elim (with_cases g.values w u m) [
        | inl old ↦ g.sound u old
        | inr e ↦ (k, klt, subst (λ z. blocks z k ≡ true) e t)
      ];
      whole = λ j d u lt s. elim (cases_lt j n) [
        | inl l ↦ with_others g.values w u (g.whole j d u l s)
        | inr ge ↦ member_same (with_value g.values w) w u (is ∙ entry_blocks k u klt (at_last j d u (omega arith) s)) (with_itself g.values w)
      ];
    }

    -- one that is not
    pub gathered_same : blocks w k ≡ false → now ≡ out → AreGathered initial present vars rows x v y places (n + 1) before now
    gathered_same f same = record {
      values = g.values;
      items = same ∙ g.items;
      ascend = g.ascend;
      sound = g.sound;
      whole = λ j d u lt s. elim (cases_lt j n) [
        | inl l ↦ g.whole j d u l s
        | inr ge ↦
            let t = at_last j d u (omega arith) s in
            absurd (both_ways (blocks w k) f (subst (λ z. blocks z k ≡ true) (sym (is ∙ entry_blocks k u klt t)) t))
      ];
    }

  -- all of the rows that have v in the column of x
  pub gathered_all : (n : ℕ) → length places ≤ n → ((k : ℕ) → k < length rows → is_among (row_pairs vars (row_at rows k)) x v ≡ true → Contains places k) → Ascends (values_of initial y) → (before out : List Pair) → AreGathered initial present vars rows x v y places n before out
      → out ≡ before ++ pairs_of y (blocking_values initial present vars rows x v y)
  gathered_all n le every up before out g =
      g.items ∙ ap (λ ws. before ++ pairs_of y ws)
      (ascending_same g.values (blocking_values initial present vars rows x v y) g.ascend
      (ascends_filter (λ w. list_any (is_blocked_at initial present vars x v y w) rows) (removed_values initial present y) (ascends_filter _ (values_of initial y) up))
      (λ w m.
      let s = g.sound w m in
      let k = s.0 in
      let row = row_at rows k in
      let parts = blocked_parts initial present vars x v y w row s.2 in
      let declared = has_own vars rows distinct long initial end y k w at s.1 (entry_blocks k w s.1 s.2) (there_column initial vars row (long k [] s.1) parts.declared end (slice_get_within vars end y at)) in
      member_filter (λ u. list_any (is_blocked_at initial present vars x v y u) rows) (removed_values initial present y) w
      (member_removed initial present y w declared (missing_entry present (row_pairs vars row) y w parts.first).1)
      (sym (some_row (is_blocked_at initial present vars x v y w) rows k s.1 s.2)))
      (λ w m.
      let r = any_member (is_blocked_at initial present vars x v y w) rows (filter_member (λ u. list_any (is_blocked_at initial present vars x v y u) rows) (removed_values initial present y) w m).1 in
      let k = r.1.0 in
      let same : row_at rows k ≡ r.0 = get_or_default rows k [] r.0 r.1.1 ∙ r.1.2 in
      let t : blocks w k ≡ true = ap (is_blocked_at initial present vars x v y w) same ∙ r.2 in
      let p = every k r.1.1 (blocked_parts initial present vars x v y w (row_at rows k) t).has in
      let lt = p.1 in
      g.whole p.0 k w (omega (arith, lt, le)) (ap (blocks w) p.2 ∙ t)))

-- ---- in the words of the calls

-- whether a row at a place of x and v is blocked by its entry in the column of y
pub blocked_as : (initial present : Domains) (vars : List ℕ) (rows : List (List ℤ)) → Distinct vars → All (λ row. length row ≡ length vars) rows → (own x k : ℕ) (v : ℤ) (end y : ℕ) → slice_get vars own ≡ Some x → slice_get vars end ≡ Some y → k < length rows → is_among (row_pairs vars (row_at rows k)) x v ≡ true
    → is_blocked_at initial present vars (get_or vars own 0) (get_or (row_at rows k) own (pos 0)) (get_or vars end 0) (get_or (row_at rows k) end (pos 0)) (row_at rows k) ≡ is_blocked_at initial present vars x v y (get_or (row_at rows k) end (pos 0)) (row_at rows k)
blocked_as initial present vars rows distinct long own x k v end y at at_end lt stands =
    let row = row_at rows k in
    let w = get_or row end (pos 0) in
    ap (λ z. is_blocked_at initial present vars z (get_or row own (pos 0)) (get_or vars end 0) w row) (get_or_from_slice_get vars own x 0 at)
    ∙ ap (λ u. is_blocked_at initial present vars x u (get_or vars end 0) w row) (own_entry vars rows distinct long own x k v at lt stands)
    ∙ ap (λ z. is_blocked_at initial present vars x v z w row) (get_or_from_slice_get vars end y 0 at_end)

-- the pair of the entry was put behind what was there before
pub put_as : (vars : List ℕ) (end y : ℕ) (row : List ℤ) → slice_get vars end ≡ Some y → (before : List Pair) (values : List ℤ) (from : ℕ) (out now : List Pair) (p : Pair) → p ≡ entry_at vars row end → from ≡ length before → out ≡ before ++ pairs_of y values → Ascends values
    → ((before : List Pair) (values : List ℤ) → from ≡ length before → out ≡ before ++ pairs_of p.var values → Ascends values → now ≡ before ++ pairs_of p.var (with_value values p.value)) → now ≡ before ++ pairs_of y (with_value values (get_or row end (pos 0)))
put_as vars end y row at before values from out now p is long there up put =
    let var : p.var ≡ y = ap (λ (q : Pair). q.var) is ∙ get_or_from_slice_get vars end y 0 at in
    put before values long (there ∙ ap (λ z. before ++ pairs_of z values) (sym var)) up
    ∙ ap (λ z. before ++ pairs_of z (with_value values p.value)) var
    ∙ ap (λ u. before ++ pairs_of y (with_value values u)) (ap (λ (q : Pair). q.value) is)
