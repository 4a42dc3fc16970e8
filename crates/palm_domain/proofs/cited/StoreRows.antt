-- The rows of a store: what a change of one row leaves of all of them.
use Rattle.std.proofs.Common.{◌+◌, ◌≡◌, ℕ, ℤ, ◌-◌, ◌^◌, ◌<◌, ◌≤◌, List, [], ◌∷◌, ◌++◌, length, get_or, set, All, Contains, refl, sym, ap, subst, ◌∙◌, arith, inl, inr, ⊎_elim, length-set, get_or-set_same, get_or-set_other}
use Rattle.std.proofs.lemmas.Bool.{cases_lt, cases_eq}
use Rattle.std.proofs.lemmas.List.{get_or-map, get_or_past, map-set, set-get_or, length-map, length_push, get_or_default}
use Rattle.std.proofs.lemmas.List.Elements.{All-set, All-push, All-map, All-weaker}
use Rattle.palm_base.proofs.cited.Members.{member_nil, member_same}
use Rattle.palm_domain.specs.declared.limits.TheConstants.{MOST_VALUES}
use Rattle.palm_domain.specs.declared.placed.Placed.{Placed}
use Rattle.palm_domain.specs.Rows.{Row, IsPlaced, StandsIn, initial_of, present_of, values_of, present_values, values_with, values_without, IsFormed, AreFormed, LosesPair, GainsPair, Ascends}
use Rattle.palm_domain.proofs.RowMarks.{row}
use Rattle.palm_domain.proofs.cited.Values.{without_member, member_without, Ascends-without, with_member, member_with, member_with_itself, Ascends-with, length-with, length-without}

-- ---- one row

pub formed_new : (vs : List ℤ) → Ascends vs → 0 < length vs → length vs ≤ MOST_VALUES → IsFormed (row vs vs)
formed_new vs a some small = record { ascends = a; filled = some; small = small; present_ascends = a; inside = λ v h. h }

pub formed_without : (r : Row) (v : ℤ) → IsFormed r → IsFormed (row r.initial (values_without v r.present))
formed_without r v f = record {
  ascends = f.ascends;
  filled = f.filled;
  small = f.small;
  present_ascends = Ascends-without v r.present f.present_ascends;
  inside = λ w h. f.inside w (without_member v r.present w h).0;
}

pub formed_with : (r : Row) (v : ℤ) → IsFormed r → Contains r.initial v → (Contains r.present v → ⊥) → IsFormed (row r.initial (values_with v r.present))
formed_with r v f there none = record {
  ascends = f.ascends;
  filled = f.filled;
  small = f.small;
  present_ascends = Ascends-with v r.present f.present_ascends none;
  inside = λ w h. elim (with_member v r.present w h) [ inl e ↦ member_same r.initial v w e there | inr m ↦ f.inside w m ];
}

-- ---- all rows

pub AreFormed-push : (rows : List Row) (r : Row) → AreFormed rows → length rows < 2 ^ 32 - 1 → IsFormed r → AreFormed (rows ++ r ∷ [])
AreFormed-push rows r f few formed = record { few = omega (arith, length_push rows r); each = All-push IsFormed rows r f.each formed }

pub AreFormed-set : (rows : List Row) (i : ℕ) (r : Row) → AreFormed rows → IsFormed r → AreFormed (set rows i r)
AreFormed-set rows i r f formed = record { few = omega (arith, length-set rows i r, f.few); each = All-set IsFormed rows i r formed f.each }

-- the values of a row, among those of all rows
pub initial-row : (rows : List Row) (i : ℕ) (r : Row) → i < length rows → r ≡ get_or rows i r → values_of (initial_of rows) i ≡ r.initial
initial-row rows i r l e = get_or-map (λ (s : Row). s.initial) rows i r [] l ∙ ap (λ (s : Row). s.initial) (sym e)

pub present-row : (rows : List Row) (i : ℕ) (r : Row) → i < length rows → r ≡ get_or rows i r → values_of (present_of rows) i ≡ r.present
present-row rows i r l e = get_or-map (λ (s : Row). s.present) rows i r [] l ∙ ap (λ (s : Row). s.present) (sym e)

-- where the declared values stay, a value keeps its place
pub placed_stays : (before after : List Row) (x : ℕ) (p : Placed) → initial_of after ≡ initial_of before → IsPlaced before x p → IsPlaced after x p
placed_stays before after x p same placed = subst (λ lists. StandsIn (values_of lists x) p) (sym same) placed

-- a variable with some value is one of the store's
pub exists_from_member : (lists : List (List ℤ)) (i : ℕ) (v : ℤ) → Contains (values_of lists i) v → i < length lists
exists_from_member lists i v h =
    ⊎_elim (λ l. l) (λ ge. absurd (member_nil v (subst (λ vs. Contains vs v) (get_or_past lists i [] ge) h))) (cases_lt i (length lists))

pub exists_from_present : (rows : List Row) (i : ℕ) (v : ℤ) → Contains (values_of (present_of rows) i) v → i < length rows
exists_from_present rows i v h = omega (arith, exists_from_member (present_of rows) i v h, length-map rows (λ (t : Row). t.present))

pub exists_from_declared : (rows : List Row) (i : ℕ) (v : ℤ) → Contains (values_of (initial_of rows) i) v → i < length rows
exists_from_declared rows i v h = omega (arith, exists_from_member (initial_of rows) i v h, length-map rows (λ (t : Row). t.initial))

-- a row is changed
module _ (rows : List Row) (i : ℕ) (r s : Row) (within : i < length rows) (is : r ≡ get_or rows i r) where
  pub initial_of-changed : s.initial ≡ r.initial → initial_of (set rows i s) ≡ initial_of rows
  initial_of-changed same =
      map-set (λ (t : Row). t.initial) rows i s ∙ ap (set (initial_of rows) i) (same ∙ sym (initial-row rows i r within is)) ∙ set-get_or (initial_of rows) i []

  pub present_of-changed : (change : List ℤ → List ℤ) → s.present ≡ change r.present → present_of (set rows i s) ≡ set (present_of rows) i (change (values_of (present_of rows) i))
  present_of-changed change same =
      map-set (λ (t : Row). t.present) rows i s ∙ ap (set (present_of rows) i) (same ∙ ap change (sym (present-row rows i r within is)))

-- ---- the values of each variable

-- the values of one variable are changed
module _ (lists after : List (List ℤ)) (x : ℕ) (vs : List ℤ) (within : x < length lists) (is : after ≡ set lists x vs) where
  at_changed : values_of after x ≡ vs
  at_changed = ap (λ ls. values_of ls x) is ∙ get_or-set_same lists x vs [] within

  at_other : (y : ℕ) → (y ≡ x → ⊥) → values_of after y ≡ values_of lists y
  at_other y apart = ap (λ ls. values_of ls y) is ∙ get_or-set_other lists x y vs [] apart

to_member : (xs ys : List ℤ) (w : ℤ) → xs ≡ ys → Contains xs w → Contains ys w
to_member xs ys w e h = subst (λ zs. Contains zs w) e h

pub loses_pair : (rows after : List Row) (x : ℕ) (v : ℤ) → x < length (present_of rows) → present_of after ≡ set (present_of rows) x (values_without v (present_values rows x)) → LosesPair rows after x v
loses_pair rows after x v within is =
    let less = values_without v (present_values rows x) in
    let here = at_changed (present_of rows) (present_of after) x less within is in
    record {
      gone = λ h. (without_member v (present_values rows x) v (to_member _ _ v here h)).1 refl;
      others = λ y w apart h. elim (cases_eq y x) [
        | inl same ↦ to_member less _ w (sym here ∙ ap (present_values after) (sym same)) (member_without v (present_values rows x) w (to_member _ _ w (ap (present_values rows) same) h) (apart same))
        | inr other ↦ to_member _ _ w (sym (at_other (present_of rows) (present_of after) x less within is y other)) h
      ];
      inside = λ y w h. elim (cases_eq y x) [
        | inl same ↦ to_member _ _ w (ap (present_values rows) (sym same)) (without_member v (present_values rows x) w (to_member _ _ w (ap (present_values after) same ∙ here) h)).0
        | inr other ↦ to_member _ _ w (at_other (present_of rows) (present_of after) x less within is y other) h
      ];
    }

pub gains_pair : (rows after : List Row) (x : ℕ) (v : ℤ) → x < length (present_of rows) → present_of after ≡ set (present_of rows) x (values_with v (present_values rows x)) → GainsPair rows after x v
gains_pair rows after x v within is =
    let more = values_with v (present_values rows x) in
    let here = at_changed (present_of rows) (present_of after) x more within is in
    record {
      there = to_member _ _ v (sym here) (member_with_itself v (present_values rows x));
      others = λ y w h. elim (cases_eq y x) [
        | inl same ↦ to_member more _ w (sym here ∙ ap (present_values after) (sym same)) (member_with v (present_values rows x) w (to_member _ _ w (ap (present_values rows) same) h))
        | inr other ↦ to_member _ _ w (sym (at_other (present_of rows) (present_of after) x more within is y other)) h
      ];
      inside = λ y w apart h. elim (cases_eq y x) [
        | inl same ↦ elim (with_member v (present_values rows x) w (to_member _ _ w (ap (present_values after) same ∙ here) h)) [
          | inl e ↦ absurd (apart same (sym e))
          | inr m ↦ to_member _ _ w (ap (present_values rows) (sym same)) m
        ]
        | inr other ↦ to_member _ _ w (at_other (present_of rows) (present_of after) x more within is y other) h
      ];
    }

-- ---- the store after a call that changes it

pub record IsTakenOut (rows after : List Row) (x : ℕ) (v : ℤ) : Type 0 where
  pub initial : initial_of after ≡ initial_of rows
  pub present : present_of after ≡ set (present_of rows) x (values_without v (values_of (present_of rows) x))
  pub fewer : AreFormed rows → Contains (values_of (present_of rows) x) v → length (values_of (present_of after) x) + 1 ≡ length (values_of (present_of rows) x)
  pub loses : LosesPair rows after x v

pub record IsPutBack (rows after : List Row) (x : ℕ) (v : ℤ) : Type 0 where
  pub initial : initial_of after ≡ initial_of rows
  pub present : present_of after ≡ set (present_of rows) x (values_with v (values_of (present_of rows) x))
  pub more : length (values_of (present_of after) x) ≡ length (values_of (present_of rows) x) + 1
  pub gains : GainsPair rows after x v

-- a row of formed rows
pub formed_at : (rows : List Row) (x : ℕ) (r : Row) → AreFormed rows → x < length rows → r ≡ get_or rows x r → IsFormed r
formed_at rows x r formed within is = subst IsFormed (sym is) (formed.each x r within)

module _ (rows : List Row) (x : ℕ) (r s : Row) (v : ℤ) (within : x < length rows) (is : r ≡ get_or rows x r) where
  pub taken_out : s ≡ row r.initial (values_without v r.present) → IsTakenOut rows (set rows x s) x v
  taken_out e =
      let present = present_of-changed rows x r s within is (values_without v) (ap (λ (t : Row). t.present) e) in record {
        initial = initial_of-changed rows x r s within is (ap (λ (t : Row). t.initial) e);
        present = present;
        fewer = λ formed h.
            let at = ap length (at_changed (present_of rows) (present_of (set rows x s)) x (values_without v (present_values rows x)) (omega (arith, length-map rows (λ (t : Row). t.present))) present) in
            omega (arith, at, length-without v (present_values rows x) (subst Ascends (sym (present-row rows x r within is)) (formed_at rows x r formed within is).present_ascends) h);
        loses = loses_pair rows (set rows x s) x v (omega (arith, length-map rows (λ (t : Row). t.present))) present;
      }

  pub put_back : s ≡ row r.initial (values_with v r.present) → IsPutBack rows (set rows x s) x v
  put_back e =
      let present = present_of-changed rows x r s within is (values_with v) (ap (λ (t : Row). t.present) e) in record {
        initial = initial_of-changed rows x r s within is (ap (λ (t : Row). t.initial) e);
        present = present;
        more =
            ap length (at_changed (present_of rows) (present_of (set rows x s)) x (values_with v (present_values rows x)) (omega (arith, length-map rows (λ (t : Row). t.present))) present) ∙ length-with v (present_values rows x) ∙ omega arith;
        gains = gains_pair rows (set rows x s) x v (omega (arith, length-map rows (λ (t : Row). t.present))) present;
      }

  pub taken_out_formed : AreFormed rows → s ≡ row r.initial (values_without v r.present) → AreFormed (set rows x s)
  taken_out_formed formed e =
      AreFormed-set rows x s formed (subst IsFormed (sym e) (formed_without r v (formed_at rows x r formed within is)))

  pub put_back_formed : AreFormed rows → Contains (values_of (initial_of rows) x) v → (Contains (values_of (present_of rows) x) v → ⊥) → s ≡ row r.initial (values_with v r.present) → AreFormed (set rows x s)
  put_back_formed formed there none e =
      let declared = subst (λ vs. Contains vs v) (initial-row rows x r within is) there in
      let removed : Contains r.present v → ⊥ = λ h. none (subst (λ vs. Contains vs v) (sym (present-row rows x r within is)) h) in
      AreFormed-set rows x s formed (subst IsFormed (sym e) (formed_with r v (formed_at rows x r formed within is) declared removed))

-- ---- what holds of every store

module _ (rows : List Row) (formed : AreFormed rows) where
  pub initial_ascend : All Ascends (initial_of rows)
  initial_ascend = All-map Ascends (λ (r : Row). r.initial) rows (All-weaker IsFormed (λ r. Ascends r.initial) (λ r f. f.ascends) rows formed.each)

  pub initial_filled : All (λ vs. 0 < length vs) (initial_of rows)
  initial_filled = All-map (λ vs. 0 < length vs) (λ (r : Row). r.initial) rows (All-weaker IsFormed (λ r. 0 < length r.initial) (λ r f. f.filled) rows formed.each)

  pub initial_small : All (λ vs. length vs ≤ MOST_VALUES) (initial_of rows)
  initial_small = All-map (λ vs. length vs ≤ MOST_VALUES) (λ (r : Row). r.initial) rows (All-weaker IsFormed (λ r. length r.initial ≤ MOST_VALUES) (λ r f. f.small) rows formed.each)

  pub present_ascend : All Ascends (present_of rows)
  present_ascend = All-map Ascends (λ (r : Row). r.present) rows (All-weaker IsFormed (λ r. Ascends r.present) (λ r f. f.present_ascends) rows formed.each)

  pub present_inside : (x : ℕ) (v : ℤ) → Contains (values_of (present_of rows) x) v → Contains (values_of (initial_of rows) x) v
  present_inside x v h =
      let l : x < length rows = omega (arith, exists_from_member (present_of rows) x v h, length-map rows (λ (r : Row). r.present)) in
      let r = get_or rows x (row [] []) in
      let is : r ≡ get_or rows x r = get_or_default rows x (row [] []) r l in
      subst (λ vs. Contains vs v) (sym (initial-row rows x r l is)) ((formed.each x (row [] []) l).inside v (subst (λ vs. Contains vs v) (present-row rows x r l is) h))
