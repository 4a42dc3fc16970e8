-- Support and reasons of comparisons, by what they ask of the other variable.
use Rattle.std.proofs.Common.{◌≡◌, ℕ, ℤ, ◌+ℤ◌, ◌-ℤ◌, ◌-◌, pos, ◌<ℤ◌, ◌≤ℤ◌, Bool, true, false, cond, ◌<◌, List, [], ◌∷◌, length, get_or, filter, Contains, eqb, eq-eqb, ne_eqb, ◌⊎◌, inl, inr, refl, sym, ap, ◌∙◌, subst, arith}
use Rattle.std.proofs.lemmas.Int.{ints, by_lt_z}
use Rattle.std.proofs.lemmas.List.Elements.{All-contains, All-nil}
use Rattle.palm_base.proofs.cited.Members.{member_here, member_there, member_cases, member_single, member_same, member_filter, filter_member, filter_agree_members, nat_known}
use Rattle.palm_base.specs.declared.terms.Pair.{Pair}
use Rattle.palm_domain.specs.Rows.{Ascends, IsLeastOf, IsGreatestOf}
use Rattle.palm_domain.proofs.cited.Ascending.{get_or-rises}
use Rattle.palm_model.specs.Domains.{Domains, Has, values_of}
use Rattle.palm_model.specs.Relation.{Stands, is_standing}
use Rattle.palm_model.specs.Constraint.{scope, Distinct, IsWellFormed}
use Rattle.palm_model.specs.Support.{HasSupport, IsSupported, LacksSupport}
use Rattle.palm_model.specs.Removed.{pairs_of}
use Rattle.palm_model.specs.Comparison.{comparison_reason}
use Rattle.palm_model.specs.Reason.{reason}
use Rattle.palm_model.specs.declared.constraint.Con.{Con}
use Rattle.palm_model.specs.declared.constraint.Op.{Op}
use Rattle.palm_model.specs.declared.constraint.Op.TheVariants.{Eq, Ne, Lt, Le, Gt, Ge}
use Rattle.palm_model.specs.declared.part.Part.{Part}
use Rattle.palm_model.specs.declared.part.Part.TheVariants.{CompareVar as CompareVarPart, CompareConst as CompareConstPart}
use Rattle.palm_model.proofs.cited.Ascending.{ascends_filter, ascending_same}
use Rattle.palm_model.proofs.cited.Standing.{stands_from_test, test_from_stands}
use Rattle.palm_model.proofs.cited.Supports.{supported_by_part, lacking_by_part, two, two_first, two_second, support_by_two, support_by_one}
use Rattle.palm_model.proofs.cited.Trials.{put, put_same}
use Rattle.filter_compare.specs.Comparison.{comparison_of, flipped_of, demand_of, IsMet, meeting_values}
use Rattle.filter_compare.specs.declared.compare.Comparison.TheVariants.{Variables, Constant}
use Rattle.filter_compare.specs.declared.compare.VarComparison.{VarComparison}
use Rattle.filter_compare.specs.declared.demand.Demand.{Demand}

-- ---- the relation from its other side

pub flip : (op : Op) (v w k : ℤ) → Stands op v (w +ℤ k) → Stands (flipped_of op) w (v -ℤ k)
flip Eq v w k h = omega (arith, ints, h)
flip Ne v w k h = λ e. h (omega (arith, ints, e))
flip Lt v w k h = omega (arith, ints, h)
flip Le v w k h = omega (arith, ints, h)
flip Gt v w k h = omega (arith, ints, h)
flip Ge v w k h = omega (arith, ints, h)

pub flip_back : (op : Op) (v w k : ℤ) → Stands (flipped_of op) w (v -ℤ k) → Stands op v (w +ℤ k)
flip_back Eq v w k h = omega (arith, ints, h)
flip_back Ne v w k h = λ e. h (omega (arith, ints, e))
flip_back Lt v w k h = omega (arith, ints, h)
flip_back Le v w k h = omega (arith, ints, h)
flip_back Gt v w k h = omega (arith, ints, h)
flip_back Ge v w k h = omega (arith, ints, h)

bool_same : (b c : Bool) → (b ≡ true → c ≡ true) → (c ≡ true → b ≡ true) → b ≡ c
bool_same true c to back = sym (to refl)
bool_same false true to back = back refl
bool_same false false to back = refl

test_flipped : (op : Op) (v w k : ℤ) → is_standing op v (w +ℤ k) ≡ is_standing (flipped_of op) w (v -ℤ k)
test_flipped op v w k = bool_same (is_standing op v (w +ℤ k)) (is_standing (flipped_of op) w (v -ℤ k))
    (λ t. test_from_stands (flipped_of op) w (v -ℤ k) (flip op v w k (stands_from_test op v (w +ℤ k) t)))
    (λ t. test_from_stands op v (w +ℤ k) (flip_back op v w k (stands_from_test (flipped_of op) w (v -ℤ k) t)))

-- ---- a demand, against the ends of a domain

pub met_by : (vs : List ℤ) (d : Demand) (v : ℤ) → Contains vs v → Stands d.op v d.bound → IsMet vs d
met_by vs d v m h = record { value = v; member = m; stands = h }

pub unmet_none : (vs : List ℤ) (d : Demand) → (0 < length vs → ⊥) → IsMet vs d → ⊥
unmet_none vs d n met = n (omega (arith, met.member.1))

pub unmet_equal : (vs : List ℤ) (d : Demand) → d.op ≡ Eq → (Contains vs d.bound → ⊥) → IsMet vs d → ⊥
unmet_equal vs d is n met = n (member_same vs met.value d.bound (subst (λ o. Stands o met.value d.bound) is met.stands) met.member)

-- of two values one is not the bound
pub met_by_two : (vs : List ℤ) (d : Demand) → d.op ≡ Ne → Ascends vs → 1 < length vs → IsMet vs d
met_by_two [] d is up two = absurd (omega (arith, two))
met_by_two (v ∷ []) d is up two = absurd (omega (arith, two))
met_by_two (v ∷ w ∷ vs) d is up two =
    let above : v <ℤ w = up.0 0 w (omega arith) in
    by_lt_z v d.bound
    (λ lt. met_by (v ∷ w ∷ vs) d v (member_here v (w ∷ vs)) (subst (λ o. Stands o v d.bound) (sym is) (λ e. omega (arith, ints, e, lt))))
    (λ le. met_by (v ∷ w ∷ vs) d w (member_there v (w ∷ vs) w (member_here w vs)) (subst (λ o. Stands o w d.bound) (sym is) (λ e. omega (arith, ints, e, le, above))))

pub unmet_below : (vs : List ℤ) (d : Demand) (least : ℤ) → (d.op ≡ Lt) ⊎ (d.op ≡ Le) → IsLeastOf vs least → (Stands d.op least d.bound → ⊥) → IsMet vs d → ⊥
unmet_below vs d least is low n met = elim is [
  | inl e ↦ subst (λ o. (Stands o least d.bound → ⊥) → Stands o met.value d.bound → ⊥) (sym e) (λ n h. n (omega (arith, ints, h, low.least met.value met.member))) n met.stands
  | inr e ↦ subst (λ o. (Stands o least d.bound → ⊥) → Stands o met.value d.bound → ⊥) (sym e) (λ n h. n (omega (arith, ints, h, low.least met.value met.member))) n met.stands
]

pub unmet_above : (vs : List ℤ) (d : Demand) (greatest : ℤ) → (d.op ≡ Gt) ⊎ (d.op ≡ Ge) → IsGreatestOf vs greatest → (Stands d.op greatest d.bound → ⊥) → IsMet vs d → ⊥
unmet_above vs d greatest is high n met = elim is [
  | inl e ↦ subst (λ o. (Stands o greatest d.bound → ⊥) → Stands o met.value d.bound → ⊥) (sym e) (λ n h. n (omega (arith, ints, h, high.greatest met.value met.member))) n met.stands
  | inr e ↦ subst (λ o. (Stands o greatest d.bound → ⊥) → Stands o met.value d.bound → ⊥) (sym e) (λ n h. n (omega (arith, ints, h, high.greatest met.value met.member))) n met.stands
]

-- ---- the values that are equal to the bound

no_members : (vs : List ℤ) → ((v : ℤ) → Contains vs v → ⊥) → vs ≡ []
no_members [] none = refl
no_members (v ∷ vs) none = absurd (none v (member_here v vs))

meets_bound : (vs : List ℤ) (d : Demand) (w : ℤ) → d.op ≡ Eq → Contains (meeting_values vs d) w → Contains vs w × (d.bound ≡ w)
meets_bound vs d w is m =
    let r = filter_member (λ u. is_standing d.op u d.bound) vs w m in
    let e : w ≡ d.bound = subst (λ o. Stands o w d.bound) is (stands_from_test d.op w d.bound r.1) in
    (r.0, sym e)

pub bound_alone : (vs : List ℤ) (d : Demand) → d.op ≡ Eq → Ascends vs → Contains vs d.bound → meeting_values vs d ≡ d.bound ∷ []
bound_alone vs d is up there =
    ascending_same (meeting_values vs d) (d.bound ∷ []) (ascends_filter (λ w. is_standing d.op w d.bound) vs up) (All-nil (λ w. d.bound <ℤ w), tt)
    (λ w m. member_same (d.bound ∷ []) d.bound w (meets_bound vs d w is m).1 (member_here d.bound []))
    (λ w m. member_same (meeting_values vs d) d.bound w (member_single d.bound w m)
    (member_filter (λ u. is_standing d.op u d.bound) vs d.bound there (test_from_stands d.op d.bound d.bound (subst (λ o. Stands o d.bound d.bound) (sym is) refl))))

pub bound_missing : (vs : List ℤ) (d : Demand) → d.op ≡ Eq → (Contains vs d.bound → ⊥) → meeting_values vs d ≡ []
bound_missing vs d is missing = no_members (meeting_values vs d) (λ w m. let r = meets_bound vs d w is m in missing (member_same vs w d.bound (sym r.1) r.0))

-- a member is from the first to the last value
pub member_between : (vs : List ℤ) (v first last : ℤ) → Ascends vs → 0 < length vs → first ≡ get_or vs 0 first → last ≡ get_or vs (length vs - 1) last → Contains vs v → (first ≤ℤ v) × (v ≤ℤ last)
member_between vs v first last up some at_first at_last k =
    let lt : k.0 < length vs = k.1 in
    let here : get_or vs k.0 v ≡ v = k.2 in
    let low = get_or-rises vs up 0 k.0 first v (omega arith) lt in
    let high = get_or-rises vs up k.0 (length vs - 1) v last (omega (arith, lt)) (omega (arith, lt)) in
    (omega (arith, ints, low, at_first, here), omega (arith, ints, high, at_last, here))

-- a number that is not from the first to the last value is none of them
pub bound_outside : (vs : List ℤ) (d : Demand) (read : List ℤ) → read ≡ vs → (first last : ℤ) → d.op ≡ Eq → Ascends read → 0 < length read → first ≡ get_or read 0 first → last ≡ get_or read (length read - 1) last
    → ((first ≤ℤ d.bound) × (d.bound ≤ℤ last) → ⊥) → meeting_values vs d ≡ []
bound_outside vs d read same first last is up some at_first at_last outside =
    bound_missing vs d is (λ m. outside (member_between read d.bound first last up some at_first at_last (subst (λ ws. Contains ws d.bound) (sym same) m)))

-- ---- what is asked of the other variable

module _ (c : VarComparison) (x : ℕ) (v : ℤ) where
  abbrev left : ℕ
  left = c.left

  abbrev op : Op
  op = c.op

  abbrev right : ℕ
  right = c.right

  abbrev offset : ℤ
  offset = c.offset

  abbrev con : Con
  con = comparison_of (Variables c)

  abbrev pub of_right : Demand
  of_right = record { var = right; op = flipped_of op; bound = v -ℤ offset }

  abbrev pub of_left : Demand
  of_left = record { var = left; op = op; bound = v +ℤ offset }

  pub demand_at_left : x ≡ left → demand_of c x v ≡ of_right
  demand_at_left e = ap (λ b. cond b of_right of_left) (eq-eqb x left e)

  pub demand_at_right : (x ≡ left → ⊥) → demand_of c x v ≡ of_left
  demand_at_right n = ap (λ b. cond b of_right of_left) (ne_eqb x left n)

  reason_by : (initial : Domains) (b : Bool) → cond b (pairs_of right (filter (λ w. is_standing op v (w +ℤ offset)) (values_of initial right))) (pairs_of left (filter (λ w. is_standing op w (v +ℤ offset)) (values_of initial left))) ≡ pairs_of (cond b of_right of_left).var (meeting_values (values_of initial (cond b of_right of_left).var) (cond b of_right of_left))
  reason_by initial true = ap (pairs_of right) (filter_agree_members (λ w. is_standing op v (w +ℤ offset)) (λ w. is_standing (flipped_of op) w (v -ℤ offset)) (values_of initial right) (λ w m. test_flipped op v w offset))
  reason_by initial false = refl

  -- the reason has every declared pair that meets the demand
  pub reason_meets : (initial : Domains) → comparison_reason initial c.left c.op c.right c.offset x v ≡ pairs_of (demand_of c x v).var (meeting_values (values_of initial (demand_of c x v).var) (demand_of c x v))
  reason_meets initial = reason_by initial (eqb x left)

  -- the other variable is one of the two, and is another one
  pub demand_over : Contains (left ∷ right ∷ []) (demand_of c x v).var
  demand_over = by_case (eqb x left)
    where
      by_case : (b : Bool) → Contains (left ∷ right ∷ []) (cond b of_right of_left).var
      by_case true = member_there left (right ∷ []) right (member_here right [])
      by_case false = member_here left (right ∷ [])

  at_right : (x ≡ left → ⊥) → Contains (left ∷ right ∷ []) x → right ≡ x
  at_right n over = elim (member_cases left (right ∷ []) x over) [
    | inl e ↦ absurd (n (sym e))
    | inr m ↦ member_single right x m
  ]

  -- ---- support

  abbrev pub part : Part
  part = CompareVarPart left op right offset

  over_two : (a b : ℕ) → Contains (a ∷ b ∷ []) x → (z : ℕ) → Contains (a ∷ b ∷ []) z → (a ≡ z) ⊎ (b ≡ z)
  over_two a b over z m = elim (member_cases a (b ∷ []) z m) [ inl e ↦ inl e | inr k ↦ inr (member_single b z k) ]

  swap : (a b z : ℕ) → (a ≡ z) ⊎ (b ≡ z) → (b ≡ z) ⊎ (a ≡ z)
  swap a b z h = elim h [ inl e ↦ inr e | inr e ↦ inl e ]

  left_support : (d : Domains) → (left ≡ right → ⊥) → Contains (left ∷ right ∷ []) x → Has d left v → IsMet (values_of d right) of_right → HasSupport d part left v
  left_support d apart over has met =
      support_by_two d part left v right met.value (λ e. apart (sym e)) (over_two left right over) has met.member
      (subst (λ m. Stands op m (two left v right met.value right +ℤ offset)) (sym (two_first left v right met.value))
      (subst (λ n. Stands op v (n +ℤ offset)) (sym (two_second left v right met.value (λ e. apart (sym e)))) (flip_back op v met.value offset met.stands)))

  right_support : (d : Domains) → (left ≡ right → ⊥) → Contains (left ∷ right ∷ []) x → Has d right v → IsMet (values_of d left) of_left → HasSupport d part right v
  right_support d apart over has met =
      support_by_two d part right v left met.value apart (λ z m. swap left right z (over_two left right over z m)) has met.member
      (subst (λ m. Stands op m (two right v left met.value right +ℤ offset)) (sym (two_second right v left met.value apart))
      (subst (λ n. Stands op met.value (n +ℤ offset)) (sym (two_first right v left met.value)) met.stands))

  pub support_from_met : (d : Domains) → (left ≡ right → ⊥) → Contains (left ∷ right ∷ []) x → Has d x v → IsMet (values_of d (demand_of c x v).var) (demand_of c x v) → HasSupport d part x v
  support_from_met d apart over has met = elim (nat_known x left) [
    | inl e ↦ subst (λ z. HasSupport d part z v) (sym e) (left_support d apart over (subst (λ z. Has d z v) e has) (subst (λ (q : Demand). IsMet (values_of d q.var) q) (demand_at_left e) met))
    | inr n ↦
        let s = at_right n over in
        subst (λ z. HasSupport d part z v) s (right_support d apart over (subst (λ z. Has d z v) (sym s) has) (subst (λ (q : Demand). IsMet (values_of d q.var) q) (demand_at_right n) met))
  ]

  met_right : (d : Domains) (s : HasSupport d part x v) → x ≡ left → IsMet (values_of d right) of_right
  met_right d s e = record {
    value = s.assignment right;
    member = s.within right (member_there left (right ∷ []) right (member_here right []));
    stands = flip op v (s.assignment right) offset (subst (λ m. Stands op m (s.assignment right +ℤ offset)) (ap s.assignment (sym e) ∙ s.gives) s.holds);
  }

  met_left : (d : Domains) (s : HasSupport d part x v) → right ≡ x → IsMet (values_of d left) of_left
  met_left d s e = record {
    value = s.assignment left;
    member = s.within left (member_here left (right ∷ []));
    stands = subst (λ m. Stands op (s.assignment left) (m +ℤ offset)) (ap s.assignment e ∙ s.gives) s.holds;
  }

  pub met_from_support : (d : Domains) → Contains (left ∷ right ∷ []) x → HasSupport d part x v → IsMet (values_of d (demand_of c x v).var) (demand_of c x v)
  met_from_support d over s = elim (nat_known x left) [
    | inl e ↦ subst (λ (q : Demand). IsMet (values_of d q.var) q) (sym (demand_at_left e)) (met_right d s e)
    | inr n ↦ subst (λ (q : Demand). IsMet (values_of d q.var) q) (sym (demand_at_right n)) (met_left d s (at_right n over))
  ]

  pub var_supported : (d : Domains) → Distinct (left ∷ right ∷ []) → Contains (left ∷ right ∷ []) x → Has d x v → IsMet (values_of d (demand_of c x v).var) (demand_of c x v) → IsSupported d con x v
  var_supported d distinct over has met =
      supported_by_part d con part x v refl (support_from_met d (λ e. distinct.0 (member_same (right ∷ []) right left (sym e) (member_here right []))) over has met)

  pub var_lacking : (d : Domains) → Contains (left ∷ right ∷ []) x → (IsMet (values_of d (demand_of c x v).var) (demand_of c x v) → ⊥) → LacksSupport d con x v
  var_lacking d over unmet = lacking_by_part d con part x v refl over (λ s. unmet (met_from_support d over s))

-- ---- comparisons with a value

module _ (d : Demand) (x : ℕ) (v : ℤ) where
  abbrev const_con : Con
  const_con = comparison_of (Constant d)

  abbrev pub const_part : Part
  const_part = CompareConstPart d.var d.op d.bound

  pub const_supported : (e : Domains) → Has e x v → Contains (d.var ∷ []) x → Stands d.op v d.bound → IsSupported e const_con x v
  const_supported e has over h =
      supported_by_part e const_con const_part x v refl
      (support_by_one e const_part x v (λ z m. sym (member_single d.var x over) ∙ member_single d.var z m) has
      (subst (λ y. Stands d.op (put (λ z. pos 0) x v y) d.bound) (sym (member_single d.var x over)) (subst (λ u. Stands d.op u d.bound) (sym (put_same (λ z. pos 0) x v)) h)))

  pub stands_from_support : (e : Domains) → Contains (d.var ∷ []) x → HasSupport e const_part x v → Stands d.op v d.bound
  stands_from_support e over s = subst (λ u. Stands d.op u d.bound) (ap s.assignment (member_single d.var x over) ∙ s.gives) s.holds

  pub const_lacking : (e : Domains) → Contains (d.var ∷ []) x → (Stands d.op v d.bound → ⊥) → LacksSupport e const_con x v
  const_lacking e over n = lacking_by_part e const_con const_part x v refl over (λ s. n (stands_from_support e over s))

-- ---- a filter's answers, for its meaning m

module _ (c : VarComparison) (x : ℕ) (v : ℤ) (n : ℕ) (m : Con) (q : Demand) (is : comparison_of (Variables c) ≡ m) (formed : IsWellFormed n m) (asks : q ≡ demand_of c x v) where
  distinct_vars : Distinct (c.left ∷ c.right ∷ [])
  distinct_vars = subst (λ k. Distinct (scope k)) (sym is) formed.distinct

  over_vars : Contains (scope m) x → Contains (c.left ∷ c.right ∷ []) x
  over_vars over = subst (λ k. Contains (scope k) x) (sym is) over

  pub asks_declared : q.var < n
  asks_declared =
      All-contains (λ y. y < n) (scope m) q.var formed.declared
      (subst (λ k. Contains (scope k) q.var) is (subst (λ (p : Demand). Contains (c.left ∷ c.right ∷ []) p.var) (sym asks) (demand_over c x v)))

  pub answers_supported : (d : Domains) → Contains (scope m) x → Has d x v → IsMet (values_of d q.var) q → IsSupported d m x v
  answers_supported d over has met =
      subst (λ k. IsSupported d k x v) is (var_supported c x v d distinct_vars (over_vars over) has (subst (λ (p : Demand). IsMet (values_of d p.var) p) asks met))

  pub answers_lacking : (d : Domains) → Contains (scope m) x → (IsMet (values_of d q.var) q → ⊥) → LacksSupport d m x v
  answers_lacking d over unmet =
      subst (λ k. LacksSupport d k x v) is (var_lacking c x v d (over_vars over) (λ met. unmet (subst (λ (p : Demand). IsMet (values_of d p.var) p) (sym asks) met)))

  pub gives_reason : (initial present : Domains) (out : List Pair) → out ≡ pairs_of q.var (meeting_values (values_of initial q.var) q) → out ≡ reason initial present m x v
  gives_reason initial present out e =
      e ∙ ap (λ (p : Demand). pairs_of p.var (meeting_values (values_of initial p.var) p)) asks ∙ sym (reason_meets c x v initial) ∙ ap (λ k. reason initial present k x v) is

module _ (q : Demand) (x : ℕ) (v : ℤ) (m : Con) (is : comparison_of (Constant q) ≡ m) where
  pub const_answers_supported : (d : Domains) → Contains (scope m) x → Has d x v → Stands q.op v q.bound → IsSupported d m x v
  const_answers_supported d over has h =
      subst (λ k. IsSupported d k x v) is (const_supported q x v d has (subst (λ k. Contains (scope k) x) (sym is) over) h)

  pub const_answers_lacking : (d : Domains) → Contains (scope m) x → (Stands q.op v q.bound → ⊥) → LacksSupport d m x v
  const_answers_lacking d over h =
      subst (λ k. LacksSupport d k x v) is (const_lacking q x v d (subst (λ k. Contains (scope k) x) (sym is) over) h)

  pub const_gives_reason : (initial present : Domains) (out : List Pair) → out ≡ [] → out ≡ reason initial present m x v
  const_gives_reason initial present out e = e ∙ ap (λ k. reason initial present k x v) is
