-- Support by a difference, and its reason: the removed pairs of the first other variable whose only value is the one.
use Rattle.std.proofs.Common.{◌≡◌, ℕ, ℤ, ◌<◌, ◌<ℤ◌, Bool, true, List, [], ◌∷◌, length, map, take, filter, Contains, ◌⊎◌, inl, inr, refl, sym, ap, ◌∙◌, subst, arith}
use Rattle.std.proofs.lemmas.Int.{ints}
use Rattle.std.proofs.lemmas.List.Elements.{All-contains, All-head, Contains-append_left, Contains-append_right, Contains-append_cases}
use Rattle.palm_base.proofs.cited.Members.{member_nil, member_here, member_there, member_cases, member_single, member_same, member_tail, member_map, member_unmap, member_take, filter_member, member_filter, int_known}
use Rattle.palm_base.specs.declared.terms.Pair.{Pair}
use Rattle.palm_model.specs.Constraint.{Distinct}
use Rattle.palm_model.specs.Differ.{differ_parts, differ_reason}
use Rattle.palm_model.specs.Domains.{Domains, Has, Ascends, AllAscend, values_of, without}
use Rattle.palm_model.specs.Part.{scope_of}
use Rattle.palm_model.specs.Reason.{AreFilled, IsReason}
use Rattle.palm_model.specs.Removed.{is_alone, others, removed_values}
use Rattle.palm_model.specs.Support.{HasSupport, LacksSupport}
use Rattle.palm_model.specs.declared.constraint.Con.TheVariants.{Differ}
use Rattle.palm_model.specs.declared.part.Part.{Part}
use Rattle.palm_model.specs.declared.part.Part.TheVariants.{Differ as DifferPart}
use Rattle.palm_model.proofs.cited.Ascending.{ascends_at}
use Rattle.palm_model.proofs.cited.Reasons.{alone_only, only_alone, removed_member, member_removed, all_pairs_member, member_all_pairs, others_member, member_others}
use Rattle.palm_model.proofs.cited.Supports.{support_by_two, two_first, two_second, without_has}
use Rattle.palm_reason.specs.Differ.{HasOther, TakesRoom}
use Rattle.palm_reason.proofs.cited.TwoVariables.{lacking_over}

-- ---- the parts of a difference

-- a part is over two different variables
pub part_apart : (vars : List ℕ) (p : Part) → Distinct vars → Contains (differ_parts vars) p → (a : ℕ) × (b : ℕ) × Contains vars a × Contains vars b × (a ≡ b → ⊥) × (DifferPart a b ≡ p)
part_apart [] p distinct h = absurd (member_nil p h)
part_apart (z ∷ zs) p distinct h = elim (Contains-append_cases (map (DifferPart z) zs) (differ_parts zs) p h) [
  | inl m ↦ let r = member_unmap (DifferPart z) zs p m in (z, r.0, member_here z zs, member_there z zs r.0 r.1, (λ e. distinct.0 (member_same zs r.0 z (sym e) r.1)), r.2)
  | inr m ↦ let r = part_apart zs p distinct.1 m in (r.0, r.1, member_there z zs r.0 r.2, member_there z zs r.1 r.3, r.4, r.5)
]

-- two different variables have a part
pub has_part : (vars : List ℕ) (a b : ℕ) → Contains vars a → Contains vars b → (a ≡ b → ⊥) → Contains (differ_parts vars) (DifferPart a b) ⊎ Contains (differ_parts vars) (DifferPart b a)
has_part [] a b at_a at_b ne = absurd (member_nil a at_a)
has_part (z ∷ zs) a b at_a at_b ne = elim (member_cases z zs a at_a) [
  | inl e ↦
      let rest = member_tail z zs b (λ f. ne (sym e ∙ f)) at_b in
      inl (subst (λ y. Contains (differ_parts (z ∷ zs)) (DifferPart y b)) e (Contains-append_left (map (DifferPart z) zs) (differ_parts zs) (DifferPart z b) (member_map (DifferPart z) zs b rest)))
  | inr m ↦ elim (member_cases z zs b at_b) [
    | inl f ↦ inr (subst (λ y. Contains (differ_parts (z ∷ zs)) (DifferPart y a)) f (Contains-append_left (map (DifferPart z) zs) (differ_parts zs) (DifferPart z a) (member_map (DifferPart z) zs a m)))
    | inr k ↦ elim (has_part zs a b m k ne) [
      | inl r ↦ inl (Contains-append_right (map (DifferPart z) zs) (differ_parts zs) (DifferPart a b) r)
      | inr r ↦ inr (Contains-append_right (map (DifferPart z) zs) (differ_parts zs) (DifferPart b a) r)
    ]
  ]
]

-- ---- support

module _ (d : Domains) (x : ℕ) (v : ℤ) (has : Has d x v) where
  first_supported : (y : ℕ) → (y ≡ x → ⊥) → HasOther (values_of d y) v → HasSupport d (DifferPart x y) x v
  first_supported y ne o =
      support_by_two d (DifferPart x y) x v y o.value ne (λ z m. either z m) has o.member
      (λ e. o.apart (sym (two_second x v y o.value ne) ∙ sym e ∙ two_first x v y o.value))
    where
      either : (z : ℕ) → Contains (x ∷ y ∷ []) z → (x ≡ z) ⊎ (y ≡ z)
      either z m = elim (member_cases x (y ∷ []) z m) [ inl e ↦ inl e | inr k ↦ inr (member_single y z k) ]

  second_supported : (y : ℕ) → (y ≡ x → ⊥) → HasOther (values_of d y) v → HasSupport d (DifferPart y x) x v
  second_supported y ne o =
      support_by_two d (DifferPart y x) x v y o.value ne (λ z m. either z m) has o.member
      (λ e. o.apart (sym (two_second x v y o.value ne) ∙ e ∙ two_first x v y o.value))
    where
      either : (z : ℕ) → Contains (y ∷ x ∷ []) z → (x ≡ z) ⊎ (y ≡ z)
      either z m = elim (member_cases y (x ∷ []) z m) [ inl e ↦ inr e | inr k ↦ inl (member_single x z k) ]

  -- the variable of a part other than x, and its support where that has another value
  pub partner : (a b : ℕ) → (a ≡ b → ⊥) → Contains (a ∷ b ∷ []) x → (y : ℕ) × ((a ≡ y) ⊎ (b ≡ y)) × (y ≡ x → ⊥) × (HasOther (values_of d y) v → HasSupport d (DifferPart a b) x v)
  partner a b ne over = elim (member_cases a (b ∷ []) x over) [
    | inl e ↦
        let apart : b ≡ x → ⊥ = λ f. ne (e ∙ sym f) in
        (b, inr refl, apart, λ o. subst (λ z. HasSupport d (DifferPart z b) x v) (sym e) (first_supported b apart o))
    | inr k ↦
        let f = member_single b x k in
        let apart : a ≡ x → ⊥ = λ e. ne (e ∙ sym f) in
        (a, inl refl, apart, λ o. subst (λ z. HasSupport d (DifferPart a z) x v) (sym f) (second_supported a apart o))
  ]

  pub partner_member : (vars : List ℕ) (a b y : ℕ) → Contains vars a → Contains vars b → (a ≡ y) ⊎ (b ≡ y) → Contains vars y
  partner_member vars a b y at_a at_b is = elim is [ inl e ↦ member_same vars a y e at_a | inr e ↦ member_same vars b y e at_b ]

  pub lacks_room : (vars : List ℕ) → Distinct vars → LacksSupport d (Differ vars) x v → TakesRoom d vars x v
  lacks_room vars distinct lacks =
      let r = part_apart vars lacks.part distinct lacks.is_part in
      let q = partner r.0 r.1 r.4 (subst (λ s. Contains (scope_of s) x) (sym r.5) lacks.over) in
      record {
        var = q.0;
        member = partner_member vars r.0 r.1 q.0 r.2 r.3 q.1;
        apart = q.2;
        none = λ o. lacks.lacks (subst (λ s. HasSupport d s x v) r.5 (q.3 o));
      }

pub room_lacks : (d : Domains) (x : ℕ) (v : ℤ) (vars : List ℕ) → Contains vars x → TakesRoom d vars x v → LacksSupport d (Differ vars) x v
room_lacks d x v vars over t = elim (has_part vars x t.var over t.member (λ e. t.apart (sym e))) [
  | inl m ↦ record {
    part = DifferPart x t.var;
    is_part = m;
    over = member_here x (t.var ∷ []);
    lacks = λ s. t.none (record { value = s.assignment t.var; member = s.within t.var (member_there x (t.var ∷ []) t.var (member_here t.var [])); apart = λ e. s.holds (s.gives ∙ sym e) });
  }
  | inr m ↦ record {
    part = DifferPart t.var x;
    is_part = m;
    over = member_there t.var (x ∷ []) x (member_here x []);
    lacks = λ s. t.none (record { value = s.assignment t.var; member = s.within t.var (member_here t.var (x ∷ [])); apart = λ e. s.holds (e ∙ sym s.gives) });
  }
]

-- ---- the reason

-- one of them is the first
first_of : (xs : List ℕ) (y : ℕ) → Contains xs y → (z : ℕ) × Contains xs z × Contains (take 1 xs) z
first_of [] y m = absurd (member_nil y m)
first_of (x ∷ xs) y m = (x, member_here x xs, member_here x [])

-- different values of which none is another one than v
alone_among : (vs : List ℤ) (v : ℤ) → Ascends vs → 0 < length vs → (HasOther vs v → ⊥) → is_alone vs v ≡ true
alone_among [] v ascends some none = absurd (omega (arith, some))
alone_among (w ∷ []) v ascends some none = elim (int_known w v) [
  | inl e ↦ only_alone (w ∷ []) v (ap (λ u. u ∷ []) e)
  | inr n ↦ absurd (none (record { value = w; member = member_here w []; apart = n }))
]
alone_among (w ∷ u ∷ ws) v ascends some none = elim (int_known w v) [
  | inl e ↦
      let below = All-head (λ z. w <ℤ z) u ws ascends.0 in
      absurd (none (record { value = u; member = member_there w (u ∷ ws) u (member_here u ws); apart = λ f. omega (arith, ints, below, e, f) }))
  | inr n ↦ absurd (none (record { value = w; member = member_here w (u ∷ ws); apart = n }))
]

module _ (initial present : Domains) (vars : List ℕ) (x : ℕ) (v : ℤ) where
  abbrev why : List Pair
  why = differ_reason initial present vars x v

  abbrev alone : ℕ → Bool
  alone y = is_alone (values_of present y) v

  -- the first other variable that has the value alone, if any
  abbrev first_alone : List ℕ
  first_alone = take 1 (filter alone (others vars x))

  -- all that the variable could be besides v is among the reasons
  room_taken : (z : ℕ) → Contains (filter alone (others vars x)) z → Contains (first_alone) z → HasOther (values_of (without initial why) z) v → ⊥
  room_taken z member first o =
      let only = alone_only (values_of present z) v (filter_member alone (others vars x) z member).1 in
      let left = without_has initial why z o.value o.member in
      let gone : Has present z o.value → ⊥ = λ h. o.apart (sym (member_single v o.value (subst (λ vs. Contains vs o.value) only h))) in
      left.1 (member_all_pairs (removed_values initial present) (first_alone) z o.value first (member_removed initial present z o.value left.0 gone))

  pub differ_right : Distinct vars → AllAscend present → AreFilled present vars → Has present x v → LacksSupport present (Differ vars) x v → IsReason initial present (Differ vars) x v why
  differ_right distinct ascend filled has lacks =
      let over : Contains vars x = lacking_over present (Differ vars) x v lacks in
      let t = lacks_room present x v has vars distinct lacks in
      let some = All-contains (λ y. 0 < length (values_of present y)) vars t.var filled t.member in
      let lone = alone_among (values_of present t.var) v (ascends_at present t.var ascend) some t.none in
      let r = first_of (filter alone (others vars x)) t.var (member_filter alone (others vars x) t.var (member_others vars x t.var t.member t.apart) lone) in
      let other = others_member vars x r.0 (filter_member alone (others vars x) r.0 r.1).0 in
      record {
        removed = λ p m. removed_member initial present p.var p.value (all_pairs_member (removed_values initial present) (first_alone) p m).1;
        others = λ p m. others_member vars x p.var (filter_member alone (others vars x) p.var (member_take 1 (filter alone (others vars x)) p.var (all_pairs_member (removed_values initial present) (first_alone) p m).0)).0;
        lacks = room_lacks (without initial why) x v vars over (record { var = r.0; member = other.0; apart = other.1; none = room_taken r.0 r.1 r.2 });
      }
