-- Support by an element of a list, and its reasons as they are written.
use Rattle.std.proofs.Common.{◌≡◌, ℕ, ℤ, pos, ◌+◌, ◌<◌, ◌≤◌, ◌<ℤ◌, Bool, true, false, List, [], ◌∷◌, ◌++◌, length, map, take, filter, Contains, slice_get, Some, ◌⊎◌, inl, inr, refl, sym, ap, ◌∙◌, subst, arith, get_or, append-nil}
use Rattle.std.specs.List.{AllWithin}
use Rattle.std.proofs.lemmas.Int.{ints}
use Rattle.std.proofs.lemmas.List.{get_or-map, get_or_default, length-map}
use Rattle.std.proofs.lemmas.List.Elements.{All-nil, All-contains, AllWithin-more}
use Rattle.std.proofs.lemmas.Option.{same_Some, slice_get_within}
use Rattle.palm_base.proofs.cited.Members.{all_members, filter_member, member_filter, member_here, member_map, member_same, member_single, member_there, member_unmap}
use Rattle.palm_base.specs.Tells.{Tells}
use Rattle.palm_base.specs.declared.terms.Pair.{Pair}
use Rattle.palm_model.specs.Domains.{Domains, Has, Ascends, values_of}
use Rattle.palm_model.specs.Constraint.{scope, Distinct, IsWellFormed}
use Rattle.palm_model.specs.Support.{HasSupport, IsSupported, LacksSupport}
use Rattle.palm_model.specs.Element.{entry_at, indices_of, is_entry, outcomes_at, element_reason}
use Rattle.palm_model.specs.Removed.{is_listed, pairs_of}
use Rattle.palm_model.specs.Reason.{reason}
use Rattle.palm_model.specs.declared.constraint.Con.{Con}
use Rattle.palm_model.specs.declared.limits.TheConstants.{MOST_ROWS}
use Rattle.palm_model.specs.declared.part.Part.{Part}
use Rattle.palm_model.specs.declared.part.Part.TheVariants.{Element as ElementPart}
use Rattle.palm_model.proofs.cited.Ascending.{ascends_filter, ascending_same}
use Rattle.palm_filter.proofs.cited.Listed.{listed_told}
use Rattle.palm_model.proofs.cited.Reasons.{listed_member, member_listed, pairs_more, pairs_same}
use Rattle.palm_model.proofs.cited.Supports.{supported_by_part, lacking_by_part, two_first, two_second, support_by_two}
use Rattle.palm_reason.proofs.cited.ElementReason.{place_of, entry_of, entry_test, test_entry}
use Rattle.palm_reason.proofs.cited.TwoVariables.{of_two, turned}
use Rattle.filter_element.specs.Element.{element_of, IsEntryReached, IsEntryOpen}
use Rattle.filter_element.specs.declared.rule.ElementRule.{ElementRule}

-- ---- support

module _ (c : ElementRule) where
  abbrev part : Part
  part = ElementPart c.outcome c.index c.entries

  -- the two variables
  abbrev both : List ℕ
  both = c.outcome ∷ c.index ∷ []

  apart : Distinct both → c.outcome ≡ c.index → ⊥
  apart distinct e = distinct.0 (member_same (c.index ∷ []) c.index c.outcome (sym e) (member_here c.index []))

  pub outcome_support : (d : Domains) (w : ℤ) → Distinct both → Has d c.outcome w → IsEntryReached d c w → HasSupport d part c.outcome w
  outcome_support d w distinct has r =
      let k = pos (r.place + 1) in
      let ne : c.index ≡ c.outcome → ⊥ = λ e. apart distinct (sym e) in
      support_by_two d part c.outcome w c.index k ne (of_two c.outcome c.index) has r.index
      (r.place, two_second c.outcome w c.index k ne, r.stands ∙ ap Some (sym (two_first c.outcome w c.index k)))

  pub index_support : (d : Domains) (k : ℤ) → Distinct both → Has d c.index k → IsEntryOpen d c k → HasSupport d part c.index k
  index_support d k distinct has r =
      let s = place_of c.entries k r.entry r.stands in
      support_by_two d part c.index k c.outcome r.entry (apart distinct) (λ z m. turned c.outcome c.index z (of_two c.outcome c.index z m)) has r.outcome
      (s.0, two_first c.index k c.outcome r.entry ∙ s.1, s.2 ∙ ap Some (sym (two_second c.index k c.outcome r.entry (apart distinct))))

  pub support_outcome : (d : Domains) (w : ℤ) → HasSupport d part c.outcome w → IsEntryReached d c w
  support_outcome d w s = record {
    place = s.holds.0;
    stands = s.holds.2 ∙ ap Some s.gives;
    index = subst (λ k. Has d c.index k) s.holds.1 (s.within c.index (member_there c.outcome (c.index ∷ []) c.index (member_here c.index [])));
  }

  pub support_index : (d : Domains) (k : ℤ) → HasSupport d part c.index k → IsEntryOpen d c k
  support_index d k s = record {
    entry = s.assignment c.outcome;
    stands = ap (entry_at c.entries) (sym s.gives ∙ s.holds.1) ∙ entry_of c.entries s.holds.0 (s.assignment c.outcome) s.holds.2;
    outcome = s.within c.outcome (member_here c.outcome (c.index ∷ []));
  }

-- ---- the outcome of an index, among declared values

no_members : (ws : List ℤ) → ((w : ℤ) → Contains ws w → ⊥) → ws ≡ []
no_members [] none = refl
no_members (w ∷ ws) none = absurd (none w (member_here w ws))

module _ (initial : Domains) (outcome : ℕ) (entries : List ℤ) (k : ℤ) where
  kept_member : (w : ℤ) → Contains (outcomes_at initial outcome entries k) w → Has initial outcome w × (entry_at entries k ≡ Some w)
  kept_member w m =
      let r = filter_member (λ u. is_entry entries k u) (values_of initial outcome) w m in
      (r.0, entry_test (entry_at entries k) w r.1)

  pub declared_outcomes : Ascends (values_of initial outcome) → (u : ℤ) → entry_at entries k ≡ Some u → Has initial outcome u → outcomes_at initial outcome entries k ≡ u ∷ []
  declared_outcomes up u at has =
      ascending_same (outcomes_at initial outcome entries k) (u ∷ []) (ascends_filter (λ w. is_entry entries k w) (values_of initial outcome) up) (All-nil (λ w. u <ℤ w), tt)
      (λ w m. member_same (u ∷ []) u w (same_Some u w (sym at ∙ (kept_member w m).1)) (member_here u []))
      (λ w m. member_same (outcomes_at initial outcome entries k) u w (member_single u w m)
      (member_filter (λ z. is_entry entries k z) (values_of initial outcome) u has (test_entry (entry_at entries k) u at)))

  pub missing_outcomes : ((w : ℤ) → Has initial outcome w → entry_at entries k ≡ Some w → ⊥) → outcomes_at initial outcome entries k ≡ []
  missing_outcomes none = no_members (outcomes_at initial outcome entries k) (λ w m. let r = kept_member w m in none w r.0 r.1)

  pub undeclared_outcomes : (u : ℤ) → entry_at entries k ≡ Some u → (Has initial outcome u → ⊥) → outcomes_at initial outcome entries k ≡ []
  undeclared_outcomes u at missing = missing_outcomes (λ w has e. missing (member_same (values_of initial outcome) w u (sym (same_Some u w (sym at ∙ e))) has))

-- nothing is written
pub none_written : (out : List Pair) (y : ℕ) (ws : List ℤ) → ws ≡ [] → out ≡ out ++ pairs_of y ws
none_written out y ws e = sym (ap (λ vs. out ++ pairs_of y vs) e ∙ append-nil out)

-- ---- a filter's answers, for its meaning m

module _ (c : ElementRule) (m : Con) (n : ℕ) (is : element_of c ≡ m) (formed : IsWellFormed n m) where
  own_formed : IsWellFormed n (element_of c)
  own_formed = subst (λ k. IsWellFormed n k) (sym is) formed

  own_over : (x : ℕ) → Contains (scope m) x → (c.outcome ≡ x) ⊎ (c.index ≡ x)
  own_over x over = of_two c.outcome c.index x (subst (λ k. Contains (scope k) x) (sym is) over)

  index_is : (x : ℕ) → Contains (scope m) x → (x ≡ c.outcome → ⊥) → c.index ≡ x
  index_is x over n = elim (own_over x over) [ inl e ↦ absurd (n (sym e)) | inr e ↦ e ]

  pub outcome_declared : c.outcome < n
  outcome_declared = All-contains (λ y. y < n) (c.outcome ∷ c.index ∷ []) c.outcome own_formed.declared (member_here c.outcome (c.index ∷ []))

  pub index_declared : c.index < n
  index_declared = All-contains (λ y. y < n) (c.outcome ∷ c.index ∷ []) c.index own_formed.declared (member_there c.outcome (c.index ∷ []) c.index (member_here c.index []))

  pub few_entries : length c.entries ≤ MOST_ROWS
  few_entries = own_formed.shaped.0.1

  module _ (d : Domains) (x : ℕ) (v : ℤ) where
    pub outcome_supported : x ≡ c.outcome → Has d x v → IsEntryReached d c v → IsSupported d m x v
    outcome_supported e has r =
        subst (λ k. IsSupported d k x v) is (subst (λ z. IsSupported d (element_of c) z v) (sym e)
        (supported_by_part d (element_of c) (ElementPart c.outcome c.index c.entries) c.outcome v refl
        (outcome_support c d v own_formed.distinct (subst (λ z. Has d z v) e has) r)))

    pub outcome_lacking : x ≡ c.outcome → (IsEntryReached d c v → ⊥) → LacksSupport d m x v
    outcome_lacking e none =
        subst (λ k. LacksSupport d k x v) is (subst (λ z. LacksSupport d (element_of c) z v) (sym e)
        (lacking_by_part d (element_of c) (ElementPart c.outcome c.index c.entries) c.outcome v refl (member_here c.outcome (c.index ∷ [])) (λ s. none (support_outcome c d v s))))

    pub index_supported : Contains (scope m) x → (x ≡ c.outcome → ⊥) → Has d x v → IsEntryOpen d c v → IsSupported d m x v
    index_supported over ne has r =
        let e = index_is x over ne in
        subst (λ k. IsSupported d k x v) is (subst (λ z. IsSupported d (element_of c) z v) e
        (supported_by_part d (element_of c) (ElementPart c.outcome c.index c.entries) c.index v refl
        (index_support c d v own_formed.distinct (subst (λ z. Has d z v) (sym e) has) r)))

    pub index_lacking : Contains (scope m) x → (x ≡ c.outcome → ⊥) → (IsEntryOpen d c v → ⊥) → LacksSupport d m x v
    index_lacking over ne none =
        let e = index_is x over ne in
        subst (λ k. LacksSupport d k x v) is (subst (λ z. LacksSupport d (element_of c) z v) e
        (lacking_by_part d (element_of c) (ElementPart c.outcome c.index c.entries) c.index v refl (member_there c.outcome (c.index ∷ []) c.index (member_here c.index []))
        (λ s. none (support_index c d v s))))

  pub gives_reason : (initial present : Domains) (x : ℕ) (v : ℤ) (out : List Pair) → out ≡ element_reason initial c.outcome c.index c.entries x v → out ≡ reason initial present m x v
  gives_reason initial present x v out e = e ∙ ap (λ k. reason initial present k x v) is

-- ---- a walk over the places of an outcome

module _ (entries : List ℤ) (w : ℤ) (places : List ℕ) (stands : (k : ℕ) → Contains places k → slice_get entries k ≡ Some w) where
  place_at : (i : ℕ) → i < length places → slice_get entries (get_or places i 0) ≡ Some w
  place_at i lt = stands (get_or places i 0) (i, lt, get_or_default places i (get_or places i 0) 0 lt)

  pub place_few : (i : ℕ) → i < length places → length entries ≤ MOST_ROWS → get_or places i 0 < MOST_ROWS
  place_few i lt few = let g = slice_get_within entries (get_or places i 0) w (place_at i lt) in omega arith

module _ (d : Domains) (c : ElementRule) (w : ℤ) (places : List ℕ) (i : ℕ) where
  pub place_missed : (p : Pair) → i < length places → p.var ≡ c.index → p.value ≡ pos (get_or places i 0 + 1) → (Has d p.var p.value → ⊥) → AllWithin (λ n. Has d c.index (pos (n + 1)) → ⊥) places 0 i → AllWithin (λ n. Has d c.index (pos (n + 1)) → ⊥) places 0 (i + 1)
  place_missed p lt var value missing before =
      AllWithin-more (λ n. Has d c.index (pos (n + 1)) → ⊥) places 0 i before
      (λ z. subst (λ n. Has d c.index (pos (n + 1)) → ⊥) (get_or_default places i 0 z lt) (subst (λ u. Has d c.index u → ⊥) value (subst (λ y. Has d y p.value → ⊥) var missing)))

  pub all_missed : ((k : ℕ) → slice_get c.entries k ≡ Some w → Contains places k) → length places ≤ i → AllWithin (λ n. Has d c.index (pos (n + 1)) → ⊥) places 0 i → IsEntryReached d c w → ⊥
  all_missed every le before r =
      let m = every r.place r.stands in
      subst (λ n. Has d c.index (pos (n + 1)) → ⊥) m.2 (before m.0 r.place (omega arith) (omega (arith, m.1, le))) r.index

-- ---- the declared indices at the places of an outcome

-- the indices of these places
abbrev pub indices_at : List ℕ → List ℤ
indices_at places = map (λ n. pos (n + 1)) places

pub many_indices : (places : List ℕ) (i : ℕ) → length places ≤ i → length (indices_at places) ≤ i
many_indices places i le = subst (λ n. n ≤ i) (sym (length-map places (λ (n : ℕ). pos (n + 1)))) le

indices_ascend : (places : List ℕ) → Ascends (map pos places) → Ascends (indices_at places)
indices_ascend [] up = tt
indices_ascend (n ∷ places) up = (
  all_members (λ w. pos (n + 1) <ℤ w) (indices_at places) (λ w m.
      let r = member_unmap (λ (k : ℕ). pos (k + 1)) places w m in
      let above = All-contains (λ u. pos n <ℤ u) (map pos places) (pos r.0) up.0 (member_map pos places r.0 r.1) in
      subst (λ u. pos (n + 1) <ℤ u) r.2 (omega (arith, ints, above))),
  indices_ascend places up.1,
)

module _ (initial : Domains) (x : ℕ) (entries : List ℤ) (w : ℤ) (places : List ℕ) (stands : (k : ℕ) → Contains places k → slice_get entries k ≡ Some w) (every : (k : ℕ) → slice_get entries k ≡ Some w → Contains places k) where
  abbrev declared_there : List ℤ
  declared_there = filter (is_listed (values_of initial x)) (indices_at places)

  there_index : (k : ℤ) → Contains declared_there k → Contains (indices_of initial x entries w) k
  there_index k m =
      let r = filter_member (is_listed (values_of initial x)) (indices_at places) k m in
      let s = member_unmap (λ (n : ℕ). pos (n + 1)) places k r.0 in
      let at : entry_at entries k ≡ Some w = ap (entry_at entries) (sym s.2) ∙ entry_of entries s.0 w (stands s.0 s.1) in
      member_filter (λ u. is_entry entries u w) (values_of initial x) k (listed_member (values_of initial x) k r.1) (test_entry (entry_at entries k) w at)

  index_there : (k : ℤ) → Contains (indices_of initial x entries w) k → Contains declared_there k
  index_there k m =
      let r = filter_member (λ u. is_entry entries u w) (values_of initial x) k m in
      let s = place_of entries k w (entry_test (entry_at entries k) w r.1) in
      member_filter (is_listed (values_of initial x)) (indices_at places) k
      (member_same (indices_at places) (pos (s.0 + 1)) k (sym s.1) (member_map (λ (n : ℕ). pos (n + 1)) places s.0 (every s.0 s.2)))
      (member_listed (values_of initial x) k r.0)

  -- they are the declared indices of the outcome
  pub indices_there : Ascends (values_of initial x) → Ascends (map pos places) → declared_there ≡ indices_of initial x entries w
  indices_there declared up =
      ascending_same declared_there (indices_of initial x entries w)
      (ascends_filter (is_listed (values_of initial x)) (indices_at places) (indices_ascend places up))
      (ascends_filter (λ u. is_entry entries u w) (values_of initial x) declared)
      there_index index_there

-- one more place
module _ (initial : Domains) (x : ℕ) (places : List ℕ) (i : ℕ) (lt : i < length places) (p : Pair) (var : p.var ≡ x) (value : p.value ≡ pos (get_or places i 0 + 1)) (before out now : List Pair) (b : Bool) (tells : Tells b (Has initial p.var p.value)) (so_far : out ≡ before ++ pairs_of x (filter (is_listed (values_of initial x)) (take i (indices_at places)))) where
  here : p.value ≡ get_or (indices_at places) i p.value
  here = value ∙ sym (get_or-map (λ (n : ℕ). pos (n + 1)) places i 0 p.value lt)

  within : i < length (indices_at places)
  within = subst (λ n. i < n) (sym (length-map places (λ (n : ℕ). pos (n + 1)))) lt

  told : b ≡ is_listed (values_of initial x) p.value
  told = listed_told (values_of initial x) p.value b (subst (λ y. Tells b (Has initial y p.value)) var tells)

  pub index_pushed : (q : Pair) → q.var ≡ x → q.value ≡ pos (get_or places i 0 + 1) → b ≡ true → now ≡ out ++ q ∷ [] → now ≡ before ++ pairs_of x (filter (is_listed (values_of initial x)) (take (i + 1) (indices_at places)))
  index_pushed q q_var q_value t pushed =
      pairs_more (is_listed (values_of initial x)) x (indices_at places) i p.value before out now within here (sym told ∙ t) so_far
      (pushed ∙ ap (λ (r : Pair). out ++ r ∷ []) (ap (λ y. let r : Pair = record { var = y; value = q.value } in r) q_var ∙ ap (λ w. let r : Pair = record { var = x; value = w } in r) (q_value ∙ sym value)))

  pub index_left_out : b ≡ false → now ≡ out → now ≡ before ++ pairs_of x (filter (is_listed (values_of initial x)) (take (i + 1) (indices_at places)))
  index_left_out f same = pairs_same (is_listed (values_of initial x)) x (indices_at places) i p.value before out now within here (sym told ∙ f) so_far same
