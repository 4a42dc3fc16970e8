-- A reason does not look at the rest of its own variable's domain.
use Rattle.std.proofs.Common.{◌≡◌, ℕ, ℤ, ◌+ℤ◌, ◌*ℤ◌, ◌-◌, ◌+◌, Bool, true, false, cond, not, ◌&&◌, ◌||◌, List, [], ◌∷◌, ◌++◌, length, map, flat_map, filter, take, Contains, inl, inr, refl, sym, ap, ◌∙◌, subst, eq-eqb, int_lt, int_eq, nat_eq}
use Rattle.std.proofs.lemmas.Bool.{both_ways, not-true}
use Rattle.std.specs.List.{list_any}
use Rattle.palm_base.specs.declared.terms.Pair.{Pair}
use Rattle.palm_base.proofs.cited.Members.{member_nil, member_here, member_there, member_cases, member_same, member_take, filter_member, filter_agree_members, nat_known}
use Rattle.palm_model.specs.Constraint.{Distinct, scope}
use Rattle.palm_model.specs.Count.{counted_pairs, count_reason, needs_low, needs_high, is_target_fit, is_within_counts, least_count, greatest_count, own_count, target_pairs}
use Rattle.palm_model.specs.Differ.{differ_reason}
use Rattle.palm_model.specs.Domains.{Domains, Has, values_of, is_among}
use Rattle.palm_model.specs.Linear.{values_below, values_above, other_terms, at_most_reason, at_least_reason, linear_reason, least_total, least_of, greatest_of, products, term_vars}
use Rattle.palm_model.specs.Reason.{reason}
use Rattle.palm_model.specs.Removed.{is_alone, is_listed, others, pairs_of, removed_pairs, removed_values}
use Rattle.palm_model.specs.Table.{row_pairs, are_there, first_missing, is_blocked_at, blocking_values, table_reason}
use Rattle.palm_model.specs.declared.constraint.Con.{Con}
use Rattle.palm_model.specs.declared.constraint.Con.TheVariants.{CompareVar, CompareConst, Linear, Table, Element, Count, Differ, Within}
use Rattle.palm_model.specs.declared.constraint.Op.{Op}
use Rattle.palm_model.specs.declared.constraint.Op.TheVariants.{Eq, Ne, Lt, Le, Gt, Ge}
use Rattle.palm_model.specs.declared.constraint.Target.{Target}
use Rattle.palm_model.specs.declared.constraint.Target.TheVariants.{Const, Variable}
use Rattle.palm_model.specs.declared.constraint.Term.{Term}
use Rattle.palm_model.proofs.cited.Reasons.{member_listed}
use Rattle.palm_model.proofs.cited.Supports.{among_member}

-- the domains of the other variables are the same
abbrev pub AgreeBut : ℕ → Domains → Domains → Type 0
AgreeBut x d e = (y : ℕ) → (y ≡ x → ⊥) → values_of d y ≡ values_of e y

flat_map_agree : {X Y : Type 0} (f g : X → List Y) (xs : List X) → ((x : X) → Contains xs x → f x ≡ g x) → flat_map f xs ≡ flat_map g xs
flat_map_agree f g [] same = refl
flat_map_agree f g (x ∷ xs) same =
    ap (λ ys. ys ++ flat_map f xs) (same x (member_here x xs)) ∙ ap (λ ys. g x ++ ys) (flat_map_agree f g xs (λ z m. same z (member_there x xs z m)))

others_apart : (xs : List ℕ) (x y : ℕ) → Contains (others xs x) y → y ≡ x → ⊥
others_apart xs x y m e =
    let r = filter_member (λ z. not (nat_eq z x)) xs y m in
    both_ways (nat_eq y x) (not-true (nat_eq y x) r.1) (eq-eqb y x e)

any_agree : {X : Type 0} (f g : X → Bool) (xs : List X) → ((x : X) → f x ≡ g x) → list_any f xs ≡ list_any g xs
any_agree f g [] same = refl
any_agree f g (x ∷ xs) same = ap (λ b. b || list_any f xs) (same x) ∙ ap (λ b. g x || b) (any_agree f g xs same)

by_test : (a b c d : Bool) → (a ≡ true → c ≡ d) → (a && b && c) ≡ (a && b && d)
by_test true b c d same = ap (λ e. true && b && e) (same refl)
by_test false b c d same = refl

pub row_var : (vars : List ℕ) (row : List ℤ) (r : Pair) → Contains (row_pairs vars row) r → Contains vars r.var
row_var [] row r m = absurd (member_nil r m)
row_var (y ∷ ys) [] r m = absurd (member_nil r m)
row_var (y ∷ ys) (w ∷ row) r m = elim (member_cases (record { var = y; value = w }) (row_pairs ys row) r m) [
  | inl e ↦ member_same (y ∷ ys) y r.var (ap (λ (s : Pair). s.var) e) (member_here y ys)
  | inr k ↦ member_there y ys r.var (row_var ys row r k)
]

-- a row has one entry of a variable
pub row_once : (vars : List ℕ) (row : List ℤ) (x : ℕ) → Distinct vars → (r s : Pair) → Contains (row_pairs vars row) r → r.var ≡ x → Contains (row_pairs vars row) s → s.var ≡ x → r.value ≡ s.value
row_once [] row x apart r s m e k f = absurd (member_nil r m)
row_once (y ∷ ys) [] x apart r s m e k f = absurd (member_nil r m)
row_once (y ∷ ys) (w ∷ row) x apart r s m e k f =
    let first : Pair = record { var = y; value = w } in
    let clash : (t u : Pair) → first ≡ t → t.var ≡ x → Contains (row_pairs ys row) u → u.var ≡ x → ⊥ = λ t u i a j b.
    apart.0 (member_same ys u.var y (b ∙ sym a ∙ sym (ap (λ (z : Pair). z.var) i)) (row_var ys row u j)) in
    elim (member_cases first (row_pairs ys row) r m) [
      | inl i ↦ elim (member_cases first (row_pairs ys row) s k) [
        | inl j ↦ ap (λ (z : Pair). z.value) (sym i ∙ j)
        | inr j ↦ absurd (clash r s i e j f)
      ]
      | inr i ↦ elim (member_cases first (row_pairs ys row) s k) [
        | inl j ↦ absurd (clash s r j f i e)
        | inr j ↦ row_once ys row x apart.1 r s i e j f
      ]
    ]

module _ (initial p q : Domains) (x : ℕ) (v : ℤ) (agree : AgreeBut x p q) where
  removed_same : (y : ℕ) → (y ≡ x → ⊥) → removed_values initial p y ≡ removed_values initial q y
  removed_same y n = ap (λ vs. filter (λ w. not (is_listed vs w)) (values_of initial y)) (agree y n)

  pairs_same : (ys : List ℕ) → ((y : ℕ) → Contains ys y → y ≡ x → ⊥) → removed_pairs initial p ys ≡ removed_pairs initial q ys
  pairs_same ys apart = flat_map_agree (λ y. pairs_of y (removed_values initial p y)) (λ y. pairs_of y (removed_values initial q y)) ys (λ y m. ap (pairs_of y) (removed_same y (apart y m)))

  -- ---- variables that differ

  differ_same : (vars : List ℕ) → differ_reason initial p vars x v ≡ differ_reason initial q vars x v
  differ_same vars =
      let f = λ (y : ℕ). is_alone (values_of p y) v in
      let g = λ (y : ℕ). is_alone (values_of q y) v in
      pairs_same (take 1 (filter f (others vars x))) (λ y m. others_apart vars x y (filter_member f (others vars x) y (member_take 1 (filter f (others vars x)) y m)).0)
      ∙ ap (λ ys. removed_pairs initial q (take 1 ys)) (filter_agree_members f g (others vars x) (λ y m. ap (λ vs. is_alone vs v) (agree y (others_apart vars x y m))))

  -- ---- sums

  term_apart : (terms : List Term) (t : Term) → Contains (other_terms terms x) t → t.var ≡ x → ⊥
  term_apart terms t m e =
      let r = filter_member (λ (u : Term). not (nat_eq u.var x)) terms t m in
      both_ways (nat_eq t.var x) (not-true (nat_eq t.var x) r.1) (eq-eqb t.var x e)

  most_same : (terms : List Term) → at_most_reason initial p terms x ≡ at_most_reason initial q terms x
  most_same terms =
      flat_map_agree (λ (t : Term). pairs_of t.var (values_below initial p t)) (λ (t : Term). pairs_of t.var (values_below initial q t)) (other_terms terms x)
      (λ t m. ap (λ vs. pairs_of t.var (filter (λ w. int_lt (t.factor *ℤ w) (least_of (map (λ u. t.factor *ℤ u) vs))) (filter (λ u. not (is_listed vs u)) (values_of initial t.var)))) (agree t.var (term_apart terms t m)))

  least_same : (terms : List Term) → at_least_reason initial p terms x ≡ at_least_reason initial q terms x
  least_same terms =
      flat_map_agree (λ (t : Term). pairs_of t.var (values_above initial p t)) (λ (t : Term). pairs_of t.var (values_above initial q t)) (other_terms terms x)
      (λ t m. ap (λ vs. pairs_of t.var (filter (λ w. int_lt (greatest_of (map (λ u. t.factor *ℤ u) vs)) (t.factor *ℤ w)) (filter (λ u. not (is_listed vs u)) (values_of initial t.var)))) (agree t.var (term_apart terms t m)))

  share_same : (t : Term) → cond (nat_eq t.var x) (t.factor *ℤ v) (least_of (products p t)) ≡ cond (nat_eq t.var x) (t.factor *ℤ v) (least_of (products q t))
  share_same t = elim (nat_known t.var x) [
    | inl e ↦ ap (λ b. cond b (t.factor *ℤ v) (least_of (products p t))) (eq-eqb t.var x e) ∙ sym (ap (λ b. cond b (t.factor *ℤ v) (least_of (products q t))) (eq-eqb t.var x e))
    | inr n ↦ ap (λ vs. cond (nat_eq t.var x) (t.factor *ℤ v) (least_of (map (λ u. t.factor *ℤ u) vs))) (agree t.var n)
  ]

  total_same : (terms : List Term) → least_total p terms x v ≡ least_total q terms x v
  total_same [] = refl
  total_same (t ∷ ts) =
      ap (λ n. n +ℤ least_total p ts x v) (share_same t) ∙ ap (λ n. cond (nat_eq t.var x) (t.factor *ℤ v) (least_of (products q t)) +ℤ n) (total_same ts)

  linear_same : (terms : List Term) (op : Op) (bound : ℤ) → linear_reason initial p terms op bound x v ≡ linear_reason initial q terms op bound x v
  linear_same terms Eq bound =
      ap (λ n. cond (int_lt bound n) (at_most_reason initial p terms x) (at_least_reason initial p terms x)) (total_same terms)
      ∙ ap (λ ps. cond (int_lt bound (least_total q terms x v)) ps (at_least_reason initial p terms x)) (most_same terms)
      ∙ ap (λ ps. cond (int_lt bound (least_total q terms x v)) (at_most_reason initial q terms x) ps) (least_same terms)
  linear_same terms Ne bound = pairs_same (others (term_vars terms) x) (λ y m. others_apart (term_vars terms) x y m)
  linear_same terms Lt bound = most_same terms
  linear_same terms Le bound = most_same terms
  linear_same terms Gt bound = least_same terms
  linear_same terms Ge bound = least_same terms

  -- ---- counts

  counted_same : (value : ℤ) (op : Op) (y : ℕ) → (y ≡ x → ⊥) → counted_pairs initial p value op y ≡ counted_pairs initial q value op y
  counted_same value op y n =
      ap (λ vs. cond (needs_low op) (cond (is_alone vs value) (pairs_of y (filter (λ w. not (is_listed vs w)) (values_of initial y))) []) [] ++ cond (needs_high op) (cond (is_listed vs value) [] (pairs_of y (filter (λ w. int_eq w value) (values_of initial y)))) []) (agree y n)

  low_same : (value : ℤ) (vars : List ℕ) → least_count p value (others vars x) ≡ least_count q value (others vars x)
  low_same value vars =
      ap length (filter_agree_members (λ y. is_alone (values_of p y) value) (λ y. is_alone (values_of q y) value) (others vars x) (λ y m. ap (λ vs. is_alone vs value) (agree y (others_apart vars x y m))))

  high_same : (value : ℤ) (vars : List ℕ) → greatest_count p value (others vars x) ≡ greatest_count q value (others vars x)
  high_same value vars =
      ap length (filter_agree_members (λ y. is_listed (values_of p y) value) (λ y. is_listed (values_of q y) value) (others vars x) (λ y m. ap (λ vs. is_listed vs value) (agree y (others_apart vars x y m))))

  fit_same : (value : ℤ) (vars : List ℕ) (op : Op) (w : ℤ) → is_target_fit p value vars op x v w ≡ is_target_fit q value vars op x v w
  fit_same value vars op w =
      ap (λ n. is_within_counts (n + own_count value v) (greatest_count p value (others vars x) - n) op w) (low_same value vars)
      ∙ ap (λ n. is_within_counts (least_count q value (others vars x) + own_count value v) (n - least_count q value (others vars x)) op w) (high_same value vars)

  target_same : (value : ℤ) (vars : List ℕ) (op : Op) (t : Target) → target_pairs initial p value vars op t x v ≡ target_pairs initial q value vars op t x v
  target_same value vars op (Const w) = refl
  target_same value vars op (Variable y) =
      ap (λ ws. cond (nat_eq y x) [] (pairs_of y ws)) (filter_agree_members (λ w. is_target_fit p value vars op x v w) (λ w. is_target_fit q value vars op x v w) (values_of initial y) (λ w m. fit_same value vars op w))

  count_same : (value : ℤ) (vars : List ℕ) (op : Op) (t : Target) → count_reason initial p value vars op t x v ≡ count_reason initial q value vars op t x v
  count_same value vars op t =
      ap (λ ps. ps ++ target_pairs initial p value vars op t x v) (flat_map_agree (counted_pairs initial p value op) (counted_pairs initial q value op) (others vars x) (λ y m. counted_same value op y (others_apart vars x y m)))
      ∙ ap (λ ps. flat_map (counted_pairs initial q value op) (others vars x) ++ ps) (target_same value vars op t)

  -- ---- every kind

  module _ (in_p : Has p x v) (in_q : Has q x v) where
    listed_same : (vars : List ℕ) (row : List ℤ) → Distinct vars → Contains (row_pairs vars row) (record { var = x; value = v }) → (r : Pair) → Contains (row_pairs vars row) r → not (is_listed (values_of p r.var) r.value) ≡ not (is_listed (values_of q r.var) r.value)
    listed_same vars row apart at r m = elim (nat_known r.var x) [
      | inl e ↦
          let same : r.value ≡ v = row_once vars row x apart r (record { var = x; value = v }) m e at refl in
          let there : (d : Domains) → Has d x v → is_listed (values_of d r.var) r.value ≡ true = λ d has.
          member_listed (values_of d r.var) r.value (subst (λ z. Contains (values_of d z) r.value) (sym e) (subst (λ u. Has d x u) (sym same) has)) in
          ap not (there p in_p ∙ sym (there q in_q))
      | inr n ↦ ap (λ vs. not (is_listed vs r.value)) (agree r.var n)
    ]

    blocked_same : (vars : List ℕ) → Distinct vars → (y : ℕ) (w : ℤ) (row : List ℤ) → is_blocked_at initial p vars x v y w row ≡ is_blocked_at initial q vars x v y w row
    blocked_same vars apart y w row =
        let pairs = row_pairs vars row in
        by_test (is_among pairs x v) (are_there initial pairs) (is_among (first_missing p pairs) y w) (is_among (first_missing q pairs) y w) (λ t.
        ap (λ ps. is_among (take 1 ps) y w)
        (filter_agree_members (λ (r : Pair). not (is_listed (values_of p r.var) r.value)) (λ (r : Pair). not (is_listed (values_of q r.var) r.value)) pairs
        (listed_same vars row apart (among_member pairs x v t))))

    table_same : (vars : List ℕ) (rows : List (List ℤ)) → Distinct vars → table_reason initial p vars rows x v ≡ table_reason initial q vars rows x v
    table_same vars rows apart =
        flat_map_agree (λ y. pairs_of y (blocking_values initial p vars rows x v y)) (λ y. pairs_of y (blocking_values initial q vars rows x v y)) (others vars x) (λ y m.
        ap (pairs_of y)
        (ap (filter (λ w. list_any (is_blocked_at initial p vars x v y w) rows)) (removed_same y (others_apart vars x y m))
        ∙ filter_agree_members (λ w. list_any (is_blocked_at initial p vars x v y w) rows) (λ w. list_any (is_blocked_at initial q vars x v y w) rows) (removed_values initial q y)
        (λ w k. any_agree (is_blocked_at initial p vars x v y w) (is_blocked_at initial q vars x v y w) rows (blocked_same vars apart y w))))

    pub own : (c : Con) → Distinct (scope c) → reason initial p c x v ≡ reason initial q c x v
    own (CompareVar left op right offset) apart = refl
    own (CompareConst left op value) apart = refl
    own (Linear terms op bound) apart = linear_same terms op bound
    own (Table vars rows) apart = table_same vars rows apart
    own (Element outcome index entries) apart = refl
    own (Count value vars op target) apart = count_same value vars op target
    own (Differ vars) apart = differ_same vars
    own (Within var values) apart = refl
