-- How many of some variables have a value, over plain lists of values: any number from the lower to the higher one is
-- the count in some assignment within the lists, and every assignment's number is one of these.
use Rattle.std.proofs.Common.{◌≡◌, ℕ, zero, suc, ℤ, pos, ◌+◌, ◌-◌, ◌<◌, ◌≤◌, ◌<ℤ◌, Bool, true, false, not, cond, List, [], ◌∷◌, ◌++◌, length, filter, Contains, eq-eqb, ne_eqb, inl, inr, refl, sym, ap, ◌∙◌, subst, arith, int_eq}
use Rattle.std.proofs.lemmas.Int.{ints}
use Rattle.std.proofs.lemmas.Bool.{cases_Bool, cases_lt, or_cases, or_left, or_right}
use Rattle.std.proofs.lemmas.Bool.Decides.{Decides-int_eq}
use Rattle.std.proofs.lemmas.List.Elements.{All-contains, Contains-append_left, Contains-append_right}
use Rattle.palm_base.proofs.cited.Members.{member_nil, member_here, member_there, member_cases, member_single, member_same, filter_agree_members, nat_known}
use Rattle.palm_model.specs.Constraint.{Distinct}
use Rattle.palm_model.specs.Count.{count_among, needs_low, needs_high, is_within_counts}
use Rattle.palm_model.specs.Domains.{Assignment, Ascends}
use Rattle.palm_model.specs.Relation.{Stands, is_standing}
use Rattle.palm_model.specs.Removed.{is_alone, is_listed, others}
use Rattle.palm_model.specs.declared.constraint.Op.{Op}
use Rattle.palm_model.specs.declared.constraint.Op.TheVariants.{Eq, Ne, Lt, Le, Gt, Ge}
use Rattle.palm_model.proofs.cited.Assignments.{counts_agree}
use Rattle.palm_model.proofs.cited.Reasons.{alone_only, listed_member, member_listed}
use Rattle.palm_model.proofs.cited.Standing.{stands_from_test, test_from_stands}
use Rattle.palm_model.proofs.cited.Trials.{put, put_same, put_other}
use Rattle.palm_reason.specs.Count.{low_count, high_count}

-- ---- how many members pass a test

-- 1 where it is true
abbrev pub bit : Bool → ℕ
bit b = cond b 1 0

passed_more : (y : ℕ) (ys : List ℕ) (b : Bool) → length (cond b (y ∷ ys) ys) ≡ bit b + length ys
passed_more y ys true = omega arith
passed_more y ys false = omega arith

pub passed_cons : (p : ℕ → Bool) (y : ℕ) (ys : List ℕ) → length (filter p (y ∷ ys)) ≡ bit (p y) + length (filter p ys)
passed_cons p y ys = passed_more y (filter p ys) (p y)

bit_rises : (b c : Bool) → (b ≡ true → c ≡ true) → bit b ≤ bit c
bit_rises true c h = subst (λ d. bit true ≤ bit d) (sym (h refl)) (omega arith)
bit_rises false true h = omega arith
bit_rises false false h = omega arith

pub passed_rises : (p q : ℕ → Bool) (xs : List ℕ) → ((x : ℕ) → Contains xs x → p x ≡ true → q x ≡ true) → length (filter p xs) ≤ length (filter q xs)
passed_rises p q [] h = omega arith
passed_rises p q (x ∷ xs) h =
    omega (arith, passed_cons p x xs, passed_cons q x xs, bit_rises (p x) (q x) (h x (member_here x xs)), passed_rises p q xs (λ y m. h y (member_there x xs y m)))

bit_small : (b : Bool) → bit b ≤ 1
bit_small true = omega arith
bit_small false = omega arith

pub passed_few : (p : ℕ → Bool) (xs : List ℕ) → length (filter p xs) ≤ length xs
passed_few p [] = omega arith
passed_few p (x ∷ xs) = omega (arith, passed_cons p x xs, bit_small (p x), passed_few p xs)

-- ---- the lower and the higher number

pub alone_listed : (vs : List ℤ) (v : ℤ) → is_alone vs v ≡ true → is_listed vs v ≡ true
alone_listed vs v t = member_listed vs v (subst (λ ws. Contains ws v) (sym (alone_only vs v t)) (member_here v []))

pub low_high : (f : ℕ → List ℤ) (value : ℤ) (vars : List ℕ) → low_count f value vars ≤ high_count f value vars
low_high f value vars = passed_rises (λ y. is_alone (f y) value) (λ y. is_listed (f y) value) vars (λ y m t. alone_listed (f y) value t)

-- ---- every assignment's number is one of these

pub alone_has : (vs : List ℤ) (v w : ℤ) → is_alone vs v ≡ true → Contains vs w → w ≡ v
alone_has vs v w t m = sym (member_single v w (subst (λ ws. Contains ws w) (alone_only vs v t) m))

module _ (f : ℕ → List ℤ) (value : ℤ) (vars : List ℕ) (a : Assignment) (within : (y : ℕ) → Contains vars y → Contains (f y) (a y)) where
  pub at_least_low : low_count f value vars ≤ count_among a value vars
  at_least_low = passed_rises (λ y. is_alone (f y) value) (λ y. int_eq (a y) value) vars (λ y m t.
      (Decides-int_eq (a y) value).1 (alone_has (f y) value (a y) t (within y m)))

  pub at_most_high : count_among a value vars ≤ high_count f value vars
  at_most_high = passed_rises (λ y. int_eq (a y) value) (λ y. is_listed (f y) value) vars (λ y m t.
      member_listed (f y) value (member_same (f y) (a y) value ((Decides-int_eq (a y) value).0 t) (within y m)))

-- ---- any of these numbers is some assignment's

pub record Choice (f : ℕ → List ℤ) (value : ℤ) (vars : List ℕ) (number : ℕ) : Type 0 where
  pub assignment : Assignment
  pub within : (y : ℕ) → Contains vars y → Contains (f y) (assignment y)
  pub counted : count_among assignment value vars ≡ number

-- a value other than the counted one
other_value : (vs : List ℤ) (value : ℤ) → Ascends vs → 0 < length vs → is_alone vs value ≡ false → (w : ℤ) × Contains vs w × (int_eq w value ≡ false)
other_value [] value up lt t = absurd (omega (arith, lt))
other_value (w ∷ []) value up lt t = (w, member_here w [], t)
other_value (w ∷ u ∷ ws) value up lt t = elim (cases_Bool (int_eq w value)) [
  | inr e ↦ (w, member_here w (u ∷ ws), e)
  | inl e ↦
      let above = All-contains (λ z. w <ℤ z) (u ∷ ws) u up.0 (member_here u ws) in
      elim (cases_Bool (int_eq u value)) [
        | inr g ↦ (u, member_there w (u ∷ ws) u (member_here u ws), g)
        | inl g ↦ absurd (omega (arith, ints, above, (Decides-int_eq w value).0 e, (Decides-int_eq u value).0 g))
      ]
]

-- one more variable takes one of its values
choice_more : (f : ℕ → List ℤ) (value : ℤ) (y : ℕ) (ys : List ℕ) (w : ℤ) (rest number : ℕ) → (Contains ys y → ⊥) → Contains (f y) w → bit (int_eq w value) + rest ≡ number → Choice f value ys rest → Choice f value (y ∷ ys) number
choice_more f value y ys w rest number new has e c =
    let a = put c.assignment y w in
    let apart : (z : ℕ) → Contains ys z → z ≡ y → ⊥ = λ z m s. new (member_same ys z y s m) in
    let first : int_eq (a y) value ≡ int_eq w value = ap (λ u. int_eq u value) (put_same c.assignment y w) in
    let others : count_among a value ys ≡ rest = counts_agree a c.assignment value ys (λ z m. put_other c.assignment y w z (apart z m)) ∙ c.counted in
    record {
      assignment = a;
      within = λ z m. elim (member_cases y ys z m) [
        | inl s ↦ subst (λ t. Contains (f t) (a t)) s (subst (λ u. Contains (f y) u) (sym (put_same c.assignment y w)) has)
        | inr k ↦ subst (λ u. Contains (f z) u) (sym (put_other c.assignment y w z (apart z k))) (c.within z k)
      ];
      counted = passed_cons (λ z. int_eq (a z) value) y ys ∙ ap (λ b. bit b + count_among a value ys) first ∙ ap (λ n. bit (int_eq w value) + n) others ∙ e;
    }

same_is : (v : ℤ) → int_eq v v ≡ true
same_is v = (Decides-int_eq v v).1 refl

pub some_choice : (f : ℕ → List ℤ) (value : ℤ) (vars : List ℕ) (number : ℕ) → Distinct vars → ((y : ℕ) → Contains vars y → 0 < length (f y)) → ((y : ℕ) → Ascends (f y)) → low_count f value vars ≤ number → number ≤ high_count f value vars → Choice f value vars number
some_choice f value [] number distinct filled up low high = record {
  assignment = λ z. pos 0;
  within = λ y m. absurd (member_nil y m);
  counted = omega (arith, high);
}
some_choice f value (y ∷ ys) number distinct filled up low high =
    let rest_filled : (z : ℕ) → Contains ys z → 0 < length (f z) = λ z m. filled z (member_there y ys z m) in
    let lows = passed_cons (λ z. is_alone (f z) value) y ys in
    let highs = passed_cons (λ z. is_listed (f z) value) y ys in
    elim (cases_Bool (is_alone (f y) value)) [
      | inl t ↦
          let one : bit (is_alone (f y) value) ≡ 1 = ap bit t in
          let also : bit (is_listed (f y) value) ≡ 1 = ap bit (alone_listed (f y) value t) in
          let same : bit (int_eq value value) ≡ 1 = ap bit (same_is value) in
          choice_more f value y ys value (number - 1) number distinct.0 (listed_member (f y) value (alone_listed (f y) value t)) (omega (arith, low, lows, one, same))
          (some_choice f value ys (number - 1) distinct.1 rest_filled up (omega (arith, low, lows, one)) (omega (arith, high, highs, also)))
      | inr t ↦
          let none : bit (is_alone (f y) value) ≡ 0 = ap bit t in
          elim (cases_lt (high_count f value ys) number) [
            | inl lt ↦
                let listed : is_listed (f y) value ≡ true = elim (cases_Bool (is_listed (f y) value)) [
                  | inl l ↦ l
                  | inr l ↦ let zero_more : bit (is_listed (f y) value) ≡ 0 = ap bit l in absurd (omega (arith, high, highs, zero_more, lt))
                ] in
                let also : bit (is_listed (f y) value) ≡ 1 = ap bit listed in
                let same : bit (int_eq value value) ≡ 1 = ap bit (same_is value) in
                choice_more f value y ys value (high_count f value ys) number distinct.0 (listed_member (f y) value listed) (omega (arith, high, highs, also, lt, same))
                (some_choice f value ys (high_count f value ys) distinct.1 rest_filled up (low_high f value ys) (omega arith))
            | inr ge ↦
                let w = other_value (f y) value (up y) (filled y (member_here y ys)) t in
                let other : bit (int_eq w.0 value) ≡ 0 = ap bit w.2 in
                choice_more f value y ys w.0 number number distinct.0 w.1 (omega (arith, other))
                (some_choice f value ys number distinct.1 rest_filled up (omega (arith, low, lows, none)) (omega (arith, ge)))
          ]
    ]

-- ---- a number between two others stands in a relation

pub within_test : (low more : ℕ) (op : Op) (w : ℤ) (k : ℕ) → low ≤ k → k ≤ low + more → Stands op (pos k) w → is_within_counts low more op w ≡ true
within_test low zero op w k from to h = test_from_stands op (pos low) w (subst (λ n. Stands op (pos n) w) (omega (arith, from, to)) h)
within_test low (suc more) op w k from to h = elim (nat_known low k) [
  | inl e ↦ or_left (is_standing op (pos low) w) (is_within_counts (suc low) more op w) (test_from_stands op (pos low) w (subst (λ n. Stands op (pos n) w) (sym e) h))
  | inr n ↦ or_right (is_standing op (pos low) w) (is_within_counts (suc low) more op w) (within_test (suc low) more op w k (omega (arith, from, n)) (omega (arith, to)) h)
]

pub record Within (low high : ℕ) (op : Op) (w : ℤ) : Type 0 where
  pub number : ℕ
  pub from : low ≤ number
  pub to : number ≤ high
  pub stands : Stands op (pos number) w

pub test_within : (low more : ℕ) (op : Op) (w : ℤ) → is_within_counts low more op w ≡ true → Within low (low + more) op w
test_within low zero op w t = record { number = low; from = omega arith; to = omega arith; stands = stands_from_test op (pos low) w t }
test_within low (suc more) op w t = elim (or_cases (is_standing op (pos low) w) (is_within_counts (suc low) more op w) t) [
  | inl s ↦ record { number = low; from = omega arith; to = omega arith; stands = stands_from_test op (pos low) w s }
  | inr s ↦ let r = test_within (suc low) more op w s in record { number = r.number; from = omega (arith, r.from); to = omega (arith, r.to); stands = r.stands }
]

-- a number that stands in the relation, and is not too low or too high where this matters, can be moved between the two
pub moved_within : (op : Op) (low high n : ℕ) (w : ℤ) → low ≤ high → (needs_low op ≡ true → low ≤ n) → (needs_high op ≡ true → n ≤ high) → Stands op (pos n) w → Within low high op w
moved_within Eq low high n w le from to h = record { number = n; from = from refl; to = to refl; stands = h }
moved_within Ne low high n w le from to h = record { number = n; from = from refl; to = to refl; stands = h }
moved_within Lt low high n w le from to h = let k : low ≤ n = from refl in record { number = low; from = omega arith; to = le; stands = omega (arith, ints, h, k) }
moved_within Le low high n w le from to h = let k : low ≤ n = from refl in record { number = low; from = omega arith; to = le; stands = omega (arith, ints, h, k) }
moved_within Gt low high n w le from to h = let k : n ≤ high = to refl in record { number = high; from = le; to = omega arith; stands = omega (arith, ints, h, k) }
moved_within Ge low high n w le from to h = let k : n ≤ high = to refl in record { number = high; from = le; to = omega arith; stands = omega (arith, ints, h, k) }

-- ---- the numbers of the variables other than one

others_none : (ys : List ℕ) (x : ℕ) → (Contains ys x → ⊥) → others ys x ≡ ys
others_none [] x n = refl
others_none (y ∷ ys) x n =
    ap (λ b. cond (not b) (y ∷ others ys x) (others ys x)) (ne_eqb y x (λ e. n (subst (λ z. Contains (y ∷ ys) z) e (member_here y ys))))
    ∙ ap (λ zs. y ∷ zs) (others_none ys x (λ m. n (member_there y ys x m)))

others_here : (y : ℕ) (ys : List ℕ) (x : ℕ) → y ≡ x → others (y ∷ ys) x ≡ others ys x
others_here y ys x e = ap (λ b. cond (not b) (y ∷ others ys x) (others ys x)) (eq-eqb y x e)

others_there : (y : ℕ) (ys : List ℕ) (x : ℕ) → (y ≡ x → ⊥) → others (y ∷ ys) x ≡ y ∷ others ys x
others_there y ys x n = ap (λ b. cond (not b) (y ∷ others ys x) (others ys x)) (ne_eqb y x n)

-- what passes among all is what passes among the others, and x itself
pub passed_others : (p q : ℕ → Bool) (x : ℕ) (vars : List ℕ) → Distinct vars → Contains vars x → ((y : ℕ) → (y ≡ x → ⊥) → p y ≡ q y) → length (filter p vars) ≡ length (filter q (others vars x)) + bit (p x)
passed_others p q x [] distinct m same = absurd (member_nil x m)
passed_others p q x (y ∷ ys) distinct m same = elim (member_cases y ys x m) [
  | inl e ↦
      let gone : Contains ys x → ⊥ = λ k. distinct.0 (member_same ys x y (sym e) k) in
      let rest : length (filter q (others (y ∷ ys) x)) ≡ length (filter p ys) =
      ap (λ zs. length (filter q zs)) (others_here y ys x e ∙ others_none ys x gone)
      ∙ ap length (sym (filter_agree_members p q ys (λ z k. same z (λ s. gone (member_same ys z x s k))))) in
      let own : bit (p y) ≡ bit (p x) = ap (λ z. bit (p z)) e in
      omega (arith, passed_cons p y ys, rest, own)
  | inr k ↦
      let ne : y ≡ x → ⊥ = λ e. distinct.0 (member_same ys x y (sym e) k) in
      let rest = passed_others p q x ys distinct.1 k same in
      let here : bit (p y) ≡ bit (q y) = ap bit (same y ne) in
      let all : length (filter q (others (y ∷ ys) x)) ≡ bit (q y) + length (filter q (others ys x)) = ap (λ zs. length (filter q zs)) (others_there y ys x ne) ∙ passed_cons q y (others ys x) in
      omega (arith, passed_cons p y ys, rest, here, all)
]

-- ---- lists of different members

pub distinct_front : (xs ys : List ℕ) → Distinct (xs ++ ys) → Distinct xs
distinct_front [] ys d = tt
distinct_front (x ∷ xs) ys d = (λ m. d.0 (Contains-append_left xs ys x m), distinct_front xs ys d.1)

pub distinct_apart : (xs ys : List ℕ) (z : ℕ) → Distinct (xs ++ ys) → Contains xs z → Contains ys z → ⊥
distinct_apart [] ys z d m n = member_nil z m
distinct_apart (x ∷ xs) ys z d m n = elim (member_cases x xs z m) [
  | inl e ↦ d.0 (Contains-append_right xs ys x (member_same ys z x (sym e) n))
  | inr k ↦ distinct_apart xs ys z d.1 k n
]
