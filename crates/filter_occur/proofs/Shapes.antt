-- What is known of support in a count, whatever the domains: of a counted variable, and of the target.
use Rattle.std.proofs.Common.{◌≡◌, ℕ, zero, suc, ◌<◌, ◌≤◌, List, [], ◌∷◌, ◌++◌, length, Contains, slice_get, Some, false, ℤ, pos, ◌≤ℤ◌, ◌⊎◌, inl, inr, refl, sym, ap, ◌∙◌, subst, arith, int_eq}
use Rattle.std.proofs.lemmas.Int.{ints}
use Rattle.std.proofs.lemmas.Bool.{false_from_ne_true}
use Rattle.std.proofs.lemmas.Bool.Decides.{Decides-int_eq}
use Rattle.std.proofs.lemmas.List.Elements.{Contains-append_left, Contains-append_right}
use Rattle.palm_base.proofs.cited.Members.{member_nil, member_here, member_there, member_single, member_same, member_get, filter_agree_members, nat_known}
use Rattle.palm_filter.specs.Shapes.{IsConvex, AreAlikeBut, IsShaped, FitsShape}
use Rattle.palm_filter.specs.declared.shape.Shape.{Shape}
use Rattle.palm_filter.specs.declared.shape.Shape.TheVariants.{AlikeBut}
use Rattle.palm_model.specs.Constraint.{Distinct, scope, IsWellFormed}
use Rattle.palm_model.specs.Count.{target_scope, count_among, target_of}
use Rattle.palm_model.specs.Domains.{Domains, Assignment, Has, IsWithin}
use Rattle.palm_model.specs.Part.{scope_of, Holds}
use Rattle.palm_model.specs.Relation.{Stands}
use Rattle.palm_model.specs.Support.{HasSupport, IsSupported}
use Rattle.palm_model.specs.declared.constraint.Con.{Con}
use Rattle.palm_model.specs.declared.constraint.Con.TheVariants.{Count}
use Rattle.palm_model.specs.declared.constraint.Op.{Op}
use Rattle.palm_model.specs.declared.constraint.Op.TheVariants.{Eq, Ne, Lt, Le, Gt, Ge}
use Rattle.palm_model.specs.declared.constraint.Target.{Target}
use Rattle.palm_model.specs.declared.constraint.Target.TheVariants.{Const, Variable}
use Rattle.palm_model.specs.declared.part.Part.{Part}
use Rattle.palm_model.specs.declared.part.Part.TheVariants.{Count as CountPart}
use Rattle.palm_model.proofs.cited.Assignments.{counts_agree, target_agree}
use Rattle.palm_model.proofs.cited.Supports.{supported_by_part}
use Rattle.palm_model.proofs.cited.Trials.{put, put_same, put_other}
use Rattle.palm_reason.proofs.cited.CountNumbers.{distinct_apart}
use Rattle.filter_occur.specs.Count.{count_of}
use Rattle.filter_occur.specs.declared.rule.CountRule.{CountRule}

-- ---- another value for x

-- what is within the domains stays so where x takes another of its values
within_put : (a : Assignment) (vars : List ℕ) (d : Domains) (x : ℕ) (v : ℤ) → Has d x v → IsWithin a vars d → IsWithin (put a x v) vars d
within_put a vars d x v has within y m = elim (nat_known y x) [
  | inl e ↦ subst (λ z. Has d z (put a x v z)) (sym e) (subst (λ w. Has d x w) (sym (put_same a x v)) has)
  | inr n ↦ subst (λ w. Has d y w) (sym (put_other a x v y n)) (within y m)
]

-- a number is not the counted one
apart_test : (v value : ℤ) → (v ≡ value → ⊥) → int_eq v value ≡ false
apart_test v value n = false_from_ne_true (int_eq v value) (λ h. n ((Decides-int_eq v value).0 h))

-- variables among which x is not count and stand as before
count_beside : (a : Assignment) (value : ℤ) (vars : List ℕ) (x : ℕ) (v : ℤ) → (Contains vars x → ⊥) → count_among a value vars ≡ count_among (put a x v) value vars
count_beside a value vars x v gone = counts_agree a (put a x v) value vars (λ y m. sym (put_other a x v y (λ e. gone (member_same vars y x e m))))

target_beside : (a : Assignment) (t : Target) (x : ℕ) (v : ℤ) → (Contains (target_scope t) x → ⊥) → target_of a t ≡ target_of (put a x v) t
target_beside a t x v gone = target_agree a (put a x v) t (λ y m. sym (put_other a x v y (λ e. gone (member_same (target_scope t) y x e m))))

-- another value than the counted one counts as little as one that is not it either
count_alike : (a : Assignment) (value : ℤ) (vars : List ℕ) (x : ℕ) (w : ℤ) → (a x ≡ value → ⊥) → (w ≡ value → ⊥) → count_among a value vars ≡ count_among (put a x w) value vars
count_alike a value vars x w n k = ap length (filter_agree_members (λ y. int_eq (a y) value) (λ y. int_eq (put a x w y) value) vars (λ y m. same y (nat_known y x)))
  where
    same : (y : ℕ) → (y ≡ x) ⊎ (y ≡ x → ⊥) → int_eq (a y) value ≡ int_eq (put a x w y) value
    same y (inl e) = ap (λ z. int_eq (a z) value) e ∙ apart_test (a x) value n ∙ sym (ap (λ z. int_eq (put a x w z) value) e ∙ ap (λ z. int_eq z value) (put_same a x w) ∙ apart_test w value k)
    same y (inr o) = ap (λ z. int_eq z value) (sym (put_other a x w y o))

module _ (value : ℤ) (vars : List ℕ) (op : Op) (t : Target) (distinct : Distinct (vars ++ target_scope t)) (x : ℕ) where
  abbrev con : Con
  con = Count value vars op t

  abbrev part : Part
  part = CountPart value vars op t

  -- ---- a counted variable

  -- the count stands in the relation where a counted variable goes from one value to another, neither the counted one
  pub holds_alike : Contains vars x → (a : Assignment) (w : ℤ) → (a x ≡ value → ⊥) → (w ≡ value → ⊥) → Holds part a → Holds part (put a x w)
  holds_alike counted a w n k h =
      subst (λ z. Stands op (pos (count_among (put a x w) value vars)) z) (target_beside a t x w (λ m. distinct_apart vars (target_scope t) x distinct counted m))
      (subst (λ z. Stands op (pos z) (target_of a t)) (count_alike a value vars x w n k) h)

  module _ (counted : Contains vars x) (d : Domains) (v w : ℤ) (has : Has d x w) (n : v ≡ value → ⊥) (k : w ≡ value → ⊥) where
    part_alike : HasSupport d part x v → HasSupport d part x w
    part_alike s = record {
      assignment = put s.assignment x w;
      within = within_put s.assignment (vars ++ target_scope t) d x w has s.within;
      gives = put_same s.assignment x w;
      holds = holds_alike counted s.assignment w (λ e. n (sym s.gives ∙ e)) k s.holds;
    }

    over_part : Contains (scope_of part) x
    over_part = Contains-append_left vars (target_scope t) x counted

    supported_alike : IsSupported d con x v → IsSupported d con x w
    supported_alike s = supported_by_part d con part x w refl (part_alike (s.each part (member_here part []) over_part))

  -- all values of a counted variable but the counted one have support alike
  pub counted_alike : Contains vars x → AreAlikeBut con x value
  counted_alike counted = record {
    supports = λ d v w has_v has_w n k s. supported_alike counted d v w has_w n k s;
    lacks = λ d v w has_v has_w n k l. record {
      part = part;
      is_part = member_here part [];
      over = over_part counted d v w has_w n k;
      lacks = λ s. l.lacks (subst (λ p. HasSupport d p x v) (member_single part l.part l.is_part) (part_alike counted d w v has_v k n s));
    };
  }

  -- ---- the target

  module _ (target : Contains (target_scope t) x) where
    target_is : (a : Assignment) → target_of a t ≡ a x
    target_is a = given t target
      where
        given : (o : Target) → Contains (target_scope o) x → target_of a o ≡ a x
        given (Const z) m = absurd (member_nil x m)
        given (Variable y) m = ap a (member_single y x m)

    -- what the count stands to is the value of the target
    pub target_stands : (a : Assignment) (u : ℤ) → a x ≡ u → Holds part a → Stands op (pos (count_among a value vars)) u
    target_stands a u is h = subst (λ z. Stands op (pos (count_among a value vars)) z) (target_is a ∙ is) h

    -- another value of the target to which the count stands
    pub target_holds : (a : Assignment) (w : ℤ) → Stands op (pos (count_among a value vars)) w → Holds part (put a x w)
    target_holds a w h =
        subst (λ z. Stands op (pos (count_among (put a x w) value vars)) z) (sym (target_is (put a x w) ∙ put_same a x w))
        (subst (λ z. Stands op (pos z) w) (count_beside a value vars x w (λ m. distinct_apart vars (target_scope t) x distinct m target)) h)

  module _ (target : Contains (target_scope t) x) (d : Domains) (v : ℤ) (has : Has d x v) where
    -- where the target goes from u to v, the count still stands in the relation
    moved_target : (u : ℤ) → ((m : ℤ) → Stands op m u → Stands op m v) → HasSupport d part x u → HasSupport d part x v
    moved_target u keeps s = record {
      assignment = put s.assignment x v;
      within = within_put s.assignment (vars ++ target_scope t) d x v has s.within;
      gives = put_same s.assignment x v;
      holds = target_holds target s.assignment v (keeps (pos (count_among s.assignment value vars)) (target_stands target s.assignment u s.gives s.holds));
    }

    part_between : (u w : ℤ) → (op ≡ Eq → ⊥) → (op ≡ Ne → ⊥) → u ≤ℤ v → v ≤ℤ w → HasSupport d part x u → HasSupport d part x w → HasSupport d part x v
    part_between u w not_eq not_ne above below s r = by op refl
      where
        by : (o : Op) → op ≡ o → HasSupport d part x v
        by Eq e = absurd (not_eq e)
        by Ne e = absurd (not_ne e)
        by Lt e = moved_target u (rw e (λ m h. omega (arith, ints, h, above))) s
        by Le e = moved_target u (rw e (λ m h. omega (arith, ints, h, above))) s
        by Gt e = moved_target w (rw e (λ m h. omega (arith, ints, h, below))) r
        by Ge e = moved_target w (rw e (λ m h. omega (arith, ints, h, below))) r

  -- a value of the target between two that have support has it too, where the count is compared by order
  pub target_convex : Contains (target_scope t) x → (op ≡ Eq → ⊥) → (op ≡ Ne → ⊥) → IsConvex con x
  target_convex target not_eq not_ne d u v w has above below s r =
      let over = Contains-append_right vars (target_scope t) x target in
      supported_by_part d con part x v refl
      (part_between target d v has u w not_eq not_ne above below (s.each part (member_here part []) over) (r.each part (member_here part []) over))

-- ---- a filter's answers, for its meaning m

-- a place within the first list, and one after it
pub place_left : (xs ys : List ℕ) (k x : ℕ) → k < length xs → slice_get (xs ++ ys) k ≡ Some x → Contains xs x
place_left [] ys k x lt e = absurd (omega (arith, lt))
place_left (y ∷ xs) ys zero x lt e = member_get (y ∷ xs) 0 x e
place_left (y ∷ xs) ys (suc k) x lt e = member_there y xs x (place_left xs ys k x (omega (arith, lt)) e)

pub place_right : (xs ys : List ℕ) (k x : ℕ) → length xs ≤ k → slice_get (xs ++ ys) k ≡ Some x → Contains ys x
place_right [] ys k x le e = member_get ys k x e
place_right (y ∷ xs) ys zero x le e = absurd (omega (arith, le))
place_right (y ∷ xs) ys (suc k) x le e = place_right xs ys k x (omega (arith, le)) e

module _ (o : CountRule) (m : Con) (is : count_of o ≡ m) (variables : ℕ) (formed : IsWellFormed variables (count_of o)) (place : ℕ) where
  pub counted_answers : place < length o.vars → FitsShape m place (AlikeBut o.value)
  counted_answers lt x at =
      let counted = place_left o.vars (target_scope o.target) place x lt (subst (λ c. slice_get (scope c) place ≡ Some x) (sym is) at) in
      subst (λ c. AreAlikeBut c x o.value) is (counted_alike o.value o.vars o.op o.target formed.distinct x counted)

  pub target_answers : (shape : Shape) → length o.vars ≤ place → ((x : ℕ) → Contains (target_scope o.target) x → IsShaped (count_of o) x shape) → FitsShape m place shape
  target_answers shape le shaped x at =
      subst (λ c. IsShaped c x shape) is (shaped x (place_right o.vars (target_scope o.target) place x le (subst (λ c. slice_get (scope c) place ≡ Some x) (sym is) at)))
