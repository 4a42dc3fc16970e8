-- Numbers in their ranges: a line in range is held as it is written, and whether it is in range is seen from what is held.
use Rattle.std.proofs.Common.{◌≡◌, ℕ, ℤ, pos, negsuc, neg_ℤ, suc, ◌<◌, ◌≤◌, ◌≤ℤ◌, Bool, true, false, min, Option, Some, None, List, [], ◌∷◌, map, option_map, All, refl, sym, ap, subst, arith, inl, inr, ◌⊎◌, unwrap_or}
use Rattle.std.specs.Prelude.{Any, option_to_list}
use Rattle.std.specs.List.{flat_map}
use Rattle.std.proofs.lemmas.Int.{ints, by_lt_z}
use Rattle.std.proofs.lemmas.Bool.{cases_lt, le-leb, lt-leb}
use Rattle.std.proofs.lemmas.List.Elements.{All-nil, All-cons, All-head, All-tail, All-append, All-contains}
use Rattle.palm_base.proofs.cited.Members.{all_members}
use Rattle.palm_model.specs.Limits.{IsUpTo, IsValue}
use Rattle.palm_read.specs.Bounds.{Bounded, IsFromOneTo, IsOutside, IsWithin, a_value, up_to, from_one_to}
use Rattle.palm_read.specs.Comparison.{offset_numbers, OffsetForm, NoOffset, Plus, Minus, offset_of}
use Rattle.palm_read.specs.Count.{IsSoundTarget, target_numbers, TargetForm, Number, Variable, line_target}
use Rattle.palm_read.specs.Domain.{domain_numbers, DomainForm, Interval, Members, set_of, count_in, domain_of}
use Rattle.palm_read.specs.Limits.{shape_numbers, numbers, IsDomainInRange, IsInRange, IsShapeInRange}
use Rattle.palm_read.specs.Form.{ShapeForm, CompareVarForm, CompareConstForm, LinearForm, TableForm, ElementForm, CountForm, DifferForm, WithinForm, Form, DeclareForm, DeclareInForm, AddForm, WhyForm, MinimalForm, StepForm, SolveDbtForm, SolveRepairForm, ProveForm, MinimizeForm, PreferForm, CertForm, GuideForm, OrderForm, DropGuideForm, DropOrderForm}
use Rattle.palm_read.specs.Linear.{TermForm, signed, term_of}
use Rattle.palm_read.specs.Reading.{shape_of, line_of}
use Rattle.palm_read.specs.declared.limits.TheConstants.{NO_BUDGET}
use Rattle.palm_read.specs.Reader.Held.{held, counted, held_value, held_domain, held_offset, held_term, held_target, held_shape, held_form, held_line}
use Rattle.palm_read.proofs.cited.AllOfBoth.{all_left, all_right}
use Rattle.palm_read.proofs.cited.Sets.{set_member, member_set}

-- ---- a number is within its bounds or outside

within_or_outside : (b : Bounded) → IsWithin b ⊎ IsOutside b
within_or_outside b =
    by_lt_z b.number b.least (λ l. inr (inl l)) (λ l. by_lt_z b.greatest b.number (λ g. inr (inr g)) (λ g. inl (l, g)))

not_both : (b : Bounded) → IsWithin b → IsOutside b → ⊥
not_both b w o = elim o [ inl l ↦ absurd (omega (arith, ints, w.0, l)) | inr g ↦ absurd (omega (arith, ints, w.1, g)) ]

all_or_any : (bs : List Bounded) → All IsWithin bs ⊎ Any IsOutside bs
all_or_any [] = inl (All-nil IsWithin)
all_or_any (b ∷ bs) =
    elim (within_or_outside b) [
      | inr o ↦ inr (0, b, omega arith, refl, o)
      | inl w ↦ elim (all_or_any bs) [
        | inl ws ↦ inl (All-cons IsWithin b bs w ws)
        | inr o ↦ inr (suc o.0, o.1, omega (arith, o.2), o.3, o.4)
      ]
    ]

-- ---- one number: held as it is, in range as it is written, and seen from what is held

same_value : (v : ℤ) → IsValue v → held_value v ≡ v
same_value (pos n) is = omega (arith, ints, is.above, is.below)
same_value (negsuc n) is = omega (arith, ints, is.above, is.below)

value_in : (v : ℤ) → IsWithin (a_value v) → IsValue v
value_in v w = record { above = w.0; below = w.1 }

in_value : (v : ℤ) → IsValue (held_value v) → IsWithin (a_value v)
in_value (pos n) h = (omega (arith, ints, h.above, h.below), omega (arith, ints, h.above, h.below))
in_value (negsuc n) h = (omega (arith, ints, h.above, h.below), omega (arith, ints, h.above, h.below))

same_bound : (b : ℤ) → IsUpTo 1000000000000 b → held 1000000000001 b ≡ b
same_bound (pos n) is = omega (arith, ints, is.above, is.below)
same_bound (negsuc n) is = omega (arith, ints, is.above, is.below)

in_bound : (b : ℤ) → IsUpTo 1000000000000 (held 1000000000001 b) → (neg_ℤ (pos 1000000000000) ≤ℤ b) × (b ≤ℤ pos 1000000000000)
in_bound (pos n) h = (omega (arith, ints, h.above, h.below), omega (arith, ints, h.above, h.below))
in_bound (negsuc n) h = (omega (arith, ints, h.above, h.below), omega (arith, ints, h.above, h.below))

below_most : (most n : ℕ) → IsWithin (up_to most n) → n ≤ most
below_most most n w = omega (arith, ints, w.0, w.1)

within_most : (most n : ℕ) → n ≤ most → IsWithin (up_to most n)
within_most most n h = (omega (arith, ints), omega (arith, ints))

same_plus : (most n : ℕ) → IsUpTo most (pos n) → min n (suc most) ≡ n
same_plus most n h = omega (arith, ints, h.below)

same_minus : (most n : ℕ) → IsUpTo most (neg_ℤ (pos n)) → min n (suc most) ≡ n
same_minus most n h = omega (arith, ints, h.above)

up_to_plus : (most n : ℕ) → n ≤ most → IsUpTo most (pos n)
up_to_plus most n h = record { above = omega (arith, ints); below = omega (arith, ints) }

up_to_minus : (most n : ℕ) → n ≤ most → IsUpTo most (neg_ℤ (pos n))
up_to_minus most n h = record { above = omega (arith, ints); below = omega (arith, ints) }

plus_up_to : (most n : ℕ) → IsUpTo most (pos (min n (suc most))) → n ≤ most
plus_up_to most n h = omega (arith, ints, h.above, h.below)

minus_up_to : (most n : ℕ) → IsUpTo most (neg_ℤ (pos (min n (suc most)))) → n ≤ most
minus_up_to most n h = omega (arith, ints, h.above, h.below)

-- a number that is counted from 1
same_counted : (most : ℕ) (z : ℤ) → IsFromOneTo most (count_in z) → counted most z ≡ z
same_counted most (pos n) is = rw (le-leb n most is.1) refl
same_counted most (negsuc n) is = absurd (omega (arith, is.0))

counted_in : (most : ℕ) (z : ℤ) → IsWithin (from_one_to most z) → IsFromOneTo most (count_in z)
counted_in most (pos n) w = (omega (arith, ints, w.0), omega (arith, ints, w.1))
counted_in most (negsuc n) w = absurd (omega (arith, ints, w.0))

in_counted : (most : ℕ) (z : ℤ) → IsFromOneTo most (count_in (counted most z)) → IsWithin (from_one_to most z)
in_counted most (pos n) h =
    elim (cases_lt most n) [
      | inl lt ↦ absurd (omega (arith, rw (lt-leb n most lt) at h.0))
      | inr le ↦
          let some : 0 < n = rw (le-leb n most le) at h.0 in
          (omega (arith, ints), omega (arith, ints))
    ]
in_counted most (negsuc n) h = absurd (omega (arith, h.0))

-- ---- lists of values

same_values : (vs : List ℤ) → All IsValue vs → map held_value vs ≡ vs
same_values [] h = refl
same_values (v ∷ vs) h = rw (same_value v (All-head IsValue v vs h), same_values vs (All-tail IsValue v vs h)) refl

values_in : (vs : List ℤ) → All IsWithin (map a_value vs) → All IsValue vs
values_in [] w = All-nil IsValue
values_in (v ∷ vs) w =
    All-cons IsValue v vs (value_in v (All-head IsWithin (a_value v) (map a_value vs) w)) (values_in vs (All-tail IsWithin (a_value v) (map a_value vs) w))

in_values : (vs : List ℤ) → All IsValue (map held_value vs) → All IsWithin (map a_value vs)
in_values [] h = All-nil IsWithin
in_values (v ∷ vs) h =
    All-cons IsWithin (a_value v) (map a_value vs) (in_value v (All-head IsValue (held_value v) (map held_value vs) h)) (in_values vs (All-tail IsValue (held_value v) (map held_value vs) h))

set_in : (vs : List ℤ) → All IsValue vs → All IsValue (set_of vs)
set_in vs h = all_members IsValue (set_of vs) (λ x c. All-contains IsValue vs x h (set_member vs x c))

in_set : (vs : List ℤ) → All IsValue (set_of vs) → All IsValue vs
in_set vs h = all_members IsValue vs (λ x c. All-contains IsValue (set_of vs) x h (member_set vs x c))

-- ---- rows

same_rows : (rows : List (List ℤ)) → All (All IsValue) rows → map (map held_value) rows ≡ rows
same_rows [] h = refl
same_rows (r ∷ rs) h = rw (same_values r (All-head (All IsValue) r rs h), same_rows rs (All-tail (All IsValue) r rs h)) refl

rows_in : (rows : List (List ℤ)) → All IsWithin (flat_map (map a_value) rows) → All (All IsValue) rows
rows_in [] w = All-nil (All IsValue)
rows_in (r ∷ rs) w =
    All-cons (All IsValue) r rs (values_in r (all_left IsWithin (map a_value r) (flat_map (map a_value) rs) w))
    (rows_in rs (all_right IsWithin (map a_value r) (flat_map (map a_value) rs) w))

in_rows : (rows : List (List ℤ)) → All (All IsValue) (map (map held_value) rows) → All IsWithin (flat_map (map a_value) rows)
in_rows [] h = All-nil IsWithin
in_rows (r ∷ rs) h =
    All-append IsWithin (map a_value r) (flat_map (map a_value) rs) (in_values r (All-head (All IsValue) (map held_value r) (map (map held_value) rs) h)) (in_rows rs (All-tail (All IsValue) (map held_value r) (map (map held_value) rs) h))

-- ---- terms

abbrev pub term_numbers : TermForm → List Bounded
term_numbers t = map (up_to 100000) (option_to_list t.factor)

same_factor : (minus : Bool) (factor : Option ℕ) → IsUpTo 100000 (signed minus (unwrap_or factor 1)) → option_map (λ n. min n 100001) factor ≡ factor
same_factor minus None h = refl
same_factor false (Some n) h = ap Some (same_plus 100000 n h)
same_factor true (Some n) h = ap Some (same_minus 100000 n h)

up_to_signed : (minus : Bool) (n : ℕ) → n ≤ 100000 → IsUpTo 100000 (signed minus n)
up_to_signed false n h = up_to_plus 100000 n h
up_to_signed true n h = up_to_minus 100000 n h

factor_in : (minus : Bool) (factor : Option ℕ) → All IsWithin (map (up_to 100000) (option_to_list factor)) → IsUpTo 100000 (signed minus (unwrap_or factor 1))
factor_in minus None w = up_to_signed minus 1 (omega arith)
factor_in minus (Some n) w = up_to_signed minus n (below_most 100000 n (All-head IsWithin (up_to 100000 n) [] w))

in_factor : (minus : Bool) (factor : Option ℕ) → IsUpTo 100000 (signed minus (unwrap_or (option_map (λ n. min n 100001) factor) 1)) → All IsWithin (map (up_to 100000) (option_to_list factor))
in_factor minus None h = All-nil IsWithin
in_factor false (Some n) h = All-cons IsWithin (up_to 100000 n) [] (within_most 100000 n (plus_up_to 100000 n h)) (All-nil IsWithin)
in_factor true (Some n) h = All-cons IsWithin (up_to 100000 n) [] (within_most 100000 n (minus_up_to 100000 n h)) (All-nil IsWithin)

same_terms : (ts : List TermForm) → All (λ t. IsUpTo 100000 t.factor) (map term_of ts) → map held_term ts ≡ ts
same_terms [] h = refl
same_terms (t ∷ ts) h =
    let here = All-head (λ u. IsUpTo 100000 u.factor) (term_of t) (map term_of ts) h in
    let there = All-tail (λ u. IsUpTo 100000 u.factor) (term_of t) (map term_of ts) h in
    rw (same_factor t.minus t.factor here, same_terms ts there) refl

terms_in : (ts : List TermForm) → All IsWithin (flat_map term_numbers ts) → All (λ t. IsUpTo 100000 t.factor) (map term_of ts)
terms_in [] w = All-nil (λ t. IsUpTo 100000 t.factor)
terms_in (t ∷ ts) w =
    let here = all_left IsWithin (term_numbers t) (flat_map term_numbers ts) w in
    let there = all_right IsWithin (term_numbers t) (flat_map term_numbers ts) w in
    All-cons (λ t. IsUpTo 100000 t.factor) (term_of t) (map term_of ts) (factor_in t.minus t.factor here) (terms_in ts there)

in_terms : (ts : List TermForm) → All (λ t. IsUpTo 100000 t.factor) (map term_of (map held_term ts)) → All IsWithin (flat_map term_numbers ts)
in_terms [] h = All-nil IsWithin
in_terms (t ∷ ts) h =
    All-append IsWithin (term_numbers t) (flat_map term_numbers ts) (in_factor t.minus t.factor (All-head (λ u. IsUpTo 100000 u.factor) (term_of (held_term t)) (map term_of (map held_term ts)) h)) (in_terms ts (All-tail (λ u. IsUpTo 100000 u.factor) (term_of (held_term t)) (map term_of (map held_term ts)) h))

-- ---- one number, offsets and targets

one_number : (b : Bounded) → All IsWithin (b ∷ []) → IsWithin b
one_number b w = All-head IsWithin b [] w

number_one : (b : Bounded) → IsWithin b → All IsWithin (b ∷ [])
number_one b w = All-cons IsWithin b [] w (All-nil IsWithin)

same_offset : (k : OffsetForm) → IsUpTo 2000000 (offset_of k) → held_offset k ≡ k
same_offset NoOffset h = refl
same_offset (Plus n) h = ap Plus (same_plus 2000000 n h)
same_offset (Minus n) h = ap Minus (same_minus 2000000 n h)

offset_in : (k : OffsetForm) → All IsWithin (offset_numbers k) → IsUpTo 2000000 (offset_of k)
offset_in NoOffset w = up_to_plus 2000000 0 (omega arith)
offset_in (Plus n) w = up_to_plus 2000000 n (below_most 2000000 n (one_number (up_to 2000000 n) w))
offset_in (Minus n) w = up_to_minus 2000000 n (below_most 2000000 n (one_number (up_to 2000000 n) w))

in_offset : (k : OffsetForm) → IsUpTo 2000000 (offset_of (held_offset k)) → All IsWithin (offset_numbers k)
in_offset NoOffset h = All-nil IsWithin
in_offset (Plus n) h = number_one (up_to 2000000 n) (within_most 2000000 n (plus_up_to 2000000 n h))
in_offset (Minus n) h = number_one (up_to 2000000 n) (within_most 2000000 n (minus_up_to 2000000 n h))

same_target : (t : TargetForm) → IsSoundTarget (line_target t) → held_target t ≡ t
same_target (Number v) h = ap Number (same_value v h)
same_target (Variable name) h = refl

target_in : (t : TargetForm) → All IsWithin (target_numbers t) → IsSoundTarget (line_target t)
target_in (Number v) w = value_in v (one_number (a_value v) w)
target_in (Variable name) w = tt

in_target : (t : TargetForm) → IsSoundTarget (line_target (held_target t)) → All IsWithin (target_numbers t)
in_target (Number v) h = number_one (a_value v) (in_value v h)
in_target (Variable name) h = All-nil IsWithin

-- ---- domains

same_domain : (d : DomainForm) → IsDomainInRange (domain_of d) → held_domain d ≡ d
same_domain (Interval low high) h = rw (same_value low h.0, same_value high h.1) refl
same_domain (Members vs) h = ap Members (same_values vs (in_set vs h))

domain_in : (d : DomainForm) → All IsWithin (domain_numbers d) → IsDomainInRange (domain_of d)
domain_in (Interval low high) w =
    (value_in low (All-head IsWithin (a_value low) (a_value high ∷ []) w), value_in high (one_number (a_value high) (All-tail IsWithin (a_value low) (a_value high ∷ []) w)))
domain_in (Members vs) w = set_in vs (values_in vs w)

in_domain : (d : DomainForm) → IsDomainInRange (domain_of (held_domain d)) → All IsWithin (domain_numbers d)
in_domain (Interval low high) h =
    All-cons IsWithin (a_value low) (a_value high ∷ []) (in_value low h.0) (number_one (a_value high) (in_value high h.1))
in_domain (Members vs) h = in_values vs (in_set (map held_value vs) h)

-- ---- constraints

abbrev pub a_bound : ℤ → Bounded
a_bound b = record { number = b; least = neg_ℤ (pos 1000000000000); greatest = pos 1000000000000 }

same_shape : (s : ShapeForm) → IsShapeInRange (shape_of s) → held_shape s ≡ s
same_shape (CompareVarForm left op right k) h = ap (CompareVarForm left op right) (same_offset k h)
same_shape (CompareConstForm left op v) h = ap (CompareConstForm left op) (same_value v h)
same_shape (LinearForm ts op b) h = rw (same_terms ts h.0, same_bound b h.1) refl
same_shape (TableForm vars rows) h = ap (TableForm vars) (same_rows rows h)
same_shape (ElementForm outcome index entries) h = ap (ElementForm outcome index) (same_values entries h)
same_shape (CountForm v vars op t) h = rw (same_value v h.0, same_target t h.1) refl
same_shape (DifferForm vars) h = refl
same_shape (WithinForm var domain) h = ap (WithinForm var) (same_domain domain h)

shape_in : (s : ShapeForm) → All IsWithin (shape_numbers s) → IsShapeInRange (shape_of s)
shape_in (CompareVarForm left op right k) w = offset_in k w
shape_in (CompareConstForm left op v) w = value_in v (one_number (a_value v) w)
shape_in (LinearForm ts op b) w =
    let bound = one_number (a_bound b) (all_right IsWithin (flat_map term_numbers ts) (a_bound b ∷ []) w) in
    (terms_in ts (all_left IsWithin (flat_map term_numbers ts) (a_bound b ∷ []) w), record { above = bound.0; below = bound.1 })
shape_in (TableForm vars rows) w = rows_in rows w
shape_in (ElementForm outcome index entries) w = values_in entries w
shape_in (CountForm v vars op t) w =
    (value_in v (All-head IsWithin (a_value v) (target_numbers t) w), target_in t (All-tail IsWithin (a_value v) (target_numbers t) w))
shape_in (DifferForm vars) w = tt
shape_in (WithinForm var domain) w = domain_in domain w

in_shape : (s : ShapeForm) → IsShapeInRange (shape_of (held_shape s)) → All IsWithin (shape_numbers s)
in_shape (CompareVarForm left op right k) h = in_offset k h
in_shape (CompareConstForm left op v) h = number_one (a_value v) (in_value v h)
in_shape (LinearForm ts op b) h =
    All-append IsWithin (flat_map term_numbers ts) (a_bound b ∷ []) (in_terms ts h.0) (number_one (a_bound b) (in_bound b h.1))
in_shape (TableForm vars rows) h = in_rows rows h
in_shape (ElementForm outcome index entries) h = in_values entries h
in_shape (CountForm v vars op t) h =
    All-cons IsWithin (a_value v) (target_numbers t) (in_value v h.0) (in_target t h.1)
in_shape (DifferForm vars) h = All-nil IsWithin
in_shape (WithinForm var domain) h = in_domain domain h

-- ---- lines

abbrev a_step : ℤ → Bounded
a_step z = from_one_to 1000000 z

abbrev a_weight : ℤ → Bounded
a_weight z = from_one_to 1000000 z

abbrev a_budget : ℤ → Bounded
a_budget z = from_one_to NO_BUDGET z

-- a form that says a line in range is held as it is
pub same_form : (form : Form) → IsInRange (line_of form) → held_form form ≡ form
same_form (DeclareForm name domain) h = ap (DeclareForm name) (same_domain domain h)
same_form (DeclareInForm name universe domain) h = rw (same_domain universe h.0, same_domain domain h.1) refl
same_form (AddForm name shape) h = ap (AddForm name) (same_shape shape h)
same_form (WhyForm name v) h = ap (WhyForm name) (same_value v h)
same_form (MinimalForm name v) h = ap (MinimalForm name) (same_value v h)
same_form (StepForm n) h = ap StepForm (same_counted 1000000 n h)
same_form (SolveDbtForm None) h = refl
same_form (SolveDbtForm (Some n)) h = ap (λ z. SolveDbtForm (Some z)) (same_counted NO_BUDGET n h)
same_form (SolveRepairForm t n) h = rw (same_counted 1024 t h.0, same_counted NO_BUDGET n h.1) refl
same_form (ProveForm n) h = ap ProveForm (same_counted NO_BUDGET n h)
same_form (MinimizeForm target n) h = ap (MinimizeForm target) (same_counted NO_BUDGET n h)
same_form (PreferForm name n) h = ap (PreferForm name) (same_counted 1000000 n h)
same_form (CertForm name v) h = ap (CertForm name) (same_value v h)
same_form (GuideForm n) h = ap GuideForm (same_counted 1000000 n h)
same_form (OrderForm n) h = ap OrderForm (same_counted 1000000 n h)
same_form (DropGuideForm n) h = ap DropGuideForm (same_counted 1000000 n h)
same_form (DropOrderForm n) h = ap DropOrderForm (same_counted 1000000 n h)
same_form _ h = refl

-- a line is in range where the numbers of its form are
pub numbers_in : (form : Form) → All IsWithin (numbers form) → IsInRange (line_of form)
numbers_in (DeclareForm name domain) w = domain_in domain w
numbers_in (DeclareInForm name universe domain) w =
    (domain_in universe (all_left IsWithin (domain_numbers universe) (domain_numbers domain) w), domain_in domain (all_right IsWithin (domain_numbers universe) (domain_numbers domain) w))
numbers_in (AddForm name shape) w = shape_in shape w
numbers_in (WhyForm name v) w = value_in v (one_number (a_value v) w)
numbers_in (MinimalForm name v) w = value_in v (one_number (a_value v) w)
numbers_in (StepForm n) w = counted_in 1000000 n (one_number (a_step n) w)
numbers_in (SolveDbtForm None) w = (omega arith, omega arith)
numbers_in (SolveDbtForm (Some n)) w = counted_in NO_BUDGET n (one_number (a_budget n) w)
numbers_in (SolveRepairForm t n) w =
    (counted_in 1024 t (All-head IsWithin (from_one_to 1024 t) (a_budget n ∷ []) w), counted_in NO_BUDGET n (one_number (a_budget n) (All-tail IsWithin (from_one_to 1024 t) (a_budget n ∷ []) w)))
numbers_in (ProveForm n) w = counted_in NO_BUDGET n (one_number (a_budget n) w)
numbers_in (MinimizeForm target n) w = counted_in NO_BUDGET n (one_number (a_budget n) w)
numbers_in (PreferForm name n) w = counted_in 1000000 n (one_number (a_weight n) w)
numbers_in (CertForm name v) w = value_in v (one_number (a_value v) w)
numbers_in (GuideForm n) w = counted_in 1000000 n (one_number (a_step n) w)
numbers_in (OrderForm n) w = counted_in 1000000 n (one_number (a_step n) w)
numbers_in (DropGuideForm n) w = counted_in 1000000 n (one_number (a_step n) w)
numbers_in (DropOrderForm n) w = counted_in 1000000 n (one_number (a_step n) w)
numbers_in _ w = tt

-- and they are where the line that is held is in range
in_numbers : (form : Form) → IsInRange (held_line form) → All IsWithin (numbers form)
in_numbers (DeclareForm name domain) h = in_domain domain h
in_numbers (DeclareInForm name universe domain) h =
    All-append IsWithin (domain_numbers universe) (domain_numbers domain) (in_domain universe h.0) (in_domain domain h.1)
in_numbers (AddForm name shape) h = in_shape shape h
in_numbers (WhyForm name v) h = number_one (a_value v) (in_value v h)
in_numbers (MinimalForm name v) h = number_one (a_value v) (in_value v h)
in_numbers (StepForm n) h = number_one (a_step n) (in_counted 1000000 n h)
in_numbers (SolveDbtForm None) h = All-nil IsWithin
in_numbers (SolveDbtForm (Some n)) h = number_one (a_budget n) (in_counted NO_BUDGET n h)
in_numbers (SolveRepairForm t n) h =
    All-cons IsWithin (from_one_to 1024 t) (a_budget n ∷ []) (in_counted 1024 t h.0) (number_one (a_budget n) (in_counted NO_BUDGET n h.1))
in_numbers (ProveForm n) h = number_one (a_budget n) (in_counted NO_BUDGET n h)
in_numbers (MinimizeForm target n) h = number_one (a_budget n) (in_counted NO_BUDGET n h)
in_numbers (PreferForm name n) h = number_one (a_weight n) (in_counted 1000000 n h)
in_numbers (CertForm name v) h = number_one (a_value v) (in_value v h)
in_numbers (GuideForm n) h = number_one (a_step n) (in_counted 1000000 n h)
in_numbers (OrderForm n) h = number_one (a_step n) (in_counted 1000000 n h)
in_numbers (DropGuideForm n) h = number_one (a_step n) (in_counted 1000000 n h)
in_numbers (DropOrderForm n) h = number_one (a_step n) (in_counted 1000000 n h)
in_numbers _ h = All-nil IsWithin

-- what is held of a form is in range where the line is, and only there
pub line_in : (form : Form) → IsInRange (line_of form) → IsInRange (held_line form)
line_in form range = subst (λ f. IsInRange (line_of f)) (sym (same_form form range)) range

pub in_line : (form : Form) → IsInRange (held_line form) → IsInRange (line_of form)
in_line form h = numbers_in form (in_numbers form h)

-- ---- a line is in range as it is written, and that is known

pub numbers_within : (form : Form) → IsInRange (line_of form) → All IsWithin (numbers form)
numbers_within form range = in_numbers form (line_in form range)

pub outside_not_in : (form : Form) → Any IsOutside (numbers form) → IsInRange (line_of form) → ⊥
outside_not_in form any range = not_both any.1 (subst IsWithin any.3 (numbers_within form range any.0 any.1 any.2)) any.4

pub range_decided : (form : Form) → IsInRange (line_of form) ⊎ (IsInRange (line_of form) → ⊥)
range_decided form =
    elim (all_or_any (numbers form)) [
      | inl all ↦ inl (numbers_in form all)
      | inr any ↦ inr (outside_not_in form any)
    ]

pub outside_where_not_in : (form : Form) → (IsInRange (line_of form) → ⊥) → Any IsOutside (numbers form)
outside_where_not_in form out = elim (all_or_any (numbers form)) [ inl all ↦ absurd (out (numbers_in form all)) | inr any ↦ any ]
