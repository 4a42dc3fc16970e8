-- What is known of the parts of a formed constraint, and of a well formed one.
use Rattle.std.proofs.Common.{◌≡◌, ℕ, ℤ, ◌<◌, ◌≤◌, List, [], ◌∷◌, length, map, flat_map, All, Contains, inl, inr, sym, subst, arith}
use Rattle.std.proofs.lemmas.List.{length-map}
use Rattle.std.proofs.lemmas.List.Elements.{All-contains, Contains-append_cases, Contains-append_left}
use Rattle.palm_base.proofs.cited.Members.{member_nil, member_here, member_there, member_cases, member_single, member_same, member_map, member_unmap, flat_map_member, all_members}
use Rattle.palm_model.specs.Constraint.{scope, IsFormed, IsShaped, IsWellFormed}
use Rattle.palm_model.specs.Part.{scope_of, parts}
use Rattle.palm_model.specs.Linear.{linear_parts}
use Rattle.palm_model.specs.Differ.{differ_parts}
use Rattle.palm_model.specs.Trial.{IsSmall, IsTriable}
use Rattle.palm_model.specs.declared.constraint.Con.{Con}
use Rattle.palm_model.specs.declared.constraint.Con.TheVariants.{CompareVar, CompareConst, Linear, Table, Element, Count, Differ, Within}
use Rattle.palm_model.specs.declared.constraint.Op.{Op}
use Rattle.palm_model.specs.declared.constraint.Op.TheVariants.{Eq, Ne, Lt, Le, Gt, Ge}
use Rattle.palm_model.specs.declared.constraint.Term.{Term}
use Rattle.palm_model.specs.declared.part.Part.{Part}
use Rattle.palm_model.specs.declared.part.Part.TheVariants.{CompareVar as CompareVarPart, CompareConst as CompareConstPart, Linear as LinearPart, Table as TablePart, Element as ElementPart, Count as CountPart, Differ as DifferPart, Within as WithinPart}

-- ---- the parts of a sum and of a difference

pub sum_part : (terms : List Term) (op : Op) (bound : ℤ) (p : Part) → Contains (linear_parts terms op bound) p → (o : Op) × (LinearPart terms o bound ≡ p)
sum_part terms Eq bound p h = elim (member_cases (LinearPart terms Le bound) (LinearPart terms Ge bound ∷ []) p h) [
  | inl e ↦ (Le, e)
  | inr m ↦ (Ge, member_single (LinearPart terms Ge bound) p m)
]
sum_part terms Ne bound p h = (Ne, member_single (LinearPart terms Ne bound) p h)
sum_part terms Lt bound p h = (Lt, member_single (LinearPart terms Lt bound) p h)
sum_part terms Le bound p h = (Le, member_single (LinearPart terms Le bound) p h)
sum_part terms Gt bound p h = (Gt, member_single (LinearPart terms Gt bound) p h)
sum_part terms Ge bound p h = (Ge, member_single (LinearPart terms Ge bound) p h)

pub differ_part : (vars : List ℕ) (p : Part) → Contains (differ_parts vars) p → (x : ℕ) × (y : ℕ) × Contains vars x × Contains vars y × (DifferPart x y ≡ p)
differ_part [] p h = absurd (member_nil p h)
differ_part (x ∷ xs) p h = elim (Contains-append_cases (map (DifferPart x) xs) (differ_parts xs) p h) [
  | inl m ↦ let r = member_unmap (DifferPart x) xs p m in (x, r.0, member_here x xs, member_there x xs r.0 r.1, r.2)
  | inr m ↦ let r = differ_part xs p m in (r.0, r.1, member_there x xs r.0 r.2, member_there x xs r.1 r.3, r.4)
]

-- ---- the variables of a part are variables of its constraint

single_scope : (q p : Part) (x : ℕ) → Contains (q ∷ []) p → Contains (scope_of p) x → Contains (scope_of q) x
single_scope q p x m h = subst (λ r. Contains (scope_of r) x) (sym (member_single q p m)) h

pair_member : (vars : List ℕ) (y z x : ℕ) → Contains vars y → Contains vars z → Contains (y ∷ z ∷ []) x → Contains vars x
pair_member vars y z x at_y at_z h = elim (member_cases y (z ∷ []) x h) [
  | inl e ↦ member_same vars y x e at_y
  | inr m ↦ member_same vars z x (member_single z x m) at_z
]

pub part_scope : (c : Con) (p : Part) (x : ℕ) → Contains (parts c) p → Contains (scope_of p) x → Contains (scope c) x
part_scope (CompareVar left op right offset) p x m h = single_scope _ p x m h
part_scope (CompareConst left op value) p x m h = single_scope _ p x m h
part_scope (Linear terms op bound) p x m h = let r = sum_part terms op bound p m in subst (λ q. Contains (scope_of q) x) (sym r.1) h
part_scope (Table vars rows) p x m h = single_scope _ p x m h
part_scope (Element outcome index entries) p x m h = single_scope _ p x m h
part_scope (Count value vars op target) p x m h = single_scope _ p x m h
part_scope (Within var values) p x m h = single_scope _ p x m h
part_scope (Differ vars) p x m h =
    let r = differ_part vars p m in
    pair_member vars r.0 r.1 x r.2 r.3 (subst (λ q. Contains (scope_of q) x) (sym r.4) h)

-- ---- a part of a constraint over some variable is over some variable

first_member : (xs : List ℕ) → 0 < length xs → (x : ℕ) × Contains xs x
first_member [] lt = absurd (omega (arith, lt))
first_member (x ∷ xs) lt = (x, member_here x xs)

only_part : (q p : Part) → Contains (q ∷ []) p → 0 < length (scope_of q) → (x : ℕ) × Contains (scope_of p) x
only_part q p m lt = subst (λ r. (x : ℕ) × Contains (scope_of r) x) (member_single q p m) (first_member (scope_of q) lt)

pub part_variable : (c : Con) (p : Part) → 0 < length (scope c) → Contains (parts c) p → (x : ℕ) × Contains (scope_of p) x
part_variable (CompareVar left op right offset) p lt m = only_part _ p m lt
part_variable (CompareConst left op value) p lt m = only_part _ p m lt
part_variable (Linear terms op bound) p lt m =
    let r = sum_part terms op bound p m in
    subst (λ q. (x : ℕ) × Contains (scope_of q) x) r.1 (first_member (scope (Linear terms op bound)) lt)
part_variable (Table vars rows) p lt m = only_part _ p m lt
part_variable (Element outcome index entries) p lt m = only_part _ p m lt
part_variable (Count value vars op target) p lt m = only_part _ p m lt
part_variable (Within var values) p lt m = only_part _ p m lt
part_variable (Differ vars) p lt m =
    let r = differ_part vars p m in
    subst (λ q. (x : ℕ) × Contains (scope_of q) x) r.4 (r.0, member_here r.0 (r.1 ∷ []))

-- ---- a variable of the scope is one of a part's

abbrev pub PartOver : List Part → ℕ → Type 0
PartOver ps x = (p : Part) × Contains ps p × Contains (scope_of p) x

linear_over : (terms : List Term) (op : Op) (bound : ℤ) (x : ℕ) → Contains (map (λ t. t.var) terms) x → PartOver (linear_parts terms op bound) x
linear_over terms Eq bound x m = (LinearPart terms Le bound, member_here (LinearPart terms Le bound) (LinearPart terms Ge bound ∷ []), m)
linear_over terms Ne bound x m = (LinearPart terms Ne bound, member_here (LinearPart terms Ne bound) [], m)
linear_over terms Lt bound x m = (LinearPart terms Lt bound, member_here (LinearPart terms Lt bound) [], m)
linear_over terms Le bound x m = (LinearPart terms Le bound, member_here (LinearPart terms Le bound) [], m)
linear_over terms Gt bound x m = (LinearPart terms Gt bound, member_here (LinearPart terms Gt bound) [], m)
linear_over terms Ge bound x m = (LinearPart terms Ge bound, member_here (LinearPart terms Ge bound) [], m)

differ_over : (vars : List ℕ) (x : ℕ) → 2 ≤ length vars → Contains vars x → PartOver (differ_parts vars) x
differ_over [] x two m = absurd (member_nil x m)
differ_over (v ∷ []) x two m = absurd (omega (arith, two))
differ_over (v ∷ w ∷ vs) x two m = elim (member_cases v (w ∷ vs) x m) [
  | inl e ↦ (
    DifferPart v w,
    Contains-append_left (map (DifferPart v) (w ∷ vs)) (differ_parts (w ∷ vs)) (DifferPart v w) (member_map (DifferPart v) (w ∷ vs) w (member_here w vs)),
    subst (Contains (v ∷ w ∷ [])) e (member_here v (w ∷ [])),
  )
  | inr n ↦ (
    DifferPart v x,
    Contains-append_left (map (DifferPart v) (w ∷ vs)) (differ_parts (w ∷ vs)) (DifferPart v x) (member_map (DifferPart v) (w ∷ vs) x n),
    member_there v (x ∷ []) x (member_here x []),
  )
]

pub variable_part : (n : ℕ) (c : Con) (x : ℕ) → IsWellFormed n c → Contains (scope c) x → PartOver (parts c) x
variable_part n (CompareVar left op right offset) x formed m = (CompareVarPart left op right offset, member_here (CompareVarPart left op right offset) [], m)
variable_part n (CompareConst left op value) x formed m = (CompareConstPart left op value, member_here (CompareConstPart left op value) [], m)
variable_part n (Linear terms op bound) x formed m = linear_over terms op bound x m
variable_part n (Table vars rows) x formed m = (TablePart vars rows, member_here (TablePart vars rows) [], m)
variable_part n (Element outcome index entries) x formed m = (ElementPart outcome index entries, member_here (ElementPart outcome index entries) [], m)
variable_part n (Count value vars op target) x formed m = (CountPart value vars op target, member_here (CountPart value vars op target) [], m)
variable_part n (Differ vars) x formed m = differ_over vars x formed.shaped m
variable_part n (Within var values) x formed m = (WithinPart var values, member_here (WithinPart var values) [], m)

-- ---- their sums are small

single_small : (q p : Part) → Contains (q ∷ []) p → IsSmall q → IsSmall p
single_small q p m h = subst IsSmall (member_single q p m) h

part_small : (c : Con) (p : Part) → length (scope c) ≤ 16 → IsShaped c → Contains (parts c) p → IsSmall p
part_small (CompareVar left op right offset) p few h m = single_small _ p m tt
part_small (CompareConst left op value) p few h m = single_small _ p m tt
part_small (Linear terms op bound) p few h m =
    let r = sum_part terms op bound p m in
    let n : length terms ≤ 16 = subst (λ k. k ≤ 16) (length-map terms (λ (t : Term). t.var)) few in
    subst IsSmall r.1 (h.0, n)
part_small (Table vars rows) p few h m = single_small _ p m tt
part_small (Element outcome index entries) p few h m = single_small _ p m tt
part_small (Count value vars op target) p few h m = single_small _ p m tt
part_small (Within var values) p few h m = single_small _ p m tt
part_small (Differ vars) p few h m = let r = differ_part vars p m in subst IsSmall r.4 tt

-- ---- formed and well formed

pub well_formed_formed : (n : ℕ) (c : Con) → IsWellFormed n c → IsFormed n c
well_formed_formed n c w = record { declared = w.declared; distinct = w.distinct }

-- a comparison of a declared variable with any value
pub choice_formed : (n x : ℕ) (op : Op) (v : ℤ) → x < n → IsFormed n (CompareConst x op v)
choice_formed n x op v lt = record {
  declared = all_members (λ y. y < n) (x ∷ []) (λ y m. subst (λ z. z < n) (member_single x y m) lt);
  distinct = (member_nil x, tt);
}

pub part_declared : (n : ℕ) (c : Con) (p : Part) (x : ℕ) → IsFormed n c → Contains (parts c) p → Contains (scope_of p) x → x < n
part_declared n c p x formed m h = All-contains (λ y. y < n) (scope c) x formed.declared (part_scope c p x m h)

pub part_triable : (n : ℕ) (c : Con) (p : Part) → IsWellFormed n c → Contains (parts c) p → IsTriable n p
part_triable n c p formed m = record {
  declared = all_members (λ x. x < n) (scope_of p) (λ x h. part_declared n c p x (well_formed_formed n c formed) m h);
  small = part_small c p formed.few formed.shaped m;
}

pub all_triable : (n : ℕ) (cs : List Con) → All (IsWellFormed n) cs → All (IsTriable n) (flat_map parts cs)
all_triable n cs formed = all_members (IsTriable n) (flat_map parts cs) (λ p m.
    let r = flat_map_member parts cs p m in part_triable n r.0 p (All-contains (IsWellFormed n) cs r.0 formed r.1) r.2)
