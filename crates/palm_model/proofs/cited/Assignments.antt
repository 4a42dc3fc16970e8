-- A part looks at the variables of its scope alone, and whether an assignment satisfies it is known.
use Rattle.std.proofs.Common.{◌≡◌, ℕ, zero, suc, ◌+◌, List, [], ◌∷◌, map, length, Contains, slice_get, Some, ℤ, pos, negsuc, ◌+ℤ◌, ◌*ℤ◌, ◌<ℤ◌, ◌≤ℤ◌, inl, inr, refl, sym, ap, ◌∙◌, subst, arith, int_eq, Option}
use Rattle.std.proofs.lemmas.Int.{ints, by_lt_z}
use Rattle.std.proofs.lemmas.List.Elements.{Contains-append_left, Contains-append_right}
use Rattle.std.proofs.lemmas.Option.{same_Some}
use Rattle.palm_base.proofs.cited.Members.{member_here, member_there, map_agree, filter_agree_members, Known, known_like, known_not, int_known, list_known, member_known}
use Rattle.palm_model.specs.Domains.{Assignment}
use Rattle.palm_model.specs.Relation.{Stands}
use Rattle.palm_model.specs.Linear.{term_vars, total}
use Rattle.palm_model.specs.Count.{target_scope, count_among, target_of}
use Rattle.palm_model.specs.Part.{scope_of, Holds}
use Rattle.palm_model.specs.declared.constraint.Op.{Op}
use Rattle.palm_model.specs.declared.constraint.Op.TheVariants.{Eq, Ne, Lt, Le, Gt, Ge}
use Rattle.palm_model.specs.declared.constraint.Target.{Target}
use Rattle.palm_model.specs.declared.constraint.Target.TheVariants.{Const, Variable}
use Rattle.palm_model.specs.declared.constraint.Term.{Term}
use Rattle.palm_model.specs.declared.part.Part.{Part}
use Rattle.palm_model.specs.declared.part.Part.TheVariants.{CompareVar as CompareVarPart, CompareConst as CompareConstPart, Linear as LinearPart, Table as TablePart, Element as ElementPart, Count as CountPart, Differ as DifferPart, Within as WithinPart}

-- two assignments give the variables of the scope the same values
abbrev pub Agree : List ℕ → Assignment → Assignment → Type 0
Agree scope a b = (x : ℕ) → Contains scope x → a x ≡ b x

pub total_agree : (a b : Assignment) (terms : List Term) → Agree (term_vars terms) a b → total a terms ≡ total b terms
total_agree a b [] same = refl
total_agree a b (t ∷ ts) same =
    ap (λ v. (t.factor *ℤ v) +ℤ total a ts) (same t.var (member_here t.var (term_vars ts)))
    ∙ ap (λ s. (t.factor *ℤ b t.var) +ℤ s) (total_agree a b ts (λ y m. same y (member_there t.var (term_vars ts) y m)))

pub counts_agree : (a b : Assignment) (value : ℤ) (vars : List ℕ) → Agree vars a b → count_among a value vars ≡ count_among b value vars
counts_agree a b value vars same =
    ap length (filter_agree_members (λ x. int_eq (a x) value) (λ x. int_eq (b x) value) vars (λ x m. ap (λ v. int_eq v value) (same x m)))

pub target_agree : (a b : Assignment) (target : Target) → Agree (target_scope target) a b → target_of a target ≡ target_of b target
target_agree a b (Const w) same = refl
target_agree a b (Variable x) same = same x (member_here x [])

stands_agree : (op : Op) (m m' n n' : ℤ) → m ≡ m' → n ≡ n' → Stands op m n → Stands op m' n'
stands_agree op m m' n n' e f h = subst (λ z. Stands op z n') e (subst (λ z. Stands op m z) f h)

-- whether a part is satisfied depends on the variables of its scope alone
pub holds_agree : (p : Part) (a b : Assignment) → Agree (scope_of p) a b → Holds p a → Holds p b
holds_agree (CompareVarPart left op right offset) a b same h =
    stands_agree op (a left) (b left) (a right +ℤ offset) (b right +ℤ offset) (same left (member_here left (right ∷ [])))
    (ap (λ v. v +ℤ offset) (same right (member_there left (right ∷ []) right (member_here right [])))) h
holds_agree (CompareConstPart var op value) a b same h =
    stands_agree op (a var) (b var) value value (same var (member_here var [])) refl h
holds_agree (LinearPart terms op bound) a b same h =
    stands_agree op (total a terms) (total b terms) bound bound (total_agree a b terms same) refl h
holds_agree (TablePart vars rows) a b same h = subst (λ row. Contains rows row) (map_agree a b vars same) h
holds_agree (ElementPart outcome index entries) a b same h =
    let at_index = same index (member_there outcome (index ∷ []) index (member_here index [])) in
    (h.0, sym at_index ∙ h.1, h.2 ∙ ap Some (same outcome (member_here outcome (index ∷ []))))
holds_agree (CountPart value vars op target) a b same h =
    stands_agree op (pos (count_among a value vars)) (pos (count_among b value vars)) (target_of a target) (target_of b target)
    (ap pos (counts_agree a b value vars (λ x m. same x (Contains-append_left vars (target_scope target) x m))))
    (target_agree a b target (λ x m. same x (Contains-append_right vars (target_scope target) x m))) h
holds_agree (WithinPart var values) a b same h = subst (Contains values) (same var (member_here var [])) h
holds_agree (DifferPart first second) a b same h = λ e. h (same first (member_here first (second ∷ [])) ∙ e ∙ sym (same second (member_there first (second ∷ []) second (member_here second []))))

below_known : (m n : ℤ) → Known (m <ℤ n)
below_known m n = by_lt_z m n (λ h. inl h) (λ h. inr (λ k. absurd (omega (arith, ints))))

up_to_known : (m n : ℤ) → Known (m ≤ℤ n)
up_to_known m n = by_lt_z n m (λ h. inr (λ k. absurd (omega (arith, ints)))) (λ h. inl h)

pub stands_known : (op : Op) (m n : ℤ) → Known (Stands op m n)
stands_known Eq m n = int_known m n
stands_known Ne m n = known_not (int_known m n)
stands_known Lt m n = below_known m n
stands_known Le m n = up_to_known m n
stands_known Gt m n = below_known n m
stands_known Ge m n = up_to_known n m

some_known : (o : Option ℤ) (w : ℤ) → Known (o ≡ Some w)
some_known Option.None w = inr (λ e. cc)
some_known (Some v) w = known_like (λ e. ap Some e) (λ e. same_Some v w e) (int_known v w)

entry_known : (entries : List ℤ) (z w : ℤ) → Known ((k : ℕ) × (z ≡ pos (k + 1)) × (slice_get entries k ≡ Some w))
entry_known entries (negsuc n) w = inr (λ h. cc)
entry_known entries (pos zero) w = inr (λ h. absurd (omega (arith, ints, h.1)))
entry_known entries (pos (suc k)) w = elim (some_known (slice_get entries k) w) [
  | inl e ↦ inl (k, omega (arith, ints), e)
  | inr n ↦ inr (λ h. let same : h.0 ≡ k = omega (arith, ints, h.1) in n (subst (λ i. slice_get entries i ≡ Some w) same h.2))
]

-- an assignment satisfies a part, or it does not
pub holds_known : (p : Part) (a : Assignment) → Known (Holds p a)
holds_known (CompareVarPart left op right offset) a = stands_known op (a left) (a right +ℤ offset)
holds_known (CompareConstPart var op value) a = stands_known op (a var) value
holds_known (LinearPart terms op bound) a = stands_known op (total a terms) bound
holds_known (TablePart vars rows) a = member_known (list_known int_known) rows (map a vars)
holds_known (ElementPart outcome index entries) a = entry_known entries (a index) (a outcome)
holds_known (CountPart value vars op target) a = stands_known op (pos (count_among a value vars)) (target_of a target)
holds_known (DifferPart first second) a = known_not (int_known (a first) (a second))
holds_known (WithinPart var values) a = member_known int_known values (a var)
