-- The form of the text that a line is printed as: it says the same, written as the printer writes it.
use Rattle.std.proofs.Common.{◌≡◌, ℕ, ℤ, zero, suc, ◌<◌, Bool, true, false, cond, Option, Some, None, List, [], ◌∷◌, ◌++◌, length, map, get_or, Contains, refl, sym, ap, subst, arith, unwrap_or, nat_eq}
use Rattle.std.specs.List.{AllByRecursion}
use Rattle.std.specs.Prelude.{◌==◌, if◌then◌else◌}
use Rattle.std.proofs.lemmas.Bool.Decides.{Decides-eqb}
use Rattle.std.proofs.lemmas.List.Elements.{All-from_recursion, recursion_from_All}
use Rattle.palm_read.specs.Comparison.{OffsetForm, NoOffset, Plus, Minus, offset_of}
use Rattle.palm_read.specs.Domain.{DomainForm, Interval, Members, set_of, count_in, domain_of}
use Rattle.palm_read.specs.Form.{ShapeForm, CompareVarForm, LinearForm, WithinForm, Form, DeclareForm, DeclareInForm, AddForm, SolveDbtForm}
use Rattle.palm_read.specs.Linear.{TermForm, term_of}
use Rattle.palm_read.specs.Grammar.{IsProper, IsProperShape}
use Rattle.palm_read.specs.Bounds.{Bounded, IsWithin, a_value}
use Rattle.palm_read.specs.Limits.{IsInRange, HasNothing, HasRepeat}
use Rattle.palm_read.specs.Modes.{Allows}
use Rattle.palm_read.specs.Reading.{shape_of, budget_of, line_of}
use Rattle.palm_read.specs.declared.limits.TheConstants.{NO_BUDGET}
use Rattle.palm_read.specs.declared.line.Line.TheVariants.{Var, Add, SolveDbt}
use Rattle.palm_read.specs.declared.line.Shape.TheVariants.{CompareVar, Linear, Within}
use Rattle.palm_read.specs.declared.line.NameTerm.{NameTerm}
use Rattle.palm_read.specs.declared.line.DomainText.{DomainText}
use Rattle.palm_read.specs.declared.line.DomainText.TheVariants.{Set}
use Rattle.palm_read.specs.declared.mode.Mode.{Mode}
use Rattle.palm_read.proofs.cited.AllOfBoth.{all_left, all_right}
use Rattle.palm_read.proofs.cited.Sets.{contains_here, contains_there, rises_set, same_rising, set_member, member_set}

-- a set is printed ascending and without repeats
abbrev pub canonical_domain : DomainForm → DomainForm
canonical_domain (Interval low high) = Interval low high
canonical_domain (Members values) = Members (set_of values)

-- an offset of 0 is left out
abbrev pub canonical_offset : OffsetForm → OffsetForm
canonical_offset NoOffset = NoOffset
canonical_offset (Plus zero) = NoOffset
canonical_offset (Plus (suc n)) = Plus (suc n)
canonical_offset (Minus zero) = NoOffset
canonical_offset (Minus (suc n)) = Minus (suc n)

-- a coefficient of 1 is left out
abbrev pub canonical_factor : Option ℕ → Option ℕ
canonical_factor None = None
canonical_factor (Some zero) = Some 0
canonical_factor (Some (suc zero)) = None
canonical_factor (Some (suc (suc n))) = Some (suc (suc n))

abbrev pub canonical_term : TermForm → TermForm
canonical_term t = record { minus = t.minus; factor = canonical_factor t.factor; name = t.name }

abbrev pub canonical_shape : ShapeForm → ShapeForm
canonical_shape (CompareVarForm left op right offset) = CompareVarForm left op right (canonical_offset offset)
canonical_shape (LinearForm terms op bound) = LinearForm (map canonical_term terms) op bound
canonical_shape (WithinForm var domain) = WithinForm var (canonical_domain domain)
canonical_shape shape = shape

-- the budget that a search without one has is left out
abbrev pub canonical_budget : Option ℤ → Option ℤ
canonical_budget None = None
canonical_budget (Some z) = if count_in z == NO_BUDGET then None else Some z

abbrev pub canonical : Form → Form
canonical (DeclareForm name domain) = DeclareForm name (canonical_domain domain)
canonical (DeclareInForm name universe domain) = DeclareInForm name (canonical_domain universe) (canonical_domain domain)
canonical (AddForm name shape) = AddForm name (canonical_shape shape)
canonical (SolveDbtForm budget) = SolveDbtForm (canonical_budget budget)
canonical form = form

-- ---- it says the same

set_again : (vs : List ℤ) → set_of (set_of vs) ≡ set_of vs
set_again vs = same_rising (set_of (set_of vs)) (set_of vs) (rises_set (set_of vs)) (rises_set vs) (set_member (set_of vs)) (member_set (set_of vs))

domain_again : (d : DomainForm) → domain_of (canonical_domain d) ≡ domain_of d
domain_again (Interval low high) = refl
domain_again (Members vs) = ap Set (set_again vs)

offset_again : (k : OffsetForm) → offset_of (canonical_offset k) ≡ offset_of k
offset_again NoOffset = refl
offset_again (Plus zero) = refl
offset_again (Plus (suc n)) = refl
offset_again (Minus zero) = refl
offset_again (Minus (suc n)) = refl

factor_again : (factor : Option ℕ) → unwrap_or (canonical_factor factor) 1 ≡ unwrap_or factor 1
factor_again None = refl
factor_again (Some zero) = refl
factor_again (Some (suc zero)) = refl
factor_again (Some (suc (suc n))) = refl

terms_again : (ts : List TermForm) → map term_of (map canonical_term ts) ≡ map term_of ts
terms_again [] = refl
terms_again (t ∷ ts) = rw (factor_again t.factor, terms_again ts) refl

shape_again : (s : ShapeForm) → shape_of (canonical_shape s) ≡ shape_of s
shape_again (CompareVarForm left op right k) = ap (CompareVar left op right) (offset_again k)
shape_again (LinearForm ts op b) = ap (λ (terms : List NameTerm). Linear terms op b) (terms_again ts)
shape_again (WithinForm var domain) = ap (λ (d : DomainText). Within var d) (domain_again domain)
shape_again _ = refl

budget_again : (b : Option ℤ) → budget_of (canonical_budget b) ≡ budget_of b
budget_again None = refl
budget_again (Some z) = go (nat_eq (count_in z) NO_BUDGET) refl
  where
    go : (t : Bool) → nat_eq (count_in z) NO_BUDGET ≡ t → budget_of (cond t None (Some z)) ≡ count_in z
    go true e = sym ((Decides-eqb (count_in z) NO_BUDGET).0 e)
    go false e = refl

pub canonical_line : (form : Form) → line_of (canonical form) ≡ line_of form
canonical_line (DeclareForm name domain) = ap (Var name) (domain_again domain)
canonical_line (DeclareInForm name universe domain) = rw (domain_again universe, domain_again domain) refl
canonical_line (AddForm name shape) = ap (Add name) (shape_again shape)
canonical_line (SolveDbtForm b) = ap SolveDbt (budget_again b)
canonical_line _ = refl

-- ---- it is a form of the grammar, and within the limits

some_canon : (ts : List TermForm) → 0 < length ts → 0 < length (map canonical_term ts)
some_canon [] h = h
some_canon (t ∷ ts) h = omega arith

proper_shape : (s : ShapeForm) → IsProperShape s → IsProperShape (canonical_shape s)
proper_shape (CompareVarForm left op right k) p = tt
proper_shape (LinearForm ts op b) p = (some_canon ts p.0, p.1)
proper_shape (WithinForm var domain) p = tt
proper_shape _ p = p

pub canonical_proper : (form : Form) → IsProper form → IsProper (canonical form)
canonical_proper (AddForm name shape) p = proper_shape shape p
canonical_proper (DeclareForm name domain) p = tt
canonical_proper (DeclareInForm name universe domain) p = tt
canonical_proper (SolveDbtForm b) p = tt
canonical_proper _ p = p

pub canonical_allowed : (mode : Mode) (form : Form) → Allows mode (line_of form) → Allows mode (line_of (canonical form))
canonical_allowed mode form allowed = subst (Allows mode) (sym (canonical_line form)) allowed

pub canonical_something : (form : Form) → (HasNothing (line_of form) → ⊥) → HasNothing (line_of (canonical form)) → ⊥
canonical_something form some h = some (subst HasNothing (canonical_line form) h)

pub canonical_once : (form : Form) → (HasRepeat (line_of form) → ⊥) → HasRepeat (line_of (canonical form)) → ⊥
canonical_once form once h = once (subst HasRepeat (canonical_line form) h)

pub canonical_range : (form : Form) → IsInRange (line_of form) → IsInRange (line_of (canonical form))
canonical_range form range = subst IsInRange (sym (canonical_line form)) range

-- ---- numbers within their bounds, one by one

abbrev pub AreWithin : List Bounded → Type 0
AreWithin bs = AllByRecursion IsWithin bs

pub within_left : (xs ys : List Bounded) → AreWithin (xs ++ ys) → AreWithin xs
within_left xs ys w = recursion_from_All IsWithin xs (all_left IsWithin xs ys (All-from_recursion IsWithin (xs ++ ys) w))

pub within_right : (xs ys : List Bounded) → AreWithin (xs ++ ys) → AreWithin ys
within_right xs ys w = recursion_from_All IsWithin ys (all_right IsWithin xs ys (All-from_recursion IsWithin (xs ++ ys) w))

value_at : (vs : List ℤ) (z : ℤ) → AreWithin (map a_value vs) → (k : ℕ) → k < length vs → get_or vs k z ≡ z → IsWithin (a_value z)
value_at [] z w k l e = absurd (omega arith)
value_at (v ∷ vs) z w zero l e = subst (λ y. IsWithin (a_value y)) e w.0
value_at (v ∷ vs) z w (suc k) l e = value_at vs z w.1 k (omega arith) e

values_from : (us : List ℤ) → ((z : ℤ) → Contains us z → IsWithin (a_value z)) → AreWithin (map a_value us)
values_from [] h = tt
values_from (u ∷ us) h = (h u (contains_here u us), values_from us (λ z c. h z (contains_there u z us c)))

pub set_within : (vs : List ℤ) → AreWithin (map a_value vs) → AreWithin (map a_value (set_of vs))
set_within vs w = values_from (set_of vs) (λ z c. let d = set_member vs z c in value_at vs z w d.0 d.1 d.2)
