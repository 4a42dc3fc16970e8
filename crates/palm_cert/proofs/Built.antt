-- Lines with names, numbers and lists within the limits: their texts read as these lines.
use Rattle.std.proofs.Common.{◌≡◌, ℕ, ℤ, pos, negsuc, suc, ◌<◌, Bool, true, false, Some, List, [], ◌∷◌, ◌++◌, length, map, flat_map, codes, All, refl, sym, ap, subst, arith}
use Rattle.std.specs.Prelude.{Any, ◌<ℤ◌}
use Rattle.std.proofs.lemmas.Int.{ints}
use Rattle.std.proofs.lemmas.List.Elements.{All-head, All-tail, All-weaker, recursion_from_All}
use Rattle.palm_base.specs.Ascending.{Ascends}
use Rattle.palm_model.specs.Limits.{IsUpTo, IsValue}
use Rattle.palm_model.specs.Table.{IsRow}
use Rattle.palm_read.specs.Comparison.{OffsetForm, Plus, Minus, offset_of, offset_pieces}
use Rattle.palm_read.specs.Count.{TargetForm, Number, Variable, line_target, line_target_names, target_pieces}
use Rattle.palm_read.specs.Domain.{DomainForm, Interval, Members, IsLarge, IsSoundDomain, domain_of, domain_pieces, set_of}
use Rattle.palm_read.specs.Form.{ShapeForm, CompareVarForm, CompareConstForm, LinearForm, TableForm, ElementForm, CountForm, DifferForm, WithinForm, DeclareForm, AddForm}
use Rattle.palm_read.specs.Grammar.{IsProperShape, shape_pieces}
use Rattle.palm_read.specs.Limits.{HasNothing, HasNoValue, HasRepeat, IsBeyond, IsDomainInRange, IsInRange, IsShapeInRange, Repeats, names_of}
use Rattle.palm_read.specs.Linear.{TermForm, IsSoundTerm, linear_first_term, linear_later_term, linear_terms, linear_unsigned_term, signed, term_of}
use Rattle.palm_read.specs.Modes.{Allows}
use Rattle.palm_read.specs.Name.{IsNameText}
use Rattle.palm_read.specs.Piece.{Piece, Named, Mark, Integer, in_parentheses, listed, op_text}
use Rattle.palm_read.specs.Reading.{IsRead, line_of, shape_of}
use Rattle.palm_read.specs.Sound.{IsSoundShape}
use Rattle.palm_read.specs.Text.{text_of}
use Rattle.palm_read.specs.declared.line.DomainText.{DomainText}
use Rattle.palm_read.specs.declared.line.DomainText.TheVariants.{Range, Set}
use Rattle.palm_read.specs.declared.line.Line.{Line}
use Rattle.palm_read.specs.declared.line.Line.TheVariants.{Add, Var}
use Rattle.palm_read.specs.declared.line.NameTarget.{NameTarget}
use Rattle.palm_read.specs.declared.line.NameTarget.TheVariants.{Const as ConstTarget, Variable as VariableTarget}
use Rattle.palm_read.specs.declared.line.NameTerm.{NameTerm}
use Rattle.palm_read.specs.declared.line.Shape.{Shape}
use Rattle.palm_read.specs.declared.line.Shape.TheVariants.{CompareVar, CompareConst, Linear, Table, Element, Count, Differ, Within}
use Rattle.palm_read.specs.declared.mode.Mode.TheVariants.{Two}
use Rattle.palm_read.proofs.cited.AllOfBoth.{all_left, all_right}
use Rattle.palm_read.proofs.cited.PrintedParts.{HasNames}
use Rattle.palm_read.proofs.cited.ReadBack.{form_read}
use Rattle.palm_read.proofs.cited.Sets.{Rises, member_set, rises_set, same_rising, set_member}

-- ---- names among pieces

names_both : (ps qs : List Piece) → HasNames ps → HasNames qs → HasNames (ps ++ qs)
names_both [] qs h k = k
names_both (Named name ∷ ps) qs h k = (h.0, names_both ps qs h.1 k)
names_both (p ∷ ps) qs h k = names_both ps qs h k

names_later : (vs : List ℤ) → HasNames (flat_map (λ v. Mark (codes ",") ∷ Integer v ∷ []) vs)
names_later [] = tt
names_later (v ∷ vs) = names_later vs

names_listed : (vs : List ℤ) → HasNames (listed vs)
names_listed [] = tt
names_listed (v ∷ vs) = names_later vs

names_row : (vs : List ℤ) → HasNames (in_parentheses vs)
names_row vs = names_both (listed vs) (Mark (codes ")") ∷ []) (names_listed vs) tt

names_rows : (rows : List (List ℤ)) → HasNames (flat_map in_parentheses rows)
names_rows [] = tt
names_rows (row ∷ rows) = names_both (in_parentheses row) (flat_map in_parentheses rows) (names_row row) (names_rows rows)

names_named : (names : List (List ℕ)) → All IsNameText names → HasNames (map Named names)
names_named [] h = tt
names_named (name ∷ names) h = (All-head IsNameText name names h, names_named names (All-tail IsNameText name names h))

names_domain : (d : DomainForm) → HasNames (domain_pieces d)
names_domain (Interval low high) = tt
names_domain (Members vs) = names_both (listed vs) (Mark (codes "}") ∷ []) (names_listed vs) tt

-- ---- variables

rises : (vs : List ℤ) → Ascends vs → Rises vs
rises [] h = tt
rises (v ∷ vs) h = (recursion_from_All (λ w. v <ℤ w) vs h.0, rises vs h.1)

pub set_same : (vs : List ℤ) → Ascends vs → set_of vs ≡ vs
set_same vs h = same_rising (set_of vs) vs (rises_set vs) (rises vs h) (set_member vs) (member_set vs)

-- the form of a domain, and that it says the domain
abbrev domain_form : DomainText → DomainForm
domain_form (Range low high) = Interval low high
domain_form (Set vs) = Members vs

domain_same : (d : DomainText) → IsSoundDomain d → domain_of (domain_form d) ≡ d
domain_same (Range low high) h = refl
domain_same (Set vs) h = ap Set (set_same vs h.1)

domain_in_range : (d : DomainText) → IsSoundDomain d → IsDomainInRange d
domain_in_range (Range low high) h = (h.0, h.1)
domain_in_range (Set vs) h = h.2

some_value : (d : DomainText) → IsSoundDomain d → HasNoValue d → ⊥
some_value (Range low high) h less = absurd (omega (arith, ints, less, h.2))
some_value (Set vs) h none = absurd (omega (arith, h.0, ap length none))

-- a name with values reads back
pub var_read : (name : List ℕ) (domain : DomainText) → IsNameText name → IsSoundDomain domain → (IsLarge domain → ⊥) → IsRead Two (text_of (Var name domain)) (Var name domain)
var_read name domain named sound near =
    let same = domain_same domain sound in
    subst (λ (d : DomainText). IsRead Two (text_of (Var name d)) (Var name d)) same
    (form_read Two (DeclareForm name (domain_form domain)) tt tt (subst IsDomainInRange (sym same) (domain_in_range domain sound))
    (λ none. some_value domain sound (subst HasNoValue same none)) (λ h. h) (λ large. near (subst IsLarge same large)) (named, names_domain (domain_form domain)))

-- ---- the form of a constraint

abbrev minus_of : ℤ → Bool
minus_of (pos n) = false
minus_of (negsuc n) = true

abbrev size_of : ℤ → ℕ
size_of (pos n) = n
size_of (negsuc n) = suc n

abbrev offset_form : ℤ → OffsetForm
offset_form (pos n) = Plus n
offset_form (negsuc n) = Minus (suc n)

abbrev term_form : NameTerm → TermForm
term_form t = record { minus = minus_of t.factor; factor = Some (size_of t.factor); name = t.name }

abbrev target_form : NameTarget → TargetForm
target_form (ConstTarget w) = Number w
target_form (VariableTarget name) = Variable name

abbrev shape_form : Shape → ShapeForm
shape_form (CompareVar left op right offset) = CompareVarForm left op right (offset_form offset)
shape_form (CompareConst left op value) = CompareConstForm left op value
shape_form (Linear terms op bound) = LinearForm (map term_form terms) op bound
shape_form (Table vars rows) = TableForm vars rows
shape_form (Element outcome index entries) = ElementForm outcome index entries
shape_form (Count value vars op target) = CountForm value vars op (target_form target)
shape_form (Differ vars) = DifferForm vars
shape_form (Within var domain) = WithinForm var (domain_form domain)

-- ---- it says the constraint

offset_same : (z : ℤ) → offset_of (offset_form z) ≡ z
offset_same (pos n) = refl
offset_same (negsuc n) = refl

signed_same : (z : ℤ) → signed (minus_of z) (size_of z) ≡ z
signed_same (pos n) = refl
signed_same (negsuc n) = refl

terms_same : (ts : List NameTerm) → map term_of (map term_form ts) ≡ ts
terms_same [] = refl
terms_same (t ∷ ts) = rw (signed_same t.factor, terms_same ts) refl

target_same : (t : NameTarget) → line_target (target_form t) ≡ t
target_same (ConstTarget w) = refl
target_same (VariableTarget name) = refl

shape_same : (s : Shape) → IsSoundShape s → shape_of (shape_form s) ≡ s
shape_same (CompareVar left op right offset) h = ap (λ (z : ℤ). CompareVar left op right z) (offset_same offset)
shape_same (CompareConst left op value) h = refl
shape_same (Linear terms op bound) h = ap (λ (ts : List NameTerm). Linear ts op bound) (terms_same terms)
shape_same (Table vars rows) h = refl
shape_same (Element outcome index entries) h = refl
shape_same (Count value vars op target) h = ap (λ (t : NameTarget). Count value vars op t) (target_same target)
shape_same (Differ vars) h = refl
shape_same (Within var domain) h = ap (λ (d : DomainText). Within var d) (domain_same domain h)

-- ---- version 2 allows it

allowed : (name : List ℕ) (s : Shape) → Allows Two (Add name s)
allowed name (Within var domain) = refl
allowed name (CompareVar left op right offset) = tt
allowed name _ = tt

-- ---- it is a form within the limits

row_lengths : (n : ℕ) (rows : List (List ℤ)) → All (IsRow n) rows → All (λ row. length row ≡ n) rows
row_lengths n rows h = All-weaker (IsRow n) (λ (row : List ℤ). length row ≡ n) (λ row r. r.0) rows h

some_forms : (ts : List NameTerm) → 0 < length ts → 0 < length (map term_form ts)
some_forms [] h = h
some_forms (t ∷ ts) h = omega arith

proper : (s : Shape) → IsSoundShape s → IsProperShape (shape_form s)
proper (CompareVar left op right offset) h = tt
proper (CompareConst left op value) h = tt
proper (Linear terms op bound) h = (some_forms terms h.0, h.2)
proper (Table vars rows) h = (h.0, row_lengths (length vars) rows h.2)
proper (Element outcome index entries) h = tt
proper (Count value vars op target) h = h.0
proper (Differ vars) h = h
proper (Within var domain) h = tt

in_range : (s : Shape) → IsSoundShape s → IsShapeInRange s
in_range (CompareVar left op right offset) h = h
in_range (CompareConst left op value) h = h
in_range (Linear terms op bound) h = (All-weaker IsSoundTerm (λ (t : NameTerm). IsUpTo 100000 t.factor) (λ t sound. sound.1) terms h.1, h.3)
in_range (Table vars rows) h = All-weaker (IsRow (length vars)) (All IsValue) (λ row r. r.1) rows h.2
in_range (Element outcome index entries) h = h.1
in_range (Count value vars op target) h = (h.1, h.2)
in_range (Differ vars) h = tt
in_range (Within var domain) h = domain_in_range domain h

no_zero : (ts : List NameTerm) → All IsSoundTerm ts → Any (λ t. t.factor ≡ pos 0) ts → ⊥
no_zero ts h a = let sound : IsSoundTerm a.1 = subst IsSoundTerm a.3 (h a.0 a.1 a.2) in sound.0 a.4

nothing_lacks : (name : List ℕ) (s : Shape) → IsSoundShape s → HasNothing (Add name s) → ⊥
nothing_lacks name (Linear terms op bound) h lacks = no_zero terms h.1 lacks
nothing_lacks name (Table vars rows) h lacks = absurd (omega (arith, h.1, ap length lacks))
nothing_lacks name (Element outcome index entries) h lacks = absurd (omega (arith, h.0, ap length lacks))
nothing_lacks name (Within var domain) h lacks = some_value domain h lacks
nothing_lacks name _ h lacks = lacks

-- ---- its names are names

names_offset : (z : ℤ) → HasNames (offset_pieces (offset_form z))
names_offset (pos n) = tt
names_offset (negsuc n) = tt

first_name : (minus : Bool) (n : ℕ) (name : List ℕ) (more : List Piece) → IsNameText name → HasNames more → HasNames (linear_first_term minus (linear_unsigned_term (Some n) name) ++ more)
first_name true n name more t h = (t, h)
first_name false n name more t h = (t, h)

later_name : (minus : Bool) (n : ℕ) (name : List ℕ) (more : List Piece) → IsNameText name → HasNames more → HasNames (linear_later_term minus (linear_unsigned_term (Some n) name) ++ more)
later_name true n name more t h = (t, h)
later_name false n name more t h = (t, h)

abbrev later_pieces : List TermForm → List Piece
later_pieces ts = flat_map (λ u. linear_later_term u.minus (linear_unsigned_term u.factor u.name)) ts

later_names : (ts : List NameTerm) → All IsNameText (map (λ t. t.name) ts) → HasNames (later_pieces (map term_form ts))
later_names [] h = tt
later_names (t ∷ ts) h =
    later_name (minus_of t.factor) (size_of t.factor) t.name (later_pieces (map term_form ts)) (All-head IsNameText t.name (map (λ (u : NameTerm). u.name) ts) h)
    (later_names ts (All-tail IsNameText t.name (map (λ (u : NameTerm). u.name) ts) h))

names_terms : (ts : List NameTerm) → All IsNameText (map (λ t. t.name) ts) → HasNames (linear_terms (map term_form ts))
names_terms [] h = tt
names_terms (t ∷ ts) h =
    first_name (minus_of t.factor) (size_of t.factor) t.name (later_pieces (map term_form ts)) (All-head IsNameText t.name (map (λ (u : NameTerm). u.name) ts) h)
    (later_names ts (All-tail IsNameText t.name (map (λ (u : NameTerm). u.name) ts) h))

names_target : (t : NameTarget) → All IsNameText (line_target_names t) → HasNames (target_pieces (target_form t))
names_target (ConstTarget w) h = tt
names_target (VariableTarget name) h = (All-head IsNameText name [] h, tt)

names_shape : (s : Shape) → All IsNameText (names_of s) → HasNames (shape_pieces (shape_form s))
names_shape (CompareVar left op right offset) h =
    (All-head IsNameText left (right ∷ []) h, (All-head IsNameText right [] (All-tail IsNameText left (right ∷ []) h), names_offset offset))
names_shape (CompareConst left op value) h = (All-head IsNameText left [] h, tt)
names_shape (Linear terms op bound) h =
    names_both (linear_terms (map term_form terms)) (Mark (op_text op) ∷ Integer bound ∷ []) (names_terms terms h) tt
names_shape (Table vars rows) h =
    names_both (map Named vars) (Mark (codes ":") ∷ flat_map in_parentheses rows) (names_named vars h) (names_rows rows)
names_shape (Element outcome index entries) h =
    (All-head IsNameText outcome (index ∷ []) h, (All-head IsNameText index [] (All-tail IsNameText outcome (index ∷ []) h), names_row entries))
names_shape (Count value vars op target) h =
    names_both (map Named vars) (Mark (op_text op) ∷ target_pieces (target_form target)) (names_named vars (all_left IsNameText vars (line_target_names target) h))
    (names_target target (all_right IsNameText vars (line_target_names target) h))
names_shape (Differ vars) h = names_named vars h
names_shape (Within var domain) h = (All-head IsNameText var [] h, names_domain (domain_form domain))

-- a constraint with a name reads back
pub add_read : (name : List ℕ) (s : Shape) → IsNameText name → All IsNameText (names_of s) → (Repeats (names_of s) → ⊥) → IsSoundShape s → (IsBeyond (Add name s) → ⊥) → IsRead Two (text_of (Add name s)) (Add name s)
add_read name s named names once sound near =
    let form = AddForm name (shape_form s) in
    let same : line_of form ≡ Add name s = ap (λ (t : Shape). Add name t) (shape_same s sound) in
    let none : HasNothing (line_of form) → ⊥ = λ h. nothing_lacks name s sound (subst HasNothing same h) in
    let apart : HasRepeat (line_of form) → ⊥ = λ h. once (subst HasRepeat same h) in
    subst (λ (l : Line). IsRead Two (text_of l) l) same
    (form_read Two form (proper s sound) (allowed name (shape_of (shape_form s))) (subst IsInRange (sym same) (in_range s sound)) none apart (λ b. near (subst IsBeyond same b)) (named, names_shape s names))
