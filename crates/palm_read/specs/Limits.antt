-- The limits of the language on a line: which numbers it may have, which lists may not be empty, which names may not stand
-- twice, and how many of each there may be. And the numbers of a form as they are written.
use Rattle.std.specs.Prelude.{◌≡◌, ℕ, pos, ◌<◌, ◌<ℤ◌, List, [], ◌∷◌, ◌++◌, ◌⊎◌, length, map, All, Any, Contains, option_to_list, ⊤}
use Rattle.palm_model.specs.Limits.{IsUpTo, IsValue}
use Rattle.palm_model.specs.declared.limits.TheConstants.{GREATEST_BOUND, GREATEST_FACTOR, GREATEST_OFFSET, MOST_SCOPE}
use Rattle.palm_read.specs.Bounds.{Bounded, IsFromOneTo, a_value, from_one_to}
use Rattle.palm_read.specs.Comparison.{offset_numbers, compare_const_numbers}
use Rattle.palm_read.specs.Count.{IsSoundTarget, count_numbers, line_target_names}
use Rattle.palm_read.specs.Domain.{domain_numbers, IsLarge}
use Rattle.palm_read.specs.Element.{element_numbers, HasManyEntries}
use Rattle.palm_read.specs.Form.{ShapeForm, CompareVarForm, CompareConstForm, LinearForm, TableForm, ElementForm, CountForm, DifferForm, WithinForm, Form, DeclareForm, DeclareInForm, AddForm, WhyForm, MinimalForm, StepForm, SolveDbtForm, SolveRepairForm, ProveForm, MinimizeForm, PreferForm, CertForm, GuideForm, OrderForm, DropGuideForm, DropOrderForm}
use Rattle.palm_read.specs.Linear.{linear_numbers}
use Rattle.palm_read.specs.Table.{table_numbers, HasManyTableRows}
use Rattle.palm_read.specs.declared.limits.TheConstants.{GREATEST_NUMBER, GREATEST_TABU, GREATEST_WEIGHT, NO_BUDGET}
use Rattle.palm_read.specs.declared.line.DomainText.{DomainText}
use Rattle.palm_read.specs.declared.line.DomainText.TheVariants.{Range, Set}
use Rattle.palm_read.specs.declared.line.Line.{Line}
use Rattle.palm_read.specs.declared.line.Line.TheVariants.{Var, VarIn, Add, Why, Minimal, Step, SolveDbt, SolveRepair, Prove, Minimize, Prefer, Cert, Guide, Order, DropGuide, DropOrder}
use Rattle.palm_read.specs.declared.line.Shape.{Shape}
use Rattle.palm_read.specs.declared.line.Shape.TheVariants.{CompareVar, CompareConst, Linear, Table, Element, Count, Differ, Within}

-- the values of a domain are values of the language
abbrev pub IsDomainInRange : DomainText → Type 0
IsDomainInRange (Range low high) = IsValue low × IsValue high
IsDomainInRange (Set values) = All IsValue values

-- each number of a constraint is within its bounds
abbrev pub IsShapeInRange : Shape → Type 0
IsShapeInRange (CompareVar left op right offset) = IsUpTo GREATEST_OFFSET offset
IsShapeInRange (CompareConst left op value) = IsValue value
IsShapeInRange (Linear terms op bound) = All (λ t. IsUpTo GREATEST_FACTOR t.factor) terms × IsUpTo GREATEST_BOUND bound
IsShapeInRange (Table vars rows) = All (All IsValue) rows
IsShapeInRange (Element outcome index entries) = All IsValue entries
IsShapeInRange (Count value vars op target) = IsValue value × IsSoundTarget target
IsShapeInRange (Differ vars) = ⊤
IsShapeInRange (Within var domain) = IsDomainInRange domain

-- each number of the line is within its bounds
abbrev pub IsInRange : Line → Type 0
IsInRange (Var name domain) = IsDomainInRange domain
IsInRange (VarIn name universe domain) = IsDomainInRange universe × IsDomainInRange domain
IsInRange (Add name shape) = IsShapeInRange shape
IsInRange (Why name value) = IsValue value
IsInRange (Minimal name value) = IsValue value
IsInRange (Cert name value) = IsValue value
IsInRange (Step number) = IsFromOneTo GREATEST_NUMBER number
IsInRange (SolveDbt budget) = IsFromOneTo NO_BUDGET budget
IsInRange (SolveRepair tabu budget) = IsFromOneTo GREATEST_TABU tabu × IsFromOneTo NO_BUDGET budget
IsInRange (Prove budget) = IsFromOneTo NO_BUDGET budget
IsInRange (Minimize target budget) = IsFromOneTo NO_BUDGET budget
IsInRange (Prefer name weight) = IsFromOneTo GREATEST_WEIGHT weight
IsInRange (Guide number) = IsFromOneTo GREATEST_NUMBER number
IsInRange (Order number) = IsFromOneTo GREATEST_NUMBER number
IsInRange (DropGuide number) = IsFromOneTo GREATEST_NUMBER number
IsInRange (DropOrder number) = IsFromOneTo GREATEST_NUMBER number
IsInRange _ = ⊤

-- the domain has no value
abbrev pub HasNoValue : DomainText → Type 0
HasNoValue (Range low high) = high <ℤ low
HasNoValue (Set values) = values ≡ []

-- a domain, a table or a list of entries has nothing in it, or a coefficient is 0
abbrev pub HasNothing : Line → Type 0
HasNothing (Var name domain) = HasNoValue domain
HasNothing (VarIn name universe domain) = HasNoValue universe ⊎ HasNoValue domain
HasNothing (Add name (Linear terms op bound)) = Any (λ t. t.factor ≡ pos 0) terms
HasNothing (Add name (Table vars rows)) = rows ≡ []
HasNothing (Add name (Element outcome index entries)) = entries ≡ []
HasNothing (Add name (Within var domain)) = HasNoValue domain
HasNothing _ = ⊥

-- some name stands again behind its first place
abbrev pub Repeats : List (List ℕ) → Type 0
Repeats [] = ⊥
Repeats (name ∷ names) = Contains names name ⊎ Repeats names

-- the variables' names of a constraint, in the order of its text
abbrev pub names_of : Shape → List (List ℕ)
names_of (CompareVar left op right offset) = left ∷ right ∷ []
names_of (CompareConst left op value) = left ∷ []
names_of (Linear terms op bound) = map (λ t. t.name) terms
names_of (Table vars rows) = vars
names_of (Element outcome index entries) = outcome ∷ index ∷ []
names_of (Count value vars op target) = vars ++ line_target_names target
names_of (Differ vars) = vars
names_of (Within var domain) = var ∷ []

-- a variable stands twice in the constraint
abbrev pub HasRepeat : Line → Type 0
HasRepeat (Add name shape) = Repeats (names_of shape)
HasRepeat _ = ⊥

-- more rows, entries or values than there may be
abbrev pub HasManyRows : Shape → Type 0
HasManyRows (Table vars rows) = HasManyTableRows rows
HasManyRows (Element outcome index entries) = HasManyEntries entries
HasManyRows (Within var domain) = IsLarge domain
HasManyRows _ = ⊥

-- the line breaks a limit on how many there may be, which the line alone shows
abbrev pub IsBeyond : Line → Type 0
IsBeyond (Var name domain) = IsLarge domain
IsBeyond (VarIn name universe domain) = IsLarge universe ⊎ IsLarge domain
IsBeyond (Add name shape) = (MOST_SCOPE < length (names_of shape)) ⊎ HasManyRows shape
IsBeyond _ = ⊥

-- ---- as it is written

-- the numbers of a constraint
abbrev pub shape_numbers : ShapeForm → List Bounded
shape_numbers (CompareVarForm left op right offset) = offset_numbers offset
shape_numbers (CompareConstForm left op value) = compare_const_numbers value
shape_numbers (LinearForm terms op bound) = linear_numbers terms bound
shape_numbers (TableForm vars rows) = table_numbers rows
shape_numbers (ElementForm outcome index entries) = element_numbers entries
shape_numbers (CountForm value vars op target) = count_numbers value target
shape_numbers (DifferForm vars) = []
shape_numbers (WithinForm var domain) = domain_numbers domain

-- the numbers of a form
abbrev pub numbers : Form → List Bounded
numbers (DeclareForm name domain) = domain_numbers domain
numbers (DeclareInForm name universe domain) = domain_numbers universe ++ domain_numbers domain
numbers (AddForm name shape) = shape_numbers shape
numbers (WhyForm name value) = a_value value ∷ []
numbers (MinimalForm name value) = a_value value ∷ []
numbers (CertForm name value) = a_value value ∷ []
numbers (StepForm number) = from_one_to GREATEST_NUMBER number ∷ []
numbers (SolveDbtForm budget) = map (from_one_to NO_BUDGET) (option_to_list budget)
numbers (SolveRepairForm tabu budget) = from_one_to GREATEST_TABU tabu ∷ from_one_to NO_BUDGET budget ∷ []
numbers (ProveForm budget) = from_one_to NO_BUDGET budget ∷ []
numbers (MinimizeForm target budget) = from_one_to NO_BUDGET budget ∷ []
numbers (PreferForm name weight) = from_one_to GREATEST_WEIGHT weight ∷ []
numbers (GuideForm number) = from_one_to GREATEST_NUMBER number ∷ []
numbers (OrderForm number) = from_one_to GREATEST_NUMBER number ∷ []
numbers (DropGuideForm number) = from_one_to GREATEST_NUMBER number ∷ []
numbers (DropOrderForm number) = from_one_to GREATEST_NUMBER number ∷ []
numbers _ = []
