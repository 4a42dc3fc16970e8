-- What a line says, and when it is refused by its text alone.
use Rattle.std.specs.Prelude.{◌≡◌, ℕ, ℤ, Option, Some, None, Result, Ok, Err, List, ⊤}
use Rattle.palm_read.specs.Bytes.{IsComment, IsPlain}
use Rattle.palm_read.specs.Comparison.{compare_var_shape, compare_const_shape}
use Rattle.palm_read.specs.Count.{count_shape}
use Rattle.palm_read.specs.Differ.{differ_shape}
use Rattle.palm_read.specs.Domain.{domain_of, count_in}
use Rattle.palm_read.specs.Element.{element_shape}
use Rattle.palm_read.specs.Form.{ShapeForm, CompareVarForm, CompareConstForm, LinearForm, TableForm, ElementForm, CountForm, DifferForm, WithinForm, Form, HeaderForm, DeclareForm, DeclareInForm, AddForm, RelaxForm, EnforceForm, RetractForm, DomainsForm, DomainOfForm, ListForm, LogForm, WhyForm, ConflictForm, MinimalConflictForm, MinimalForm, PauseForm, ResumeForm, StepForm, SolveDbtForm, SolveRepairForm, ProveForm, MinimizeForm, PreferForm, PreferNoneForm, PreferredForm, CertForm, CertConflictForm, GuideForm, GuideNoneForm, OrderForm, OrderNoneForm, DropGuideForm, DropOrderForm, QuitForm}
use Rattle.palm_read.specs.Grammar.{IsForm}
use Rattle.palm_read.specs.Limits.{IsInRange, HasNothing, HasRepeat}
use Rattle.palm_read.specs.Linear.{linear_shape}
use Rattle.palm_read.specs.Modes.{Allows}
use Rattle.palm_read.specs.Table.{table_shape}
use Rattle.palm_read.specs.Token.{tokens_of}
use Rattle.palm_read.specs.Within.{within_shape}
use Rattle.palm_read.specs.declared.limits.TheConstants.{NO_BUDGET}
use Rattle.palm_read.specs.declared.line.Line.{Line}
use Rattle.palm_read.specs.declared.line.Line.TheVariants.{Comment, Header, Var, VarIn, Add, Relax, Enforce, Retract, Domains, Domain, List as ListLine, Log, Why, Conflict, MinimalConflict, Minimal, Pause, Resume, Step, SolveDbt, SolveRepair, Prove, Minimize, Prefer, PreferNone, Preferred, Cert, CertConflict, Guide, GuideNone, Order, OrderNone, DropGuide, DropOrder, Quit}
use Rattle.palm_read.specs.declared.line.Shape.{Shape}
use Rattle.palm_read.specs.declared.mode.Mode.{Mode}
use Rattle.palm_read.specs.declared.parse.LineError.{LineError}
use Rattle.palm_read.specs.declared.parse.LineError.TheVariants.{Bytes, Form as NoForm, Range as OutOfRange, Empty, Repeated, NoMemory}

abbrev pub shape_of : ShapeForm → Shape
shape_of (CompareVarForm left op right offset) = compare_var_shape left op right offset
shape_of (CompareConstForm left op value) = compare_const_shape left op value
shape_of (LinearForm terms op bound) = linear_shape terms op bound
shape_of (TableForm vars rows) = table_shape vars rows
shape_of (ElementForm outcome index entries) = element_shape outcome index entries
shape_of (CountForm value vars op target) = count_shape value vars op target
shape_of (DifferForm vars) = differ_shape vars
shape_of (WithinForm var domain) = within_shape var domain

abbrev pub budget_of : Option ℤ → ℕ
budget_of None = NO_BUDGET
budget_of (Some z) = count_in z

-- what the form says
abbrev pub line_of : Form → Line
line_of HeaderForm = Header
line_of (DeclareForm name domain) = Var name (domain_of domain)
line_of (DeclareInForm name universe domain) = VarIn name (domain_of universe) (domain_of domain)
line_of (AddForm name shape) = Add name (shape_of shape)
line_of (RelaxForm name) = Relax name
line_of (EnforceForm name) = Enforce name
line_of (RetractForm name) = Retract name
line_of DomainsForm = Domains
line_of (DomainOfForm name) = Domain name
line_of ListForm = ListLine
line_of LogForm = Log
line_of (WhyForm name value) = Why name value
line_of ConflictForm = Conflict
line_of MinimalConflictForm = MinimalConflict
line_of (MinimalForm name value) = Minimal name value
line_of PauseForm = Pause
line_of ResumeForm = Resume
line_of (StepForm number) = Step (count_in number)
line_of (SolveDbtForm budget) = SolveDbt (budget_of budget)
line_of (SolveRepairForm tabu budget) = SolveRepair (count_in tabu) (count_in budget)
line_of (ProveForm budget) = Prove (count_in budget)
line_of (MinimizeForm target budget) = Minimize target (count_in budget)
line_of (PreferForm name weight) = Prefer name (count_in weight)
line_of (PreferNoneForm name) = PreferNone name
line_of PreferredForm = Preferred
line_of (CertForm name value) = Cert name value
line_of CertConflictForm = CertConflict
line_of (GuideForm number) = Guide (count_in number)
line_of GuideNoneForm = GuideNone
line_of (OrderForm number) = Order (count_in number)
line_of OrderNoneForm = OrderNone
line_of (DropGuideForm number) = DropGuide (count_in number)
line_of (DropOrderForm number) = DropOrder (count_in number)
line_of QuitForm = Quit

-- the bytes are a comment, or of a form that says a line which the mode allows, whose numbers are in range, that has nothing
-- empty and no name twice
pub data IsRead : Mode → List ℕ → Line → Type 0 where
  a_comment : {mode : Mode} {bytes : List ℕ} → IsComment bytes → IsRead mode bytes Comment
  a_form : {mode : Mode} {bytes : List ℕ} {line : Line} → (form : Form) → IsPlain bytes → IsForm (tokens_of bytes) form → Allows mode (line_of form) → IsInRange (line_of form) → (HasNothing (line_of form) → ⊥) → (HasRepeat (line_of form) → ⊥) → line ≡ line_of form → IsRead mode bytes line

-- the line is too long, or is no comment and has a byte that may not stand in it
pub record HasBadBytes (bytes : List ℕ) : Type 0 where
  pub no_comment : IsComment bytes → ⊥
  pub not_plain : IsPlain bytes → ⊥

-- the first refusal that the bytes alone meet
abbrev pub IsRefusedBy : Mode → List ℕ → LineError → Type 0
IsRefusedBy mode bytes Bytes = HasBadBytes bytes
IsRefusedBy mode bytes NoForm = IsPlain bytes × ((form : Form) → IsForm (tokens_of bytes) form → Allows mode (line_of form) → ⊥)
IsRefusedBy mode bytes OutOfRange =
    IsPlain bytes × (form : Form) × IsForm (tokens_of bytes) form × Allows mode (line_of form) × (IsInRange (line_of form) → ⊥)
IsRefusedBy mode bytes Empty =
    IsPlain bytes × (form : Form) × IsForm (tokens_of bytes) form × Allows mode (line_of form) × IsInRange (line_of form)
    × HasNothing (line_of form)
IsRefusedBy mode bytes Repeated =
    IsPlain bytes × (form : Form) × IsForm (tokens_of bytes) form × Allows mode (line_of form) × IsInRange (line_of form)
    × (HasNothing (line_of form) → ⊥) × HasRepeat (line_of form)
IsRefusedBy mode bytes NoMemory = ⊤

-- what reading answers: the line, or the first refusal, unless memory ran out
abbrev pub IsReadAs : Mode → List ℕ → Result Line LineError → Type 0
IsReadAs mode bytes (Ok line) = IsRead mode bytes line
IsReadAs mode bytes (Err error) = IsRefusedBy mode bytes error
