-- What the code answers where a reader reads, and how far it holds the numbers that were read.
use Rattle.std.specs.Prelude.{◌≡◌, ℕ, suc, ℤ, pos, negsuc, neg_ℤ, ◌+◌, nat_le, min, Bool, true, false, Option, Some, None, Result, Ok, Err, List, map, option_map, if◌then◌else◌, ⊤}
use Rattle.palm_read.specs.declared.parse.LineError.{LineError}
use Rattle.palm_read.specs.declared.parse.LineError.TheVariants.{Form as NoForm, NoMemory}
use Rattle.palm_read.specs.declared.line.Line.{Line}
use Rattle.palm_read.specs.Token.{Lexeme}
use Rattle.palm_read.specs.Reader.Steps.{Reading}
use Rattle.palm_read.specs.Reading.{line_of}
use Rattle.palm_model.specs.declared.limits.TheConstants.{GREATEST_VALUE, GREATEST_OFFSET, GREATEST_FACTOR, GREATEST_BOUND}
use Rattle.palm_read.specs.declared.limits.TheConstants.{GREATEST_NUMBER, GREATEST_TABU, GREATEST_WEIGHT, NO_BUDGET}
use Rattle.palm_read.specs.Comparison.{OffsetForm, NoOffset, Plus, Minus}
use Rattle.palm_read.specs.Count.{TargetForm, Number, Variable}
use Rattle.palm_read.specs.Domain.{DomainForm, Interval, Members}
use Rattle.palm_read.specs.Form.{ShapeForm, CompareVarForm, CompareConstForm, LinearForm, TableForm, ElementForm, CountForm, DifferForm, WithinForm, Form, DeclareForm, DeclareInForm, AddForm, WhyForm, MinimalForm, StepForm, SolveDbtForm, SolveRepairForm, ProveForm, MinimizeForm, PreferForm, CertForm, GuideForm, OrderForm, DropGuideForm, DropOrderForm}
use Rattle.palm_read.specs.Linear.{TermForm}

-- what was taken from the front, or nothing, and then nothing changed
abbrev pub Takes : {A : Type 0} → Option A → List Lexeme → List Lexeme → Reading A → Type 0
Takes None old new reading = (reading ≡ None) × (new ≡ old)
Takes (Some x) old new reading = reading ≡ Some (x, new)

-- whether it was taken from the front
abbrev pub TakesIf : Bool → List Lexeme → List Lexeme → Option (List Lexeme) → Type 0
TakesIf false old new reading = (reading ≡ None) × (new ≡ old)
TakesIf true old new reading = reading ≡ Some new

-- it was taken from the front, or no form goes on so
abbrev pub Passes : {A : Type 0} → Result A LineError → List Lexeme → Option (List Lexeme) → Type 0
Passes (Ok _) new reading = reading ≡ Some new
Passes (Err NoForm) new reading = reading ≡ None
Passes (Err _) new reading = ⊥

-- the code holds what was read, and has taken its tokens
pub record Holds {F X : Type 0} (view : F → X) (x : X) (new : List Lexeme) (reading : Reading F) : Type 0 where
  pub form : F
  pub read : reading ≡ Some (form, new)
  pub is : x ≡ view form

-- what the code answers: what was read, or that no form goes on so, unless memory ran out
abbrev pub Gives : {F X : Type 0} → (F → X) → Result X LineError → List Lexeme → Reading F → Type 0
Gives view (Ok x) new reading = Holds view x new reading
Gives view (Err NoForm) new reading = reading ≡ None
Gives view (Err NoMemory) new reading = ⊤
Gives view (Err _) new reading = ⊥

-- the same of a reading of all tokens
pub record HoldsAll {F X : Type 0} (view : F → X) (x : X) (reading : Option F) : Type 0 where
  pub form : F
  pub read : reading ≡ Some form
  pub is : x ≡ view form

abbrev pub GivesAll : {F X : Type 0} → (F → X) → Result X LineError → Option F → Type 0
GivesAll view (Ok x) reading = HoldsAll view x reading
GivesAll view (Err NoForm) reading = reading ≡ None
GivesAll view (Err NoMemory) reading = ⊤
GivesAll view (Err _) reading = ⊥

-- ---- numbers as far as the code holds them

-- the number, or the cap where it is above that, with its sign
abbrev pub held : ℕ → ℤ → ℤ
held cap (pos n) = pos (min n cap)
held cap (negsuc n) = neg_ℤ (pos (min (suc n) cap))

-- a number from 1 to the most, or 0 in place of any other
abbrev pub counted : ℕ → ℤ → ℤ
counted most (pos n) = pos (if nat_le n most then n else 0)
counted most (negsuc n) = pos 0

abbrev pub held_value : ℤ → ℤ
held_value v = held (GREATEST_VALUE + 1) v

abbrev pub held_domain : DomainForm → DomainForm
held_domain (Interval low high) = Interval (held_value low) (held_value high)
held_domain (Members values) = Members (map held_value values)

abbrev pub held_offset : OffsetForm → OffsetForm
held_offset NoOffset = NoOffset
held_offset (Plus n) = Plus (min n (GREATEST_OFFSET + 1))
held_offset (Minus n) = Minus (min n (GREATEST_OFFSET + 1))

abbrev pub held_term : TermForm → TermForm
held_term t = record t { factor = option_map (λ n. min n (GREATEST_FACTOR + 1)) t.factor }

abbrev pub held_target : TargetForm → TargetForm
held_target (Number value) = Number (held_value value)
held_target (Variable name) = Variable name

abbrev pub held_shape : ShapeForm → ShapeForm
held_shape (CompareVarForm left op right k) = CompareVarForm left op right (held_offset k)
held_shape (CompareConstForm left op value) = CompareConstForm left op (held_value value)
held_shape (LinearForm terms op bound) = LinearForm (map held_term terms) op (held (GREATEST_BOUND + 1) bound)
held_shape (TableForm vars rows) = TableForm vars (map (map held_value) rows)
held_shape (ElementForm outcome index entries) = ElementForm outcome index (map held_value entries)
held_shape (CountForm value vars op target) = CountForm (held_value value) vars op (held_target target)
held_shape (DifferForm vars) = DifferForm vars
held_shape (WithinForm var domain) = WithinForm var (held_domain domain)

abbrev pub held_form : Form → Form
held_form (DeclareForm name domain) = DeclareForm name (held_domain domain)
held_form (DeclareInForm name universe domain) = DeclareInForm name (held_domain universe) (held_domain domain)
held_form (AddForm name shape) = AddForm name (held_shape shape)
held_form (WhyForm name value) = WhyForm name (held_value value)
held_form (MinimalForm name value) = MinimalForm name (held_value value)
held_form (CertForm name value) = CertForm name (held_value value)
held_form (StepForm number) = StepForm (counted GREATEST_NUMBER number)
held_form (SolveDbtForm budget) = SolveDbtForm (option_map (counted NO_BUDGET) budget)
held_form (SolveRepairForm tabu budget) = SolveRepairForm (counted GREATEST_TABU tabu) (counted NO_BUDGET budget)
held_form (ProveForm budget) = ProveForm (counted NO_BUDGET budget)
held_form (MinimizeForm target budget) = MinimizeForm target (counted NO_BUDGET budget)
held_form (PreferForm name weight) = PreferForm name (counted GREATEST_WEIGHT weight)
held_form (GuideForm number) = GuideForm (counted GREATEST_NUMBER number)
held_form (OrderForm number) = OrderForm (counted GREATEST_NUMBER number)
held_form (DropGuideForm number) = DropGuideForm (counted GREATEST_NUMBER number)
held_form (DropOrderForm number) = DropOrderForm (counted GREATEST_NUMBER number)
held_form form = form

-- what the code makes of a form
abbrev pub held_line : Form → Line
held_line form = line_of (held_form form)
