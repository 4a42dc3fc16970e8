-- What the tokens of a line say, before any limit is looked at: numbers are of any size, and lists are as written.
use Rattle.std.specs.Prelude.{ℕ, ℤ, List, Option}
use Rattle.palm_model.specs.declared.constraint.Op.{Op}
use Rattle.palm_read.specs.Comparison.{OffsetForm}
use Rattle.palm_read.specs.Count.{TargetForm}
use Rattle.palm_read.specs.Domain.{DomainForm}
use Rattle.palm_read.specs.Linear.{TermForm}

-- a constraint
pub data ShapeForm : Type 0 where
  CompareVarForm : (left : List ℕ) (op : Op) (right : List ℕ) (offset : OffsetForm) → ShapeForm
  CompareConstForm : (left : List ℕ) (op : Op) (value : ℤ) → ShapeForm
  LinearForm : (terms : List TermForm) (op : Op) (bound : ℤ) → ShapeForm
  TableForm : (vars : List (List ℕ)) (rows : List (List ℤ)) → ShapeForm
  ElementForm : (outcome : List ℕ) (index : List ℕ) (entries : List ℤ) → ShapeForm
  CountForm : (value : ℤ) (vars : List (List ℕ)) (op : Op) (target : TargetForm) → ShapeForm
  DifferForm : (vars : List (List ℕ)) → ShapeForm
  WithinForm : (var : List ℕ) (domain : DomainForm) → ShapeForm

-- a line
pub data Form : Type 0 where
  HeaderForm : Form
  DeclareForm : (name : List ℕ) (domain : DomainForm) → Form
  DeclareInForm : (name : List ℕ) (universe domain : DomainForm) → Form
  AddForm : (name : List ℕ) (shape : ShapeForm) → Form
  RelaxForm : (name : List ℕ) → Form
  EnforceForm : (name : List ℕ) → Form
  RetractForm : (name : List ℕ) → Form
  DomainsForm : Form
  DomainOfForm : (name : List ℕ) → Form
  ListForm : Form
  LogForm : Form
  WhyForm : (name : List ℕ) (value : ℤ) → Form
  ConflictForm : Form
  MinimalConflictForm : Form
  MinimalForm : (name : List ℕ) (value : ℤ) → Form
  PauseForm : Form
  ResumeForm : Form
  StepForm : (number : ℤ) → Form
  SolveDbtForm : (budget : Option ℤ) → Form
  SolveRepairForm : (tabu budget : ℤ) → Form
  ProveForm : (budget : ℤ) → Form
  MinimizeForm : (target : List ℕ) (budget : ℤ) → Form
  PreferForm : (name : List ℕ) (weight : ℤ) → Form
  PreferNoneForm : (name : List ℕ) → Form
  PreferredForm : Form
  CertForm : (name : List ℕ) (value : ℤ) → Form
  CertConflictForm : Form
  GuideForm : (number : ℤ) → Form
  GuideNoneForm : Form
  OrderForm : (number : ℤ) → Form
  OrderNoneForm : Form
  DropGuideForm : (number : ℤ) → Form
  DropOrderForm : (number : ℤ) → Form
  QuitForm : Form
