-- What a line that was read asks for, and which requests are admitted.
use Rattle.std.specs.Prelude.{◌≡◌, ℕ, ℤ, ◌<◌, ⊤, Bool, true, false, List, Contains, IfSome, length, None, Some, Result, Ok, Err, slice_get}
use Rattle.palm_base.specs.First.{IsFirst, IsNone}
use Rattle.palm_base.specs.declared.terms.Pair.{Pair}
use Rattle.palm_book.specs.Named.{IsPair, IsVariable, Resolves}
use Rattle.palm_book.specs.declared.book.BookCon.{BookCon}
use Rattle.palm_lang.specs.declared.reply.Refusal.{Refusal}
use Rattle.palm_lang.specs.declared.reply.Refusal.TheVariants.{E4, E12}
use Rattle.palm_model.specs.Constraint.{IsWellFormed}
use Rattle.palm_model.specs.Domains.{Has}
use Rattle.palm_model.specs.declared.constraint.Con.{Con}
use Rattle.palm_read.specs.Domain.{IsLarge, IsSoundDomain, values_in}
use Rattle.palm_read.specs.Name.{IsNameText}
use Rattle.palm_read.specs.declared.line.DomainText.{DomainText}
use Rattle.palm_read.specs.declared.line.Line.{Line}
use Rattle.palm_read.specs.declared.line.Line.TheVariants.{Comment, Header, Var, VarIn, Add as AddLine, Relax as RelaxLine, Enforce as EnforceLine, Retract as RetractLine, Domains as DomainsLine, Domain as DomainLine, List as ListLine, Log as LogLine, Why as WhyLine, Conflict as ConflictLine, Minimal as MinimalLine, MinimalConflict as MinimalConflictLine, Cert as CertLine, CertConflict as CertConflictLine, Pause as PauseLine, Resume as ResumeLine, Step as StepLine, SolveDbt, SolveRepair, Prove, Minimize, Prefer as PreferLine, PreferNone, Preferred as PreferredLine, Guide, GuideNone, Order, OrderNone, DropGuide as DropGuideLine, DropOrder as DropOrderLine, Quit as QuitLine}
use Rattle.palm_session.specs.declared.request.Procedure.{Procedure}
use Rattle.palm_session.specs.declared.request.Procedure.TheVariants.{Dbt, Repair, Proof, Least}
use Rattle.palm_session.specs.declared.request.Question.{Question}
use Rattle.palm_session.specs.declared.request.Question.TheVariants.{Domains, Domain, List as Listed, Log, Why, Conflict, Minimal, MinimalConflict, Cert, CertConflict, Preferred}
use Rattle.palm_session.specs.declared.request.Request.{Request}
use Rattle.palm_session.specs.declared.request.Request.TheVariants.{Nothing as NothingAsked, Header as HeaderAsked, Declare, DeclareIn, Add, Relax, Enforce, Retract, Ask, Pause, Resume, Step, Solve, ChooseGuide, DropGuide, ChooseOrder, DropOrder, Prefer, Quit}
use Rattle.palm_session.specs.State.{SessionState, HasVariable, HasConstraint}
use Rattle.palm_session.specs.Effects.{next_within, with_variable}
use Rattle.palm_session.specs.Refusals.{IsFullOfConstraints, IsFullOfVariables, IsUndeclared, IsUnknown, Meets, in_order}

-- ---- what lines ask for

-- the constraint at the place has the name
pub record IsPlaceOf (s : SessionState) (name : List ℕ) (place : ℕ) : Type 0 where
  pub constraint : BookCon
  pub at : slice_get s.book.constraints place ≡ Some constraint
  pub named : constraint.name ≡ name

-- the line asks for the request, of the variables, the pairs and the constraints that its names stand for
abbrev pub Requests : SessionState → Line → Request → Type 0
Requests s Comment request = request ≡ NothingAsked
Requests s Header request = request ≡ HeaderAsked
Requests s (Var name domain) request = request ≡ Declare name domain
Requests s (VarIn name universe domain) request = request ≡ DeclareIn name universe domain
Requests s (AddLine name shape) request = (con : Con) × Resolves s.book.variables shape con × (request ≡ Add name con)
Requests s (RelaxLine name) request = (place : ℕ) × IsPlaceOf s name place × (request ≡ Relax place)
Requests s (EnforceLine name) request = (place : ℕ) × IsPlaceOf s name place × (request ≡ Enforce place)
Requests s (RetractLine name) request = (place : ℕ) × IsPlaceOf s name place × (request ≡ Retract place)
Requests s DomainsLine request = request ≡ Ask Domains
Requests s (DomainLine name) request = (x : ℕ) × IsVariable s.book.variables name x × (request ≡ Ask (Domain x))
Requests s ListLine request = request ≡ Ask Listed
Requests s LogLine request = request ≡ Ask Log
Requests s (WhyLine name value) request = (pair : Pair) × IsPair s.book.variables name value pair × (request ≡ Ask (Why pair))
Requests s ConflictLine request = request ≡ Ask Conflict
Requests s (MinimalLine name value) request = (pair : Pair) × IsPair s.book.variables name value pair × (request ≡ Ask (Minimal pair))
Requests s MinimalConflictLine request = request ≡ Ask MinimalConflict
Requests s (CertLine name value) request = (pair : Pair) × IsPair s.book.variables name value pair × (request ≡ Ask (Cert pair))
Requests s CertConflictLine request = request ≡ Ask CertConflict
Requests s PauseLine request = request ≡ Pause
Requests s ResumeLine request = request ≡ Resume
Requests s (StepLine count) request = request ≡ Step count
Requests s (SolveDbt budget) request = request ≡ Solve (Dbt budget)
Requests s (SolveRepair tabu budget) request = request ≡ Solve (Repair tabu budget)
Requests s (Prove budget) request = request ≡ Solve (Proof budget)
Requests s (Minimize name budget) request = (x : ℕ) × IsVariable s.book.variables name x × (request ≡ Solve (Least x budget))
Requests s (PreferLine name weight) request = (place : ℕ) × IsPlaceOf s name place × (request ≡ Prefer place (Some weight))
Requests s (PreferNone name) request = (place : ℕ) × IsPlaceOf s name place × (request ≡ Prefer place None)
Requests s PreferredLine request = request ≡ Ask Preferred
Requests s (Guide number) request = request ≡ ChooseGuide (Some number)
Requests s GuideNone request = request ≡ ChooseGuide None
Requests s (Order number) request = request ≡ ChooseOrder (Some number)
Requests s OrderNone request = request ≡ ChooseOrder None
Requests s (DropGuideLine number) request = request ≡ DropGuide number
Requests s (DropOrderLine number) request = request ≡ DropOrder number
Requests s QuitLine request = request ≡ Quit

-- the line meets no refusal, and asks for the request
pub record IsAdmitted (s : SessionState) (line : Line) (request : Request) : Type 0 where
  pub none : IsNone (Meets s line) in_order
  pub requests : Requests s line request

-- the line declares or adds something
abbrev pub IsNew : Line → Type 0
IsNew (Var name domain) = Unit {0}
IsNew (VarIn name universe domain) = Unit {0}
IsNew (AddLine name shape) = Unit {0}
IsNew _ = ⊥

-- a line is admitted with its request, or refused by the first refusal that it meets
abbrev pub Admission : SessionState → Line → Result Request Refusal → Type 0
Admission s line (Ok request) = IsAdmitted s line request
Admission s line (Err refusal) = IsFirst (Meets s line) in_order refusal

-- the pair that a name and a value stand for, or the refusal of what is not declared
abbrev pub FindsPair : SessionState → List ℕ → ℤ → Result Pair Refusal → Type 0
FindsPair s name value (Ok pair) = IsPair s.book.variables name value pair × (IsUndeclared s name value → ⊥)
FindsPair s name value (Err E4) = IsUnknown s name
FindsPair s name value (Err E12) = HasVariable s name × IsUndeclared s name value
FindsPair s name value (Err _) = ⊥

-- ---- requests that can be obeyed

-- the name is free, the domain is one, and there is room for one more variable
pub record CanDeclare (s : SessionState) (name : List ℕ) (domain : DomainText) : Type 0 where
  pub text : IsNameText name
  pub free : HasVariable s name → ⊥
  pub sound : IsSoundDomain domain
  pub small : IsLarge domain → ⊥
  pub room : IsFullOfVariables s → ⊥

-- the name is free, the constraint is well formed, and there is room for one more, and a number
pub record CanAdd (s : SessionState) (name : List ℕ) (con : Con) : Type 0 where
  pub text : IsNameText name
  pub free : HasConstraint s name → ⊥
  pub formed : IsWellFormed (length s.book.variables) con
  pub room : IsFullOfConstraints s → ⊥

-- the variable can be declared, the domain is one, and then its constraint can be added under the same name
pub record CanDeclareIn (s : SessionState) (name : List ℕ) (universe domain : DomainText) : Type 0 where
  pub declare : CanDeclare s name universe
  pub sound : IsSoundDomain domain
  pub small : IsLarge domain → ⊥
  pub add : CanAdd (with_variable s name (values_in universe)) name (next_within s domain)

-- a constraint stands at the place, and is active or relaxed
pub record StandsAt (s : SessionState) (place : ℕ) (active : Bool) : Type 0 where
  pub constraint : BookCon
  pub at : slice_get s.book.constraints place ≡ Some constraint
  pub is : constraint.active ≡ active

-- what a question asks for is declared
abbrev pub CanAsk : SessionState → Question → Type 0
CanAsk s (Domain x) = x < length s.book.variables
CanAsk s (Why pair) = Has s.engine.initial pair.var pair.value
CanAsk s (Minimal pair) = Has s.engine.initial pair.var pair.value
CanAsk s (Cert pair) = Has s.engine.initial pair.var pair.value
CanAsk s _ = ⊤

-- the tabu length of a search is above 0, and the variable that is to have its least value is declared
abbrev pub CanSearch : SessionState → Procedure → Type 0
CanSearch s (Dbt budget) = ⊤
CanSearch s (Repair tabu budget) = 0 < tabu
CanSearch s (Proof budget) = ⊤
CanSearch s (Least target budget) = target < length s.book.variables

-- how many turns a search may take
abbrev pub budget_of : Procedure → ℕ
budget_of (Dbt budget) = budget
budget_of (Repair tabu budget) = budget
budget_of (Proof budget) = budget
budget_of (Least target budget) = budget

-- the request can be obeyed in what is held
abbrev pub Admits : SessionState → Request → Type 0
Admits s (Declare name domain) = CanDeclare s name domain
Admits s (DeclareIn name universe domain) = CanDeclareIn s name universe domain
Admits s (Add name con) = CanAdd s name con
Admits s (Relax place) = StandsAt s place true
Admits s (Enforce place) = StandsAt s place false
Admits s (Retract place) = place < length s.book.constraints
Admits s (Ask question) = CanAsk s question
Admits s Pause = s.paused ≡ false
Admits s Resume = s.paused ≡ true
Admits s (Step count) = s.paused ≡ true
Admits s (Solve by) = CanSearch s by
Admits s (ChooseGuide chosen) = IfSome chosen (Contains s.guides)
Admits s (DropGuide number) = Contains s.guides number
Admits s (ChooseOrder chosen) = IfSome chosen (Contains s.orders)
Admits s (DropOrder number) = Contains s.orders number
Admits s (Prefer place weight) = place < length s.book.constraints
Admits s _ = ⊤
