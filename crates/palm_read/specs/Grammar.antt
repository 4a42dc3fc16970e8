-- The grammar: which pieces each form is written with. It has the forms of both versions of the language.
use Rattle.std.specs.Prelude.{ℤ, Option, Some, None, List, [], ◌∷◌, ◌++◌, ⊤, codes}
use Rattle.palm_read.specs.Comparison.{compare_var_pieces, compare_const_pieces}
use Rattle.palm_read.specs.Count.{count_pieces, IsProperCount}
use Rattle.palm_read.specs.Differ.{differ_pieces, IsProperDiffer}
use Rattle.palm_read.specs.Domain.{domain_pieces}
use Rattle.palm_read.specs.Element.{element_pieces}
use Rattle.palm_read.specs.Form.{ShapeForm, CompareVarForm, CompareConstForm, LinearForm, TableForm, ElementForm, CountForm, DifferForm, WithinForm, Form, HeaderForm, DeclareForm, DeclareInForm, AddForm, RelaxForm, EnforceForm, RetractForm, DomainsForm, DomainOfForm, ListForm, LogForm, WhyForm, ConflictForm, MinimalConflictForm, MinimalForm, PauseForm, ResumeForm, StepForm, SolveDbtForm, SolveRepairForm, ProveForm, MinimizeForm, PreferForm, PreferNoneForm, PreferredForm, CertForm, CertConflictForm, GuideForm, GuideNoneForm, OrderForm, OrderNoneForm, DropGuideForm, DropOrderForm, QuitForm}
use Rattle.palm_read.specs.Linear.{linear_pieces, IsProperLinear}
use Rattle.palm_read.specs.Piece.{Piece, Keyword, Named, Mark, Integer, Numeral, Spells}
use Rattle.palm_read.specs.Table.{table_pieces, IsProperTable}
use Rattle.palm_read.specs.Token.{Lexeme}
use Rattle.palm_read.specs.Within.{within_pieces}

abbrev pub shape_pieces : ShapeForm → List Piece
shape_pieces (CompareVarForm left op right offset) = compare_var_pieces left op right offset
shape_pieces (CompareConstForm left op value) = compare_const_pieces left op value
shape_pieces (LinearForm terms op bound) = linear_pieces terms op bound
shape_pieces (TableForm vars rows) = table_pieces vars rows
shape_pieces (ElementForm outcome index entries) = element_pieces outcome index entries
shape_pieces (CountForm value vars op target) = count_pieces value vars op target
shape_pieces (DifferForm vars) = differ_pieces vars
shape_pieces (WithinForm var domain) = within_pieces var domain

-- "budget" INT, or nothing
abbrev pub budget_pieces : Option ℤ → List Piece
budget_pieces None = []
budget_pieces (Some n) = Keyword (codes "budget") ∷ Integer n ∷ []

abbrev pub pieces : Form → List Piece
pieces HeaderForm = Keyword (codes "palm") ∷ Numeral (codes "2") ∷ []
pieces (DeclareForm name domain) = Keyword (codes "var") ∷ Named name ∷ domain_pieces domain
pieces (DeclareInForm name universe domain) =
    Keyword (codes "var") ∷ Named name ∷ (domain_pieces universe ++ Keyword (codes "in") ∷ domain_pieces domain)
pieces (AddForm name shape) = Keyword (codes "add") ∷ Named name ∷ Mark (codes ":") ∷ shape_pieces shape
pieces (RelaxForm name) = Keyword (codes "relax") ∷ Named name ∷ []
pieces (EnforceForm name) = Keyword (codes "enforce") ∷ Named name ∷ []
pieces (RetractForm name) = Keyword (codes "retract") ∷ Named name ∷ []
pieces DomainsForm = Keyword (codes "domains") ∷ []
pieces (DomainOfForm name) = Keyword (codes "domain") ∷ Named name ∷ []
pieces ListForm = Keyword (codes "list") ∷ []
pieces LogForm = Keyword (codes "log") ∷ []
pieces (WhyForm name value) = Keyword (codes "why") ∷ Named name ∷ Integer value ∷ []
pieces ConflictForm = Keyword (codes "conflict") ∷ []
pieces MinimalConflictForm = Keyword (codes "minimal") ∷ Keyword (codes "conflict") ∷ []
pieces (MinimalForm name value) = Keyword (codes "minimal") ∷ Named name ∷ Integer value ∷ []
pieces PauseForm = Keyword (codes "pause") ∷ []
pieces ResumeForm = Keyword (codes "resume") ∷ []
pieces (StepForm number) = Keyword (codes "step") ∷ Integer number ∷ []
pieces (SolveDbtForm budget) = Keyword (codes "solve") ∷ Keyword (codes "dbt") ∷ budget_pieces budget
pieces (SolveRepairForm tabu budget) =
    Keyword (codes "solve") ∷ Keyword (codes "repair") ∷ Keyword (codes "tabu") ∷ Integer tabu
    ∷ Keyword (codes "budget") ∷ Integer budget ∷ []
pieces (ProveForm budget) = Keyword (codes "prove") ∷ Keyword (codes "budget") ∷ Integer budget ∷ []
pieces (MinimizeForm target budget) = Keyword (codes "minimize") ∷ Named target ∷ Keyword (codes "budget") ∷ Integer budget ∷ []
pieces (PreferForm name weight) = Keyword (codes "prefer") ∷ Named name ∷ Integer weight ∷ []
pieces (PreferNoneForm name) = Keyword (codes "prefer") ∷ Named name ∷ Keyword (codes "none") ∷ []
pieces PreferredForm = Keyword (codes "preferred") ∷ []
pieces (CertForm name value) = Keyword (codes "cert") ∷ Named name ∷ Integer value ∷ []
pieces CertConflictForm = Keyword (codes "cert") ∷ Keyword (codes "conflict") ∷ []
pieces (GuideForm number) = Keyword (codes "guide") ∷ Integer number ∷ []
pieces GuideNoneForm = Keyword (codes "guide") ∷ Keyword (codes "none") ∷ []
pieces (OrderForm number) = Keyword (codes "order") ∷ Integer number ∷ []
pieces OrderNoneForm = Keyword (codes "order") ∷ Keyword (codes "none") ∷ []
pieces (DropGuideForm number) = Keyword (codes "drop") ∷ Keyword (codes "guide") ∷ Integer number ∷ []
pieces (DropOrderForm number) = Keyword (codes "drop") ∷ Keyword (codes "order") ∷ Integer number ∷ []
pieces QuitForm = Keyword (codes "quit") ∷ []

-- the lists that may not be empty are not, and each row has as many entries as the table has names
abbrev pub IsProperShape : ShapeForm → Type 0
IsProperShape (CompareVarForm left op right _) = ⊤
IsProperShape (CompareConstForm left op value) = ⊤
IsProperShape (LinearForm terms op bound) = IsProperLinear terms op
IsProperShape (TableForm vars rows) = IsProperTable vars rows
IsProperShape (ElementForm outcome index entries) = ⊤
IsProperShape (CountForm value vars op target) = IsProperCount vars
IsProperShape (DifferForm vars) = IsProperDiffer vars
IsProperShape (WithinForm var domain) = ⊤

abbrev pub IsProper : Form → Type 0
IsProper (AddForm name shape) = IsProperShape shape
IsProper _ = ⊤

-- the tokens are those of this form
pub record IsForm (tokens : List Lexeme) (form : Form) : Type 0 where
  pub proper : IsProper form
  pub spells : Spells tokens (pieces form)
