-- Readers of the forms of a line. That these readers read just the forms of the grammar is proved of them.
use Rattle.std.specs.Prelude.{ℕ, ℤ, ◌&&◌, Option, Some, None, List, codes}
use Rattle.std.specs.Str.{bytes_eq}
use Rattle.palm_read.specs.declared.tokens.TokenKind.TheVariants.{Digits}
use Rattle.palm_read.specs.Domain.{DomainForm}
use Rattle.palm_read.specs.Form.{Form, HeaderForm, DeclareForm, DeclareInForm, AddForm, RelaxForm, EnforceForm, RetractForm, DomainsForm, DomainOfForm, ListForm, LogForm, WhyForm, ConflictForm, MinimalConflictForm, MinimalForm, PauseForm, ResumeForm, StepForm, SolveDbtForm, SolveRepairForm, ProveForm, MinimizeForm, PreferForm, PreferNoneForm, PreferredForm, CertForm, CertConflictForm, GuideForm, GuideNoneForm, OrderForm, OrderNoneForm, DropGuideForm, DropOrderForm, QuitForm}
use Rattle.palm_read.specs.Token.{Lexeme}
use Rattle.palm_read.specs.Reader.Steps.{Reading, ◌>>=◌, when, choose, is_empty, behind, keyword_at, mark_at, name_at, integer_at}
use Rattle.palm_read.specs.Reader.Shapes.{domain_at, shape_at}

-- the digit of the header
unfoldable pub header_at : List Lexeme → Reading Form
header_at tokens = do
  rest ← behind Digits (codes "2") tokens
  Some (HeaderForm, rest)

-- the domain behind a universe and `in`
unfoldable pub declare_in_at : List ℕ → DomainForm → List Lexeme → Reading Form
declare_in_at name universe tokens = do
  domain ← domain_at tokens
  Some (DeclareInForm name universe domain.0, domain.1)

unfoldable pub declare_at : List Lexeme → Reading Form
declare_at tokens = do
  name ← name_at tokens
  domain ← domain_at name.1
  when (keyword_at (codes "in") domain.1)
      (declare_in_at name.0 domain.0)
      (Some (DeclareForm name.0 domain.0, domain.1))

unfoldable pub add_at : List Lexeme → Reading Form
add_at tokens = do
  name ← name_at tokens
  rest ← mark_at (codes ":") name.1
  shape ← shape_at rest
  Some (AddForm name.0 shape.0, shape.1)

-- a form with a name alone
unfoldable pub named_at : (List ℕ → Form) → List Lexeme → Reading Form
named_at form tokens = do
  name ← name_at tokens
  Some (form name.0, name.1)

-- a form with a number alone
unfoldable pub numbered_at : (ℤ → Form) → List Lexeme → Reading Form
numbered_at form tokens = do
  number ← integer_at tokens
  Some (form number.0, number.1)

-- a form with a name and a value
unfoldable pub pair_at : (List ℕ → ℤ → Form) → List Lexeme → Reading Form
pair_at form tokens = do
  name ← name_at tokens
  value ← integer_at name.1
  Some (form name.0 value.0, value.1)

-- the word `conflict` alone, or a name and a value
unfoldable pub query_at : Form → (List ℕ → ℤ → Form) → List Lexeme → Reading Form
query_at conflict form tokens = do
  name ← name_at tokens
  choose (bytes_eq name.0 (codes "conflict") && is_empty name.1)
      (Some (conflict, name.1))
      (do
        value ← integer_at name.1
        Some (form name.0 value.0, value.1))

-- the word `none`, or a number
unfoldable pub choice_at : Form → (ℤ → Form) → List Lexeme → Reading Form
choice_at none form tokens = when (keyword_at (codes "none") tokens) (λ rest. Some (none, rest)) (numbered_at form tokens)

unfoldable pub drop_at : List Lexeme → Reading Form
drop_at tokens =
    when (keyword_at (codes "guide") tokens) (numbered_at DropGuideForm)
    (when (keyword_at (codes "order") tokens) (numbered_at DropOrderForm)
    None)

-- a search's budget, or no limit
unfoldable pub dbt_at : List Lexeme → Reading Form
dbt_at tokens = when (keyword_at (codes "budget") tokens)
    (λ rest. do
      budget ← integer_at rest
      Some (SolveDbtForm (Some budget.0), budget.1))
    (Some (SolveDbtForm None, tokens))

unfoldable pub repair_at : List Lexeme → Reading Form
repair_at tokens = do
  first ← keyword_at (codes "tabu") tokens
  tabu ← integer_at first
  second ← keyword_at (codes "budget") tabu.1
  budget ← integer_at second
  Some (SolveRepairForm tabu.0 budget.0, budget.1)

unfoldable pub solve_at : List Lexeme → Reading Form
solve_at tokens =
    when (keyword_at (codes "dbt") tokens) dbt_at
    (when (keyword_at (codes "repair") tokens) repair_at
    None)

-- the budget of a search for a proof
unfoldable pub prove_at : List Lexeme → Reading Form
prove_at tokens = do
  rest ← keyword_at (codes "budget") tokens
  budget ← integer_at rest
  Some (ProveForm budget.0, budget.1)

-- the variable whose least value is searched for, and the search's budget
unfoldable pub minimize_at : List Lexeme → Reading Form
minimize_at tokens = do
  target ← name_at tokens
  rest ← keyword_at (codes "budget") target.1
  budget ← integer_at rest
  Some (MinimizeForm target.0 budget.0, budget.1)

-- the constraint that has a weight, and this weight or none
unfoldable pub prefer_at : List Lexeme → Reading Form
prefer_at tokens = do
  name ← name_at tokens
  choice_at (PreferNoneForm name.0) (PreferForm name.0) name.1

-- the forms of one word
unfoldable pub bare_at : List Lexeme → Reading Form
bare_at tokens =
    when (keyword_at (codes "domains") tokens) (λ rest. Some (DomainsForm, rest))
    (when (keyword_at (codes "list") tokens) (λ rest. Some (ListForm, rest))
    (when (keyword_at (codes "log") tokens) (λ rest. Some (LogForm, rest))
    (when (keyword_at (codes "conflict") tokens) (λ rest. Some (ConflictForm, rest))
    (when (keyword_at (codes "pause") tokens) (λ rest. Some (PauseForm, rest))
    (when (keyword_at (codes "resume") tokens) (λ rest. Some (ResumeForm, rest))
    (when (keyword_at (codes "preferred") tokens) (λ rest. Some (PreferredForm, rest))
    (when (keyword_at (codes "quit") tokens) (λ rest. Some (QuitForm, rest))
    None)))))))

-- the forms of searches, of guides and orders, and of one word
unfoldable pub search_form_at : List Lexeme → Reading Form
search_form_at tokens =
    when (keyword_at (codes "solve") tokens) solve_at
    (when (keyword_at (codes "prove") tokens) prove_at
    (when (keyword_at (codes "minimize") tokens) minimize_at
    (when (keyword_at (codes "guide") tokens) (choice_at GuideNoneForm GuideForm)
    (when (keyword_at (codes "order") tokens) (choice_at OrderNoneForm OrderForm)
    (when (keyword_at (codes "drop") tokens) drop_at
    (bare_at tokens))))))

unfoldable pub line_at : List Lexeme → Reading Form
line_at tokens =
    when (keyword_at (codes "var") tokens) declare_at
    (when (keyword_at (codes "add") tokens) add_at
    (when (keyword_at (codes "relax") tokens) (named_at RelaxForm)
    (when (keyword_at (codes "enforce") tokens) (named_at EnforceForm)
    (when (keyword_at (codes "retract") tokens) (named_at RetractForm)
    (when (keyword_at (codes "prefer") tokens) prefer_at
    (when (keyword_at (codes "domain") tokens) (named_at DomainOfForm)
    (when (keyword_at (codes "why") tokens) (pair_at WhyForm)
    (when (keyword_at (codes "minimal") tokens) (query_at MinimalConflictForm MinimalForm)
    (when (keyword_at (codes "cert") tokens) (query_at CertConflictForm CertForm)
    (when (keyword_at (codes "step") tokens) (numbered_at StepForm)
    (when (keyword_at (codes "palm") tokens) header_at
    (search_form_at tokens))))))))))))

-- the form of all tokens of a line
unfoldable pub form_at : List Lexeme → Option Form
form_at tokens = do
  form ← line_at tokens
  choose (is_empty form.1) (Some form.0) None
