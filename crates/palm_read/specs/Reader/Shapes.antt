-- Readers of domains and of constraints, kind by kind.
use Rattle.std.specs.Prelude.{ℕ, Bool, true, false, Option, Some, None, List, ◌∷◌, length, codes}
use Rattle.palm_model.specs.declared.constraint.Op.{Op}
use Rattle.palm_model.specs.declared.constraint.Op.TheVariants.{Lt, Gt}
use Rattle.palm_read.specs.declared.tokens.TokenKind.TheVariants.{Digits}
use Rattle.palm_read.specs.Comparison.{OffsetForm, NoOffset, Plus, Minus}
use Rattle.palm_read.specs.Count.{TargetForm, Number, Variable}
use Rattle.palm_read.specs.Domain.{DomainForm, Interval, Members}
use Rattle.palm_read.specs.Form.{ShapeForm, CompareVarForm, CompareConstForm, LinearForm, TableForm, ElementForm, CountForm, DifferForm, WithinForm}
use Rattle.palm_read.specs.Linear.{TermForm}
use Rattle.palm_read.specs.Piece.{digits_number}
use Rattle.palm_read.specs.Token.{Lexeme}
use Rattle.palm_read.specs.Reader.Steps.{Reading, ◌>>=◌, when, choose, token_at, keyword_at, mark_at, name_at, natural_at, integer_at, op_at}
use Rattle.palm_read.specs.Reader.Lists.{many_at, names_at, values_at, next_row}

unfoldable pub interval_at : List Lexeme → Reading DomainForm
interval_at tokens = do
  low ← integer_at tokens
  rest ← mark_at (codes "..") low.1
  high ← integer_at rest
  Some (Interval low.0 high.0, high.1)

unfoldable pub domain_at : List Lexeme → Reading DomainForm
domain_at tokens = when (mark_at (codes "{") tokens)
    (λ rest. do
      values ← values_at (codes "}") rest
      Some (Members values.0, values.1))
    (interval_at tokens)

-- ---- comparison

unfoldable pub offset_at : List Lexeme → Reading OffsetForm
offset_at tokens = when (mark_at (codes "+") tokens)
    (λ rest. do
      n ← natural_at rest
      Some (Plus n.0, n.1))
    (when (mark_at (codes "-") tokens)
    (λ rest. do
      n ← natural_at rest
      Some (Minus n.0, n.1))
    (Some (NoOffset, tokens)))

-- what stands behind the name on the left
unfoldable pub comparison_at : List ℕ → List Lexeme → Reading ShapeForm
comparison_at left tokens = do
  op ← op_at tokens
  when (name_at op.1)
      (λ right. do
        offset ← offset_at right.1
        Some (CompareVarForm left op.0 right.0 offset.0, offset.1))
      (do
        value ← integer_at op.1
        Some (CompareConstForm left op.0 value.0, value.1))

-- ---- within

-- what stands behind the name and `in`
unfoldable pub within_at : List ℕ → List Lexeme → Reading ShapeForm
within_at var tokens = do
  domain ← domain_at tokens
  Some (WithinForm var domain.0, domain.1)

-- a constraint that begins with a name
unfoldable pub of_name_at : List Lexeme → Reading ShapeForm
of_name_at tokens = do
  name ← name_at tokens
  when (keyword_at (codes "in") name.1) (within_at name.0) (comparison_at name.0 name.1)

-- ---- linear

unfoldable pub linear_term_at : Bool → List Lexeme → Reading TermForm
linear_term_at minus tokens = when (token_at Digits tokens)
    (λ digits. do
      rest ← mark_at (codes "*") digits.1
      name ← name_at rest
      Some (record { minus = minus; factor = Some (digits_number digits.0); name = name.0 }, name.1))
    (do
      name ← name_at tokens
      Some (record { minus = minus; factor = None; name = name.0 }, name.1))

-- `+` or `-` and a term, where such a sign is in front
unfoldable pub linear_next_term : List Lexeme → Reading (Option TermForm)
linear_next_term tokens = when (mark_at (codes "+") tokens)
    (λ rest. do
      term ← linear_term_at false rest
      Some (Some term.0, term.1))
    (when (mark_at (codes "-") tokens)
    (λ rest. do
      term ← linear_term_at true rest
      Some (Some term.0, term.1))
    (Some (None, tokens)))

unfoldable pub linear_first_term_at : List Lexeme → Reading TermForm
linear_first_term_at tokens = when (mark_at (codes "-") tokens) (λ rest. linear_term_at true rest) (linear_term_at false tokens)

unfoldable pub linear_terms_at : List Lexeme → Reading (List TermForm)
linear_terms_at tokens = do
  first ← linear_first_term_at tokens
  others ← many_at linear_next_term first.1
  Some (first.0 ∷ others.0, others.1)

abbrev pub is_linear_op : Op → Bool
is_linear_op Lt = false
is_linear_op Gt = false
is_linear_op _ = true

unfoldable pub linear_at : List Lexeme → Reading ShapeForm
linear_at tokens = do
  terms ← linear_terms_at tokens
  op ← op_at terms.1
  choose (is_linear_op op.0)
      (do
        bound ← integer_at op.1
        Some (LinearForm terms.0 op.0 bound.0, bound.1))
      None

-- ---- table

unfoldable pub table_at : List Lexeme → Reading ShapeForm
table_at tokens = do
  vars ← names_at 1 tokens
  rest ← mark_at (codes ":") vars.1
  rows ← many_at (next_row (length vars.0)) rest
  Some (TableForm vars.0 rows.0, rows.1)

-- ---- element

unfoldable pub element_at : List Lexeme → Reading ShapeForm
element_at tokens = do
  outcome ← name_at tokens
  index ← name_at outcome.1
  rest ← mark_at (codes "(") index.1
  entries ← values_at (codes ")") rest
  Some (ElementForm outcome.0 index.0 entries.0, entries.1)

-- ---- count

unfoldable pub target_at : List Lexeme → Reading TargetForm
target_at tokens = when (name_at tokens)
    (λ name. Some (Variable name.0, name.1))
    (do
      value ← integer_at tokens
      Some (Number value.0, value.1))

unfoldable pub count_at : List Lexeme → Reading ShapeForm
count_at tokens = do
  value ← integer_at tokens
  vars ← names_at 1 value.1
  op ← op_at vars.1
  target ← target_at op.1
  Some (CountForm value.0 vars.0 op.0 target.0, target.1)

-- ---- differ

unfoldable pub differ_at : List Lexeme → Reading ShapeForm
differ_at tokens = do
  vars ← names_at 2 tokens
  Some (DifferForm vars.0, vars.1)

-- ---- all kinds

unfoldable pub shape_at : List Lexeme → Reading ShapeForm
shape_at tokens =
    when (keyword_at (codes "sum") tokens) linear_at
    (when (keyword_at (codes "table") tokens) table_at
    (when (keyword_at (codes "element") tokens) element_at
    (when (keyword_at (codes "count") tokens) count_at
    (when (keyword_at (codes "differ") tokens) differ_at
    (of_name_at tokens)))))
