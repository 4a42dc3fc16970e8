-- The text of a line: one space between words.
use Rattle.std.specs.Prelude.{ℕ, ◌==◌, List, [], ◌∷◌, codes, decimal, if◌then◌else◌}
use Rattle.std.specs.Fmt.{signed_decimal}
use Rattle.palm_read.specs.Comparison.{compare_var_words, compare_const_words}
use Rattle.palm_read.specs.Count.{count_words}
use Rattle.palm_read.specs.Differ.{differ_words}
use Rattle.palm_read.specs.Domain.{domain_text}
use Rattle.palm_read.specs.Element.{element_words}
use Rattle.palm_read.specs.Linear.{linear_words}
use Rattle.palm_read.specs.Table.{table_words}
use Rattle.palm_read.specs.Within.{within_words}
use Rattle.palm_read.specs.Words.{spaced}
use Rattle.palm_read.specs.declared.limits.TheConstants.{NO_BUDGET}
use Rattle.palm_read.specs.declared.line.Line.{Line}
use Rattle.palm_read.specs.declared.line.Line.TheVariants.{Comment, Header, Var, VarIn, Add, Relax, Enforce, Retract, Domains, Domain, List as ListLine, Log, Why, Conflict, MinimalConflict, Minimal, Pause, Resume, Step, SolveDbt, SolveRepair, Prove, Minimize, Prefer, PreferNone, Preferred, Cert, CertConflict, Guide, GuideNone, Order, OrderNone, DropGuide, DropOrder, Quit}
use Rattle.palm_read.specs.declared.line.Shape.{Shape}
use Rattle.palm_read.specs.declared.line.Shape.TheVariants.{CompareVar, CompareConst, Linear, Table, Element, Count, Differ, Within}

-- the words of a constraint
abbrev pub shape_words : Shape → List (List ℕ)
shape_words (CompareVar left op right offset) = compare_var_words left op right offset
shape_words (CompareConst left op value) = compare_const_words left op value
shape_words (Linear terms op bound) = linear_words terms op bound
shape_words (Table vars rows) = table_words vars rows
shape_words (Element outcome index entries) = element_words outcome index entries
shape_words (Count value vars op target) = count_words value vars op target
shape_words (Differ vars) = differ_words vars
shape_words (Within var domain) = within_words var domain

-- the words of a line; a comment has none
abbrev pub line_words : Line → List (List ℕ)
line_words Comment = []
line_words Header = codes "palm" ∷ codes "2" ∷ []
line_words (Var name domain) = codes "var" ∷ name ∷ domain_text domain ∷ []
line_words (VarIn name universe domain) = codes "var" ∷ name ∷ domain_text universe ∷ codes "in" ∷ domain_text domain ∷ []
line_words (Add name shape) = codes "add" ∷ name ∷ codes ":" ∷ shape_words shape
line_words (Relax name) = codes "relax" ∷ name ∷ []
line_words (Enforce name) = codes "enforce" ∷ name ∷ []
line_words (Retract name) = codes "retract" ∷ name ∷ []
line_words Domains = codes "domains" ∷ []
line_words (Domain name) = codes "domain" ∷ name ∷ []
line_words ListLine = codes "list" ∷ []
line_words Log = codes "log" ∷ []
line_words (Why name value) = codes "why" ∷ name ∷ signed_decimal value ∷ []
line_words Conflict = codes "conflict" ∷ []
line_words MinimalConflict = codes "minimal" ∷ codes "conflict" ∷ []
line_words (Minimal name value) = codes "minimal" ∷ name ∷ signed_decimal value ∷ []
line_words Pause = codes "pause" ∷ []
line_words Resume = codes "resume" ∷ []
line_words (Step number) = codes "step" ∷ decimal number ∷ []
line_words (SolveDbt budget) =
    codes "solve" ∷ codes "dbt" ∷ (if budget == NO_BUDGET then [] else codes "budget" ∷ decimal budget ∷ [])
line_words (SolveRepair tabu budget) =
    codes "solve" ∷ codes "repair" ∷ codes "tabu" ∷ decimal tabu ∷ codes "budget" ∷ decimal budget ∷ []
line_words (Prove budget) = codes "prove" ∷ codes "budget" ∷ decimal budget ∷ []
line_words (Minimize target budget) = codes "minimize" ∷ target ∷ codes "budget" ∷ decimal budget ∷ []
line_words (Prefer name weight) = codes "prefer" ∷ name ∷ decimal weight ∷ []
line_words (PreferNone name) = codes "prefer" ∷ name ∷ codes "none" ∷ []
line_words Preferred = codes "preferred" ∷ []
line_words (Cert name value) = codes "cert" ∷ name ∷ signed_decimal value ∷ []
line_words CertConflict = codes "cert" ∷ codes "conflict" ∷ []
line_words (Guide number) = codes "guide" ∷ decimal number ∷ []
line_words GuideNone = codes "guide" ∷ codes "none" ∷ []
line_words (Order number) = codes "order" ∷ decimal number ∷ []
line_words OrderNone = codes "order" ∷ codes "none" ∷ []
line_words (DropGuide number) = codes "drop" ∷ codes "guide" ∷ decimal number ∷ []
line_words (DropOrder number) = codes "drop" ∷ codes "order" ∷ decimal number ∷ []
line_words Quit = codes "quit" ∷ []

-- the text of a line
abbrev pub text_of : Line → List ℕ
text_of line = spaced (line_words line)
