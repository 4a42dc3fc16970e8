-- What is known of a line: whether it ends the session, its tabu length, its budget, and that a line that is too long says nothing.
use Rattle.std.proofs.Common.{◌≡◌, ℕ, ◌<◌, ◌≤◌, List, length, inl, inr, refl, sym, subst}
use Rattle.palm_base.proofs.cited.Members.{Known, known_like}
use Rattle.palm_read.specs.Form.{Form, ProveForm, SolveRepairForm}
use Rattle.palm_read.specs.Limits.{IsInRange}
use Rattle.palm_read.specs.Reading.{IsRead, IsRefusedBy, a_comment, a_form, line_of}
use Rattle.palm_read.specs.declared.limits.TheConstants.{MOST_LINE_BYTES}
use Rattle.palm_read.specs.declared.line.Line.{Line}
use Rattle.palm_read.specs.declared.line.Line.TheVariants.{Prove, Quit, SolveRepair}
use Rattle.palm_read.specs.declared.mode.Mode.{Mode}
use Rattle.palm_read.specs.declared.mode.Mode.TheVariants.{One}
use Rattle.palm_read.specs.declared.parse.LineError.TheVariants.{Bytes, NoMemory}
use Rattle.palm_read.proofs.cited.Parsing.{one_reading, read_not_refused, each_answered, long_refused}

is_quit : (line : Line) → Known (line ≡ Quit)
is_quit Quit = inl refl
is_quit _ = inr (λ e. cc)

-- the tabu length that a line gives is above 0
abbrev pub GivesTabu : Line → Type 0
GivesTabu (SolveRepair tabu budget) = 0 < tabu
GivesTabu _ = Unit {0}

form_tabu : (form : Form) → IsInRange (line_of form) → GivesTabu (line_of form)
form_tabu (SolveRepairForm tabu budget) h = h.0.0
form_tabu _ h = tt

pub tabu_read : (mode : Mode) (bytes : List ℕ) (line : Line) → IsRead mode bytes line → GivesTabu line
tabu_read mode bytes line (a_comment c) = tt
tabu_read mode bytes line (a_form form p f _ r none once e) = subst GivesTabu (sym e) (form_tabu form r)

-- the budget that a line gives fits a counter
abbrev pub GivesBudget : Line → Type 0
GivesBudget (Prove budget) = budget ≤ 18446744073709551615
GivesBudget _ = Unit {0}

form_budget : (form : Form) → IsInRange (line_of form) → GivesBudget (line_of form)
form_budget (ProveForm budget) h = h.1
form_budget _ h = tt

pub budget_read : (mode : Mode) (bytes : List ℕ) (line : Line) → IsRead mode bytes line → GivesBudget line
budget_read mode bytes line (a_comment c) = tt
budget_read mode bytes line (a_form form p f _ r none once e) = subst GivesBudget (sym e) (form_budget form r)

-- whether the bytes say `quit`
pub quit_known : (bytes : List ℕ) → Known (IsRead One bytes Quit)
quit_known bytes = elim (each_answered One bytes) [
  | inl r ↦ known_like (λ e. subst (IsRead One bytes) e r.1) (λ q. one_reading One One bytes r.0 Quit r.1 q) (is_quit r.0)
  | inr e ↦ inr (λ q. e.1 (read_not_refused One bytes Quit e.0 q e.2))
]

-- a line that is too long is refused, and says nothing
pub long_bytes : (mode : Mode) (bytes : List ℕ) → MOST_LINE_BYTES < length bytes → IsRefusedBy mode bytes Bytes
long_bytes mode bytes long = long_refused bytes long

pub long_unread : (mode : Mode) (bytes : List ℕ) (line : Line) → MOST_LINE_BYTES < length bytes → IsRead mode bytes line → ⊥
long_unread mode bytes line long r = let e : Bytes ≡ NoMemory = read_not_refused mode bytes line Bytes r (long_bytes mode bytes long) in cc
