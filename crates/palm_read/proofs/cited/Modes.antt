-- Version 1 stays as it is in version 2, and at the head of a text.
use Rattle.std.proofs.Common.{◌≡◌, ℕ, List, refl, sym, ◌∙◌, subst}
use Rattle.palm_read.specs.Form.{Form}
use Rattle.palm_read.specs.Grammar.{IsForm}
use Rattle.palm_read.specs.Limits.{IsInRange, HasNothing, HasRepeat}
use Rattle.palm_read.specs.Modes.{Allows}
use Rattle.palm_read.specs.Reading.{line_of, IsRead, a_comment, a_form, IsRefusedBy}
use Rattle.palm_read.specs.Token.{tokens_of}
use Rattle.palm_read.specs.declared.line.Line.{Line}
use Rattle.palm_read.specs.declared.line.Line.TheVariants.{Header, VarIn, Add, Prove, Minimize, Prefer, PreferNone, Preferred}
use Rattle.palm_read.specs.declared.line.Shape.TheVariants.{Within}
use Rattle.palm_read.specs.declared.mode.Mode.{Mode}
use Rattle.palm_read.specs.declared.mode.Mode.TheVariants.{First, One}
use Rattle.palm_read.specs.declared.parse.LineError.{LineError}
use Rattle.palm_read.specs.declared.parse.LineError.TheVariants.{Bytes, Form as NoForm, Range as OutOfRange, Empty, Repeated, NoMemory}

-- what version 1 allows every mode allows
allowed_everywhere : (mode : Mode) (line : Line) → Allows One line → Allows mode line
allowed_everywhere mode Header a = absurd cc
allowed_everywhere mode (VarIn name universe domain) a = absurd cc
allowed_everywhere mode (Add name (Within var domain)) a = absurd cc
allowed_everywhere mode (Add name shape) a = tt
allowed_everywhere mode (Prove budget) a = absurd cc
allowed_everywhere mode (Minimize target budget) a = absurd cc
allowed_everywhere mode (Prefer name weight) a = absurd cc
allowed_everywhere mode (PreferNone name) a = absurd cc
allowed_everywhere mode Preferred a = absurd cc
allowed_everywhere mode _ a = tt

-- the first mode allows the header beside, and nothing more
allowed_in_one : (line : Line) → Allows First line → (line ≡ Header → ⊥) → Allows One line
allowed_in_one Header a other = absurd (other refl)
allowed_in_one (VarIn name universe domain) a other = absurd cc
allowed_in_one (Add name (Within var domain)) a other = absurd cc
allowed_in_one (Add name shape) a other = tt
allowed_in_one (Prove budget) a other = absurd cc
allowed_in_one (Minimize target budget) a other = absurd cc
allowed_in_one (Prefer name weight) a other = absurd cc
allowed_in_one (PreferNone name) a other = absurd cc
allowed_in_one Preferred a other = absurd cc
allowed_in_one _ a other = tt

pub read_everywhere : (mode : Mode) (bytes : List ℕ) (line : Line) → IsRead One bytes line → IsRead mode bytes line
read_everywhere mode bytes line (a_comment c) = a_comment c
read_everywhere mode bytes line (a_form form plain is allowed range some once e) =
    a_form form plain is (allowed_everywhere mode (line_of form) allowed) range some once e

pub read_in_one : (bytes : List ℕ) (line : Line) → IsRead First bytes line → (line ≡ Header → ⊥) → IsRead One bytes line
read_in_one bytes line (a_comment c) other = a_comment c
read_in_one bytes line (a_form form plain is allowed range some once e) other =
    a_form form plain is (allowed_in_one (line_of form) allowed (λ header. other (e ∙ header))) range some once e

-- the header has no number, lacks nothing and repeats nothing
pub refused_in_one : (bytes : List ℕ) (error : LineError) → IsRefusedBy First bytes error → IsRefusedBy One bytes error
refused_in_one bytes Bytes r = r
refused_in_one bytes NoForm r = (r.0, λ form is allowed. r.1 form is (allowed_everywhere First (line_of form) allowed))
refused_in_one bytes OutOfRange r =
    (r.0, r.1, r.2, allowed_in_one (line_of r.1) r.3 (λ header. r.4 (subst IsInRange (sym header) tt)), r.4)
refused_in_one bytes Empty r =
    (r.0, r.1, r.2, allowed_in_one (line_of r.1) r.3 (λ header. subst HasNothing header r.5), r.4, r.5)
refused_in_one bytes Repeated r =
    (r.0, r.1, r.2, allowed_in_one (line_of r.1) r.3 (λ header. subst HasRepeat header r.6), r.4, r.5, r.6)
refused_in_one bytes NoMemory r = tt

pub refused_in_first : (bytes : List ℕ) (error : LineError) → (IsRead First bytes Header → ⊥) → IsRefusedBy One bytes error → IsRefusedBy First bytes error
refused_in_first bytes Bytes other r = r
refused_in_first bytes NoForm other r =
    (r.0, λ form is allowed. r.1 form is (allowed_in_one (line_of form) allowed (λ header. other (a_header form is (sym header)))))
  where
    a_header : (form : Form) → IsForm (tokens_of bytes) form → Header ≡ line_of form → IsRead First bytes Header
    a_header form is e =
        a_form form r.0 is (subst (Allows First) e refl) (subst IsInRange e tt) (λ n. subst HasNothing (sym e) n) (λ t. subst HasRepeat (sym e) t) e
refused_in_first bytes OutOfRange other r = (r.0, r.1, r.2, allowed_everywhere First (line_of r.1) r.3, r.4)
refused_in_first bytes Empty other r = (r.0, r.1, r.2, allowed_everywhere First (line_of r.1) r.3, r.4, r.5)
refused_in_first bytes Repeated other r = (r.0, r.1, r.2, allowed_everywhere First (line_of r.1) r.3, r.4, r.5, r.6)
refused_in_first bytes NoMemory other r = tt
