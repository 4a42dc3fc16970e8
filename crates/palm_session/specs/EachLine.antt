-- What holds of each line of a run: what is told in reply to it, and what a refused one leaves.
use Rattle.std.specs.Prelude.{◌≡◌, ℕ, ⊤, true, false, List, [], ◌∷◌, ◌++◌, codes}
use Rattle.palm_model.specs.Domains.{Domains, values_of}
use Rattle.palm_book.specs.Named.{IsVariable}
use Rattle.palm_lang.specs.Reply.{domain_line, fixed_text}
use Rattle.palm_lang.specs.declared.reply.Fixed.TheVariants.{Contradiction, Done, Paused}
use Rattle.palm_read.specs.Reading.{IsRead}
use Rattle.palm_read.specs.declared.line.Line.{Line}
use Rattle.palm_read.specs.declared.line.Line.TheVariants.{Var, VarIn, Add, Relax, Enforce, Retract, Resume, Domains as DomainsLine, Domain as DomainLine, Why, Conflict, Minimal, MinimalConflict, Cert, CertConflict, SolveDbt, SolveRepair, Prove, Minimize, Preferred}
use Rattle.palm_session.specs.Answers.{domains_text}
use Rattle.palm_session.specs.Led.{HasRequest}
use Rattle.palm_session.specs.Modes.{heard, misheard}
use Rattle.palm_session.specs.Replies.{Run}
use Rattle.palm_session.specs.Requests.{IsAdmitted}
use Rattle.palm_session.specs.State.{SessionState, AreDomains, IsContradiction}
use Rattle.palm_session.specs.Told.{ToldAccepted, ToldCert, ToldCertConflict, ToldConflict, ToldLeast, ToldMinimal, ToldMinimalConflict, ToldPreferred, ToldProof, ToldSearch, ToldWhy}
use Rattle.palm_session.specs.declared.request.Procedure.TheVariants.{Dbt, Repair}
use Rattle.palm_session.specs.declared.request.Request.{Request}

-- this holds of each line of the run: of what is held before it, of the line, of its reply, and of what is held after it
abbrev pub EachLine : (SessionState → List ℕ → List ℕ → SessionState → Type 0)
    → (s : SessionState) (lines : List (List ℕ)) (replies : List ℕ) (t : SessionState) → Run s lines replies t → Type 0
EachLine P s [] replies t run = ⊤
EachLine P s (line ∷ lines) replies t run = P s line run.0 run.2 × EachLine P run.2 lines run.1 t run.5

-- ---- what is told

-- what is told of a change, by what is held after it: `contradiction` where some greatest closed domain is empty while
-- filtering does not wait, and else `ok`
pub data ToldChange (t : SessionState) (reply : List ℕ) : Type 0 where
  change_contradiction : IsContradiction t → reply ≡ fixed_text Contradiction → ToldChange t reply
  change_done : (IsContradiction t → ⊥) → reply ≡ fixed_text Done → ToldChange t reply

-- what is told of all domains: a word where its condition holds, and else the greatest closed ones
pub data ToldDomains (s : SessionState) (reply : List ℕ) : Type 0 where
  domains_paused : s.paused ≡ true → reply ≡ fixed_text Paused → ToldDomains s reply
  domains_contradiction : IsContradiction s → reply ≡ fixed_text Contradiction → ToldDomains s reply
  domains_listed : (d : Domains) → s.paused ≡ false → (IsContradiction s → ⊥) → AreDomains s d → reply ≡ domains_text s.book.variables d
      → ToldDomains s reply

-- the same of one domain
pub data ToldDomain (s : SessionState) (name reply : List ℕ) : Type 0 where
  domain_paused : s.paused ≡ true → reply ≡ fixed_text Paused → ToldDomain s name reply
  domain_contradiction : IsContradiction s → reply ≡ fixed_text Contradiction → ToldDomain s name reply
  domain_listed : (d : Domains) (x : ℕ) → s.paused ≡ false → (IsContradiction s → ⊥) → AreDomains s d → IsVariable s.book.variables name x
      → reply ≡ domain_line name (values_of d x) → ToldDomain s name reply

-- what is told of a variable that is to have its least value
abbrev pub ToldLeastOf : SessionState → List ℕ → ℕ → List ℕ → Type 0
ToldLeastOf s name budget reply = (target : ℕ) × IsVariable s.book.variables name target × ToldLeast s target budget reply

-- what is told of a line, by what is held before and after it
abbrev pub ToldOf : SessionState → Line → List ℕ → SessionState → Type 0
ToldOf s (Var name domain) reply t = ToldChange t reply
ToldOf s (VarIn name universe domain) reply t = ToldChange t reply
ToldOf s (Add name shape) reply t = ToldChange t reply
ToldOf s (Relax name) reply t = ToldChange t reply
ToldOf s (Enforce name) reply t = ToldChange t reply
ToldOf s (Retract name) reply t = ToldChange t reply
ToldOf s Resume reply t = ToldChange t reply
ToldOf s DomainsLine reply t = ToldDomains s reply
ToldOf s (DomainLine name) reply t = ToldDomain s name reply
ToldOf s (Why name value) reply t = ToldWhy s name value reply
ToldOf s Conflict reply t = ToldConflict s reply
ToldOf s (Minimal name value) reply t = ToldMinimal s name value reply
ToldOf s MinimalConflict reply t = ToldMinimalConflict s reply
ToldOf s (Cert name value) reply t = ToldCert s name value reply
ToldOf s CertConflict reply t = ToldCertConflict s reply
ToldOf s (SolveDbt budget) reply t = ToldSearch s (Dbt budget) reply
ToldOf s (SolveRepair tabu budget) reply t = ToldSearch s (Repair tabu budget) reply
ToldOf s (Prove budget) reply t = ToldProof s budget reply × ToldAccepted s reply
ToldOf s (Minimize name budget) reply t = ToldLeastOf s name budget reply
ToldOf s Preferred reply t = ToldPreferred s reply
ToldOf s _ reply t = ⊤

-- the bytes say the line, and it is admitted
pub record IsAdmittedAs (s : SessionState) (bytes : List ℕ) (line : Line) : Type 0 where
  pub request : Request
  pub read : IsRead s.mode bytes line
  pub admitted : IsAdmitted (heard s line) line request

-- what is told of a line that is accepted is so
abbrev pub TellsTruth : SessionState → List ℕ → List ℕ → SessionState → Type 0
TellsTruth s bytes reply t = (line : Line) → IsAdmittedAs s bytes line → ToldOf (heard s line) line reply t

-- ---- refused lines

-- the reply begins as each refusal does
abbrev pub BeginsRefusal : List ℕ → Type 0
BeginsRefusal reply = (rest : List ℕ) × (reply ≡ codes "error E" ++ rest)

-- nothing changes but the mode that a first line sets, and the line asks for nothing, so that it leads no object
pub record LeavesAll (s : SessionState) (bytes : List ℕ) (t : SessionState) : Type 0 where
  pub state : t ≡ misheard s
  pub unasked : (request : Request) → HasRequest s bytes request → ⊥

-- a line whose reply begins so changes nothing
abbrev pub LeavesAllRefused : SessionState → List ℕ → List ℕ → SessionState → Type 0
LeavesAllRefused s bytes reply t = BeginsRefusal reply → LeavesAll s bytes t
