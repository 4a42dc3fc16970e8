-- What the commands accept is so, and which texts they accept.
use Rattle.std.specs.Prelude.{◌≡◌, ◌≤◌, ◌⊎◌, ⊤, ℕ, List, Contains, Some, None, length}
use Rattle.palm_base.specs.Streams.{Appended}
use Rattle.palm_base.specs.declared.terms.Cid.{Cid}
use Rattle.palm_book.specs.Book.{Contents, initial_of}
use Rattle.palm_claim.specs.Claim.{HoldsIn, IsExplained, constraints_of}
use Rattle.palm_claim.specs.Verdict.{IsVerdict}
use Rattle.palm_claim.specs.declared.verdict.Proved.{Proved}
use Rattle.palm_claim.specs.declared.verdict.Verdict.TheVariants.{Accepted}
use Rattle.palm_lang.specs.Reply.{fixed_text}
use Rattle.palm_lang.specs.declared.reply.Fixed.{Fixed}
use Rattle.palm_model.specs.Closure.{IsGreatest, IsSolution}
use Rattle.palm_model.specs.Domains.{Assignment, Domains}
use Rattle.palm_read.specs.declared.line.Line.{Line}
use Rattle.palm_read.specs.declared.line.Line.TheVariants.{Cert, CertConflict, Prove}
use Rattle.palm_search.specs.declared.ending.SearchEnd.{SearchEnd}
use Rattle.palm_search.specs.declared.ending.SearchEnd.TheVariants.{NoSolution}
use Rattle.palm_session.specs.Answers.{end_text}
use Rattle.palm_session.specs.EachLine.{IsAdmittedAs}
use Rattle.palm_session.specs.Modes.{heard}
use Rattle.palm_session.specs.State.{SessionState}
use Rattle.palm_session.specs.Told.{ClosesWith}
use Rattle.proof_text.specs.Users.{IsAmong}
use Rattle.proof_text.specs.Verdict.{IsVerdict as IsProofVerdict}
use Rattle.proof_text.specs.declared.verdict.ProofVerdict.TheVariants.{Accepted as AcceptedProof}
use Rattle.palm_pump.specs.Streams.{HasNoFault, Streams}
use Rattle.palm_cli.specs.Commands.{EndsWith, JudgesSource, TakesText}
use Rattle.palm_cli.specs.Verdicts.{proof_line, verdict_line}
use Rattle.palm_pump.specs.declared.limits.TheConstants.{MOST_INPUT_BYTES}
use Rattle.palm_cli.specs.declared.status.Status.{Status}
use Rattle.palm_cli.specs.declared.status.Status.TheVariants.{Done}
use Rattle.palm_cli.specs.declared.words.Evidence.{Evidence}
use Rattle.palm_cli.specs.declared.words.Evidence.TheVariants.{Certificate, Proof}

-- ---- what an accepted text says

-- the line tells a claim and the constraints that the text lists: these explain it, and it holds in their greatest closed
-- domains
pub record HasExplainedClaim (text line : List ℕ) : Type 0 where
  pub proved : Proved
  pub verdict : IsVerdict text (Accepted proved)
  pub told : line ≡ verdict_line (Accepted proved)
  pub explained : IsExplained proved.book proved.claim
  pub holds : (d : Domains) → IsGreatest (initial_of proved.book) (Contains (constraints_of proved.book)) d → HoldsIn d proved.claim

-- the line tells constraints that the text lists, and no assignment inside the declared domains satisfies them all
pub record HasUnsolvedUsers (text line : List ℕ) : Type 0 where
  pub book : Contents
  pub users : List Cid
  pub verdict : IsProofVerdict text (AcceptedProof book users)
  pub told : line ≡ proof_line (AcceptedProof book users)
  pub none : (a : Assignment) → IsSolution (initial_of book) (IsAmong book users) a → ⊥

abbrev pub IsSo : Evidence → List ℕ → List ℕ → Type 0
IsSo Certificate text line = HasExplainedClaim text line
IsSo Proof text line = HasUnsolvedUsers text line

-- the whole text was taken, to its end and within the limit, and the line that was written of it is so
pub record TellsSo (evidence : Evidence) (before after : Streams) : Type 0 where
  pub text : List ℕ
  pub line : List ℕ
  pub takes : TakesText before.source after.source text
  pub written : Appended before.sink.written after.sink.written line
  pub so : IsSo evidence text line

-- ---- which texts are accepted

-- given to the command, the text is accepted: where it is all that the source has, within the limit, and no count of faults
-- rises, the command ends with `Done`, or memory runs out
abbrev pub IsAcceptedBy : Evidence → List ℕ → Type 0
IsAcceptedBy evidence text = (before after : Streams) (status : Status) → before.source.left ≡ Some text → length text ≤ MOST_INPUT_BYTES
    → HasNoFault before after → JudgesSource evidence before after status → EndsWith Done status

-- the reply is one word
abbrev pub IsWord : List ℕ → Type 0
IsWord reply = (word : Fixed) × (reply ≡ fixed_text word)

-- where the search ended without a solution, its proof is accepted
abbrev pub PassesAtNone : SearchEnd → List ℕ → Type 0
PassesAtNone (NoSolution users) reply = IsAcceptedBy Proof reply
PassesAtNone _ reply = ⊤

-- the proof of a search that ended so
pub record IsProofReply (s : SessionState) (reply : List ℕ) : Type 0 where
  pub end : SearchEnd
  pub closes : ClosesWith reply (end_text s.book end None)
  pub accepted : PassesAtNone end reply

-- what is told as a certificate or as a proof is a word, or the commands accept it
abbrev pub PassesAs : SessionState → Line → List ℕ → Type 0
PassesAs s (Cert name value) reply = IsWord reply ⊎ IsAcceptedBy Certificate reply
PassesAs s CertConflict reply = IsWord reply ⊎ IsAcceptedBy Certificate reply
PassesAs s (Prove budget) reply = IsWord reply ⊎ IsProofReply s reply
PassesAs s _ reply = ⊤

-- the same of a line that is accepted
abbrev pub Passes : SessionState → List ℕ → List ℕ → SessionState → Type 0
Passes s bytes reply t = (line : Line) → IsAdmittedAs s bytes line → PassesAs (heard s line) line reply
