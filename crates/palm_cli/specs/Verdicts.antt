-- The line that tells the verdict on a certificate or a proof, and the status that goes with it.
use Rattle.std.specs.Prelude.{◌≡◌, ℕ, List, ◌++◌, map, codes, decimal}
use Rattle.palm_book.specs.Book.{BookVar, name_of, user_name}
use Rattle.palm_claim.specs.Verdict.{IsVerdict}
use Rattle.palm_claim.specs.declared.verdict.Cause.{Cause}
use Rattle.palm_claim.specs.declared.verdict.Cause.TheVariants.{Malformed, Misdeclared, Beyond, Unproved, NotRight, NotReached}
use Rattle.palm_claim.specs.declared.verdict.Claim.{Claim}
use Rattle.palm_claim.specs.declared.verdict.Claim.TheVariants.{Gone, Conflict}
use Rattle.palm_claim.specs.declared.verdict.Proved.{Proved}
use Rattle.palm_claim.specs.declared.verdict.Verdict.{Verdict}
use Rattle.palm_claim.specs.declared.verdict.Verdict.TheVariants.{Accepted, Refused}
use Rattle.palm_lang.specs.Reply.{ended, names_line, pair_text}
use Rattle.palm_lang.specs.declared.reply.Lead.TheVariants.{Because}
use Rattle.palm_read.specs.Words.{after_spaces}
use Rattle.proof_text.specs.Verdict.{IsVerdict as IsProofVerdict}
use Rattle.proof_text.specs.declared.verdict.ProofVerdict.{ProofVerdict}
use Rattle.proof_text.specs.declared.verdict.ProofVerdict.TheVariants.{Accepted as AcceptedProof, Refused as RefusedProof}
use Rattle.palm_cli.specs.declared.words.Evidence.{Evidence}
use Rattle.palm_cli.specs.declared.words.Evidence.TheVariants.{Certificate, Proof}
use Rattle.palm_cli.specs.declared.status.Status.{Status}
use Rattle.palm_cli.specs.declared.status.Status.TheVariants as status

-- the digit of a cause, behind C for a certificate and P for a proof
abbrev pub cause_digit : Cause → List ℕ
cause_digit Malformed = codes "1"
cause_digit Misdeclared = codes "2"
cause_digit Unproved = codes "3"
cause_digit NotRight = codes "4"
cause_digit NotReached = codes "5"
cause_digit Beyond = codes "6"

abbrev pub evidence_letter : Evidence → List ℕ
evidence_letter Certificate = codes "C"
evidence_letter Proof = codes "P"

-- the line that is refused, and its cause
abbrev pub refused_text : Evidence → ℕ → Cause → List ℕ
refused_text evidence line cause = codes "refused " ++ decimal line ++ codes " " ++ evidence_letter evidence ++ cause_digit cause

-- ---- certificates

-- NAME VALUE, or conflict NAME
abbrev pub claim_text : List BookVar → Claim → List ℕ
claim_text variables (Gone pair) = pair_text variables pair
claim_text variables (Conflict x) = codes "conflict " ++ name_of variables x

-- what is proved, and all listed constraints in the order of their lines
abbrev pub accepted_text : Proved → List ℕ
accepted_text proved =
    codes "accepted " ++ claim_text proved.book.variables proved.claim ++ codes " because" ++ after_spaces (map (λ c. c.name) proved.book.constraints)

abbrev pub verdict_line : Verdict → List ℕ
verdict_line (Accepted proved) = ended (accepted_text proved)
verdict_line (Refused line cause) = ended (refused_text Certificate line cause)

-- the status of the command `check` behind this line
abbrev pub verdict_status : Verdict → Status
verdict_status (Accepted proved) = status.Done
verdict_status (Refused line cause) = status.Refused

-- ---- proofs

-- the users that have no solution, by their names
abbrev pub proof_line : ProofVerdict → List ℕ
proof_line (AcceptedProof book users) = codes "accepted none " ++ names_line Because (map (user_name book.constraints) users)
proof_line (RefusedProof line cause) = ended (refused_text Proof line cause)

-- the status of the command `proof` behind this line
abbrev pub proof_status : ProofVerdict → Status
proof_status (AcceptedProof book users) = status.Done
proof_status (RefusedProof line cause) = status.Refused

-- ---- what is told of a text

-- it has a verdict, and these are the line and the status of this
pub record TellsCertificate (text line : List ℕ) (ends : Status) : Type 0 where
  pub told : Verdict
  pub is : IsVerdict text told
  pub line_is : line ≡ verdict_line told
  pub status_is : ends ≡ verdict_status told

pub record TellsProof (text line : List ℕ) (ends : Status) : Type 0 where
  pub told : ProofVerdict
  pub is : IsProofVerdict text told
  pub line_is : line ≡ proof_line told
  pub status_is : ends ≡ proof_status told

-- judged as this, a text is told by this line and status
abbrev pub IsTold : Evidence → List ℕ → List ℕ → Status → Type 0
IsTold Certificate text line ends = TellsCertificate text line ends
IsTold Proof text line ends = TellsProof text line ends
