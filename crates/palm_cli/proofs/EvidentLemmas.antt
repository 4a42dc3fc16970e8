-- What the commands accept is so, and they accept what `run` writes as certificates and proofs.
use Rattle.std.proofs.Common.{◌≡◌, ℕ, ◌≤◌, Option, Some, None, ◌⊎◌, ℤ, List, [], ◌∷◌, length, inl, inr, refl, sym, ap, ◌∙◌, subst, arith}
use Rattle.std.proofs.lemmas.List.{length-append}
use Rattle.palm_base.specs.Streams.{Consumes}
use Rattle.palm_base.specs.declared.terms.Cid.{Cid}
use Rattle.palm_book.specs.Book.{Contents}
use Rattle.palm_claim.proofs.cited.Explained.{accepted_explained, accepted_holds}
use Rattle.palm_claim.proofs.cited.Unique.{one_verdict}
use Rattle.palm_claim.specs.Verdict.{IsVerdict}
use Rattle.palm_claim.specs.declared.verdict.Proved.{Proved}
use Rattle.palm_claim.specs.declared.verdict.Verdict.{Verdict}
use Rattle.palm_claim.specs.declared.verdict.Verdict.TheVariants.{Accepted, Refused as RefusedVerdict}
use Rattle.palm_lang.specs.declared.reply.Fixed.TheVariants.{Consistent, Contradiction, Paused, Present}
use Rattle.palm_read.specs.declared.line.Line.{Line}
use Rattle.palm_read.specs.declared.line.Line.TheVariants.{Cert, CertConflict, Prove}
use Rattle.palm_search.specs.declared.ending.SearchEnd.{SearchEnd}
use Rattle.palm_search.specs.declared.ending.SearchEnd.TheVariants.{Found, NoSolution, Spent}
use Rattle.palm_session.proofs.cited.ToldLines.{all_told}
use Rattle.palm_session.specs.EachLine.{EachLine, TellsTruth, ToldOf}
use Rattle.palm_session.specs.Modes.{heard}
use Rattle.palm_session.specs.Replies.{Run}
use Rattle.palm_session.specs.State.{SessionState, fresh}
use Rattle.palm_session.specs.Told.{ToldAccepted, ToldCert, ToldCertConflict}
use Rattle.palm_session.specs.Told.ToldAccepted.{accepted_end, accepted_paused}
use Rattle.palm_session.specs.Told.ToldCert.{cert_accepted, cert_contradiction, cert_paused, cert_present}
use Rattle.palm_session.specs.Told.ToldCertConflict.{claim_accepted, claim_none, claim_paused}
use Rattle.proof_run.specs.Accepted.{IsAcceptedAtNone, as_listed}
use Rattle.proof_text.proofs.cited.Accepted.{accepted_unsolved}
use Rattle.proof_text.proofs.cited.Unique.{one_verdict as one_proof_verdict}
use Rattle.proof_text.specs.Verdict.{IsVerdict as IsProofVerdict}
use Rattle.proof_text.specs.declared.verdict.ProofVerdict.{ProofVerdict}
use Rattle.proof_text.specs.declared.verdict.ProofVerdict.TheVariants.{Accepted as AcceptedProof, Refused as RefusedProof}
use Rattle.palm_pump.specs.Streams.{HasNoFault, IsAll, Streams}
use Rattle.palm_cli.specs.Commands.{EndsWith, JudgesSource, RunsAll}
use Rattle.palm_cli.specs.Evident.{HasExplainedClaim, HasUnsolvedUsers, IsAcceptedBy, IsProofReply, IsSo, IsWord, Passes, PassesAs, PassesAtNone, TellsSo}
use Rattle.palm_cli.specs.Verdicts.{IsTold, proof_line, proof_status, verdict_line, verdict_status}
use Rattle.palm_pump.specs.declared.limits.TheConstants.{MOST_INPUT_BYTES}
use Rattle.palm_cli.specs.declared.status.Status.{Status}
use Rattle.palm_cli.specs.declared.status.Status.TheVariants.{Done, Refused, Usage, ReadFault, WriteFault, NoMemory, TooLong}
use Rattle.palm_cli.specs.declared.words.Evidence.{Evidence}
use Rattle.palm_cli.specs.declared.words.Evidence.TheVariants.{Certificate, Proof}

-- ---- an accepted text is so

certificate_so : (text line : List ℕ) (told : Verdict) → IsVerdict text told → line ≡ verdict_line told → Done ≡ verdict_status told → HasExplainedClaim text line
certificate_so text line (Accepted proved) is told done =
    record { proved = proved; verdict = is; told = told; explained = accepted_explained text proved is; holds = λ d greatest. accepted_holds text proved d is greatest }
certificate_so text line (RefusedVerdict n cause) is told done = cc

proof_so : (text line : List ℕ) (told : ProofVerdict) → IsProofVerdict text told → line ≡ proof_line told → Done ≡ proof_status told → HasUnsolvedUsers text line
proof_so text line (AcceptedProof book users) is told done =
    record { book = book; users = users; verdict = is; told = told; none = λ a solution. accepted_unsolved text book users a is solution }
proof_so text line (RefusedProof n cause) is told done = cc

line_so : (evidence : Evidence) (text line : List ℕ) → IsTold evidence text line Done → IsSo evidence text line
line_so Certificate text line tells = certificate_so text line tells.told tells.is tells.line_is tells.status_is
line_so Proof text line tells = proof_so text line tells.told tells.is tells.line_is tells.status_is

pub tells_so : (evidence : Evidence) (before after : Streams) → JudgesSource evidence before after Done → TellsSo evidence before after
tells_so evidence before after judges =
    let all = judges.1 in
    record { text = all.text; line = all.line; takes = all.takes; written = all.written; so = line_so evidence all.text all.line all.is }

-- ---- which texts are accepted

-- a text that no verdict refuses
abbrev IsUnrefused : Evidence → List ℕ → Type 0
IsUnrefused evidence text = (line : List ℕ) → IsTold evidence text line Refused → ⊥

taken_whole : (left : Option (List ℕ)) (text taken : List ℕ) → left ≡ Some text → IsAll left taken → text ≡ taken
taken_whole left text taken is all = subst (λ (o : Option (List ℕ)). IsAll o taken) is all

taken_short : (text taken : List ℕ) (now : Option (List ℕ)) → Consumes (Some text) now taken → length taken ≤ length text
taken_short text taken None takes = absurd takes
taken_short text taken (Some rest) takes = let e = ap length takes ∙ length-append taken rest in omega (arith, e)

unrefused_ends : (evidence : Evidence) (text : List ℕ) → IsUnrefused evidence text → (before after : Streams) (status : Status) → before.source.left ≡ Some text
    → length text ≤ MOST_INPUT_BYTES → HasNoFault before after → JudgesSource evidence before after status → EndsWith Done status
unrefused_ends evidence text fine before after Done left short calm judges = inl refl
unrefused_ends evidence text fine before after Refused left short calm judges =
    let all = judges.1 in
    absurd (fine all.line (subst (λ (z : List ℕ). IsTold evidence z all.line Refused) (sym (taken_whole before.source.left text all.text left all.takes.whole)) all.is))
unrefused_ends evidence text fine before after Usage left short calm judges = absurd judges
unrefused_ends evidence text fine before after ReadFault left short calm judges = absurd (calm.read judges.0.read)
unrefused_ends evidence text fine before after WriteFault left short calm judges = absurd (calm.write judges.0.write)
unrefused_ends evidence text fine before after NoMemory left short calm judges = inr refl
unrefused_ends evidence text fine before after TooLong left short calm judges =
    let k = taken_short text judges.1 after.source.left (subst (λ (o : Option (List ℕ)). Consumes o after.source.left judges.1) left judges.2.takes) in
    let long = judges.3 in
    absurd (omega (arith, k, long, short))

certificate_unrefused : (text : List ℕ) (proved : Proved) → IsVerdict text (Accepted proved) → IsUnrefused Certificate text
certificate_unrefused text proved is line tells =
    let same : tells.told ≡ Accepted proved = one_verdict text tells.told (Accepted proved) tells.is is in
    let e : Refused ≡ Done = tells.status_is ∙ ap verdict_status same in cc

proof_unrefused : (text : List ℕ) (book : Contents) (users : List Cid) → IsProofVerdict text (AcceptedProof book users) → IsUnrefused Proof text
proof_unrefused text book users is line tells =
    let same : tells.told ≡ AcceptedProof book users = one_proof_verdict text tells.told (AcceptedProof book users) tells.is is in
    let e : Refused ≡ Done = tells.status_is ∙ ap proof_status same in cc

-- ---- what `run` writes

cert_passes : (s : SessionState) (name : List ℕ) (value : ℤ) (reply : List ℕ) → ToldCert s name value reply → IsWord reply ⊎ IsAcceptedBy Certificate reply
cert_passes s name value reply (cert_paused on e) = inl (Paused, e)
cert_passes s name value reply (cert_contradiction c e) = inl (Contradiction, e)
cert_passes s name value reply (cert_present x d v are has e) = inl (Present, e)
cert_passes s name value reply (cert_accepted x lt named accepted) =
    inr (unrefused_ends Certificate reply (certificate_unrefused reply accepted.proved accepted.verdict))

conflict_passes : (s : SessionState) (reply : List ℕ) → ToldCertConflict s reply → IsWord reply ⊎ IsAcceptedBy Certificate reply
conflict_passes s reply (claim_paused on e) = inl (Paused, e)
conflict_passes s reply (claim_none d are filled e) = inl (Consistent, e)
conflict_passes s reply (claim_accepted x lt accepted) =
    inr (unrefused_ends Certificate reply (certificate_unrefused reply accepted.proved accepted.verdict))

end_passes : (book : Contents) (end : SearchEnd) (reply : List ℕ) → IsAcceptedAtNone book end reply → PassesAtNone end reply
end_passes book (Found values) reply accepted = tt
end_passes book (NoSolution users) reply accepted = unrefused_ends Proof reply (proof_unrefused reply (as_listed book) accepted.listed accepted.verdict)
end_passes book (Spent turns) reply accepted = tt

proof_passes : (s : SessionState) (reply : List ℕ) → ToldAccepted s reply → IsWord reply ⊎ IsProofReply s reply
proof_passes s reply (accepted_paused on e) = inl (Paused, e)
proof_passes s reply (accepted_end end closes accepted) = inr (record { end = end; closes = closes; accepted = end_passes s.book end reply accepted })

told_passes : (s : SessionState) (line : Line) (reply : List ℕ) (t : SessionState) → ToldOf s line reply t → PassesAs s line reply
told_passes s (Cert name value) reply t told = cert_passes s name value reply told
told_passes s CertConflict reply t told = conflict_passes s reply told
told_passes s (Prove budget) reply t told = proof_passes s reply told.1
told_passes s _ reply t told = tt

-- what follows for a line follows for each line of a run
lines_pass : (s : SessionState) (lines : List (List ℕ)) (replies : List ℕ) (t : SessionState) (run : Run s lines replies t) → EachLine TellsTruth s lines replies t run
    → EachLine Passes s lines replies t run
lines_pass s [] replies t run told = tt
lines_pass s (line ∷ lines) replies t run told = (
  λ said admission. told_passes (heard s said) said run.0 run.2 (told.0 said admission),
  lines_pass run.2 lines run.1 t run.5 told.1,
)

pub run_passes : (guides orders : List ℕ) (before after : Streams) (runs : RunsAll guides orders before after)
    → EachLine Passes (fresh guides orders) runs.replies.answered runs.output runs.replies.state runs.replies.run
run_passes guides orders before after runs =
    let replies = runs.replies in
    lines_pass (fresh guides orders) replies.answered runs.output replies.state replies.run (all_told guides orders replies.answered runs.output replies.state replies.run)
