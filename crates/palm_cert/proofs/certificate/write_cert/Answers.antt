use Rattle.std.proofs.Common.{◌≡◌, ℕ, List, ◌++◌, Result, Ok, Err, refl, rules, ap, ◌∙◌}
use Rattle.std.specs.Prelude.{OnOk}
use Rattle.palm_book.specs.Book.{Contents}
use Rattle.palm_claim.specs.declared.verdict.Claim.{Claim}
use Rattle.palm_lang.specs.Reply.{fixed_text}
use Rattle.palm_lang.specs.declared.reply.Fixed.TheVariants.{End}
use Rattle.palm_lang.proofs.cited.Wrote.{wrote_front, wrote_text, wrote_then, wrote_within}
use Rattle.palm_model.specs.Log.{Removal}
use Rattle.palm_cert.specs.Certificate.{certificate_text, cited, claim_line, claim_var, claimed, declarations, proof_lines, text_with}
use Rattle.palm_cert.specs.Needs.{AreNeeds, removals_at}
use Rattle.palm_cert.specs.declared.needs.Needs.{Needs}
use Rattle.palm_cert.proofs.cited.Accepted.{certificate_accepted}
use Rattle.palm_cert.proofs.cited.Logged.{claim_declared, users_logged}
use Rattle.palm_cert.proofs.cited.Readable.{readable}
use Rattle.palm_cert.proofs.cited.Stepped.{steps_found}
use Rattle.palm_cert.proofs.certificate.write_cert.Goals as goal

-- what was found that the claim needs is what its certificate says
text_made : (book : Contents) (log l : List Removal) (claim : Claim) (needs : Needs) → AreNeeds book l claim needs → l ≡ log → (places : List ℕ) (x : ℕ) → places ≡ needs.steps.items → x ≡ claim_var claim
    → declarations book (cited (removals_at l needs.steps.items) book) x ++ proof_lines book (removals_at l places) claim ≡ certificate_text book log claim
text_made book log l claim needs are same places x there named =
    let constraints = cited (removals_at l needs.steps.items) book in
    ap (λ (y : ℕ). declarations book constraints y ++ proof_lines book (removals_at l places) claim) named
    ∙ ap (λ (ps : List ℕ). declarations book constraints (claim_var claim) ++ proof_lines book (removals_at l ps) claim) there
    ∙ ap (λ (steps : List Removal). text_with book steps claim) (steps_found l (claimed book claim) needs.steps.items are.linked are.steps)
    ∙ ap (λ (k : List Removal). certificate_text book k claim) same

-- what holds of a text holds of it where it was written
at_ok : {T E P : Type 0} (r : Result T E) → P → OnOk r P
at_ok (Ok t) p = p
at_ok (Err e) p = tt

pub needs_of-requires-clause-logged : goal.needs_of-requires-clause-logged
needs_of-requires-clause-logged g c =
    rw c.log-log.ensures (users_logged c.args.engine.now.state c.args.book.now c.store.ensures.valid c.requires.initial c.requires.active)

pub needs_of-requires-clause-variable : goal.needs_of-requires-clause-variable
needs_of-requires-clause-variable g c =
    claim_declared c.args.engine.now.state c.args.book.now c.store.ensures.valid c.requires.initial c.requires.active c.args.claim c.requires.holds

pub returns-in_err-write_declarations-clause-text : goal.returns-in_err-write_declarations-clause-text
returns-in_err-write_declarations-clause-text g c =
    let book = c.args.book.now in
    let log = c.log-log.result.now.log in
    let needs = c.in_ok-needs.needs in
    let are = c.in_ok-needs.ensures in
    let steps = removals_at log needs.steps.items in
    let w = wrote_text (text_made book c.args.engine.now.state.log log c.args.claim needs are c.log-log.ensures needs.steps.items c.claimed_var.result refl c.claimed_var.ensures)
    (wrote_front (proof_lines book steps c.args.claim) c.from_residual-in_err-write_declarations.ensures.1 (c.in_err-write_declarations.ensures steps (c.deref.ensures.value ∙ are.cited))) in
    search rules

pub returns-in_err-write_steps-clause-text : goal.returns-in_err-write_steps-clause-text
returns-in_err-write_steps-clause-text g c =
    let book = c.args.book.now in
    let log = c.log-log.result.now.log in
    let needs = c.in_ok-needs.needs in
    let are = c.in_ok-needs.ensures in
    let w = wrote_text (text_made book c.args.engine.now.state.log log c.args.claim needs are c.log-log.ensures c.deref-2.result.now c.claimed_var.result c.deref-2.ensures.value c.claimed_var.ensures)
    (wrote_then (c.in_ok-write_declarations.ensures (removals_at log needs.steps.items) (c.deref.ensures.value ∙ are.cited))
    (wrote_front {T = Unit {0}} (fixed_text End) c.from_residual-in_err-write_steps.ensures.1 (wrote_front (claim_line book.variables c.args.claim) refl c.in_err-write_steps.ensures))) in
    search rules

pub returns-in_err-write_claim-clause-text : goal.returns-in_err-write_claim-clause-text
returns-in_err-write_claim-clause-text g c =
    let log = c.log-log.result.now.log in
    let needs = c.in_ok-needs.needs in
    let are = c.in_ok-needs.ensures in
    let w = wrote_text (text_made c.args.book.now c.args.engine.now.state.log log c.args.claim needs are c.log-log.ensures c.deref-2.result.now c.claimed_var.result c.deref-2.ensures.value c.claimed_var.ensures)
    (wrote_then (c.in_ok-write_declarations.ensures (removals_at log needs.steps.items) (c.deref.ensures.value ∙ are.cited))
    (wrote_within (fixed_text End) c.from_residual-in_err-write_claim.ensures.1 c.in_ok-write_steps.ensures c.in_err-write_claim.ensures)) in
    search rules

pub returns-clause-text : goal.returns-clause-text
returns-clause-text g c =
    let log = c.log-log.result.now.log in
    let needs = c.in_ok-needs.needs in
    let are = c.in_ok-needs.ensures in
    let w = wrote_text (text_made c.args.book.now c.args.engine.now.state.log log c.args.claim needs are c.log-log.ensures c.deref-2.result.now c.claimed_var.result c.deref-2.ensures.value c.claimed_var.ensures)
    (wrote_then (c.in_ok-write_declarations.ensures (removals_at log needs.steps.items) (c.deref.ensures.value ∙ are.cited)) (wrote_then (wrote_then c.in_ok-write_steps.ensures c.in_ok-write_claim.ensures) c.word.ensures)) in
    search rules

pub returns-clause-accepted : goal.returns-clause-accepted
returns-clause-accepted g c =
    let s = c.args.engine.now.state in
    let book = c.args.book.now in
    let claim = c.args.claim in
    let read = readable s book claim c.variables.ensures.valid c.store.ensures.valid c.requires.initial c.requires.active c.requires.holds c.store.ensures.scoped in
    at_ok c.word.result (certificate_accepted s book claim c.variables.ensures.valid c.store.ensures.valid c.requires.initial c.requires.active c.requires.holds read)
