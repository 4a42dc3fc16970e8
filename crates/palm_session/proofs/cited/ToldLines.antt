-- What is told in reply to each line of a run is true.
use Rattle.std.proofs.Common.{◌≡◌, ℕ, List, [], ◌∷◌, refl, sym, ap, ◌∙◌, subst}
use Rattle.palm_base.proofs.cited.FirstCauses.{first_not_none}
use Rattle.palm_base.specs.First.{IsNone}
use Rattle.palm_book.specs.Named.{IsVariable}
use Rattle.palm_events.specs.Scoped.{HasScopedReasons}
use Rattle.palm_lang.specs.Reply.{domain_line, fixed_text}
use Rattle.palm_lang.specs.declared.reply.Fixed.TheVariants.{Done}
use Rattle.palm_model.specs.Domains.{values_of}
use Rattle.palm_read.proofs.cited.Parsing.{one_reading}
use Rattle.palm_read.specs.declared.line.Line.{Line}
use Rattle.palm_read.specs.declared.line.Line.TheVariants.{Comment, Header, Var, VarIn, Add as AddLine, Relax as RelaxLine, Enforce as EnforceLine, Retract as RetractLine, Domains as DomainsLine, Domain as DomainLine, List as ListLine, Log as LogLine, Why as WhyLine, Conflict as ConflictLine, Minimal as MinimalLine, MinimalConflict as MinimalConflictLine, Cert as CertLine, CertConflict as CertConflictLine, Pause as PauseLine, Resume as ResumeLine, Step as StepLine, SolveDbt, SolveRepair, Prove, Minimize, Prefer as PreferLine, PreferNone, Preferred as PreferredLine, Guide, GuideNone, Order, OrderNone, DropGuide as DropGuideLine, DropOrder as DropOrderLine, Quit as QuitLine}
use Rattle.palm_session.specs.Answers.{Accepts, waits, contradicts, says, Answers, misread, refused, accepted, IsAnswer, IsContradictable, IsPausable, Says}
use Rattle.palm_session.specs.EachLine.{EachLine, TellsTruth, ToldChange, ToldDomain, ToldDomains, ToldOf}
use Rattle.palm_session.specs.EachLine.ToldChange.{change_contradiction, change_done}
use Rattle.palm_session.specs.EachLine.ToldDomain.{domain_contradiction, domain_listed, domain_paused}
use Rattle.palm_session.specs.EachLine.ToldDomains.{domains_contradiction, domains_listed, domains_paused}
use Rattle.palm_session.specs.Effects.{Effect}
use Rattle.palm_session.specs.Modes.{heard}
use Rattle.palm_session.specs.Refusals.{Meets, in_order}
use Rattle.palm_session.specs.Replies.{Run}
use Rattle.palm_session.specs.Requests.{IsAdmitted}
use Rattle.palm_session.specs.State.{SessionState, IsState, IsContradiction, fresh}
use Rattle.palm_session.specs.declared.request.Procedure.TheVariants.{Dbt, Repair, Proof, Least}
use Rattle.palm_session.specs.declared.request.Question.TheVariants.{Domains as DomainsAsked, Domain}
use Rattle.palm_session.specs.declared.request.Request.{Request}
use Rattle.palm_session.specs.declared.request.Request.TheVariants.{Declare, DeclareIn, Add, Relax, Enforce, Retract, Ask, Resume, Solve}
use Rattle.palm_session.proofs.Certified.{told_cert, told_cert_conflict}
use Rattle.palm_session.proofs.InModes.{heard_state}
use Rattle.palm_session.proofs.LawsOfLines.{GivesBudget, budget_read}
use Rattle.palm_session.proofs.Least.{told_minimal, told_minimal_conflict}
use Rattle.palm_session.proofs.Preferring.{told_preferred}
use Rattle.palm_session.proofs.ReadOnce.{read_or_refused}
use Rattle.palm_session.proofs.ScopedLines.{answers_scoped, fresh_scoped}
use Rattle.palm_session.proofs.Searched.{told_accepted, told_search}
use Rattle.palm_session.proofs.Telling.{told_conflict, told_why}
use Rattle.palm_session.proofs.cited.LawsOfAnswers.{answers_keep, awake_for, query_same}
use Rattle.palm_session.proofs.cited.LawsOfStates.{fresh_is}

-- ---- changes and domains

-- a change does not wait, and is told by `contradiction` or by `ok`
changed_told : (s : SessionState) (request : Request) (reply : List ℕ) (t : SessionState) → (IsPausable request → ⊥) → IsContradictable request
    → ((effect : Effect) → Says t request effect reply → reply ≡ fixed_text Done) → Accepts s request reply t → ToldChange t reply
changed_told s request reply t goes told done (waits w) = absurd (goes w.pausable)
changed_told s request reply t goes told done (contradicts effect g does c) = change_contradiction c.contradiction refl
changed_told s request reply t goes told done (says effect g does quiet said) =
    change_done (λ contradiction. quiet (record { contradiction = contradiction; contradictable = told })) (done effect said)

domains_told : (s : SessionState) (reply : List ℕ) (t : SessionState) → Accepts s (Ask DomainsAsked) reply t → ToldDomains s reply
domains_told s reply t (waits w) = domains_paused w.paused refl
domains_told s reply t (contradicts effect goes does c) = domains_contradiction (subst IsContradiction (query_same s does.0 t effect does.1 does.2) c.contradiction) refl
domains_told s reply t (says effect goes does quiet said) =
    let same : t ≡ s = query_same s does.0 t effect does.1 does.2 in
    let here : IsAnswer s DomainsAsked reply = subst (λ (z : SessionState). IsAnswer z DomainsAsked reply) same said in
    let calm : IsContradiction s → ⊥ = λ c. quiet (record { contradiction = subst IsContradiction (sym same) c; contradictable = tt }) in
    domains_listed here.0 (awake_for s (Ask DomainsAsked) tt goes) calm here.1 here.2

asked_domain : (s : SessionState) (name : List ℕ) (x : ℕ) (reply : List ℕ) (t : SessionState) → IsVariable s.book.variables name x → Accepts s (Ask (Domain x)) reply t → ToldDomain s name reply
asked_domain s name x reply t found (waits w) = domain_paused w.paused refl
asked_domain s name x reply t found (contradicts effect goes does c) = domain_contradiction (subst IsContradiction (query_same s does.0 t effect does.1 does.2) c.contradiction) refl
asked_domain s name x reply t found (says effect goes does quiet said) =
    let same : t ≡ s = query_same s does.0 t effect does.1 does.2 in
    let here : IsAnswer s (Domain x) reply = subst (λ (z : SessionState). IsAnswer z (Domain x) reply) same said in
    let calm : IsContradiction s → ⊥ = λ c. quiet (record { contradiction = subst IsContradiction (sym same) c; contradictable = tt }) in
    domain_listed here.0 x (awake_for s (Ask (Domain x)) tt goes) calm here.1 found (here.2 ∙ ap (λ (n : List ℕ). domain_line n (values_of here.0 x)) found.named)

-- ---- accepted lines

-- the reply to the request that the line asks for
same_request : (s : SessionState) (a b : Request) (reply : List ℕ) (t : SessionState) → a ≡ b → Accepts s a reply t → Accepts s b reply t
same_request s a b reply t same h = subst (λ (r : Request). Accepts s r reply t) same h

module _ (s : SessionState) (request : Request) (reply : List ℕ) (t : SessionState) (is : IsState s) (scoped : HasScopedReasons s.engine) (h : Accepts s request reply t) where
  accepted_told : (line : Line) → GivesBudget line → IsAdmitted s line request → ToldOf s line reply t
  accepted_told Comment few a = tt
  accepted_told Header few a = tt
  accepted_told (Var name domain) few a =
      changed_told s (Declare name domain) reply t (λ p. p) tt (λ effect e. e) (same_request s request (Declare name domain) reply t a.requests h)
  accepted_told (VarIn name universe domain) few a =
      changed_told s (DeclareIn name universe domain) reply t (λ p. p) tt (λ effect e. e) (same_request s request (DeclareIn name universe domain) reply t a.requests h)
  accepted_told (AddLine name shape) few a =
      changed_told s (Add name a.requests.0) reply t (λ p. p) tt (λ effect e. e) (same_request s request (Add name a.requests.0) reply t a.requests.2 h)
  accepted_told (RelaxLine name) few a =
      changed_told s (Relax a.requests.0) reply t (λ p. p) tt (λ effect e. e) (same_request s request (Relax a.requests.0) reply t a.requests.2 h)
  accepted_told (EnforceLine name) few a =
      changed_told s (Enforce a.requests.0) reply t (λ p. p) tt (λ effect e. e) (same_request s request (Enforce a.requests.0) reply t a.requests.2 h)
  accepted_told (RetractLine name) few a =
      changed_told s (Retract a.requests.0) reply t (λ p. p) tt (λ effect e. e) (same_request s request (Retract a.requests.0) reply t a.requests.2 h)
  accepted_told ResumeLine few a =
      changed_told s Resume reply t (λ p. p) tt (λ effect e. e) (same_request s request Resume reply t a.requests h)
  accepted_told DomainsLine few a = domains_told s reply t (same_request s request (Ask DomainsAsked) reply t a.requests h)
  accepted_told (DomainLine name) few a = asked_domain s name a.requests.0 reply t a.requests.1 (same_request s request (Ask (Domain a.requests.0)) reply t a.requests.2 h)
  accepted_told (WhyLine name value) few a = told_why s name value request reply t is a h
  accepted_told ConflictLine few a = told_conflict s reply t is (subst (λ (r : Request). Accepts s r reply t) a.requests h)
  accepted_told (MinimalLine name value) few a = told_minimal s name value request reply t a.requests h
  accepted_told MinimalConflictLine few a = told_minimal_conflict s reply t (subst (λ (r : Request). Accepts s r reply t) a.requests h)
  accepted_told (CertLine name value) few a = told_cert s t name reply value request is scoped a h
  accepted_told CertConflictLine few a = told_cert_conflict s t reply is scoped (subst (λ (r : Request). Accepts s r reply t) a.requests h)
  accepted_told (SolveDbt budget) few a = told_search s (Dbt budget) is reply t (same_request s request (Solve (Dbt budget)) reply t a.requests h)
  accepted_told (SolveRepair tabu budget) few a = told_search s (Repair tabu budget) is reply t (same_request s request (Solve (Repair tabu budget)) reply t a.requests h)
  accepted_told (Prove budget) few a =
      let proves = same_request s request (Solve (Proof budget)) reply t a.requests h in
      (told_search s (Proof budget) is reply t proves, told_accepted s budget few is scoped reply t proves)
  accepted_told (Minimize name budget) few a =
      let target = a.requests.0 in
      (target, a.requests.1, told_search s (Least target budget) is reply t (same_request s request (Solve (Least target budget)) reply t a.requests.2 h))
  accepted_told PreferredLine few a = told_preferred s reply t is (subst (λ (r : Request). Accepts s r reply t) a.requests h)
  accepted_told ListLine few a = tt
  accepted_told LogLine few a = tt
  accepted_told PauseLine few a = tt
  accepted_told (StepLine count) few a = tt
  accepted_told (PreferLine name weight) few a = tt
  accepted_told (PreferNone name) few a = tt
  accepted_told (Guide number) few a = tt
  accepted_told GuideNone few a = tt
  accepted_told (Order number) few a = tt
  accepted_told OrderNone few a = tt
  accepted_told (DropGuideLine number) few a = tt
  accepted_told (DropOrderLine number) few a = tt
  accepted_told QuitLine few a = tt

-- ---- lines and runs

line_told : (s : SessionState) (bytes reply : List ℕ) (t : SessionState) → IsState s → HasScopedReasons s.engine → Answers s bytes reply t → TellsTruth s bytes reply t
line_told s bytes reply t is scoped (misread error refusal q some) = λ line admission. absurd (read_or_refused s.mode bytes line error refusal admission.read q some)
line_told s bytes reply t is scoped (refused other refusal read first) = λ line admission.
    let same : line ≡ other = one_reading s.mode s.mode bytes line other admission.read read in
    absurd (first_not_none (Meets (heard s other) other) in_order refusal first (subst (λ (l : Line). IsNone (Meets (heard s l) l) in_order) same admission.admitted.none))
line_told s bytes reply t is scoped (accepted other asked read admitted h) = λ line admission.
    let same : other ≡ line = one_reading s.mode s.mode bytes other line read admission.read in
    let here = subst (λ (l : Line). IsAdmitted (heard s l) l asked) same admitted in
    let there = subst (λ (l : Line). Accepts (heard s l) asked reply t) same h in
    accepted_told (heard s line) asked reply t (heard_state s line is) scoped there line (budget_read s.mode bytes line admission.read) here

lines_told : (s : SessionState) (lines : List (List ℕ)) (replies : List ℕ) (t : SessionState) → IsState s → HasScopedReasons s.engine → (run : Run s lines replies t) → EachLine TellsTruth s lines replies t run
lines_told s [] replies t is scoped run = tt
lines_told s (line ∷ lines) replies t is scoped run = (
  line_told s line run.0 run.2 is scoped run.3,
  lines_told run.2 lines run.1 t (answers_keep s line run.0 run.2 is run.3) (answers_scoped s line run.0 run.2 is run.3 scoped) run.5,
)

pub all_told : (guides orders : List ℕ) (lines : List (List ℕ)) (replies : List ℕ) (t : SessionState) (run : Run (fresh guides orders) lines replies t)
    → EachLine TellsTruth (fresh guides orders) lines replies t run
all_told guides orders lines replies t run = lines_told (fresh guides orders) lines replies t (fresh_is guides orders) (fresh_scoped guides orders) run
