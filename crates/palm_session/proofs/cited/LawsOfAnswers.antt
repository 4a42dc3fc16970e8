-- Every line has an answer in each state that a session can hold, and no line has two.
use Rattle.std.proofs.Common.{◌≡◌, ℕ, ℤ, zero, suc, ◌++◌, ◌+◌, ◌-◌, ◌<◌, ◌≤◌, ◌==◌, Bool, true, false, None, cond, List, [], ◌∷◌, length, take, Any, Contains, Some, inl, inr, refl, sym, ap, ◌∙◌, subst, arith, length-take, take_all}
use Rattle.palm_base.proofs.cited.FirstCauses.{first_known, first_once, first_not_none}
use Rattle.palm_base.specs.First.{IsFirst, IsNone}
use Rattle.palm_book.specs.Limits.{most_variables, most_constraints}
use Rattle.palm_book.specs.declared.limits.TheConstants.{MOST_ADDED}
use Rattle.palm_read.specs.declared.limits.TheConstants.{MOST_LINE_BYTES}
use Rattle.std.specs.Prelude.{slice_index, ◌↔◌}
use Rattle.std.proofs.lemmas.Bool.{cases_lt, cases_Bool, false≢true}
use Rattle.std.proofs.lemmas.Option.{same_Some, none-some}
use Rattle.palm_base.specs.declared.terms.Cid.{Cid}
use Rattle.palm_base.proofs.cited.Members.{Known, known_both, known_not, int_known, list_known, nat_known, member_known}
use Rattle.palm_model.specs.Domains.{AllAscend, Domains, values_of}
use Rattle.palm_model.proofs.cited.Without.{pair_of}
use Rattle.palm_base.specs.declared.terms.Pair.{Pair}
use Rattle.palm_book.specs.Book.{Contents, BookVar, active_of, initial_of, name_of}
use Rattle.palm_book.proofs.cited.Actives.{initial_ascend}
use Rattle.palm_book.specs.declared.book.BookCon.{BookCon}
use Rattle.palm_events.proofs.cited.Names.{listed_once}
use Rattle.palm_model.specs.Log.{NamesOfPair, IsListOf}
use Rattle.palm_model.specs.Conflict.{InConflict}
use Rattle.palm_model.specs.State.{present}
use Rattle.palm_cert.specs.Certificate.{certificate_text}
use Rattle.palm_claim.specs.declared.verdict.Claim.TheVariants.{Gone, Conflict as ConflictClaim}
use Rattle.palm_model.specs.Minimal.{AreConflict, DoExplain}
use Rattle.palm_laws.proofs.cited.Growing.{conflict_known, explanation_known}
use Rattle.palm_laws.proofs.cited.Reducing.{minimal_one, minimal_some}
use Rattle.palm_prefer.proofs.cited.Existing.{preferred_exists}
use Rattle.palm_prefer.proofs.cited.Uniqueness.{one_answer}
use Rattle.palm_read.specs.Limits.{names_of}
use Rattle.palm_read.specs.Reading.{IsRead, IsRefusedBy}
use Rattle.palm_lang.specs.Reply.{fixed_text, refusal_text, ran_text, domain_line}
use Rattle.palm_read.specs.declared.line.Line.{Line}
use Rattle.palm_read.specs.declared.line.Line.TheVariants.{Var, VarIn, Add, Relax, Enforce, Retract, Domain, Why, Minimal, Pause, Resume, Step, Cert, Minimize, Prefer, PreferNone, Guide, Order, DropGuide, DropOrder}
use Rattle.palm_read.specs.declared.mode.Mode.{Mode}
use Rattle.palm_read.specs.declared.mode.Mode.TheVariants.{One}
use Rattle.palm_read.specs.declared.parse.LineError.{LineError}
use Rattle.palm_read.specs.declared.parse.LineError.TheVariants.{Bytes, Form, Range as OutOfRange, Empty, Repeated, NoMemory}
use Rattle.palm_lang.specs.declared.reply.Fixed.TheVariants.{Done, Contradiction, Paused, Present, Consistent, Bye}
use Rattle.palm_lang.specs.declared.reply.Lead.TheVariants.{Because, Conflict as ConflictLead}
use Rattle.palm_lang.specs.declared.reply.Refusal.{Refusal}
use Rattle.palm_lang.specs.declared.reply.Refusal.TheVariants.{E1, E2, E3, E4, E5, E6, E7, E8, E9, E10, E11, E12}
use Rattle.palm_read.proofs.cited.Parsing.{one_reading, read_not_refused, one_refusal, each_answered}
use Rattle.palm_read.proofs.cited.SoundLines.{read_sound}
use Rattle.palm_session.specs.State.{SessionState, IsHeld, IsState, AreDomains, has_empty}
use Rattle.palm_session.specs.Modes.{begun, heard, in_mode, misheard, mode_after}
use Rattle.palm_session.specs.Refusals.{IsUnknown, TakesName, NamesNone, NamesNoConstraint, HasNoRoom, IsFullOfConstraints, NamesNoObject, IsUndeclared, AsksUndeclared, HasActive, IsInWrongState, Meets, in_order, refusal_of}
use Rattle.palm_session.specs.Effects.{Effect, Nothing, Settled, Searched, Rests, Filters, Searches, Follows, Does}
use Rattle.palm_session.specs.declared.request.Procedure.{Procedure}
use Rattle.palm_session.specs.declared.request.Question.{Question}
use Rattle.palm_session.specs.declared.request.Question.TheVariants.{Domains as DomainsAsked, Domain as DomainAsked, List as ListAsked, Log as LogAsked, Why as WhyAsked, Conflict as ConflictAsked, Minimal as MinimalAsked, MinimalConflict as MinimalConflictAsked, Cert as CertAsked, CertConflict as CertConflictAsked, Preferred as PreferredAsked}
use Rattle.palm_session.specs.declared.request.Request.{Request}
use Rattle.palm_session.specs.declared.request.Request.TheVariants.{Nothing as NothingAsked, Header as HeaderAsked, Declare as DeclareAsked, DeclareIn as DeclareInAsked, Add as AddAsked, Relax as RelaxAsked, Enforce as EnforceAsked, Retract as RetractAsked, Ask, Pause as PauseAsked, Resume as ResumeAsked, Step as StepAsked, Solve, ChooseGuide, DropGuide as DropGuideAsked, ChooseOrder, DropOrder as DropOrderAsked, Prefer as PreferAsked, Quit as QuitAsked}
use Rattle.palm_session.specs.Requests.{Admits, IsAdmitted, Requests}
use Rattle.palm_session.specs.Answers.{CanWait, IsPausable, AsksOfDomains, IsContradictable, IsAnswer, domains_text, list_text, log_text, users_text, preferred_text, SaysWhy, HasConflict, SaysConflict, SaysMinimal, SaysMinimalConflict, SaysPreferred, SaysCert, SaysCertConflict, told_text, Says, WaitsFor, Contradicts, Accepts, waits, contradicts, says, Answers, misread, refused, accepted}
use Rattle.palm_read.specs.Lines.{without_return}
use Rattle.palm_session.specs.Replies.{ChoosesObject, chooses_guide, chooses_order}
use Rattle.palm_session.specs.declared.limits.TheConstants.{MOST_KEPT_BYTES}
use Rattle.palm_session.proofs.cited.LawsOfChanges.{IsOther, IsWithout}
use Rattle.palm_session.proofs.HeldObjects.{listed}
use Rattle.palm_session.proofs.Requesting.{admits, request_exists, request_once, variable_known}
use Rattle.palm_session.proofs.LawsOfDomains.{empty_domains, explanation_cids, conflict_exists, lowest_empty}
use Rattle.palm_book.proofs.cited.Naming.{some_known, name_known}
use Rattle.palm_read.proofs.cited.KnownLimits.{known_either, most_known, beyond_known}
use Rattle.palm_session.proofs.InModes.{heard_state, misheard_state, read_where}
use Rattle.palm_session.proofs.LawsOfLines.{long_bytes, long_unread, tabu_read}
use Rattle.palm_session.proofs.cited.LawsOfStates.{does_keeps, does_exist, does_once, does_without, rests_same, domains_exist, domains_once, bool_known, contradiction_known}

-- ---- whether a refusal holds is known

constraint_known : (s : SessionState) (name : List ℕ) → Known (Any (λ c. c.name ≡ name) s.book.constraints)
constraint_known s name = name_known (λ (c : BookCon). c.name) s.book.constraints name

takes_known : (s : SessionState) (line : Line) → Known (TakesName s line)
takes_known s (Var name domain) = variable_known s name
takes_known s (VarIn name universe domain) = known_either (variable_known s name) (constraint_known s name)
takes_known s (Add name shape) = constraint_known s name
takes_known s _ = inr (λ h. h)

names_known : (s : SessionState) (line : Line) → Known (NamesNone s line)
names_known s (Add name shape) = some_known (IsUnknown s) (names_of shape) (λ x. known_not (variable_known s x))
names_known s (Domain name) = known_not (variable_known s name)
names_known s (Why name value) = known_not (variable_known s name)
names_known s (Minimal name value) = known_not (variable_known s name)
names_known s (Cert name value) = known_not (variable_known s name)
names_known s (Minimize name budget) = known_not (variable_known s name)
names_known s _ = inr (λ h. h)

constraints_known : (s : SessionState) (line : Line) → Known (NamesNoConstraint s line)
constraints_known s (Relax name) = known_not (constraint_known s name)
constraints_known s (Enforce name) = known_not (constraint_known s name)
constraints_known s (Retract name) = known_not (constraint_known s name)
constraints_known s (Prefer name weight) = known_not (constraint_known s name)
constraints_known s (PreferNone name) = known_not (constraint_known s name)
constraints_known s _ = inr (λ h. h)

full_known : (s : SessionState) → Known (IsFullOfConstraints s)
full_known s = known_either (most_known (most_constraints s.mode) (length s.book.constraints)) (most_known MOST_ADDED s.accepted)

room_known : (s : SessionState) (line : Line) → Known (HasNoRoom s line)
room_known s (Var name domain) = most_known (most_variables s.mode) (length s.book.variables)
room_known s (VarIn name universe domain) = known_either (most_known (most_variables s.mode) (length s.book.variables)) (full_known s)
room_known s (Add name shape) = full_known s
room_known s _ = inr (λ h. h)

objects_known : (s : SessionState) (line : Line) → Known (NamesNoObject s line)
objects_known s (Guide number) = known_not (member_known nat_known s.guides number)
objects_known s (Order number) = known_not (member_known nat_known s.orders number)
objects_known s (DropGuide number) = known_not (member_known nat_known s.guides number)
objects_known s (DropOrder number) = known_not (member_known nat_known s.orders number)
objects_known s _ = inr (λ h. h)

value_known : (s : SessionState) (name : List ℕ) (value : ℤ) → Known (IsUndeclared s name value)
value_known s name value =
    some_known (λ (e : BookVar). (e.name ≡ name) × (Contains e.values value → ⊥)) s.book.variables
    (λ e. known_both (list_known nat_known e.name name) (known_not (member_known int_known e.values value)))

undeclared_known : (s : SessionState) (line : Line) → Known (AsksUndeclared s line)
undeclared_known s (Why name value) = value_known s name value
undeclared_known s (Minimal name value) = value_known s name value
undeclared_known s (Cert name value) = value_known s name value
undeclared_known s _ = inr (λ h. h)

active_known : (s : SessionState) (name : List ℕ) (active : Bool) → Known (HasActive s name active)
active_known s name active =
    some_known (λ (c : BookCon). (c.name ≡ name) × (c.active ≡ active)) s.book.constraints
    (λ c. known_both (list_known nat_known c.name name) (bool_known c.active active))

wrong_known : (s : SessionState) (line : Line) → Known (IsInWrongState s line)
wrong_known s (Relax name) = active_known s name false
wrong_known s (Enforce name) = active_known s name true
wrong_known s Pause = bool_known s.paused true
wrong_known s Resume = bool_known s.paused false
wrong_known s (Step count) = bool_known s.paused false
wrong_known s _ = inr (λ h. h)

meets_known : (s : SessionState) (line : Line) (refusal : Refusal) → Known (Meets s line refusal)
meets_known s line E3 = takes_known s line
meets_known s line E4 = names_known s line
meets_known s line E5 = constraints_known s line
meets_known s line E7 = known_either (beyond_known line) (room_known s line)
meets_known s line E11 = objects_known s line
meets_known s line E12 = undeclared_known s line
meets_known s line E10 = wrong_known s line
meets_known s line _ = inr (λ h. h)

-- ---- there is something to say

-- the explanation of a value that is not in the greatest closed domains
why_exists : (t : SessionState) → IsState t → (d : Domains) (x : ℕ) (value : ℤ) → (reply : List ℕ) × SaysWhy t d x value reply
why_exists t is d x value = elim (member_known int_known (values_of d x) value) [
  | inl has ↦ (fixed_text Present, inl (has, refl))
  | inr missing ↦
      let l = explanation_cids t is.held (pair_of x value) in
      (users_text t.book Because l.0, inr (missing, l.0, l.1, refl))
]

conflict_says : (t : SessionState) → IsState t → t.paused ≡ false → (d : Domains) → AreDomains t d → (reply : List ℕ) × SaysConflict t d reply
conflict_says t is awake d are = elim (cases_Bool (has_empty d)) [
  | inl e ↦
      let c = conflict_exists t is.held (empty_domains t d is awake are e) in
      (users_text t.book ConflictLead c.0, inr (e, c.0, c.1, refl))
  | inr e ↦ (fixed_text Consistent, inl (e, refl))
]

minimal_says : (book : Contents) → AllAscend (initial_of book) → (pair : Pair) → (reply : List ℕ) × SaysMinimal book pair reply
minimal_says book ascend pair = elim (explanation_known (initial_of book) ascend pair (active_of book)) [
  | inl h ↦
      let m = minimal_some (DoExplain (initial_of book) pair) (explanation_known (initial_of book) ascend pair) (active_of book) h in
      (users_text book Because m.0, inr (m.0, m.1, refl))
  | inr n ↦ (fixed_text Present, inl (n, refl))
]

minimal_conflict_says : (book : Contents) → AllAscend (initial_of book) → (reply : List ℕ) × SaysMinimalConflict book reply
minimal_conflict_says book ascend = elim (conflict_known (initial_of book) ascend (active_of book)) [
  | inl h ↦
      let m = minimal_some (AreConflict (initial_of book)) (conflict_known (initial_of book) ascend) (active_of book) h in
      (users_text book ConflictLead m.0, inr (m.0, m.1, refl))
  | inr n ↦ (fixed_text Consistent, inl (n, refl))
]

cert_says : (t : SessionState) (d : Domains) (pair : Pair) → (reply : List ℕ) × SaysCert t d pair reply
cert_says t d pair = elim (member_known int_known (values_of d pair.var) pair.value) [
  | inl has ↦ (fixed_text Present, inl (has, refl))
  | inr missing ↦ (certificate_text t.book t.engine.log (Gone pair), inr (missing, refl))
]

cert_conflict_says : (t : SessionState) → IsState t → t.paused ≡ false → (d : Domains) → AreDomains t d → (reply : List ℕ) × SaysCertConflict t d reply
cert_conflict_says t is awake d are = elim (cases_Bool (has_empty d)) [
  | inl e ↦
      let x = lowest_empty (present t.engine) (empty_domains t d is awake are e) in
      (certificate_text t.book t.engine.log (ConflictClaim x.0), inr (e, x.0, record { empty = x.1; lowest = x.2 }, refl))
  | inr e ↦ (fixed_text Consistent, inl (e, refl))
]

-- a request that waits while filtering waits finds the session awake
pub awake_for : (s : SessionState) (request : Request) → IsPausable request → (WaitsFor s request → ⊥) → s.paused ≡ false
awake_for s request pausable goes = elim (cases_Bool s.paused) [ inl on ↦ absurd (goes (record { paused = on; pausable = pausable })) | inr off ↦ off ]

step_says : (m : SessionState) (count : ℕ) (effect : Effect) (t : SessionState) → Follows m (Filters (Some count)) effect t → (reply : List ℕ) × Says t (StepAsked count) effect reply
step_says m count Nothing t f = absurd f
step_says m count (Settled k) t f = (ran_text k, refl)
step_says m count (Searched k j) t f = absurd f

search_says : (m : SessionState) (by : Procedure) (effect : Effect) (t : SessionState) → Follows m (Searches by) effect t → (reply : List ℕ) × Says t (Solve by) effect reply
search_says m by Nothing t f = absurd f
search_says m by (Settled k) t f = absurd f
search_says m by (Searched end telling) t f = (told_text t.book end telling, refl)

-- a question leaves the state
pub query_same : (s m t : SessionState) (effect : Effect) → m ≡ s → Follows m Rests effect t → t ≡ s
query_same s m t effect e f = rests_same m effect t f ∙ e

-- a question has an answer
answer_exists : (t : SessionState) → IsState t → (question : Question) → (CanWait question → t.paused ≡ false) → (reply : List ℕ) × IsAnswer t question reply
answer_exists t is DomainsAsked awake = let d = domains_exist t is.held in (domains_text t.book.variables d.0, (d.0, d.1, refl))
answer_exists t is (DomainAsked x) awake = let d = domains_exist t is.held in (domain_line (name_of t.book.variables x) (values_of d.0 x), (d.0, d.1, refl))
answer_exists t is ListAsked awake = (list_text t.book, refl)
answer_exists t is LogAsked awake = (log_text t.book t.engine.log, refl)
answer_exists t is (WhyAsked pair) awake =
    let d = domains_exist t is.held in
    let w = why_exists t is d.0 pair.var pair.value in
    (w.0, (d.0, d.1, w.1))
answer_exists t is ConflictAsked awake =
    let d = domains_exist t is.held in
    let c = conflict_says t is (awake tt) d.0 d.1 in
    (c.0, (d.0, d.1, c.1))
answer_exists t is (MinimalAsked pair) awake = minimal_says t.book (initial_ascend t.book is.held.book) pair
answer_exists t is MinimalConflictAsked awake = minimal_conflict_says t.book (initial_ascend t.book is.held.book)
answer_exists t is (CertAsked pair) awake =
    let d = domains_exist t is.held in
    let w = cert_says t d.0 pair in
    (w.0, (d.0, d.1, w.1))
answer_exists t is CertConflictAsked awake =
    let d = domains_exist t is.held in
    let c = cert_conflict_says t is (awake tt) d.0 d.1 in
    (c.0, (d.0, d.1, c.1))
answer_exists t is PreferredAsked awake =
    let p = preferred_exists t.book t.weights is.held.book in
    (preferred_text t.book p.0, (p.0, p.1, refl))

says_exist : (s : SessionState) (request : Request) (effect : Effect) (t : SessionState) → IsState t → (WaitsFor s request → ⊥) → Does s request effect t
    → (reply : List ℕ) × Says t request effect reply
says_exist s NothingAsked effect t is goes does = ([], refl)
says_exist s HeaderAsked effect t is goes does = (fixed_text Done, refl)
says_exist s (DeclareAsked name domain) effect t is goes does = (fixed_text Done, refl)
says_exist s (DeclareInAsked name universe domain) effect t is goes does = (fixed_text Done, refl)
says_exist s (AddAsked name con) effect t is goes does = (fixed_text Done, refl)
says_exist s (RelaxAsked place) effect t is goes does = (fixed_text Done, refl)
says_exist s (EnforceAsked place) effect t is goes does = (fixed_text Done, refl)
says_exist s (RetractAsked place) effect t is goes does = (fixed_text Done, refl)
says_exist s (Ask question) effect t is goes does =
    let same : t ≡ s = query_same s does.0 t effect does.1 does.2 in
    answer_exists t is question (λ waits_too. ap (λ (z : SessionState). z.paused) same ∙ awake_for s (Ask question) waits_too goes)
says_exist s PauseAsked effect t is goes does = (fixed_text Done, refl)
says_exist s ResumeAsked effect t is goes does = (fixed_text Done, refl)
says_exist s (StepAsked count) effect t is goes does = step_says does.0 count effect t does.2
says_exist s (Solve by) effect t is goes does = search_says does.0 by effect t does.2
says_exist s (ChooseGuide chosen) effect t is goes does = (fixed_text Done, refl)
says_exist s (DropGuideAsked number) effect t is goes does = (fixed_text Done, refl)
says_exist s (ChooseOrder chosen) effect t is goes does = (fixed_text Done, refl)
says_exist s (DropOrderAsked number) effect t is goes does = (fixed_text Done, refl)
says_exist s (PreferAsked place weight) effect t is goes does = (fixed_text Done, refl)
says_exist s QuitAsked effect t is goes does = (fixed_text Bye, refl)

waiting_known : (question : Question) → Known (CanWait question)
waiting_known ListAsked = inr (λ h. h)
waiting_known _ = inl tt

pausable_known : (request : Request) → Known (IsPausable request)
pausable_known (Ask question) = waiting_known question
pausable_known (Solve by) = inl tt
pausable_known _ = inr (λ h. h)

of_domains_known : (question : Question) → Known (AsksOfDomains question)
of_domains_known DomainsAsked = inl tt
of_domains_known (DomainAsked x) = inl tt
of_domains_known (WhyAsked pair) = inl tt
of_domains_known (MinimalAsked pair) = inl tt
of_domains_known (CertAsked pair) = inl tt
of_domains_known _ = inr (λ h. h)

contradictable_known : (request : Request) → Known (IsContradictable request)
contradictable_known (DeclareAsked name domain) = inl tt
contradictable_known (DeclareInAsked name universe domain) = inl tt
contradictable_known (AddAsked name con) = inl tt
contradictable_known (RelaxAsked place) = inl tt
contradictable_known (EnforceAsked place) = inl tt
contradictable_known (RetractAsked place) = inl tt
contradictable_known ResumeAsked = inl tt
contradictable_known (Ask question) = of_domains_known question
contradictable_known _ = inr (λ h. h)

waits_known : (s : SessionState) (request : Request) → Known (WaitsFor s request)
waits_known s request = elim (known_both (bool_known s.paused true) (pausable_known request)) [
  | inl w ↦ inl (record { paused = w.0; pausable = w.1 })
  | inr n ↦ inr (λ w. n (w.paused, w.pausable))
]

contradicts_known : (t : SessionState) → IsState t → (request : Request) → Known (Contradicts t request)
contradicts_known t is request = elim (known_both (contradiction_known t is.held) (contradictable_known request)) [
  | inl c ↦ inl (record { contradiction = c.0; contradictable = c.1 })
  | inr n ↦ inr (λ c. n (c.contradiction, c.contradictable))
]

-- ---- every line has an answer

abbrev HasAnswer : SessionState → List ℕ → Type 0
HasAnswer s bytes = (reply : List ℕ) × (t : SessionState) × Answers s bytes reply t

accepted_answer : (s : SessionState) → IsState s → (bytes : List ℕ) (line : Line) → IsRead s.mode bytes line → IsNone (Meets (heard s line) line) in_order → HasAnswer s bytes
accepted_answer s is bytes line read none =
    let h = heard s line in
    let there = heard_state s line is in
    let r = request_exists h line none in
    let a : IsAdmitted h line r.0 = record { none = none; requests = r.1 } in
    elim (waits_known h r.0) [
      | inl w ↦ (fixed_text Paused, h, accepted line r.0 read a (waits w))
      | inr awake ↦
          let can = admits h there.held line r.0 (read_sound s.mode bytes line read) (tabu_read s.mode bytes line read) a in
          let d = does_exist h r.0 there can in
          let it : IsState d.1 = does_keeps h r.0 d.0 d.1 there can d.2 in
          elim (contradicts_known d.1 it r.0) [
            | inl c ↦ (fixed_text Contradiction, d.1, accepted line r.0 read a (contradicts d.0 awake d.2 c))
            | inr n ↦ let x = says_exist h r.0 d.0 d.1 it awake d.2 in (x.0, d.1, accepted line r.0 read a (says d.0 awake d.2 n x.1))
          ]
    ]

read_answer : (s : SessionState) → IsState s → (bytes : List ℕ) (line : Line) → IsRead s.mode bytes line → HasAnswer s bytes
read_answer s is bytes line read = elim (first_known (Meets (heard s line) line) (meets_known (heard s line) line) in_order) [
  | inl f ↦ (refusal_text f.0, heard s line, refused line f.0 read f.1)
  | inr none ↦ accepted_answer s is bytes line read none
]

refusal_is : (error : LineError) → (error ≡ NoMemory → ⊥) → (r : Refusal) × (refusal_of error ≡ Some r)
refusal_is Bytes h = (E1, refl)
refusal_is Form h = (E2, refl)
refusal_is OutOfRange h = (E6, refl)
refusal_is Empty h = (E9, refl)
refusal_is Repeated h = (E8, refl)
refusal_is NoMemory h = absurd (h refl)

pub has_answer : (s : SessionState) (is : IsState s) (bytes : List ℕ) → (reply : List ℕ) × (t : SessionState) × Answers s bytes reply t
has_answer s is bytes = elim (each_answered s.mode bytes) [
  | inl r ↦ read_answer s is bytes r.0 r.1
  | inr e ↦ let r = refusal_is e.0 e.1 in (refusal_text r.0, misheard s, misread e.0 r.0 e.2 r.1)
]

-- ---- a state that a session can hold stays one

-- what a line that was read and admitted asks for can be obeyed
pub read_admits : (mode : Mode) (s : SessionState) → IsHeld s → (bytes : List ℕ) (line : Line) (request : Request) → IsRead mode bytes line → IsAdmitted s line request → Admits s request
read_admits mode s is bytes line request read a = admits s is line request (read_sound mode bytes line read) (tabu_read mode bytes line read) a

accepts_keeps : (s : SessionState) (request : Request) (reply : List ℕ) (t : SessionState) → IsState s → Admits s request → Accepts s request reply t → IsState t
accepts_keeps s request reply t is can (waits w) = is
accepts_keeps s request reply t is can (contradicts effect awake does c) = does_keeps s request effect t is can does
accepts_keeps s request reply t is can (says effect awake does n r) = does_keeps s request effect t is can does

pub answers_keep : (s : SessionState) (bytes reply : List ℕ) (t : SessionState) → IsState s → Answers s bytes reply t → IsState t
answers_keep s bytes reply t is (misread error refusal q some) = misheard_state s is
answers_keep s bytes reply t is (refused line refusal read first) = heard_state s line is
answers_keep s bytes reply t is (accepted line request read a h) =
    let there = heard_state s line is in
    accepts_keeps (heard s line) request reply t there (read_admits s.mode (heard s line) there.held bytes line request read a) h

-- ---- which objects are there, and which are chosen

accepts_without : (guides orders : List ℕ) (s : SessionState) (request : Request) (reply : List ℕ) (t : SessionState) → IsOther request
    → Accepts s request reply t → IsWithout guides orders s → IsWithout guides orders t
accepts_without guides orders s request reply t other (waits w) is = is
accepts_without guides orders s request reply t other (contradicts effect awake does c) is = does_without guides orders s request effect t other does is
accepts_without guides orders s request reply t other (says effect awake does n r) is = does_without guides orders s request effect t other does is

-- a line that asks for a guide or an order names it
abbrev ChoosesGuide : Request → Type 0
ChoosesGuide (ChooseGuide (Some number)) = Unit {0}
ChoosesGuide _ = ⊥

guide_line : (s : SessionState) (line : Line) (number : ℕ) → Requests s line (ChooseGuide (Some number)) → line ≡ Guide number
guide_line s (Guide other) number r = let e : ChooseGuide (Some number) ≡ ChooseGuide (Some other) = r in let same : other ≡ number = cc in ap Guide same
guide_line s (Add name shape) number r = absurd (subst ChoosesGuide r.2 tt)
guide_line s (Relax name) number r = absurd (subst ChoosesGuide r.2 tt)
guide_line s (Enforce name) number r = absurd (subst ChoosesGuide r.2 tt)
guide_line s (Retract name) number r = absurd (subst ChoosesGuide r.2 tt)
guide_line s (Domain name) number r = absurd (subst ChoosesGuide r.2 tt)
guide_line s (Why name value) number r = absurd (subst ChoosesGuide r.2 tt)
guide_line s (Minimal name value) number r = absurd (subst ChoosesGuide r.2 tt)
guide_line s (Cert name value) number r = absurd (subst ChoosesGuide r.2 tt)
guide_line s (Minimize name budget) number r = absurd (subst ChoosesGuide r.2 tt)
guide_line s (Prefer name weight) number r = absurd (subst ChoosesGuide r.2 tt)
guide_line s (PreferNone name) number r = absurd (subst ChoosesGuide r.2 tt)
guide_line s _ number r = absurd (subst ChoosesGuide r tt)

abbrev ChoosesOrder : Request → Type 0
ChoosesOrder (ChooseOrder (Some number)) = Unit {0}
ChoosesOrder _ = ⊥

order_line : (s : SessionState) (line : Line) (number : ℕ) → Requests s line (ChooseOrder (Some number)) → line ≡ Order number
order_line s (Order other) number r = let e : ChooseOrder (Some number) ≡ ChooseOrder (Some other) = r in let same : other ≡ number = cc in ap Order same
order_line s (Add name shape) number r = absurd (subst ChoosesOrder r.2 tt)
order_line s (Relax name) number r = absurd (subst ChoosesOrder r.2 tt)
order_line s (Enforce name) number r = absurd (subst ChoosesOrder r.2 tt)
order_line s (Retract name) number r = absurd (subst ChoosesOrder r.2 tt)
order_line s (Domain name) number r = absurd (subst ChoosesOrder r.2 tt)
order_line s (Why name value) number r = absurd (subst ChoosesOrder r.2 tt)
order_line s (Minimal name value) number r = absurd (subst ChoosesOrder r.2 tt)
order_line s (Cert name value) number r = absurd (subst ChoosesOrder r.2 tt)
order_line s (Minimize name budget) number r = absurd (subst ChoosesOrder r.2 tt)
order_line s (Prefer name weight) number r = absurd (subst ChoosesOrder r.2 tt)
order_line s (PreferNone name) number r = absurd (subst ChoosesOrder r.2 tt)
order_line s _ number r = absurd (subst ChoosesOrder r tt)

without_in : (guides orders : List ℕ) (mode : Mode) (s : SessionState) → IsWithout guides orders s → IsWithout guides orders (in_mode mode s)
without_in guides orders mode s is = record { unguided = is.unguided; free = is.free; guides_within = is.guides_within; orders_within = is.orders_within }

-- a line that chooses none of these objects leaves none chosen
pub answers_without : (guides orders : List ℕ) (s : SessionState) (bytes reply : List ℕ) (t : SessionState) → (ChoosesObject guides orders bytes → ⊥) → Answers s bytes reply t
    → IsWithout guides orders s → IsWithout guides orders t
answers_without guides orders s bytes reply t other (misread error refusal q some) is = without_in guides orders (begun s.mode) s is
answers_without guides orders s bytes reply t other (refused line refusal read first) is = without_in guides orders (mode_after s.mode line) s is
answers_without guides orders s bytes reply t other (accepted line request read a h) is = accepts_without guides orders (heard s line) request reply t (record {
  guide = λ number e.
      let l = guide_line (heard s line) line number (subst (λ (r : Request). Requests (heard s line) line r) e a.requests) in
      let none = subst (λ (x : Line). IsNone (Meets (heard s x) x) in_order) l a.none in
      other (chooses_guide number (is.guides_within number (listed s.guides number none.1.1.1.1.0)) (read_where s.mode One bytes (Guide number) (subst (λ (x : Line). IsRead s.mode bytes x) l read) tt));
  order = λ number e.
      let l = order_line (heard s line) line number (subst (λ (r : Request). Requests (heard s line) line r) e a.requests) in
      let none = subst (λ (x : Line). IsNone (Meets (heard s x) x) in_order) l a.none in
      other (chooses_order number (is.orders_within number (listed s.orders number none.1.1.1.1.0)) (read_where s.mode One bytes (Order number) (subst (λ (x : Line). IsRead s.mode bytes x) l read) tt));
}) h (without_in guides orders (mode_after s.mode line) s is)

-- ---- no line has two answers

why_same : (t : SessionState) (d : Domains) (x : ℕ) (value : ℤ) (a b : List ℕ) → SaysWhy t d x value a → SaysWhy t d x value b → a ≡ b
why_same t d x value a b (inl p) (inl q) = p.1 ∙ sym q.1
why_same t d x value a b (inl p) (inr q) = absurd (q.0 p.0)
why_same t d x value a b (inr p) (inl q) = absurd (p.0 q.0)
why_same t d x value a b (inr p) (inr q) =
    let cids : p.1 ≡ q.1 = listed_once (NamesOfPair t.engine.log (pair_of x value)) p.1 q.1 p.2 q.2 in
    p.3 ∙ ap (λ (z : List Cid). users_text t.book Because z) cids ∙ sym q.3

-- there is one kept conflict of the lowest empty variable
conflict_cids_same : (t : SessionState) (cids others : List Cid) → HasConflict t cids → HasConflict t others → cids ≡ others
conflict_cids_same t cids others one other =
    let below : one.var ≤ other.var = one.lowest other.var other.empty in
    let above : other.var ≤ one.var = other.lowest one.var one.empty in
    let same : other.var ≡ one.var = omega (arith, below, above) in
    listed_once (InConflict t.engine one.var) cids others one.is (subst (λ (x : ℕ). IsListOf (InConflict t.engine x) others) same other.is)

conflict_same : (t : SessionState) (d : Domains) (a b : List ℕ) → SaysConflict t d a → SaysConflict t d b → a ≡ b
conflict_same t d a b (inl p) (inl q) = p.1 ∙ sym q.1
conflict_same t d a b (inl p) (inr q) = absurd (false≢true (sym p.0 ∙ q.0))
conflict_same t d a b (inr p) (inl q) = absurd (false≢true (sym q.0 ∙ p.0))
conflict_same t d a b (inr p) (inr q) =
    p.3 ∙ ap (λ (z : List Cid). users_text t.book ConflictLead z) (conflict_cids_same t p.1 q.1 p.2 q.2) ∙ sym q.3

minimal_same : (book : Contents) (pair : Pair) (a b : List ℕ) → SaysMinimal book pair a → SaysMinimal book pair b → a ≡ b
minimal_same book pair a b (inl p) (inl q) = p.1 ∙ sym q.1
minimal_same book pair a b (inl p) (inr q) = absurd (p.0 q.1.holds)
minimal_same book pair a b (inr p) (inl q) = absurd (q.0 p.1.holds)
minimal_same book pair a b (inr p) (inr q) =
    let cids : p.0 ≡ q.0 = minimal_one (DoExplain (initial_of book) pair) (active_of book) p.0 q.0 p.1 q.1 in
    p.2 ∙ ap (λ (z : List Cid). users_text book Because z) cids ∙ sym q.2

minimal_conflict_same : (book : Contents) (a b : List ℕ) → SaysMinimalConflict book a → SaysMinimalConflict book b → a ≡ b
minimal_conflict_same book a b (inl p) (inl q) = p.1 ∙ sym q.1
minimal_conflict_same book a b (inl p) (inr q) = absurd (p.0 q.1.holds)
minimal_conflict_same book a b (inr p) (inl q) = absurd (q.0 p.1.holds)
minimal_conflict_same book a b (inr p) (inr q) =
    let cids : p.0 ≡ q.0 = minimal_one (AreConflict (initial_of book)) (active_of book) p.0 q.0 p.1 q.1 in
    p.2 ∙ ap (λ (z : List Cid). users_text book ConflictLead z) cids ∙ sym q.2

preferred_same : (t : SessionState) (a b : List ℕ) → SaysPreferred t a → SaysPreferred t b → a ≡ b
preferred_same t a b x y = x.2 ∙ ap (preferred_text t.book) (one_answer t.book t.weights x.0 y.0 x.1 y.1) ∙ sym y.2

cert_same : (t : SessionState) (d : Domains) (pair : Pair) (a b : List ℕ) → SaysCert t d pair a → SaysCert t d pair b → a ≡ b
cert_same t d pair a b (inl p) (inl q) = p.1 ∙ sym q.1
cert_same t d pair a b (inl p) (inr q) = absurd (q.0 p.0)
cert_same t d pair a b (inr p) (inl q) = absurd (p.0 q.0)
cert_same t d pair a b (inr p) (inr q) = p.1 ∙ sym q.1

cert_conflict_same : (t : SessionState) (d : Domains) (a b : List ℕ) → SaysCertConflict t d a → SaysCertConflict t d b → a ≡ b
cert_conflict_same t d a b (inl p) (inl q) = p.1 ∙ sym q.1
cert_conflict_same t d a b (inl p) (inr q) = absurd (false≢true (sym p.0 ∙ q.0))
cert_conflict_same t d a b (inr p) (inl q) = absurd (false≢true (sym q.0 ∙ p.0))
cert_conflict_same t d a b (inr p) (inr q) =
    let below : p.1 ≤ q.1 = p.2.lowest q.1 q.2.empty in
    let above : q.1 ≤ p.1 = q.2.lowest p.1 p.2.empty in
    let same : p.1 ≡ q.1 = omega (arith, below, above) in
    p.3 ∙ ap (λ (x : ℕ). certificate_text t.book t.engine.log (ConflictClaim x)) same ∙ sym q.3

step_same : (t : SessionState) (count : ℕ) (effect : Effect) (a b : List ℕ) → Says t (StepAsked count) effect a → Says t (StepAsked count) effect b → a ≡ b
step_same t count Nothing a b x y = absurd x
step_same t count (Settled k) a b x y = x ∙ sym y
step_same t count (Searched k j) a b x y = absurd x

search_same : (t : SessionState) (by : Procedure) (effect : Effect) (a b : List ℕ) → Says t (Solve by) effect a → Says t (Solve by) effect b → a ≡ b
search_same t by Nothing a b x y = absurd x
search_same t by (Settled k) a b x y = absurd x
search_same t by (Searched end telling) a b x y = x ∙ sym y

answer_same : (t : SessionState) (question : Question) (a b : List ℕ) → IsAnswer t question a → IsAnswer t question b → a ≡ b
answer_same t DomainsAsked a b x y =
    x.2 ∙ ap (λ (z : Domains). domains_text t.book.variables z) (domains_once t x.0 y.0 x.1 y.1) ∙ sym y.2
answer_same t (DomainAsked v) a b x y =
    x.2 ∙ ap (λ (z : Domains). domain_line (name_of t.book.variables v) (values_of z v)) (domains_once t x.0 y.0 x.1 y.1) ∙ sym y.2
answer_same t ListAsked a b x y = x ∙ sym y
answer_same t LogAsked a b x y = x ∙ sym y
answer_same t (WhyAsked pair) a b x y =
    why_same t y.0 pair.var pair.value a b (subst (λ (z : Domains). SaysWhy t z pair.var pair.value a) (domains_once t x.0 y.0 x.1 y.1) x.2) y.2
answer_same t ConflictAsked a b x y =
    conflict_same t y.0 a b (subst (λ (z : Domains). SaysConflict t z a) (domains_once t x.0 y.0 x.1 y.1) x.2) y.2
answer_same t (MinimalAsked pair) a b x y = minimal_same t.book pair a b x y
answer_same t MinimalConflictAsked a b x y = minimal_conflict_same t.book a b x y
answer_same t (CertAsked pair) a b x y =
    cert_same t y.0 pair a b (subst (λ (z : Domains). SaysCert t z pair a) (domains_once t x.0 y.0 x.1 y.1) x.2) y.2
answer_same t CertConflictAsked a b x y =
    cert_conflict_same t y.0 a b (subst (λ (z : Domains). SaysCertConflict t z a) (domains_once t x.0 y.0 x.1 y.1) x.2) y.2
answer_same t PreferredAsked a b x y = preferred_same t a b x y

says_same : (t : SessionState) (request : Request) (effect : Effect) (a b : List ℕ) → Says t request effect a → Says t request effect b → a ≡ b
says_same t NothingAsked effect a b x y = x ∙ sym y
says_same t HeaderAsked effect a b x y = x ∙ sym y
says_same t (DeclareAsked name domain) effect a b x y = x ∙ sym y
says_same t (DeclareInAsked name universe domain) effect a b x y = x ∙ sym y
says_same t (AddAsked name con) effect a b x y = x ∙ sym y
says_same t (RelaxAsked place) effect a b x y = x ∙ sym y
says_same t (EnforceAsked place) effect a b x y = x ∙ sym y
says_same t (RetractAsked place) effect a b x y = x ∙ sym y
says_same t (Ask question) effect a b x y = answer_same t question a b x y
says_same t PauseAsked effect a b x y = x ∙ sym y
says_same t ResumeAsked effect a b x y = x ∙ sym y
says_same t (StepAsked count) effect a b x y = step_same t count effect a b x y
says_same t (Solve by) effect a b x y = search_same t by effect a b x y
says_same t (ChooseGuide chosen) effect a b x y = x ∙ sym y
says_same t (DropGuideAsked number) effect a b x y = x ∙ sym y
says_same t (ChooseOrder chosen) effect a b x y = x ∙ sym y
says_same t (DropOrderAsked number) effect a b x y = x ∙ sym y
says_same t (PreferAsked place weight) effect a b x y = x ∙ sym y
says_same t QuitAsked effect a b x y = x ∙ sym y

abbrev AreOne : List ℕ → List ℕ → SessionState → SessionState → Type 0
AreOne a b t u = (a ≡ b) × (t ≡ u)

module _ (s : SessionState) (request : Request) (unguided : s.guide ≡ None) (free : s.order ≡ None) (is : IsState s) (can : Admits s request) where
  both_say : (e f : Effect) (t u : SessionState) (a b : List ℕ) → Does s request e t → Does s request f u → Says t request e a → Says u request f b → AreOne a b t u
  both_say e f t u a b d g x y =
      let one = does_once s request e f t u unguided free is can d g in
      let there : Says t request f b = subst (λ (z : SessionState). Says z request f b) (sym one.1) y in
      (says_same t request e a b x (subst (λ (z : Effect). Says t request z b) (sym one.0) there), one.1)

  one_tells : (e f : Effect) (t u : SessionState) → Does s request e t → Does s request f u → Contradicts t request → (Contradicts u request → ⊥) → ⊥
  one_tells e f t u d g c n = n (subst (λ (z : SessionState). Contradicts z request) (does_once s request e f t u unguided free is can d g).1 c)

accepts_once : (s : SessionState) (request : Request) (a b : List ℕ) (t u : SessionState) → s.guide ≡ None → s.order ≡ None → IsState s → Admits s request → Accepts s request a t → Accepts s request b u → AreOne a b t u
accepts_once s request a b t u unguided free is can (waits w) (waits v) = (refl, refl)
accepts_once s request a b t u unguided free is can (waits w) (contradicts f m g k) = absurd (m w)
accepts_once s request a b t u unguided free is can (waits w) (says f m g k y) = absurd (m w)
accepts_once s request a b t u unguided free is can (contradicts e n d c) (waits v) = absurd (n v)
accepts_once s request a b t u unguided free is can (contradicts e n d c) (contradicts f m g k) = (refl, (does_once s request e f t u unguided free is can d g).1)
accepts_once s request a b t u unguided free is can (contradicts e n d c) (says f m g k y) = absurd (one_tells s request unguided free is can e f t u d g c k)
accepts_once s request a b t u unguided free is can (says e n d c x) (waits v) = absurd (n v)
accepts_once s request a b t u unguided free is can (says e n d c x) (contradicts f m g k) = absurd (one_tells s request unguided free is can f e u t g d k c)
accepts_once s request a b t u unguided free is can (says e n d c x) (says f m g k y) = both_say s request unguided free is can e f t u a b d g x y

-- an error with a refusal is not want of memory
not_memory : (error : LineError) (refusal : Refusal) → refusal_of error ≡ Some refusal → error ≡ NoMemory → ⊥
not_memory error refusal some e = none-some refusal (subst (λ (z : LineError). refusal_of z ≡ Some refusal) e some)

-- what is refused by its text is not read
misread_unread : (mode : Mode) (bytes : List ℕ) (line : Line) (error : LineError) (refusal : Refusal) → IsRead mode bytes line → IsRefusedBy mode bytes error → refusal_of error ≡ Some refusal → ⊥
misread_unread mode bytes line error refusal read q some = not_memory error refusal some (read_not_refused mode bytes line error read q)

misread_once : (mode : Mode) (bytes : List ℕ) (d e : LineError) (p r : Refusal) → IsRefusedBy mode bytes d → IsRefusedBy mode bytes e → refusal_of d ≡ Some p → refusal_of e ≡ Some r → p ≡ r
misread_once mode bytes d e p r x y some other =
    let same : d ≡ e = one_refusal mode bytes d e x y (not_memory d p some) (not_memory e r other) in
    same_Some p r (sym some ∙ ap refusal_of same ∙ other)

pub answers_once : (s : SessionState) (bytes a b : List ℕ) (t u : SessionState) → s.guide ≡ None → s.order ≡ None → IsState s → Answers s bytes a t → Answers s bytes b u → (a ≡ b) × (t ≡ u)
answers_once s bytes a b t u unguided free is (misread d p x some) (misread e r y other) = (ap refusal_text (misread_once s.mode bytes d e p r x y some other), refl)
answers_once s bytes a b t u unguided free is (misread d p x some) (refused line r read first) = absurd (misread_unread s.mode bytes line d p read x some)
answers_once s bytes a b t u unguided free is (misread d p x some) (accepted line request read k h) = absurd (misread_unread s.mode bytes line d p read x some)
answers_once s bytes a b t u unguided free is (refused line p read first) (misread e r y other) = absurd (misread_unread s.mode bytes line e r read y other)
answers_once s bytes a b t u unguided free is (refused line p read first) (refused other r again second) =
    let same : other ≡ line = one_reading s.mode s.mode bytes other line again read in (
      ap refusal_text (first_once (Meets (heard s line) line) in_order p r first (subst (λ (z : Line). IsFirst (Meets (heard s z) z) in_order r) same second)),
      ap (λ (z : Line). heard s z) (sym same),
    )
answers_once s bytes a b t u unguided free is (refused line p read first) (accepted other request again k h) =
    let same : other ≡ line = one_reading s.mode s.mode bytes other line again read in
    absurd (first_not_none (Meets (heard s line) line) in_order p first (subst (λ (z : Line). IsNone (Meets (heard s z) z) in_order) same k.none))
answers_once s bytes a b t u unguided free is (accepted line request read k h) (misread e r y other) = absurd (misread_unread s.mode bytes line e r read y other)
answers_once s bytes a b t u unguided free is (accepted line request read k h) (refused other r again second) =
    let same : other ≡ line = one_reading s.mode s.mode bytes other line again read in
    absurd (first_not_none (Meets (heard s line) line) in_order r (subst (λ (z : Line). IsFirst (Meets (heard s z) z) in_order r) same second) k.none)
answers_once s bytes a b t u unguided free is (accepted line request read k h) (accepted other asked again l i) =
    let same : other ≡ line = one_reading s.mode s.mode bytes other line again read in
    let there = heard_state s line is in
    let one : asked ≡ request = request_once (heard s line) there.held line asked request (subst (λ (z : Line). Requests (heard s z) z asked) same l.requests) k.requests in
    let here : Accepts (heard s line) asked b u = subst (λ (z : Line). Accepts (heard s z) asked b u) same i in
    accepts_once (heard s line) request a b t u unguided free there (read_admits s.mode (heard s line) there.held bytes line request read k) h
    (subst (λ (r : Request). Accepts (heard s line) r b u) one here)

-- ---- the first bytes decide

-- one byte at most is taken off the end
returned : (line : List ℕ) (b : Bool) → length line ≤ length (cond b (take (length line - 1) line) line) + 1
returned line true = omega (arith, length-take (length line - 1) line)
returned line false = omega arith

pub return_length : (line : List ℕ) → length line ≤ length (without_return line) + 1
return_length line = returned line (slice_index line (length line - 1) == 13)

-- a line that is too long has one answer in every state, the refusal of its length
long_answer : (s : SessionState) (bytes reply : List ℕ) (t : SessionState) → MOST_LINE_BYTES < length bytes → Answers s bytes reply t → (reply ≡ refusal_text E1) × (t ≡ misheard s)
long_answer s bytes reply t long (misread error refusal q some) = (ap refusal_text (misread_once s.mode bytes error Bytes refusal E1 q (long_bytes s.mode bytes long) some refl), refl)
long_answer s bytes reply t long (refused line refusal read first) = absurd (long_unread s.mode bytes line long read)
long_answer s bytes reply t long (accepted line request read a h) = absurd (long_unread s.mode bytes line long read)

-- and every line that is too long has it
long_same : (s : SessionState) (bytes others reply : List ℕ) (t : SessionState) → MOST_LINE_BYTES < length bytes → MOST_LINE_BYTES < length others → Answers s bytes reply t → Answers s others reply t
long_same s bytes others reply t long too a =
    let is = long_answer s bytes reply t long a in
    let here : Answers s others (refusal_text E1) (misheard s) = misread Bytes E1 (long_bytes s.mode others too) refl in
    subst (λ (z : SessionState). Answers s others reply z) (sym is.1) (subst (λ (z : List ℕ). Answers s others z (misheard s)) (sym is.0) here)

kept_long : (line : List ℕ) → MOST_KEPT_BYTES < length line → (MOST_LINE_BYTES < length (without_return line)) × (MOST_LINE_BYTES < length (without_return (take MOST_KEPT_BYTES line)))
kept_long line long = (
  omega (arith, return_length line),
  omega (arith, return_length (take MOST_KEPT_BYTES line), length-take MOST_KEPT_BYTES line),
)

pub first_bytes_decide : (s : SessionState) (line reply : List ℕ) (t : SessionState) → Answers s (without_return line) reply t ↔ Answers s (without_return (take MOST_KEPT_BYTES line)) reply t
first_bytes_decide s line reply t = elim (cases_lt MOST_KEPT_BYTES (length line)) [
  | inl long ↦
      let l = kept_long line long in (
        long_same s (without_return line) (without_return (take MOST_KEPT_BYTES line)) reply t l.0 l.1,
        long_same s (without_return (take MOST_KEPT_BYTES line)) (without_return line) reply t l.1 l.0,
      )
  | inr short ↦
      let e : take MOST_KEPT_BYTES line ≡ line = take_all MOST_KEPT_BYTES line short in (
        subst (λ (z : List ℕ). Answers s (without_return z) reply t) (sym e),
        subst (λ (z : List ℕ). Answers s (without_return z) reply t) e,
      )
]

-- and what they say
pub first_bytes_read : (mode : Mode) (line : List ℕ) (said : Line) → IsRead mode (without_return line) said ↔ IsRead mode (without_return (take MOST_KEPT_BYTES line)) said
first_bytes_read mode line said = elim (cases_lt MOST_KEPT_BYTES (length line)) [
  | inl long ↦
      let l = kept_long line long in (
        λ r. absurd (long_unread mode (without_return line) said l.0 r),
        λ r. absurd (long_unread mode (without_return (take MOST_KEPT_BYTES line)) said l.1 r),
      )
  | inr short ↦
      let e : take MOST_KEPT_BYTES line ≡ line = take_all MOST_KEPT_BYTES line short in (
        subst (λ (z : List ℕ). IsRead mode (without_return z) said) (sym e),
        subst (λ (z : List ℕ). IsRead mode (without_return z) said) e,
      )
]

-- lines with the same first bytes have the same answers
pub same_first_bytes : (s : SessionState) (a b reply : List ℕ) (t : SessionState) → take MOST_KEPT_BYTES a ≡ take MOST_KEPT_BYTES b → Answers s (without_return a) reply t → Answers s (without_return b) reply t
same_first_bytes s a b reply t e h =
    (first_bytes_decide s b reply t).1 (subst (λ (z : List ℕ). Answers s (without_return z) reply t) e ((first_bytes_decide s a reply t).0 h))

-- and say the same
pub same_first_bytes_read : (mode : Mode) (a b : List ℕ) (said : Line) → take MOST_KEPT_BYTES a ≡ take MOST_KEPT_BYTES b → IsRead mode (without_return a) said → IsRead mode (without_return b) said
same_first_bytes_read mode a b said e h =
    (first_bytes_read mode b said).1 (subst (λ (z : List ℕ). IsRead mode (without_return z) said) e ((first_bytes_read mode a said).0 h))

-- the first bytes of more, where only the first bytes were kept before
pub kept_more : (kept : ℕ) (line more : List ℕ) → take kept (take kept line ++ more) ≡ take kept (line ++ more)
kept_more zero line more = refl
kept_more (suc kept) [] more = refl
kept_more (suc kept) (b ∷ bytes) more = ap (λ (z : List ℕ). b ∷ z) (kept_more kept bytes more)
