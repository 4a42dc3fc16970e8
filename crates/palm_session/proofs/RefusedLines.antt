-- A line whose reply begins as refusals do was refused, and changes nothing but the mode.
use Rattle.std.proofs.Common.{◌≡◌, ℕ, true, List, [], ◌∷◌, ◌++◌, Contains, Some, None, inl, inr, refl, sym, ◌∙◌, subst, arith}
use Rattle.std.specs.Prelude.{flat_map}
use Rattle.palm_base.proofs.cited.FirstCauses.{first_not_none}
use Rattle.palm_base.proofs.cited.Members.{member_here}
use Rattle.palm_base.specs.First.{IsFirst, IsNone}
use Rattle.palm_book.specs.Book.{Contents, name_of, user_name}
use Rattle.palm_cert.proofs.cited.Readable.{pair_declared, pair_name, pair_value}
use Rattle.palm_lang.specs.Reply.{fixed_text}
use Rattle.palm_lang.specs.declared.reply.Fixed.TheVariants.{Bye, Consistent, Contradiction, Done, End, Paused, Present}
use Rattle.palm_lang.specs.declared.reply.Refusal.{Refusal}
use Rattle.palm_model.specs.Log.{Removal}
use Rattle.palm_prefer.specs.declared.answer.Preferred.{Preferred}
use Rattle.palm_prefer.specs.declared.answer.Preferred.TheVariants.{Hard, Kept}
use Rattle.palm_read.proofs.cited.Parsing.{one_reading}
use Rattle.palm_read.specs.declared.line.Line.{Line}
use Rattle.palm_search.specs.declared.ending.SearchEnd.{SearchEnd}
use Rattle.palm_cert.proofs.cited.Declared.{name_text}
use Rattle.palm_cert.proofs.cited.Links.{pair_logged}
use Rattle.palm_cert.specs.Certificate.{certificate_text}
use Rattle.palm_claim.specs.declared.verdict.Claim.TheVariants.{Gone, Conflict as ConflictClaim}
use Rattle.palm_lang.specs.Reply.{domain_line, ran_text}
use Rattle.palm_lang.specs.declared.reply.Lead.TheVariants.{Because, Conflict as ConflictLead}
use Rattle.palm_model.specs.Domains.{values_of}
use Rattle.palm_model.specs.State.{EngineState}
use Rattle.palm_read.specs.Name.{IsNameText}
use Rattle.palm_model.specs.Limits.{IsValue}
use Rattle.palm_read.specs.declared.line.Line.TheVariants.{Comment, Header}
use Rattle.palm_best.specs.declared.best.Best.{Best}
use Rattle.palm_best.specs.declared.best.Best.TheVariants.{Least as LeastFound, NoSolution as NoneFound, Spent as SpentBest}
use Rattle.palm_search.specs.declared.turn.Turn.{Turn}
use Rattle.palm_session.specs.Answers.{Accepts, waits, contradicts, says, Answers, misread, refused, accepted, IsAnswer, Says, domains_text, list_text, log_line, log_text, preferred_text, told_text, users_text}
use Rattle.palm_session.specs.EachLine.{BeginsRefusal, EachLine, LeavesAllRefused}
use Rattle.palm_session.specs.Effects.{Does, Effect, Nothing, Settled, Searched, Telling, SearchesIn, best_end, best_telling}
use Rattle.palm_session.specs.Modes.{heard, misheard}
use Rattle.palm_session.specs.Refusals.{Meets, in_order}
use Rattle.palm_session.specs.Replies.{Run}
use Rattle.palm_session.specs.Requests.{Admits, CanAsk}
use Rattle.palm_session.specs.State.{SessionState, IsState, fresh}
use Rattle.palm_session.specs.declared.request.Procedure.{Procedure}
use Rattle.palm_session.specs.declared.request.Procedure.TheVariants.{Dbt, Repair, Proof, Least}
use Rattle.palm_session.specs.declared.request.Question.{Question}
use Rattle.palm_session.specs.declared.request.Question.TheVariants.{Domains as DomainsAsked, Domain, List as Listed, Log, Why, Conflict, Minimal, MinimalConflict, Cert, CertConflict, Preferred as PreferredAsked}
use Rattle.palm_session.specs.declared.request.Request.{Request}
use Rattle.palm_session.specs.declared.request.Request.TheVariants.{Nothing as NothingAsked, Header as HeaderAsked, Declare, DeclareIn, Add, Relax, Enforce, Retract, Ask, Pause, Resume, Step, Solve, ChooseGuide, DropGuide, ChooseOrder, DropOrder, Prefer, Quit}
use Rattle.palm_session.proofs.Beginnings.{differs, differs_longer, domain_differs, domains_differ, end_differs, list_differs, no_refusal, refusal_start, removal_differs}
use Rattle.palm_session.proofs.InModes.{heard_state}
use Rattle.palm_session.proofs.ReadOnce.{read_or_refused}
use Rattle.palm_session.proofs.cited.LawsOfAnswers.{answers_keep, query_same, read_admits}
use Rattle.palm_session.proofs.cited.LawsOfStates.{fresh_is}

-- ---- questions

-- each removal of the log is of a variable with a name, and of a value
abbrev AreShown : Contents → List Removal → Type 0
AreShown book log = (r : Removal) → Contains log r → IsNameText (name_of book.variables r.pair.var) × IsValue r.pair.value

log_differs : (book : Contents) (log : List Removal) → AreShown book log → differs refusal_start (log_text book log) ≡ true
log_differs book [] shown = refl
log_differs book (r ∷ log) shown =
    let here = shown r (member_here r log) in
    differs_longer refusal_start (flat_map (log_line book) (r ∷ log)) (fixed_text End)
    (differs_longer refusal_start (log_line book r) (flat_map (log_line book) log) (removal_differs book.variables (user_name book.constraints r.by) r.pair r.reasons here.0 here.1))

preferred_differs : (book : Contents) (preferred : Preferred) → differs refusal_start (preferred_text book preferred) ≡ true
preferred_differs book (Hard conflict) = refl
preferred_differs book (Kept keep left) = refl

module _ (s : SessionState) (is : IsState s) where
  shown : AreShown s.book s.engine.log
  shown r m =
      let held = is.held in
      let has = pair_declared s.engine s.book held.valid held.initial r.pair (pair_logged s.engine.log r m) in
      (pair_name s.book held.book r.pair has, pair_value s.book held.book r.pair has)

  answer_differs : (question : Question) (reply : List ℕ) → CanAsk s question → IsAnswer s question reply → BeginsRefusal reply → ⊥
  answer_differs DomainsAsked reply can a = no_refusal reply (domains_text s.book.variables a.0) a.2 (domains_differ s.book.variables a.0 is.held.book.variable_names)
  answer_differs (Domain x) reply can a =
      let name = name_of s.book.variables x in
      no_refusal reply (domain_line name (values_of a.0 x)) a.2 (domain_differs name (values_of a.0 x) (name_text s.book.variables x is.held.book.variable_names can))
  answer_differs Listed reply can a = no_refusal reply (list_text s.book) a (list_differs s.book (λ k d h. let n = is.held.numbered k d h in let few = is.held.accepted in omega (arith, n, few)))
  answer_differs Log reply can a = no_refusal reply (log_text s.book s.engine.log) a (log_differs s.book s.engine.log shown)
  answer_differs (Why pair) reply can a = elim a.2 [
    | inl p ↦ no_refusal reply (fixed_text Present) p.1 refl
    | inr p ↦ no_refusal reply (users_text s.book Because p.1) p.3 refl
  ]
  answer_differs Conflict reply can a = elim a.2 [
    | inl p ↦ no_refusal reply (fixed_text Consistent) p.1 refl
    | inr p ↦ no_refusal reply (users_text s.book ConflictLead p.1) p.3 refl
  ]
  answer_differs (Minimal pair) reply can a = elim a [
    | inl p ↦ no_refusal reply (fixed_text Present) p.1 refl
    | inr p ↦ no_refusal reply (users_text s.book Because p.0) p.2 refl
  ]
  answer_differs MinimalConflict reply can a = elim a [
    | inl p ↦ no_refusal reply (fixed_text Consistent) p.1 refl
    | inr p ↦ no_refusal reply (users_text s.book ConflictLead p.0) p.2 refl
  ]
  answer_differs (Cert pair) reply can a = elim a.2 [
    | inl p ↦ no_refusal reply (fixed_text Present) p.1 refl
    | inr p ↦ no_refusal reply (certificate_text s.book s.engine.log (Gone pair)) p.1 refl
  ]
  answer_differs CertConflict reply can a = elim a.2 [
    | inl p ↦ no_refusal reply (fixed_text Consistent) p.1 refl
    | inr p ↦ no_refusal reply (certificate_text s.book s.engine.log (ConflictClaim p.1)) p.3 refl
  ]
  answer_differs PreferredAsked reply can a = no_refusal reply (preferred_text s.book a.0) a.2 (preferred_differs s.book a.0)

-- ---- searches

best_differs : (book : Contents) (best : Best) → differs refusal_start (told_text book (best_end best) (best_telling best)) ≡ true
best_differs book (LeastFound values users) = refl
best_differs book (NoneFound users) = refl
best_differs book (SpentBest turns None) = refl
best_differs book (SpentBest turns (Some values)) = refl

search_differs : (s : SessionState) (by : Procedure) (turns : List Turn) (end : SearchEnd) (telling : Telling) (e : EngineState) (book : Contents) → SearchesIn s by turns end telling e
    → differs refusal_start (told_text book end telling) ≡ true
search_differs s (Dbt budget) turns end telling e book h =
    subst (λ (z : Telling). differs refusal_start (told_text book end z) ≡ true) (sym h.told) (end_differs book end None)
search_differs s (Repair tabu budget) turns end telling e book h =
    subst (λ (z : Telling). differs refusal_start (told_text book end z) ≡ true) (sym h.told) (end_differs book end (Some h.count))
search_differs s (Proof budget) turns end telling e book h =
    let text : differs refusal_start h.text ≡ true = subst (λ (t : List ℕ). differs refusal_start t ≡ true) (sym h.proves.writes.is) refl in
    subst (λ (z : Telling). differs refusal_start (told_text book end z) ≡ true) (sym h.told) text
search_differs s (Least target budget) turns end telling e book h =
    subst (λ (z : SearchEnd). differs refusal_start (told_text book z telling) ≡ true) (sym h.ended)
    (subst (λ (z : Telling). differs refusal_start (told_text book (best_end h.best) z) ≡ true) (sym h.told) (best_differs book h.best))

-- ---- accepted lines

silent : (reply : List ℕ) → reply ≡ [] → BeginsRefusal reply → ⊥
silent reply none begins = let e : [] ≡ refusal_start ++ begins.0 = sym none ∙ begins.1 in cc

done : (reply : List ℕ) → reply ≡ fixed_text Done → BeginsRefusal reply → ⊥
done reply e = no_refusal reply (fixed_text Done) e refl

module _ (s : SessionState) (is : IsState s) (t : SessionState) (reply : List ℕ) where
  said_differs : (request : Request) (effect : Effect) → Admits s request → Does s request effect t → Says t request effect reply → BeginsRefusal reply → ⊥
  said_differs NothingAsked effect can does said = silent reply said
  said_differs HeaderAsked effect can does said = done reply said
  said_differs (Declare name domain) effect can does said = done reply said
  said_differs (DeclareIn name universe domain) effect can does said = done reply said
  said_differs (Add name con) effect can does said = done reply said
  said_differs (Relax place) effect can does said = done reply said
  said_differs (Enforce place) effect can does said = done reply said
  said_differs (Retract place) effect can does said = done reply said
  said_differs (Ask question) effect can does said =
      let same : t ≡ s = query_same s does.0 t effect does.1 does.2 in
      answer_differs s is question reply can (subst (λ (z : SessionState). IsAnswer z question reply) same said)
  said_differs Pause effect can does said = done reply said
  said_differs Resume effect can does said = done reply said
  said_differs (Step count) Nothing can does said = absurd said
  said_differs (Step count) (Settled revisions) can does said = no_refusal reply (ran_text revisions) said refl
  said_differs (Step count) (Searched end telling) can does said = absurd said
  said_differs (Solve by) Nothing can does said = absurd said
  said_differs (Solve by) (Settled revisions) can does said = absurd said
  said_differs (Solve by) (Searched end telling) can does said =
      let f = does.2 in no_refusal reply (told_text t.book end telling) said (search_differs does.0 by f.0 end telling f.1 t.book f.2)
  said_differs (ChooseGuide chosen) effect can does said = done reply said
  said_differs (DropGuide number) effect can does said = done reply said
  said_differs (ChooseOrder chosen) effect can does said = done reply said
  said_differs (DropOrder number) effect can does said = done reply said
  said_differs (Prefer place weight) effect can does said = done reply said
  said_differs Quit effect can does said = no_refusal reply (fixed_text Bye) said refl

accepted_differs : (s : SessionState) (request : Request) (reply : List ℕ) (t : SessionState) → IsState s → Admits s request → Accepts s request reply t → BeginsRefusal reply → ⊥
accepted_differs s request reply t is can (waits w) = no_refusal (fixed_text Paused) (fixed_text Paused) refl refl
accepted_differs s request reply t is can (contradicts effect goes does c) = no_refusal (fixed_text Contradiction) (fixed_text Contradiction) refl refl
accepted_differs s request reply t is can (says effect goes does quiet said) = said_differs s is t reply request effect can does said

-- ---- refused lines

-- comments and headers meet no refusal, and every other line leaves the mode of a first line
comment_unrefused : (s : SessionState) → IsNone (Meets s Comment) in_order
comment_unrefused s = (λ m. m, (λ m. m, (λ m. m, (λ m. elim m [ inl b ↦ b | inr b ↦ b ], (λ m. m, (λ m. m, (λ m. m, tt)))))))

header_unrefused : (s : SessionState) → IsNone (Meets s Header) in_order
header_unrefused s = (λ m. m, (λ m. m, (λ m. m, (λ m. elim m [ inl b ↦ b | inr b ↦ b ], (λ m. m, (λ m. m, (λ m. m, tt)))))))

heard_refused : (s : SessionState) (line : Line) (refusal : Refusal) → IsFirst (Meets (heard s line) line) in_order refusal → heard s line ≡ misheard s
heard_refused s Comment refusal first = absurd (first_not_none (Meets (heard s Comment) Comment) in_order refusal first (comment_unrefused (heard s Comment)))
heard_refused s Header refusal first = absurd (first_not_none (Meets (heard s Header) Header) in_order refusal first (header_unrefused (heard s Header)))
heard_refused s _ refusal first = refl

line_leaves : (s : SessionState) (bytes reply : List ℕ) (t : SessionState) → IsState s → Answers s bytes reply t → LeavesAllRefused s bytes reply t
line_leaves s bytes reply t is (misread error refusal q some) begins =
    record { state = refl; unasked = λ request has. read_or_refused s.mode bytes has.line error refusal has.read q some }
line_leaves s bytes reply t is (refused line refusal read first) begins = record {
  state = heard_refused s line refusal first;
  unasked = λ request has.
      let same : has.line ≡ line = one_reading s.mode s.mode bytes has.line line has.read read in
      first_not_none (Meets (heard s line) line) in_order refusal first (subst (λ (l : Line). IsNone (Meets (heard s l) l) in_order) same has.admitted.none);
}
line_leaves s bytes reply t is (accepted line request read a h) begins =
    let there = heard_state s line is in
    absurd (accepted_differs (heard s line) request reply t there (read_admits s.mode (heard s line) there.held bytes line request read a) h begins)

lines_leave : (s : SessionState) (lines : List (List ℕ)) (replies : List ℕ) (t : SessionState) → IsState s → (run : Run s lines replies t) → EachLine LeavesAllRefused s lines replies t run
lines_leave s [] replies t is run = tt
lines_leave s (line ∷ lines) replies t is run = (
  line_leaves s line run.0 run.2 is run.3,
  lines_leave run.2 lines run.1 t (answers_keep s line run.0 run.2 is run.3) run.5,
)

pub all_leave : (guides orders : List ℕ) (lines : List (List ℕ)) (replies : List ℕ) (t : SessionState) (run : Run (fresh guides orders) lines replies t)
    → EachLine LeavesAllRefused (fresh guides orders) lines replies t run
all_leave guides orders lines replies t run = lines_leave (fresh guides orders) lines replies t (fresh_is guides orders) run
