-- What a session answers to a line, and what it holds afterwards.
use Rattle.std.specs.Prelude.{◌≡◌, ℕ, ℤ, ◌≤◌, ◌⊎◌, true, false, List, [], ◌++◌, map, flat_map, zip, Option, None, Some}
use Rattle.palm_base.specs.First.{IsFirst}
use Rattle.palm_base.specs.declared.terms.Cid.{Cid}
use Rattle.palm_base.specs.declared.terms.Pair.{Pair}
use Rattle.palm_model.specs.Domains.{Domains, Has, values_of}
use Rattle.palm_model.specs.Log.{Removal, NamesOfPair, IsListOf}
use Rattle.palm_model.specs.State.{IsEmptyAt, present}
use Rattle.palm_model.specs.Conflict.{IsKeptConflict}
use Rattle.palm_book.specs.Book.{BookVar, Contents, active_of, initial_of, name_of, number_name, user_name}
use Rattle.palm_model.specs.Minimal.{AreConflict, DoExplain, IsMinimalConflict, IsMinimalExplanation}
use Rattle.palm_claim.specs.declared.verdict.Claim.TheVariants.{Gone, Conflict as ConflictClaim}
use Rattle.palm_cert.specs.Certificate.{certificate_text}
use Rattle.palm_read.specs.Reading.{IsRead, IsRefusedBy}
use Rattle.palm_lang.specs.Reply.{fixed_text, refusal_text, ran_text, domain_line, var_line, entry_line, removal_line, names_line, best_line, leave_line, found_line, spent_best_line, spent_line}
use Rattle.palm_lang.specs.declared.reply.Lead.{Lead}
use Rattle.palm_lang.specs.declared.reply.Lead.TheVariants.{Because, Conflict as ConflictLead, NoSolution as NoSolutionLead, Proved, HardConflict, Keep}
use Rattle.palm_prefer.specs.Preferred.{IsPreferred}
use Rattle.palm_prefer.specs.declared.answer.LeftOut.{LeftOut}
use Rattle.palm_prefer.specs.declared.answer.Preferred.{Preferred}
use Rattle.palm_prefer.specs.declared.answer.Preferred.TheVariants.{Hard, Kept}
use Rattle.palm_read.specs.declared.line.Line.{Line}
use Rattle.palm_read.specs.declared.parse.LineError.{LineError}
use Rattle.palm_lang.specs.declared.reply.Fixed.TheVariants.{Done, Contradiction, Paused, Present, Consistent, Bye, End}
use Rattle.palm_lang.specs.declared.reply.Refusal.{Refusal}
use Rattle.palm_session.specs.State.{SessionState, AreDomains, IsContradiction, has_empty}
use Rattle.palm_session.specs.declared.request.Question.{Question}
use Rattle.palm_session.specs.declared.request.Question.TheVariants.{Domains as DomainsAsked, Domain, List as Listed, Log, Why, Conflict, Minimal, MinimalConflict, Cert, CertConflict, Preferred as PreferredAsked}
use Rattle.palm_session.specs.declared.request.Request.{Request}
use Rattle.palm_session.specs.declared.request.Request.TheVariants.{Nothing as NothingAsked, Header as HeaderAsked, Declare, DeclareIn, Add, Relax, Enforce, Retract, Ask, Pause, Resume, Step, Solve, ChooseGuide, DropGuide, ChooseOrder, DropOrder, Prefer, Quit}
use Rattle.palm_search.specs.declared.ending.SearchEnd.{SearchEnd}
use Rattle.palm_search.specs.declared.ending.SearchEnd.TheVariants.{Found, NoSolution, Spent}
use Rattle.palm_session.specs.Modes.{heard, misheard}
use Rattle.palm_session.specs.Refusals.{Meets, in_order, refusal_of}
use Rattle.palm_session.specs.Requests.{IsAdmitted}
use Rattle.palm_session.specs.Effects.{Effect, Settled, Searched, Telling, InShort, InFull, AsLeast, SoFar, Does}

-- the questions that are answered by `paused` while filtering waits
abbrev pub CanWait : Question → Type 0
CanWait Listed = ⊥
CanWait _ = Unit {0}

-- the requests that are
abbrev pub IsPausable : Request → Type 0
IsPausable (Ask question) = CanWait question
IsPausable (Solve by) = Unit {0}
IsPausable _ = ⊥

-- the questions that are answered by `contradiction` where some variable has no value
abbrev pub AsksOfDomains : Question → Type 0
AsksOfDomains DomainsAsked = Unit {0}
AsksOfDomains (Domain x) = Unit {0}
AsksOfDomains (Why pair) = Unit {0}
AsksOfDomains (Minimal pair) = Unit {0}
AsksOfDomains (Cert pair) = Unit {0}
AsksOfDomains _ = ⊥

-- the requests that are, where some variable has no value afterwards
abbrev pub IsContradictable : Request → Type 0
IsContradictable (Declare name domain) = Unit {0}
IsContradictable (DeclareIn name universe domain) = Unit {0}
IsContradictable (Add name con) = Unit {0}
IsContradictable (Relax place) = Unit {0}
IsContradictable (Enforce place) = Unit {0}
IsContradictable (Retract place) = Unit {0}
IsContradictable Resume = Unit {0}
IsContradictable (Ask question) = AsksOfDomains question
IsContradictable _ = ⊥

-- a line for each variable, and `end`
abbrev pub domains_text : List BookVar → Domains → List ℕ
domains_text variables d = flat_map (λ p. domain_line p.0.name p.1) (zip variables d) ++ fixed_text End

-- a line for each variable and each constraint, and `end`
abbrev pub list_text : Contents → List ℕ
list_text book =
    flat_map (λ e. var_line e.name e.values) book.variables ++ flat_map (entry_line book.variables) book.constraints
    ++ fixed_text End

-- a line for each removal of the kept log, the oldest first, and `end`
abbrev pub log_line : Contents → Removal → List ℕ
log_line book r = removal_line book.variables (user_name book.constraints r.by) r.pair r.reasons

abbrev pub log_text : Contents → List Removal → List ℕ
log_text book log = flat_map (log_line book) log ++ fixed_text End

-- the names of users' constraints behind a word, by rising number
abbrev pub users_text : Contents → Lead → List Cid → List ℕ
users_text book lead users = names_line lead (map (user_name book.constraints) users)

-- how a search ended: a value for each variable, constraints that have no solution, or how many turns were taken, and how
-- many nogoods dropped, where that is told
abbrev pub end_text : Contents → SearchEnd → Option ℕ → List ℕ
end_text book (Found values) dropped = found_line book.variables values
end_text book (NoSolution users) dropped = users_text book NoSolutionLead users
end_text book (Spent turns) dropped = spent_line turns dropped

-- a value for each variable, which is the best, the users' constraints that prove it, and `end`
abbrev pub least_text : Contents → List ℤ → List Cid → List ℕ
least_text book values users = best_line book.variables values ++ users_text book Proved users ++ fixed_text End

-- where the end has values, that they are the best
abbrev pub as_least_text : Contents → SearchEnd → List Cid → List ℕ
as_least_text book (Found values) users = least_text book values users
as_least_text book end users = end_text book end None

-- where the budget was spent, how many turns were taken, and the best values so far, if some were found
abbrev pub so_far_text : Contents → SearchEnd → Option (List ℤ) → List ℕ
so_far_text book (Spent turns) (Some values) = spent_best_line turns book.variables values
so_far_text book end best = end_text book end None

-- how a search is told
abbrev pub told_text : Contents → SearchEnd → Telling → List ℕ
told_text book end (InShort dropped) = end_text book end dropped
told_text book end (InFull text) = text
told_text book end (AsLeast users) = as_least_text book end users
told_text book end (SoFar best) = so_far_text book end best

-- `present` where the value is one of the greatest closed domains, and else the explanation that the log keeps
abbrev pub SaysWhy : SessionState → Domains → ℕ → ℤ → List ℕ → Type 0
SaysWhy s d x value reply = (Has d x value × (reply ≡ fixed_text Present)) ⊎ ((Has d x value → ⊥)
    × (users : List Cid) × IsListOf (NamesOfPair s.engine.log (record { var = x; value = value })) users × (reply ≡ users_text s.book Because users))

-- the kept conflict of the lowest empty variable
pub record HasConflict (s : SessionState) (users : List Cid) : Type 0 where
  pub var : ℕ
  pub empty : IsEmptyAt (present s.engine) var
  pub lowest : (y : ℕ) → IsEmptyAt (present s.engine) y → var ≤ y
  pub is : IsKeptConflict s.engine var users

-- `consistent` where none of the greatest closed domains is empty, and else the conflict that the engine keeps
abbrev pub SaysConflict : SessionState → Domains → List ℕ → Type 0
SaysConflict s d reply = ((has_empty d ≡ false) × (reply ≡ fixed_text Consistent))
    ⊎ ((has_empty d ≡ true) × (users : List Cid) × HasConflict s users × (reply ≡ users_text s.book ConflictLead users))

-- `present` where the active constraints do not explain the absence of the pair, and else their minimal explanation
abbrev pub SaysMinimal : Contents → Pair → List ℕ → Type 0
SaysMinimal book pair reply = ((DoExplain (initial_of book) pair (active_of book) → ⊥) × (reply ≡ fixed_text Present))
    ⊎ ((users : List Cid) × IsMinimalExplanation (initial_of book) (active_of book) pair users × (reply ≡ users_text book Because users))

-- `consistent` where the active constraints are no conflict, and else their minimal conflict
abbrev pub SaysMinimalConflict : Contents → List ℕ → Type 0
SaysMinimalConflict book reply = ((AreConflict (initial_of book) (active_of book) → ⊥) × (reply ≡ fixed_text Consistent))
    ⊎ ((users : List Cid) × IsMinimalConflict (initial_of book) (active_of book) users × (reply ≡ users_text book ConflictLead users))

-- `present` where the value is one of the greatest closed domains, and else the certificate of its removal by the kept log
abbrev pub SaysCert : SessionState → Domains → Pair → List ℕ → Type 0
SaysCert s d pair reply = (Has d pair.var pair.value × (reply ≡ fixed_text Present))
    ⊎ ((Has d pair.var pair.value → ⊥) × (reply ≡ certificate_text s.book s.engine.log (Gone pair)))

-- the lowest empty variable
pub record IsLowestEmpty (s : SessionState) (x : ℕ) : Type 0 where
  pub empty : IsEmptyAt (present s.engine) x
  pub lowest : (y : ℕ) → IsEmptyAt (present s.engine) y → x ≤ y

-- `consistent` where none of the greatest closed domains is empty, and else the certificate of the lowest empty variable by
-- the kept log
abbrev pub SaysCertConflict : SessionState → Domains → List ℕ → Type 0
SaysCertConflict s d reply = ((has_empty d ≡ false) × (reply ≡ fixed_text Consistent))
    ⊎ ((has_empty d ≡ true) × (x : ℕ) × IsLowestEmpty s x × (reply ≡ certificate_text s.book s.engine.log (ConflictClaim x)))

-- a constraint that is left out, with the conflict for which it is
abbrev pub left_text : Contents → LeftOut → List ℕ
left_text book out = leave_line (number_name book.constraints out.number) (map (user_name book.constraints) out.conflict)

-- the conflict of the constraints without a weight; or those that are kept, a line for each that is left out, and `end`
abbrev pub preferred_text : Contents → Preferred → List ℕ
preferred_text book (Hard conflict) = users_text book HardConflict conflict
preferred_text book (Kept keep left) = users_text book Keep keep ++ flat_map (left_text book) left ++ fixed_text End

-- what is preferred of the active constraints by the weights
abbrev pub SaysPreferred : SessionState → List ℕ → Type 0
SaysPreferred s reply = (preferred : Preferred) × IsPreferred s.book s.weights preferred × (reply ≡ preferred_text s.book preferred)

-- the answer to a question, by what is held
abbrev pub IsAnswer : SessionState → Question → List ℕ → Type 0
IsAnswer s DomainsAsked reply = (d : Domains) × AreDomains s d × (reply ≡ domains_text s.book.variables d)
IsAnswer s (Domain x) reply = (d : Domains) × AreDomains s d × (reply ≡ domain_line (name_of s.book.variables x) (values_of d x))
IsAnswer s Listed reply = reply ≡ list_text s.book
IsAnswer s Log reply = reply ≡ log_text s.book s.engine.log
IsAnswer s (Why pair) reply = (d : Domains) × AreDomains s d × SaysWhy s d pair.var pair.value reply
IsAnswer s Conflict reply = (d : Domains) × AreDomains s d × SaysConflict s d reply
IsAnswer s (Minimal pair) reply = SaysMinimal s.book pair reply
IsAnswer s MinimalConflict reply = SaysMinimalConflict s.book reply
IsAnswer s (Cert pair) reply = (d : Domains) × AreDomains s d × SaysCert s d pair reply
IsAnswer s CertConflict reply = (d : Domains) × AreDomains s d × SaysCertConflict s d reply
IsAnswer s PreferredAsked reply = SaysPreferred s reply

-- the reply of the request's own, by what is held after it and by what happened; an effect that the request cannot have has
-- no reply
abbrev pub Says : SessionState → Request → Effect → List ℕ → Type 0
Says s NothingAsked effect reply = reply ≡ []
Says s HeaderAsked effect reply = reply ≡ fixed_text Done
Says s (Declare name domain) effect reply = reply ≡ fixed_text Done
Says s (DeclareIn name universe domain) effect reply = reply ≡ fixed_text Done
Says s (Add name con) effect reply = reply ≡ fixed_text Done
Says s (Relax place) effect reply = reply ≡ fixed_text Done
Says s (Enforce place) effect reply = reply ≡ fixed_text Done
Says s (Retract place) effect reply = reply ≡ fixed_text Done
Says s (Ask question) effect reply = IsAnswer s question reply
Says s Pause effect reply = reply ≡ fixed_text Done
Says s Resume effect reply = reply ≡ fixed_text Done
Says s (Step count) (Settled revisions) reply = reply ≡ ran_text revisions
Says s (Solve by) (Searched end telling) reply = reply ≡ told_text s.book end telling
Says s (ChooseGuide chosen) effect reply = reply ≡ fixed_text Done
Says s (DropGuide number) effect reply = reply ≡ fixed_text Done
Says s (ChooseOrder chosen) effect reply = reply ≡ fixed_text Done
Says s (DropOrder number) effect reply = reply ≡ fixed_text Done
Says s (Prefer place weight) effect reply = reply ≡ fixed_text Done
Says s Quit effect reply = reply ≡ fixed_text Bye
Says s _ _ reply = ⊥

-- filtering waits, and the request is one that waits with it
pub record WaitsFor (s : SessionState) (request : Request) : Type 0 where
  pub paused : s.paused ≡ true
  pub pausable : IsPausable request

-- some variable has no value, and the request is one that is told so
pub record Contradicts (s : SessionState) (request : Request) : Type 0 where
  pub contradiction : IsContradiction s
  pub contradictable : IsContradictable request

-- what an admitted request does and what is replied, in this order: `paused`, `contradiction`, the reply of its own
pub data Accepts : SessionState → Request → List ℕ → SessionState → Type 0 where
  waits : {s : SessionState} {request : Request} → WaitsFor s request → Accepts s request (fixed_text Paused) s
  contradicts : {s t : SessionState} {request : Request} → (effect : Effect) → (WaitsFor s request → ⊥) → Does s request effect t → Contradicts t request → Accepts s request (fixed_text Contradiction) t
  says : {s t : SessionState} {request : Request} {reply : List ℕ} → (effect : Effect) → (WaitsFor s request → ⊥) → Does s request effect t → (Contradicts t request → ⊥) → Says t request effect reply → Accepts s request reply t

-- between what the session holds, a line, its reply and what the session holds afterwards: the line is read in the mode
-- before it; a line that cannot be read and one that meets a refusal are refused, and leave nothing but their mode; and of
-- every other line the request that it asks for is accepted, in the mode that the line sets
pub data Answers : SessionState → List ℕ → List ℕ → SessionState → Type 0 where
  misread : {s : SessionState} {bytes : List ℕ} → (error : LineError) (refusal : Refusal) → IsRefusedBy s.mode bytes error → refusal_of error ≡ Some refusal → Answers s bytes (refusal_text refusal) (misheard s)
  refused : {s : SessionState} {bytes : List ℕ} → (line : Line) (refusal : Refusal) → IsRead s.mode bytes line → IsFirst (Meets (heard s line) line) in_order refusal → Answers s bytes (refusal_text refusal) (heard s line)
  accepted : {s t : SessionState} {bytes reply : List ℕ} → (line : Line) (request : Request) → IsRead s.mode bytes line → IsAdmitted (heard s line) line request → Accepts (heard s line) request reply t → Answers s bytes reply t
