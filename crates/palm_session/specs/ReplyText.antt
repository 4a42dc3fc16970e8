-- The text of a reply.
use Rattle.std.specs.Prelude.{◌≡◌, ◌<◌, ℕ, List, [], length, All, Some}
use Rattle.palm_model.specs.Domains.{values_of}
use Rattle.palm_model.specs.State.{present}
use Rattle.palm_book.specs.Book.{Contents, HasNumber, IsUser, name_of}
use Rattle.palm_cert.specs.Certificate.{certificate_text}
use Rattle.palm_cert.specs.Needs.{CanClaim}
use Rattle.palm_lang.specs.Reply.{fixed_text, refusal_text, ran_text, domain_line, found_line, spent_best_line, spent_line}
use Rattle.palm_session.specs.Answers.{domains_text, least_text, list_text, log_text, preferred_text, users_text}
use Rattle.palm_prefer.specs.declared.answer.LeftOut.{LeftOut}
use Rattle.palm_prefer.specs.declared.answer.Preferred.{Preferred}
use Rattle.palm_prefer.specs.declared.answer.Preferred.TheVariants.{Hard, Kept}
use Rattle.palm_session.specs.Refusals.{refusal_of}
use Rattle.palm_session.specs.State.{SessionState}
use Rattle.palm_read.specs.declared.parse.LineError.{LineError}
use Rattle.palm_lang.specs.declared.reply.Refusal.{Refusal}
use Rattle.palm_session.specs.declared.going.Going.TheVariants.{More}
use Rattle.palm_session.specs.declared.reply.Reply.{Reply}
use Rattle.palm_session.specs.declared.taken.Taken.{Taken}
use Rattle.palm_session.specs.declared.taken.Taken.TheVariants.{Said}
use Rattle.palm_session.specs.declared.reply.Reply.TheVariants.{Nothing, Word, Refused, Ran, Domains, Domain, Listing, Log, Users, Certificate, Found, Spent, Best, SpentBest, Weighed}

-- the text of a reply to a line, by what is held after it
abbrev pub reply_text : SessionState → Reply → List ℕ
reply_text s Nothing = []
reply_text s (Word word) = fixed_text word
reply_text s (Refused refusal) = refusal_text refusal
reply_text s (Ran revisions) = ran_text revisions
reply_text s Domains = domains_text s.book.variables (present s.engine)
reply_text s (Domain x) = domain_line (name_of s.book.variables x) (values_of (present s.engine) x)
reply_text s Listing = list_text s.book
reply_text s Log = log_text s.book s.engine.log
reply_text s (Users lead users) = users_text s.book lead users
reply_text s (Certificate claim) = certificate_text s.book s.engine.log claim
reply_text s (Found values) = found_line s.book.variables values
reply_text s (Spent turns dropped) = spent_line turns dropped
reply_text s (Best values users) = least_text s.book values users
reply_text s (SpentBest turns values) = spent_best_line turns s.book.variables values
reply_text s (Weighed preferred) = preferred_text s.book preferred

-- the constraint is in the book, and so are those of its conflict
pub record LeavesUsers (book : Contents) (out : LeftOut) : Type 0 where
  pub numbered : HasNumber book out.number
  pub users : All (IsUser book) out.conflict

-- the constraints that are named are in the book
abbrev pub NamesUsers : Contents → Preferred → Type 0
NamesUsers book (Hard conflict) = All (IsUser book) conflict
NamesUsers book (Kept keep left) = All (IsUser book) keep × All (LeavesUsers book) left

-- what a reply is about is in the book, and what a certificate claims holds
abbrev pub ReplyFits : SessionState → Reply → Type 0
ReplyFits s (Domain x) = x < length s.book.variables
ReplyFits s (Users lead users) = All (IsUser s.book) users
ReplyFits s (Certificate claim) = CanClaim s.engine claim
ReplyFits s (Found values) = length values ≡ length s.book.variables
ReplyFits s (Best values users) = (length values ≡ length s.book.variables) × All (IsUser s.book) users
ReplyFits s (SpentBest turns values) = length values ≡ length s.book.variables
ReplyFits s (Weighed preferred) = NamesUsers s.book preferred
ReplyFits s _ = Unit {0}

-- the refusal of a line that could not be read, after which the session goes on
pub record IsRefusal (error : LineError) (taken : Taken) : Type 0 where
  pub refusal : Refusal
  pub of_error : refusal_of error ≡ Some refusal
  pub is : taken ≡ Said (Refused refusal) More
