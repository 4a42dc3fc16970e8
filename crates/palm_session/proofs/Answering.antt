-- Questions whose answers are not withheld.
use Rattle.std.proofs.Common.{◌≡◌, false}
use Rattle.palm_model.specs.Minimal.{AreConflict}
use Rattle.palm_model.specs.State.{present}
use Rattle.palm_book.specs.Book.{active_of, initial_of}
use Rattle.palm_session.specs.Answers.{AsksOfDomains, CanWait}
use Rattle.palm_session.specs.Serving.{IsOpen}
use Rattle.palm_session.specs.State.{SessionState, IsContradiction, IsState, AreDomains}
use Rattle.palm_session.specs.declared.request.Question.{Question}
use Rattle.palm_session.specs.declared.request.Request.TheVariants.{Ask}
use Rattle.palm_session.proofs.LawsOfDomains.{conflict_contradicts, printed_domains}
use Rattle.palm_session.proofs.cited.LawsOfAnswers.{awake_for}

module _ (s : SessionState) (is : IsState s) (question : Question) (open_to : IsOpen s (Ask question)) where
  pub open_awake : CanWait question → s.paused ≡ false
  open_awake can = awake_for s (Ask question) can open_to.goes

  open_calm : AsksOfDomains question → IsContradiction s → ⊥
  open_calm asks contradiction = open_to.calm (record { contradiction = contradiction; contradictable = asks })

  -- the domains that the engine has are the greatest closed ones
  pub open_domains : CanWait question → AsksOfDomains question → AreDomains s (present s.engine)
  open_domains can asks = printed_domains s is (open_awake can) (open_calm asks)

  pub open_filled : CanWait question → AsksOfDomains question → AreConflict (initial_of s.book) (active_of s.book) → ⊥
  open_filled can asks conflict = open_calm asks (conflict_contradicts s is.held (open_awake can) conflict)
