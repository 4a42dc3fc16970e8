use Rattle.std.proofs.Common.{◌≡◌, ℕ, List, Option, Some, None, MatchOption, is_some, sym, subst, ◌∙◌, refl}
use Rattle.std.specs.Prelude.{IsSomeAnd}
use Rattle.std.proofs.lemmas.Bool.{false≢true}
use Rattle.palm_base.specs.declared.terms.Cid.{Cid}
use Rattle.palm_base.proofs.cited.Telling.{tells_false}
use Rattle.palm_agenda.specs.Agenda.{IsStanding}
use Rattle.palm_engine.specs.Following.{OrderAnswers}
use Rattle.palm_engine.specs.Settling.{HasReached}
use Rattle.palm_engine.proofs.Settles.{some_map, none_of, none_told}
use Rattle.palm_engine.proofs.settle.take_next.Goals as goal

asked_of : {O : Type 0} (answers : O → List Cid → ℕ → List ℕ → Type 0) (state : O → List ℕ) (pending : List Cid) (answer : ℕ) (old new : Option O) → is_some new ≡ is_some old
    → MatchOption old (answer ≡ 0) (λ before. IsSomeAnd new (λ after. answers before pending answer (state after))) → OrderAnswers answers state pending answer old new
asked_of answers state pending answer None None stays told = tt
asked_of answers state pending answer None (Some after) stays told = absurd (false≢true (sym stays))
asked_of answers state pending answer (Some before) None stays told = absurd (false≢true stays)
asked_of answers state pending answer (Some before) (Some after) stays told = told

pub returns-clause-some : goal.returns-clause-some
returns-clause-some g c = some_map _ _ c.take.result (λ taken told. (
  record {
    answer = told.0;
    takes = told.1;
    fits = none_told (told.0 ≡ 0) _ c.args.order.now told.2;
    below = tells_false (HasReached c.args.limit c.args.ran) c.is_reached.result c.is_reached.ensures.tells c.if-is_reached.false;
    bounded = c.is_reached.ensures.bounded;
    filled = none_of c.args.filtering.now.empty (sym c.is_some.ensures ∙ c.if-is_some.false);
    connected = c.take.ensures.connected;
    store = refl;
    log = refl;
    empty = refl;
    checks = refl;
  },
  asked_of g.O.Order.answers g.O.Order.state c.args.filtering.now.agenda.pending told.0 c.args.order.now c.take.new.order c.take.ensures.stays told.2,
)) c.take.ensures.some

pub returns-clause-standing : goal.returns-clause-standing
returns-clause-standing g c =
    some_map (IsStanding c.args.filtering.now.agenda.connected) (IsStanding c.take.new.self.connected) c.take.result
    (λ taken standing. subst (λ ds. IsStanding ds taken) (sym c.take.ensures.connected) standing) c.take.ensures.standing
