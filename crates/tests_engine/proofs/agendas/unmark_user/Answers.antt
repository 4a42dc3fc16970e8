use Rattle.std.proofs.Common.{sym, subst}
use Rattle.palm_agenda.specs.Agenda.{HasPlace, IsStanding, changed_at, unmarked}
use Rattle.palm_agenda.specs.declared.taken.Taken.{Taken}
use Rattle.palm_agenda.proofs.cited.Keeping.{keeps_at, keeps_unmarked}
use Rattle.tests_engine.proofs.TwoConnected.{place_after, standing_after, taken_user}
use Rattle.tests_engine.proofs.agendas.unmark_user.Goals as goal

pub unmark-requires-clause-standing : goal.unmark-requires-clause-standing
unmark-requires-clause-standing c = subst (IsStanding c.loop-place.agenda.connected) (sym c.taken_user.ensures) c.loop-place.invariant.standing

pub unmark-requires-clause-within : goal.unmark-requires-clause-within
unmark-requires-clause-within c =
    subst (λ (t : Taken). HasPlace c.loop-place.agenda.connected t.cid c.loop-place.place) (sym c.taken_user.ensures) (c.loop-place.invariant.places c.loop-place.place c.loop-place-test.true)

pub loop-place-preserved : goal.loop-place-preserved
loop-place-preserved c =
    let cid = c.taken_user.result.cid in
    let change = changed_at cid (unmarked c.loop-place.place) in
    let keeps = keeps_at cid (unmarked c.loop-place.place) (keeps_unmarked c.loop-place.place) in
    record {
      standing = standing_after change keeps c.loop-place.agenda.connected c.unmark.new.self.connected c.unmark.ensures.connected taken_user c.loop-place.invariant.standing;
      places = λ place lt. place_after change keeps c.loop-place.agenda.connected c.unmark.new.self.connected c.unmark.ensures.connected _ place (c.loop-place.invariant.places place lt);
    }
