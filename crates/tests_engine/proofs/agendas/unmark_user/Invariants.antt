use Rattle.std.proofs.Common.{ℕ, ◌<◌}
use Rattle.palm_base.specs.declared.terms.Cid.TheVariants.{User}
use Rattle.palm_agenda.specs.Agenda.{HasPlace, IsStanding}
use Rattle.tests_engine.proofs.TwoConnected.{taken_user}
use Rattle.tests_engine.proofs.agendas.unmark_user.Given as goal

abbrev pub invariant-loop-place : goal.invariant-loop-place
invariant-loop-place l = record {
  standing : IsStanding l.agenda.connected taken_user;
  places : (place : ℕ) → place < 3 → HasPlace l.agenda.connected (User 70000) place;
}
