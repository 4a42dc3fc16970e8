use Rattle.palm_session.proofs.ScopedLines.{fresh_scoped, answers_scoped, run_in_scopes}
use Rattle.palm_session.proofs.laws.reasons_lie_in_scopes.Goals as goal

pub returns : goal.returns
returns c = record {
  begins = λ guides orders. fresh_scoped guides orders;
  stays = λ s bytes reply t is scoped a. answers_scoped s bytes reply t is a scoped;
  runs = λ guides orders lines replies t run. run_in_scopes guides orders lines replies t run;
}
