use Rattle.palm_events.proofs.cited.Scoped.{blank_scoped, step_scoped, run_scoped}
use Rattle.palm_events.proofs.laws.validity.reasons_stay_in_scopes.Goals as goal

pub returns : goal.returns
returns c = record {
  begins = λ initial. blank_scoped initial;
  step = λ s t step h valid scoped. step_scoped s step t h valid scoped;
  run = λ s t steps run valid scoped. run_scoped s steps t run valid scoped;
}
