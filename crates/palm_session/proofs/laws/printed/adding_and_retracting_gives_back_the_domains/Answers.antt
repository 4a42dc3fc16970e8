use Rattle.palm_session.proofs.Retracting.{added_and_retracted, same_domains, paused_as_before, printed_as_before}
use Rattle.palm_session.proofs.laws.printed.adding_and_retracting_gives_back_the_domains.Goals as goal

pub returns : goal.returns
returns c = record {
  domains = λ s m t name a b shape add retract d admitted adds asks retracts. same_domains s t d (added_and_retracted s m t name shape add retract a b admitted adds asks retracts);
  printed = λ s m t u name a b reply shape add retract admitted adds asks retracts prints.
      printed_as_before s t u reply (added_and_retracted s m t name shape add retract a b admitted adds asks retracts) (paused_as_before s m t name shape add retract a b admitted adds asks retracts) prints;
}
