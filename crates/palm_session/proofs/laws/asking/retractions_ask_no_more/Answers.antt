use Rattle.palm_session.proofs.AskingBack.{relax_asks, retract_asks}
use Rattle.palm_session.proofs.laws.asking.retractions_ask_no_more.Goals as goal

pub returns : goal.returns
returns c = record {
  retract = λ s t bytes name count is quiet read asks. retract_asks s t bytes name count is quiet read asks;
  relax = λ s t bytes name count is quiet read asks. relax_asks s t bytes name count is quiet read asks;
}
