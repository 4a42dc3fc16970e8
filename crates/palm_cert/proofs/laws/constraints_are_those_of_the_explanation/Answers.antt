use Rattle.palm_cert.proofs.cited.Needed.{cited_explains, explains_cited}
use Rattle.palm_cert.proofs.laws.constraints_are_those_of_the_explanation.Goals as goal

pub returns : goal.returns
returns c = λ log x values e linked. (cited_explains log x values e, explains_cited log x values e linked)
