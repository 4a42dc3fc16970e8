use Rattle.palm_session.proofs.Certified.{told_cert, told_cert_conflict}
use Rattle.palm_session.proofs.laws.printed.printed_certificates_are_accepted.Goals as goal

pub returns : goal.returns
returns c = record {
  value = λ s t name reply value request is scoped admitted accepts. told_cert s t name reply value request is scoped admitted accepts;
  conflict = λ s t reply is scoped accepts. told_cert_conflict s t reply is scoped accepts;
}
