use Rattle.palm_cert.proofs.cited.Accepted.{certificate_accepted}
use Rattle.palm_cert.proofs.cited.Readable.{readable}
use Rattle.palm_cert.proofs.laws.certificates_are_accepted.Goals as goal

pub returns : goal.returns
returns c s book claim is valid initial active can scoped = certificate_accepted s book claim is valid initial active can (readable s book claim is valid initial active can scoped)
