use Rattle.std.proofs.Common.{ap, refl}
use Rattle.palm_lang.proofs.cited.Writes.{writes_text}
use Rattle.palm_model.specs.State.{EngineState}
use Rattle.palm_session.proofs.Delivering.{same_certificate}
use Rattle.palm_session.proofs.deliver.write_certificate.Goals as goal

pub returns : goal.returns
returns g c = record {
  sink = refl;
  writes = writes_text _ _ _ _ _ (same_certificate _ _ _ _ _ _ c.book.ensures (ap (λ (s : EngineState). s.log) c.engine.ensures.state) c.copy.ensures)
      c.write_cert.ensures.text;
}
