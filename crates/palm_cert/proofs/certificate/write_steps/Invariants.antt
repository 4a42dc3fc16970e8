use Rattle.std.proofs.Common.{take, flat_map, Ok}
use Rattle.palm_cert.specs.Certificate.{step_line}
use Rattle.palm_cert.specs.Needs.{removals_at}
use Rattle.palm_lang.specs.Writer.{Wrote}
use Rattle.palm_cert.proofs.cited.Stepped.{text_at}
use Rattle.palm_cert.proofs.certificate.write_steps.Given as goal

abbrev pub invariant-loop-place : goal.invariant-loop-place
invariant-loop-place g l =
    Wrote {T = Unit {0}} g.K.Sink.state l.initial.writer l.writer
    (flat_map (text_at (step_line l.book (removals_at l.log.log l.steps)) l.log.log) (take l.place-index l.steps)) (Ok tt)
