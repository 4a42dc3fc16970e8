use Rattle.std.proofs.Common.{take, filter, flat_map, Ok}
use Rattle.palm_cert.specs.Certificate.{added_line}
use Rattle.palm_lang.specs.Writer.{Wrote}
use Rattle.proof_write.proofs.declarations.write_constraints.Given as goal

abbrev pub invariant-loop-place : goal.invariant-loop-place
invariant-loop-place g l =
    Wrote {T = Unit {0}} g.K.Sink.state l.initial.writer l.writer (flat_map (added_line l.book.variables) (filter (λ e. e.active) (take l.place l.book.constraints))) (Ok tt)
