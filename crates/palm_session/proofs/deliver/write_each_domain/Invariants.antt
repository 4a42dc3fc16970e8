use Rattle.std.proofs.Common.{zip, take, flat_map, Ok}
use Rattle.palm_lang.specs.Reply.{domain_line}
use Rattle.palm_lang.specs.Writer.{Wrote}
use Rattle.palm_domain.specs.Rows.{present_of}
use Rattle.palm_session.proofs.deliver.write_each_domain.Given as goal

abbrev pub invariant-loop-index : goal.invariant-loop-index
invariant-loop-index g l =
    Wrote {T = Unit {0}} g.K.Sink.state l.initial.writer l.writer
    (flat_map (λ p. domain_line p.0.name p.1) (take l.index (zip l.book.variables (present_of l.store)))) (Ok tt)
