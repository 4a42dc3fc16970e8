use Rattle.std.proofs.Common.{◌≡◌, List, length, take, filter, flat_map, Ok}
use Rattle.std.specs.List.{range_with_len}
use Rattle.palm_cert.specs.Certificate.{cited, declared_line, is_used}
use Rattle.palm_cert.specs.Needs.{cites_of}
use Rattle.palm_lang.specs.Writer.{Wrote}
use Rattle.palm_model.specs.Log.{Removal}
use Rattle.palm_cert.proofs.certificate.write_variables.Given as goal

abbrev pub invariant-loop-index : goal.invariant-loop-index
invariant-loop-index g l =
    (rs : List Removal) → l.marks ≡ cites_of l.book rs
    → Wrote {T = Unit {0}} g.K.Sink.state l.initial.writer l.writer
    (flat_map (declared_line l.book.variables) (filter (is_used (cited rs l.book) l.claimed) (take l.index (range_with_len 0 (length l.book.variables))))) (Ok tt)
