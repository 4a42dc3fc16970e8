use Rattle.std.proofs.Common.{◌≡◌, List, take, filter, flat_map, Ok}
use Rattle.palm_cert.specs.Certificate.{added_line, is_cited}
use Rattle.palm_cert.specs.Needs.{cites_of}
use Rattle.palm_lang.specs.Writer.{Wrote}
use Rattle.palm_model.specs.Log.{Removal}
use Rattle.palm_cert.proofs.certificate.write_constraints.Given as goal

abbrev pub invariant-loop-place : goal.invariant-loop-place
invariant-loop-place g l =
    (rs : List Removal) → l.marks ≡ cites_of l.book rs
    → Wrote {T = Unit {0}} g.K.Sink.state l.initial.writer l.writer (flat_map (added_line l.book.variables) (filter (is_cited rs) (take l.place l.book.constraints))) (Ok tt)
