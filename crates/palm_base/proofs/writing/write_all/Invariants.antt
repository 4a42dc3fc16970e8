use Rattle.std.proofs.Common.{◌≡◌, ℕ, List, ◌++◌, length}
use Rattle.palm_base.specs.Streams.{Appended}
use Rattle.palm_base.proofs.writing.write_all.Given as goal

-- a front of the text was written without a fault, and the rest is left
abbrev pub invariant-loop-rest : goal.invariant-loop-rest
invariant-loop-rest g l =
    (front : List ℕ) × (l.text ≡ front ++ l.rest)
    × ((g.K.Sink.state l.sink).faults ≡ (g.K.Sink.state l.initial.sink).faults)
    × ((g.K.Sink.state l.sink).home ≡ (g.K.Sink.state l.initial.sink).home)
    × ((g.K.Sink.state l.sink).torn ≡ (g.K.Sink.state l.initial.sink).torn)
    × Appended (g.K.Sink.state l.initial.sink).written (g.K.Sink.state l.sink).written front

abbrev pub decreases-loop-rest : goal.decreases-loop-rest
decreases-loop-rest g l = length l.rest
