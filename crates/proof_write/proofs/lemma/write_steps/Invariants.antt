use Rattle.std.proofs.Common.{List, take, flat_map, Ok}
use Rattle.palm_base.specs.declared.terms.Pair.{Pair}
use Rattle.palm_cert.specs.Needs.{removals_at}
use Rattle.palm_lang.specs.Writer.{Wrote}
use Rattle.proof_run.specs.Lemma.{step_line}
use Rattle.proof_write.specs.Numbers.{AreNumbers}
use Rattle.palm_cert.proofs.cited.Stepped.{text_at}
use Rattle.proof_write.proofs.lemma.write_steps.Given as goal

abbrev pub invariant-loop-place : goal.invariant-loop-place
invariant-loop-place g l =
    (undone : List Pair) → AreNumbers undone l.lemmas → Wrote {T = Unit {0}} g.K.Sink.state l.initial.writer l.writer
    (flat_map (text_at (step_line l.book undone (removals_at l.log.log l.steps)) l.log.log) (take l.place-index l.steps)) (Ok tt)
