use Rattle.palm_cli.proofs.JudgeLemmas.{tells, tells_front}
use Rattle.palm_cli.proofs.judging.tell.Goals as goal

pub returns-in-Ok-write_all : goal.returns-in-Ok-write_all
returns-in-Ok-write_all g c =
    tells c.args.evidence _ _ _ _ _ _ c.in-Ok.ensures.ends c.in-Ok.ensures.told c.as_slice.ensures.value c.in-Ok-write_all.ensures.cause.ok c.in-Ok-write_all.ensures.bytes

pub returns : goal.returns
returns g c =
    tells_front c.args.evidence _ _ _ (g.K.Sink.state c.args.sink.now) (g.K.Sink.state c.write_all.new.sink) _ c.in-Ok.ensures.told c.as_slice.ensures.value c.in-Err.ensures.cause.failed c.in-Err.ensures.bytes
