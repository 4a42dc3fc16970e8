use Rattle.palm_cli.proofs.JudgeLemmas.{begins, judges, stops}
use Rattle.palm_cli.proofs.judging.judge.Goals as goal

pub pump-requires : goal.pump-requires
pump-requires g c = let b = begins (g.K.Sink.state c.args.sink.now) _ in record { going = b.going; wanting = b.wanting }

pub returns-in-Done : goal.returns-in-Done
returns-in-Done g c =
    judges c.pump.new.taker (λ text. text.items) _ c.args.evidence _ _ _ _ _ _ _ c.in-Done.is c.new-text.ensures.items c.as_slice.ensures.value c.pump.ensures c.tell.ensures

pub returns : goal.returns
returns g c =
    stops c.pump.new.taker (λ text. text.items) _ c.args.evidence _ _ c.pump.result _ c.from.ensures c.in_default.not-Done c.pump.ensures
