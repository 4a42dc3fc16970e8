use Rattle.palm_hub.proofs.Served.{begins, serves}
use Rattle.palm_hub.proofs.serving.serve.Goals as goal

pub pump-requires : goal.pump-requires
pump-requires g c = let b = begins (g.K.Sink.state c.args.sink.now) _ c.new.ensures in record { going = b.going; wanting = b.wanting }

pub returns : goal.returns
returns g c = serves c.pump.new.taker (λ taker. taker.hub) _ _ _ _ c.from.ensures c.pump.ensures
