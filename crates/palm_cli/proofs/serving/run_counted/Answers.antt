use Rattle.palm_cli.proofs.LeadLemmas.{begins, leads, runs}
use Rattle.palm_cli.proofs.RunLemmas.{want_at_once}
use Rattle.palm_cli.proofs.serving.run_counted.Goals as goal

pub returns-in_default-clause-runs : goal.returns-in_default-clause-runs
returns-in_default-clause-runs g c = want_at_once _ _ _

pub pump-requires : goal.pump-requires
pump-requires g c =
    let b = begins _ _ _ _ _ (g.K.Sink.state c.args.sink.now) _ c.in-Ok.ensures in record { going = b.going; wanting = b.wanting }

pub returns-clause-runs : goal.returns-clause-runs
returns-clause-runs g c =
    runs _ _ _ _ _ c.pump.new.taker (λ taker. taker.session) _ _ _ _ _ c.in-Ok.ensures c.from.ensures c.pump.ensures

pub returns-clause-led : goal.returns-clause-led
returns-clause-led g c =
    leads _ _ _ _ _ c.pump.new.taker (λ taker. taker.session) _ _ _ _ _ c.in-Ok.ensures c.from.ensures c.pump.ensures
