use Rattle.palm_pump.proofs.OneRead.{pumps_over}
use Rattle.palm_pump.proofs.cited.AtOnce.{pumped_nothing, wants_at_once}
use Rattle.palm_pump.specs.Streams.{streams}
use Rattle.palm_pump.proofs.pumping.pump.Goals as goal

pub returns-in_default : goal.returns-in_default
returns-in_default g c = wants_at_once _ _ _ c.requires

pub loop-taken-init : goal.loop-taken-init
loop-taken-init g c = record { piece = c.in-Ok.ensures.len; pumped = pumped_nothing _ _ _ c.requires }

pub pump_once-requires-clause-pumped : goal.pump_once-requires-clause-pumped
pump_once-requires-clause-pumped g c =
    (c.args.taker.now, streams (g.S.Source.state c.args.source.now) (g.K.Sink.state c.args.sink.now), c.loop-taken.invariant.pumped)

pub loop-taken-preserved : goal.loop-taken-preserved
loop-taken-preserved g c =
    let before = streams (g.S.Source.state c.args.source.now) (g.K.Sink.state c.args.sink.now) in
    record { piece = c.loop-taken.invariant.piece; pumped = c.in-Ok-pump_once.ensures.pumps c.args.taker.now before c.loop-taken.invariant.pumped }

pub returns-in-Err : goal.returns-in-Err
returns-in-Err g c =
    c.in-Err.ensures.pumps c.args.taker.now (streams (g.S.Source.state c.args.source.now) (g.K.Sink.state c.args.sink.now)) c.loop-taken.invariant.pumped

pub returns : goal.returns
returns g c = pumps_over _ _ _ _ _ c.loop-taken.invariant.pumped c.loop-taken-test.false
