use Rattle.std.proofs.Common.{arith, refl}
use Rattle.palm_agenda.proofs.Clearing.{one_more_cleared}
use Rattle.palm_agenda.proofs.agenda.Agenda.take_clear.Goals as goal

pub loop-taken-preserved : goal.loop-taken-preserved
loop-taken-preserved c = record {
  within = omega arith;
  takes = one_more_cleared c.args.self.now c.loop-taken.self c.take_first_clear.new.self c.loop-taken.taken c.loop-taken.invariant.takes (c.if-take_first_clear.ensures.taken refl);
}
