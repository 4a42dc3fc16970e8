use Rattle.palm_cli.proofs.SummaryLemmas.{own_objects, wants}
use Rattle.palm_cli.proofs.generator.generate_counted.Goals as goal

pub returns-in_default : goal.returns-in_default
returns-in_default g c = wants c.args.size (g.K.Sink.state c.args.sink.now)

pub summarize-requires-clause-fresh : goal.summarize-requires-clause-fresh
summarize-requires-clause-fresh g c = own_objects _ _ (rw (c.new.ensures.len, c.new-2.ensures.len) at c.in-Ok.ensures)
