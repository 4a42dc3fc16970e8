use Rattle.std.proofs.Common.{sym}
use Rattle.palm_engine.proofs.Comparing.{equal_fails}
use Rattle.palm_engine.proofs.Progress.{on_err_of}
use Rattle.palm_engine.proofs.alike.take_out_unless.Goals as goal

pub take_out-requires-clause-lacking : goal.take_out-requires-clause-lacking
take_out-requires-clause-lacking g c = c.requires.lacking (λ e. equal_fails c.eq.result c.args.pair.value c.args.but c.eq.ensures c.if-eq.false (sym e))

pub returns-else-eq-clause-due : goal.returns-else-eq-clause-due
returns-else-eq-clause-due g c =
    on_err_of c.take_out.result
    (record { filled = c.requires.filled; has = c.requires.present; lacks = c.requires.lacking (λ e. equal_fails c.eq.result c.args.pair.value c.args.but c.eq.ensures c.if-eq.false (sym e)) })
