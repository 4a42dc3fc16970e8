use Rattle.std.proofs.Common.{◌<◌, [], length, arith}
use Rattle.palm_lang.specs.Reply.{var_line}
use Rattle.palm_lang.proofs.cited.Wrote.{wrote_all, wrote_more, wrote_part}
use Rattle.palm_lang.proofs.writer.Writer.variables.Goals as goal

pub returns-in_err-variable : goal.returns-in_err-variable
returns-in_err-variable g c =
    let i = c.loop-index.index in
    let lt : i < length c.args.book.now.variables = omega (arith, c.loop-index-test.true, c.variables-index-end.ensures.count) in
    wrote_part (λ e. var_line e.name e.values) c.args.book.now.variables i (record { name = []; values = [] }) lt c.from_residual.ensures.1 c.loop-index.invariant c.in_err-variable.ensures

pub loop-index-preserved : goal.loop-index-preserved
loop-index-preserved g c =
    let i = c.loop-index.index in
    let lt : i < length c.args.book.now.variables = omega (arith, c.loop-index-test.true, c.variables-index-end.ensures.count) in
    wrote_more (λ e. var_line e.name e.values) c.args.book.now.variables i (record { name = []; values = [] }) lt c.loop-index.invariant c.in_ok-variable.ensures

pub returns : goal.returns
returns g c =
    wrote_all (λ e. var_line e.name e.values) c.args.book.now.variables c.loop-index.index (omega (arith, c.loop-index-test.false, c.variables-index-end.ensures.count)) c.loop-index.invariant
