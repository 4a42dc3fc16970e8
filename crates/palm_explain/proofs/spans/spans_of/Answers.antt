use Rattle.std.proofs.Common.{◌∙◌, take_all, ap, arith}
use Rattle.palm_explain.specs.Entries.{written}
use Rattle.palm_explain.proofs.RowSpans.{spans_next}
use Rattle.palm_explain.proofs.spans.spans_of.Goals as goal

pub loop-start-preserved : goal.loop-start-preserved
loop-start-preserved c =
    let rows = c.args.rows.now in
    let made = c.span_at-span.result in
    record {
      within = c.span_at-span.ensures.within;
      spans = λ n removed. ap (written rows n) c.in_ok-push.ensures.ok
          ∙ spans_next rows n c.loop-start.spans.items made.0 made.1 c.args.reasons.now c.loop-start.start (c.span_at-span.ensures.pairs n removed) (c.loop-start.invariant.spans n removed);
    }

pub returns : goal.returns
returns c n removed =
    c.loop-start.invariant.spans n removed ∙ take_all c.loop-start.start c.args.reasons.now (omega (arith, c.loop-start-test.false))
