use Rattle.std.proofs.Common.{◌∙◌, sym, ap, subst}
use Rattle.palm_explain.specs.Rows.{AreFormedRows, number_at}
use Rattle.palm_explain.proofs.RowNumbers.{pushed_formed, pushed_row}
use Rattle.palm_explain.proofs.rows.reach.Goals as goal

pub loop-rows-preserved : goal.loop-rows-preserved
loop-rows-preserved c = record {
  formed = subst AreFormedRows (sym c.in_ok-push.ensures.items) (pushed_formed c.loop-rows.rows.items c.new-row.result c.loop-rows.invariant.formed c.new-row.ensures.formed);
  same = λ p. ap (λ rows. number_at rows p) c.in_ok-push.ensures.items ∙ pushed_row c.loop-rows.rows.items c.new-row.result c.new-row.ensures.none p ∙ c.loop-rows.invariant.same p;
}
