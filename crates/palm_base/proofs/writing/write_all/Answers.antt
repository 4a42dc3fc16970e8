use Rattle.std.proofs.Common.{◌++◌, ◌∙◌, take}
use Rattle.palm_base.proofs.cited.StreamLemmas.{appended_both, front_more}
use Rattle.palm_base.proofs.writing.write_all.Goals as goal

pub loop-rest-preserved : goal.loop-rest-preserved
loop-rest-preserved g c =
    let i = c.loop-rest.invariant in
    let rest = c.loop-rest.rest.now in
    let n = c.in-Ok.count in
    (i.0 ++ take n rest, front_more _ i.0 rest n i.1, c.in-Ok.ensures.cause.ok ∙ i.2, c.in-Ok.ensures.stands.same ∙ i.3, c.in-Ok.ensures.stands.ok ∙ i.4, appended_both _ _ _ _ _ i.5 c.in-Ok.ensures.bytes.2)
