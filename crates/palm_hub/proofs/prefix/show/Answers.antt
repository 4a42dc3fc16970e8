use Rattle.std.proofs.Common.{ap, arith, drop, length, subst, take, ◌∙◌, ◌++◌, ◌-◌}
use Rattle.std.proofs.lemmas.Slice.{between_to_end}
use Rattle.palm_base.proofs.cited.StreamLemmas.{appended_both}
use Rattle.palm_base.specs.Streams.{Appended}
use Rattle.palm_hub.proofs.Marks.{part_more}
use Rattle.palm_hub.proofs.prefix.show.Goals as goal

pub loop-shown-preserved : goal.loop-shown-preserved
loop-shown-preserved g c =
    let i = c.loop-shown.invariant in
    let write = c.in-Ok.ensures in
    let prefix = c.args.prefix.now in
    let before = c.args.before in
    let shown = c.loop-shown.shown in
    let count = c.in-Ok.count in
    let whole = between_to_end prefix shown (length prefix) (omega arith) in
    let more = ap (λ d. take (shown - before) (drop before prefix) ++ take count d) whole ∙ part_more before shown count prefix i.bytes.further in
    let both = appended_both _ _ _ _ _ i.bytes.written write.bytes.2 in
    record {
      calm = write.cause.ok ∙ i.calm;
      same = write.stands.same ∙ i.same;
      whole = write.stands.ok ∙ i.whole;
      bytes = record {
        further = omega (arith, i.bytes.further);
        few = omega (arith, write.bytes.1, c.loop-shown-test.true);
        written = subst (Appended (g.K.Sink.state c.args.inner.now).written (g.K.Sink.state c.write.new.self).written) more both;
      };
    }
