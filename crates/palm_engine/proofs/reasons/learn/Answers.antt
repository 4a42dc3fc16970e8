use Rattle.std.proofs.Common.{IfSome, subst, arith}
use Rattle.std.proofs.lemmas.Int.{ints}
use Rattle.palm_domain.specs.Rows.{initial_of, present_of}
use Rattle.palm_explain.specs.Moving.{spans_at}
use Rattle.palm_filter.specs.Rules.{FitsRule}
use Rattle.palm_engine.specs.Reasons.{IsToldBy}
use Rattle.palm_engine.proofs.Telling.{near_fits}
use Rattle.palm_engine.proofs.reasons.learn.Goals as goal

pub returns-clause-knows : goal.returns-clause-knows
returns-clause-knows g c =
    let rows = c.args.store.now in
    let con = g.F.Filter.meaning c.args.filter.now in
    let x = c.args.pair.now.var in
    let v = c.args.pair.now.value in
    let d = initial_of rows in
    let intervals = c.rule.new.out.items in
    let spans = c.write_spans.new.out.items in
    let fits = subst (λ told. IfSome told (λ known. FitsRule d (present_of rows) con x v known intervals)) c.in-Some.is c.in_ok-known.ensures in
    let last = c.in-Some-last_of.ensures in
    let told = rw c.deref.ensures.value at c.in_ok-write_spans.ensures.told in
    record {
      told = λ w ge le wants.
          let most = last.1 in
          subst (λ rs. IsToldBy d rs (spans_at spans w)) (fits w ge (omega (arith, ints, le, most)) wants)
          (told con x w c.if-not-branch.false);
      fits = λ w ge le.
          let low = last.2 in
          let high = last.3 in
          near_fits spans w (omega (arith, ints, ge, low.0), omega (arith, ints, le, high.1)) c.in_ok-write_spans.ensures.near;
    }
