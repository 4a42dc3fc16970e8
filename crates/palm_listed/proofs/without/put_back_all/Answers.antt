use Rattle.std.proofs.Common.{sym, subst, Contains, arith}
use Rattle.palm_domain.specs.Rows.{IsDeclared, values_of}
use Rattle.palm_listed.proofs.Taking.{putting_next}
use Rattle.palm_listed.proofs.without.put_back_all.Goals as goal

pub put_back-requires : goal.put_back-requires
put_back-requires c =
    let p = c.pair-item.result in
    subst (λ d. Contains (values_of d p.var) p.value) (sym c.loop-pair.invariant.initial)
    (subst (λ q. IsDeclared c.args.store.now q.var q.value) (sym c.pair-item.is) (c.requires c.loop-pair.pair-index p (omega (arith, c.loop-pair-test.true))))

pub loop-pair-preserved : goal.loop-pair-preserved
loop-pair-preserved c =
    putting_next c.args.store.now c.loop-pair.store c.put_back.new.store c.args.pairs.now c.loop-pair.pair-index c.pair-item.result
    c.loop-pair.invariant (omega (arith, c.loop-pair-test.true)) c.pair-item.is c.put_back.ensures
