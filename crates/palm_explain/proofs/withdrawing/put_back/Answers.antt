use Rattle.std.proofs.Common.{subst}
use Rattle.palm_base.specs.declared.terms.Pair.{Pair}
use Rattle.palm_domain.specs.Rows.{GainsPair}
use Rattle.palm_explain.proofs.PuttingBack.{back_one}
use Rattle.palm_explain.proofs.withdrawing.put_back.Goals as goal

pub returns-clause-back : goal.returns-clause-back
returns-clause-back c =
    back_one c.args.store.now c.put_back.new.self c.args.pair c.put_back.ensures.initial (subst (λ (p : Pair). GainsPair c.args.store.now c.put_back.new.self p.var p.value) c.copy.ensures c.put_back.ensures.gains)
