use Rattle.std.proofs.Common.{[], inr, refl}
use Rattle.palm_cli.proofs.JudgeLemmas.{judged_status, over_status}
use Rattle.palm_cli.proofs.LeadLemmas.{leads_by}
use Rattle.palm_cli.proofs.RunLemmas.{whole_status, cut_status}
use Rattle.palm_cli.proofs.TopLemmas.{fits, runs_by, judges_by, generates_by, refuses_by, summed_whole, wants_run, wants_judge, wants_gen, wants_usage}
use Rattle.palm_cli.proofs.command.top.Goals as goal

pub returns-in_default-clause-runs : goal.returns-in_default-clause-runs
returns-in_default-clause-runs g c = λ run. wants_run _ _ _

pub returns-in_default-clause-judges : goal.returns-in_default-clause-judges
returns-in_default-clause-judges g c = λ evidence judge. wants_judge evidence _

pub returns-in_default-clause-judged : goal.returns-in_default-clause-judged
returns-in_default-clause-judged g c = λ evidence told judge none takes. inr refl

pub returns-in_default-clause-generates : goal.returns-in_default-clause-generates
returns-in_default-clause-generates g c = λ size gen. wants_gen size _

pub returns-in_default-clause-refuses : goal.returns-in_default-clause-refuses
returns-in_default-clause-refuses g c = λ none. wants_usage _

pub obey-requires : goal.obey-requires
obey-requires g c = fits _ c.in-Ok.request c.in-Ok.ensures

pub returns-clause-runs : goal.returns-clause-runs
returns-clause-runs g c = runs_by _ _ _ _ _ _ c.in-Ok.request c.in-Ok.ensures c.obey.ensures.obeys

pub returns-clause-led : goal.returns-clause-led
returns-clause-led g c = leads_by _ _ _ _ _ _ _ _ _ c.in-Ok.request c.in-Ok.ensures c.obey.ensures.led

pub returns-clause-judges : goal.returns-clause-judges
returns-clause-judges g c = judges_by _ _ _ _ _ _ c.in-Ok.request c.in-Ok.ensures c.obey.ensures.obeys

pub returns-clause-generates : goal.returns-clause-generates
returns-clause-generates g c = generates_by _ _ _ _ _ _ c.in-Ok.request c.in-Ok.ensures c.obey.ensures.obeys

pub returns-clause-refuses : goal.returns-clause-refuses
returns-clause-refuses g c = refuses_by _ _ _ _ _ _ c.in-Ok.request c.in-Ok.ensures c.obey.ensures.obeys

pub returns-clause-complete : goal.returns-clause-complete
returns-clause-complete g c = λ run none within.
    whole_status _ _ _ _ _ (runs_by _ _ _ _ _ _ c.in-Ok.request c.in-Ok.ensures c.obey.ensures.obeys run) none within

pub returns-clause-summed : goal.returns-clause-summed
returns-clause-summed g c = λ size gen none.
    summed_whole [] [] [] _ _ _ size (generates_by _ _ _ _ _ _ c.in-Ok.request c.in-Ok.ensures c.obey.ensures.obeys size gen) none

pub returns-clause-cut : goal.returns-clause-cut
returns-clause-cut g c = λ run much none.
    cut_status _ _ _ _ _ (runs_by _ _ _ _ _ _ c.in-Ok.request c.in-Ok.ensures c.obey.ensures.obeys run) much none

pub returns-clause-judged : goal.returns-clause-judged
returns-clause-judged g c = λ evidence told judge none takes.
    judged_status evidence _ _ told _ (judges_by _ _ _ _ _ _ c.in-Ok.request c.in-Ok.ensures c.obey.ensures.obeys evidence judge) none takes

pub returns-clause-over : goal.returns-clause-over
returns-clause-over g c = λ evidence judge takes.
    over_status evidence _ _ _ (judges_by _ _ _ _ _ _ c.in-Ok.request c.in-Ok.ensures c.obey.ensures.obeys evidence judge) takes
