use Rattle.palm_explain.proofs.NeededPlaces.{one_value}
use Rattle.palm_explain.proofs.Stores.{on_ok}
use Rattle.palm_explain.proofs.store.ExplainStore.explanation.Goals as goal

pub returns-clause-ok : goal.returns-clause-ok
returns-clause-ok c = on_ok c.explanations.result _ _ (one_value c.args.self.now.log c.args.pair c.explanations.new.out) c.explanations.ensures.ok
