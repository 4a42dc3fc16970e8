use Rattle.palm_hub.proofs.Served.{cut_status, whole_status}
use Rattle.palm_hub.proofs.serving.hub.Goals as goal

pub returns-then-is_empty-clause-complete : goal.returns-then-is_empty-clause-complete
returns-then-is_empty-clause-complete g c = λ none. whole_status _ _ _ (c.serve.ensures)

pub returns-then-is_empty-clause-cut : goal.returns-then-is_empty-clause-cut
returns-then-is_empty-clause-cut g c = λ none. cut_status _ _ _ (c.serve.ensures)

pub returns-else-is_empty-clause-refuses : goal.returns-else-is_empty-clause-refuses
returns-else-is_empty-clause-refuses g c = λ some. c.refuse.ensures (g.S.Source.state c.args.source.now)
