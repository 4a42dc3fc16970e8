use Rattle.palm_repair.proofs.laws.posted_negations_are_justified.Goals as goal

pub returns : goal.returns
returns c = record {
  by_nogood = λ s a p repairing m named. repairing.origins.comes a p m named;
  justified = λ s a p repairing m named. repairing.searching.justified a p m named;
}
