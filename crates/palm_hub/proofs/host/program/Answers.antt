use Rattle.palm_hub.proofs.host.program.Goals as goal

pub returns-in_default-clause-refuses : goal.returns-in_default-clause-refuses
returns-in_default-clause-refuses g c = λ word. c.refuse.ensures (g.S.Source.state c.args.source.now)
