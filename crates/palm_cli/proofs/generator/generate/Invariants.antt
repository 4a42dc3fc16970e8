use Rattle.palm_cli.proofs.generator.generate.Given as goal

abbrev pub ghosts-generate_counted : goal.ghosts-generate_counted
ghosts-generate_counted g a = record { name = a.blank.name; parts = a.blank.parts }
