use Rattle.tests_proofs.proofs.written.ends.Given as goal

-- the ledger is the one that the blank names
abbrev pub ghosts-prove_counted : goal.ghosts-prove_counted
ghosts-prove_counted a = record { name = a.blank.name; parts = a.blank.parts }
