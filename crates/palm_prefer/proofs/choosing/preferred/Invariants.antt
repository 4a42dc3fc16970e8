use Rattle.palm_prefer.proofs.choosing.preferred.Given as goal

-- the ledger is the one that the blank names
abbrev pub ghosts-choose : goal.ghosts-choose
ghosts-choose a = record { name = a.blank.name; parts = a.blank.parts }
