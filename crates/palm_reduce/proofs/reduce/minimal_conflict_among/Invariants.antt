use Rattle.palm_reduce.proofs.reduce.minimal_conflict_among.Given as goal

-- the ledger is the one that the blank names
abbrev pub ghosts-reduce : goal.ghosts-reduce
ghosts-reduce a = record { name = a.blank.name; parts = a.blank.parts }
