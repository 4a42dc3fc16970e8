use Rattle.tests_filters.proofs.comparison.assert_counted.Given as goal

-- the ledger is the one that the blank names
abbrev pub ghosts-answer : goal.ghosts-answer
ghosts-answer g a = record { name = a.blank.name; parts = a.blank.parts }
