use Rattle.tests_search.proofs.least.minimized_by.Given as goal

-- the ledger is the one that the blank names
abbrev pub ghosts-minimize_counted : goal.ghosts-minimize_counted
ghosts-minimize_counted g a = record { name = a.blank.name; parts = a.blank.parts }
