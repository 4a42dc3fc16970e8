use Rattle.tests_search.proofs.searches.search_in.Given as goal

-- the ledger is the one that the blank names
abbrev pub ghosts-settle_counted : goal.ghosts-settle_counted
ghosts-settle_counted g a = record { name = a.blank.name; parts = a.blank.parts }
