use Rattle.tests_search.proofs.searches.answer_in.Given as goal

-- each ledger is the one that its blank names
abbrev pub ghosts-solve_counted : goal.ghosts-solve_counted
ghosts-solve_counted g a = record { name = a.blank.name; parts = a.blank.parts }

abbrev pub ghosts-repair_counted : goal.ghosts-repair_counted
ghosts-repair_counted g a = record { name = a.blank.name; parts = a.blank.parts }
