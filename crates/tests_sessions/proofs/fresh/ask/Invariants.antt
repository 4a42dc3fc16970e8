use Rattle.tests_sessions.proofs.fresh.ask.Given as goal

-- the ledger is the one that the blank names
abbrev pub ghosts-ask_counted : goal.ghosts-ask_counted
ghosts-ask_counted g a = record { name = a.blank.name; parts = a.blank.parts }
