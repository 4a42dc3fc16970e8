-- What a repair over a machine is in.
use Rattle.palm_search.specs.declared.machine.Machine.{Machine}
use Rattle.palm_repair.specs.Learned.{LearnedView, repair_state}
use Rattle.palm_repair.specs.Posting.{RepairState}

-- the state of its engine with the decisions of its search, and what the repair keeps beside it
abbrev pub repair_of : {F G O L : Type 0} → Machine F G O L → LearnedView → RepairState
repair_of m learned = repair_state m.engine.now.state m.search.now.decisions learned
