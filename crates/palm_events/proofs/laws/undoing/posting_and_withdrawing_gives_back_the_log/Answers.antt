use Rattle.palm_events.proofs.cited.Reasons.{reasons_right}
use Rattle.palm_events.proofs.cited.Undone.{posting_undone, posting_undone_active}
use Rattle.palm_events.proofs.laws.undoing.posting_and_withdrawing_gives_back_the_log.Goals as goal

pub returns : goal.returns
returns c = record {
  log = λ s m n t a steps valid still posts run filtering withdraws. posting_undone reasons_right s m n t a steps valid still posts run filtering withdraws;
  active = λ s m n t a steps valid still posts run filtering withdraws. posting_undone_active reasons_right s m n t a steps valid still posts run filtering withdraws;
}
