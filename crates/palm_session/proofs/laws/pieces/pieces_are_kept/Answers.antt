use Rattle.palm_session.proofs.cited.Pieces.{piece_kept, piece_stopped, piece_unended}
use Rattle.palm_session.proofs.laws.pieces.pieces_are_kept.Goals as goal

pub returns-clause-kept : goal.returns-clause-kept
returns-clause-kept c = piece_kept

pub returns-clause-unended : goal.returns-clause-unended
returns-clause-unended c = piece_unended

pub returns-clause-stopped : goal.returns-clause-stopped
returns-clause-stopped c = piece_stopped
