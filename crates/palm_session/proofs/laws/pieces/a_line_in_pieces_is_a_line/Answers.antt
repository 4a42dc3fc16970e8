use Rattle.palm_session.proofs.cited.Pieces.{front_answered, line_more, line_quit}
use Rattle.palm_session.proofs.laws.pieces.a_line_in_pieces_is_a_line.Goals as goal

pub returns-clause-more : goal.returns-clause-more
returns-clause-more c = line_more

pub returns-clause-quit : goal.returns-clause-quit
returns-clause-quit c = line_quit

pub returns-clause-stopped : goal.returns-clause-stopped
returns-clause-stopped c = front_answered
