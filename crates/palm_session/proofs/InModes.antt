-- A session in another mode: what is known of it does not change.
use Rattle.std.proofs.Common.{List, ℕ, subst}
use Rattle.palm_read.specs.Modes.{Allows}
use Rattle.palm_read.specs.Reading.{IsRead, a_comment, a_form}
use Rattle.palm_read.specs.declared.line.Line.{Line}
use Rattle.palm_read.specs.declared.mode.Mode.{Mode}
use Rattle.palm_session.specs.Modes.{heard, in_mode, misheard, mode_after, begun}
use Rattle.palm_session.specs.State.{SessionState, IsHeld, IsState}

pub held_in : (mode : Mode) (s : SessionState) → IsHeld s → IsHeld (in_mode mode s)
held_in mode s is = record {
  book = is.book;
  weights = is.weights;
  accepted = is.accepted;
  numbered = is.numbered;
  guide = is.guide;
  order = is.order;
  initial = is.initial;
  active = is.active;
  valid = is.valid;
}

state_in : (mode : Mode) (s : SessionState) → IsState s → IsState (in_mode mode s)
state_in mode s is = record { held = held_in mode s is.held; still = is.still }

pub heard_held : (s : SessionState) (line : Line) → IsHeld s → IsHeld (heard s line)
heard_held s line is = held_in (mode_after s.mode line) s is

pub heard_state : (s : SessionState) (line : Line) → IsState s → IsState (heard s line)
heard_state s line is = state_in (mode_after s.mode line) s is

pub misheard_state : (s : SessionState) → IsState s → IsState (misheard s)
misheard_state s is = state_in (begun s.mode) s is

-- a line that is read in one mode is read in each mode that allows it
pub read_where : (m n : Mode) (bytes : List ℕ) (line : Line) → IsRead m bytes line → Allows n line → IsRead n bytes line
read_where m n bytes line (a_comment c) allowed = a_comment c
read_where m n bytes line (a_form form p f _ r none once e) allowed = a_form form p f (subst (Allows n) e allowed) r none once e
