-- A run with its count of questions is a run.
use Rattle.std.proofs.Common.{ℕ, List, [], ◌∷◌, map}
use Rattle.palm_session.specs.State.{SessionState}
use Rattle.palm_session.specs.Asking.{RunAsking}
use Rattle.palm_session.specs.Feeding.{Served}
use Rattle.palm_read.specs.Lines.{without_return}
use Rattle.palm_session.specs.Replies.{Run, Answered}

pub run_of : (s : SessionState) (lines : List (List ℕ)) (replies : List ℕ) (t : SessionState) (count : ℕ) → RunAsking s lines replies t count → Run s lines replies t
run_of s [] replies t count run = (run.0, run.1)
run_of s (line ∷ lines) replies t count run = (run.0, run.1, run.2, run.5, run.7, run_of run.2 lines run.1 t run.4 run.9)

pub answered_of : (s : SessionState) (text : List ℕ) (lines : List (List ℕ)) (rest replies : List ℕ) (t : SessionState) (count : ℕ) → Served s text lines rest replies t count → Answered s text lines rest replies t
answered_of s text lines rest replies t count served =
    record { whole = served.whole; unbroken = served.unbroken; run = run_of s (map without_return lines) replies t count served.run }
