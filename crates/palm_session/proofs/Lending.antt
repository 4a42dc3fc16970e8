-- The engine of a session can lend the filters of the active constraints of its book.
use Rattle.std.proofs.Common.{◌≡◌, List, Contains, sym, ap, ◌∙◌, subst}
use Rattle.palm_book.specs.Book.{Contents, active_of}
use Rattle.palm_model.specs.Log.{Active}
use Rattle.palm_model.specs.State.{EngineState}
use Rattle.palm_reduce.specs.Kept.{CanLend}
use Rattle.palm_session.specs.State.{SessionState, IsHeld}

pub held_lends : (s : SessionState) → IsHeld s → (book : Contents) (e : EngineState) → book ≡ s.book → e ≡ s.engine → CanLend book e
held_lends s held book e same there a m =
    subst (λ (z : List Active). Contains z a) (sym (ap (λ (t : EngineState). t.active) there ∙ held.active ∙ ap active_of (sym same))) m
