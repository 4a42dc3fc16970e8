-- What a minimization finds has one value for each variable.
use Rattle.std.proofs.Common.{◌≡◌, ℕ, ℤ, Bool, Option, IfSome, List, [], ◌∷◌, length, refl, sym, ap, ◌∙◌, subst}
use Rattle.std.specs.Prelude.{⊤}
use Rattle.std.proofs.lemmas.List.{length-map}
use Rattle.palm_model.specs.Domains.{Domains}
use Rattle.palm_model.specs.Log.{log_pairs}
use Rattle.palm_model.specs.State.{EngineState, IsValid, present}
use Rattle.palm_model.proofs.cited.Without.{length_without}
use Rattle.palm_events.specs.Reasons.{ReasonsAreRight}
use Rattle.palm_search.specs.declared.turn.Turn.{Turn}
use Rattle.palm_search.specs.Kept.{HasNone}
use Rattle.palm_search.specs.Search.{IsFound}
use Rattle.palm_best.specs.Cuts.{is_own}
use Rattle.palm_best.specs.Ends.{BestRun, opened}
use Rattle.palm_best.specs.Moves.{AllMoves, BestState, Move}
use Rattle.palm_best.specs.Moves.Move.{Cut, Taken}
use Rattle.palm_best.specs.declared.best.Best.{Best}
use Rattle.palm_best.specs.declared.best.Best.TheVariants.{Least, NoSolution, Spent}
use Rattle.palm_best.proofs.Reaching.{Reached, moves_reached, opening_reached}

-- so many values
abbrev pub AreLong : ℕ → Best → Type 0
AreLong count (Least values users) = length values ≡ count
AreLong count (NoSolution users) = ⊤
AreLong count (Spent turns best) = IfSome best (λ values. length values ≡ count)

-- a value for each variable of the state
abbrev IsLong : EngineState → List ℤ → Type 0
IsLong s values = length values ≡ length s.initial

found_length : (e : EngineState) (values : List ℤ) → IsFound (present e) values → IsLong e values
found_length e values found = sym (length-map values (λ (v : ℤ). v ∷ [])) ∙ ap (λ (d : Domains). length d) (sym found) ∙ length_without e.initial (log_pairs e.log)

moves_long : ReasonsAreRight → (guided ordered : Bool) (s : EngineState) (target : ℕ) (m : BestState) (moves : List Move) (t : BestState) → HasNone is_own s → AllMoves guided ordered target m moves t → Reached s target m
    → IfSome m.incumbent (IsLong s) → IfSome t.incumbent (IsLong s)
moves_long right guided ordered s target m [] t none run reached long = subst (λ (z : BestState). IfSome z.incumbent (IsLong s)) (sym run) long
moves_long right guided ordered s target m (Taken turn ∷ moves) t none run reached long =
    let next = moves_reached right guided ordered s target m (Taken turn ∷ []) run.0 none (run.0, run.1, refl) reached in
    moves_long right guided ordered s target run.0 moves t none run.2 next (subst (λ (best : Option (List ℤ)). IfSome best (IsLong s)) (sym run.1.incumbent) long)
moves_long right guided ordered s target m (Cut values ∷ moves) t none run reached long =
    let next = moves_reached right guided ordered s target m (Cut values ∷ []) run.0 none (run.0, run.1, refl) reached in
    let here : IsLong s values = found_length m.search.engine values run.1.found ∙ ap (λ (d : Domains). length d) reached.remembers.initial in
    moves_long right guided ordered s target run.0 moves t none run.2 next (subst (λ (best : Option (List ℤ)). IfSome best (IsLong s)) (sym run.1.incumbent) here)

ends_long : (budget : ℕ) (s : EngineState) (turns : List Turn) (best : Best) (t : BestState) (guided ordered : Bool) (target : ℕ) → BestRun guided ordered target budget s turns best t → IfSome t.incumbent (IsLong s) → AreLong (length s.initial) best
ends_long budget s turns (Least values users) t guided ordered target run long = subst (λ (best : Option (List ℤ)). IfSome best (IsLong s)) run.ends.0 long
ends_long budget s turns (NoSolution users) t guided ordered target run long = tt
ends_long budget s turns (Spent count best) t guided ordered target run long = subst (λ (found : Option (List ℤ)). IfSome found (IsLong s)) (sym run.ends.0) long

pub best_long : ReasonsAreRight → (guided ordered : Bool) (target budget : ℕ) (s : EngineState) (turns : List Turn) (best : Best) (t : BestState) → HasNone is_own s → IsValid s
    → BestRun guided ordered target budget s turns best t → AreLong (length s.initial) best
best_long right guided ordered target budget s turns best t none valid run =
    let moved = run.moved in
    let start = opening_reached right ordered s target moved.start none valid moved.settles in
    ends_long budget s turns best t guided ordered target run (moves_long right guided ordered s target (opened moved.start) moved.moves t none moved.taken start tt)
