-- The moves of a minimization raise the measure as turns do, so its turns are bounded.
use Rattle.std.proofs.Common.{ℕ, ℤ, ◌<◌, Bool, None, List, [], ◌∷◌, length, refl, sym, ap, ◌∙◌, subst, arith}
use Rattle.palm_model.specs.Domains.{Domains}
use Rattle.palm_model.specs.State.{EngineState, IsValid}
use Rattle.palm_model.specs.Trial.{listed, value_count}
use Rattle.palm_events.specs.Reasons.{ReasonsAreRight}
use Rattle.palm_engine.proofs.cited.Settled.{settling_filters}
use Rattle.palm_search.specs.declared.turn.Turn.{Turn}
use Rattle.palm_search.specs.Kept.{HasNone, IsSearching}
use Rattle.palm_search.specs.Measure.{most_turns}
use Rattle.palm_search.specs.Search.{begun}
use Rattle.palm_search.proofs.cited.Joining.{joined_measure, joined_searching}
use Rattle.palm_search.proofs.cited.Keeping.{begins, settles_keep}
use Rattle.palm_search.proofs.cited.Measuring.{Weighs, settles_measure, turn_weighs, weighs_after, weighs_bounded, weighs_none, weighs_same, weighs_then}
use Rattle.palm_best.specs.Cuts.{cut_of, is_own}
use Rattle.palm_best.specs.Ends.{HasMoved, opened}
use Rattle.palm_best.specs.Moves.{AllMoves, BestState, Improves, Move, turns_of}
use Rattle.palm_best.specs.Moves.Move.{Cut, Taken}
use Rattle.palm_best.proofs.Owned.{only_users}

-- a cut and the settling after it
pub improves_searching : ReasonsAreRight → (ordered : Bool) (target : ℕ) (s : BestState) (values : List ℤ) (t : BestState) → Improves ordered target s values t → IsSearching s.search → IsSearching t.search
improves_searching right ordered target s values t improves searching =
    settles_keep right ordered improves.middle t.search improves.settles
    (joined_searching s.search (cut_of target s.cuts (listed values target)) improves.middle refl improves.posts improves.decisions searching)

improves_weighs : ReasonsAreRight → (ordered : Bool) (target : ℕ) (s : BestState) (values : List ℤ) (t : BestState) → Improves ordered target s values t → IsSearching s.search → Weighs s.search [] t.search
improves_weighs right ordered target s values t improves searching =
    let m = improves.middle in
    let up = joined_measure s.search (cut_of target s.cuts (listed values target)) m improves.posts improves.decisions in
    let same = settles_measure ordered m t.search improves.settles in
    let filters = settling_filters None m.engine improves.settles.revisions t.search.engine improves.settles.settles in
    weighs_none s.search t.search (omega (arith, up, same)) (ap length (improves.settles.decisions ∙ improves.decisions))
    (improves_searching right ordered target s values t improves searching)
    (filters.initial ∙ ap (λ (z : EngineState). z.initial) improves.posts.after)

moves_weigh : ReasonsAreRight → (guided ordered : Bool) (target : ℕ) (s : BestState) (moves : List Move) (t : BestState) → AllMoves guided ordered target s moves t → IsSearching s.search → Weighs s.search (turns_of moves) t.search
moves_weigh right guided ordered target s [] t run searching = weighs_same s.search t.search (ap (λ (z : BestState). z.search) run) searching
moves_weigh right guided ordered target s (Taken turn ∷ moves) t run searching =
    let m = run.0 in
    let first = turn_weighs right guided ordered s.search turn m.search run.1.follows searching in
    weighs_then s.search m.search t.search turn (turns_of moves) first (moves_weigh right guided ordered target m moves t run.2 first.searching)
moves_weigh right guided ordered target s (Cut values ∷ moves) t run searching =
    let m = run.0 in
    let first = improves_weighs right ordered target s values m run.1 searching in
    weighs_after s.search m.search t.search (turns_of moves) first (moves_weigh right guided ordered target m moves t run.2 first.searching)

-- whole runs
pub best_bounded : ReasonsAreRight → (guided ordered : Bool) (target budget : ℕ) (s : EngineState) (turns : List Turn) (t : BestState) → IsValid s → HasNone is_own s → HasMoved guided ordered target budget s turns t
    → length turns < most_turns (length s.initial) (value_count s.initial)
best_bounded right guided ordered target budget s turns t valid none moved =
    let start = moved.start in
    let searching = settles_keep right ordered (begun s) start moved.settles (begins s valid (only_users s none)) in
    let filters = settling_filters None s moved.settles.revisions start.engine moved.settles.settles in
    let weighs = moves_weigh right guided ordered target (opened start) moved.moves t moved.taken searching in
    let few = weighs_bounded start (turns_of moved.moves) t.search weighs moved.settles.decisions in
    subst (λ l. length l < most_turns (length s.initial) (value_count s.initial)) (sym moved.journal)
    (subst (λ (d : Domains). length (turns_of moved.moves) < most_turns (length d) (value_count d)) filters.initial few)
