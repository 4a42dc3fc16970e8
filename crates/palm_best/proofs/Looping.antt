-- A minimization, move after move.
use Rattle.std.proofs.Common.{◌≡◌, ℕ, ℤ, ◌+◌, ◌-◌, ◌*◌, ◌<◌, ◌≤◌, ◌<ℤ◌, Bool, Option, None, Some, is_some, List, [], ◌∷◌, ◌++◌, length, Contains, inl, inr, refl, sym, ap, ◌∙◌, subst, arith, length-append}
use Rattle.std.proofs.lemmas.Int.{ints}
use Rattle.std.proofs.lemmas.List.{length-map}
use Rattle.std.proofs.lemmas.List.Elements.{All-cons, All-nil}
use Rattle.palm_base.specs.declared.terms.Cid.{Cid}
use Rattle.palm_base.specs.declared.terms.Cid.TheVariants.{Not, User}
use Rattle.palm_base.specs.declared.terms.Pair.{Pair}
use Rattle.palm_base.proofs.cited.Members.{member_here, member_map, member_nil}
use Rattle.palm_model.specs.Closure.{IsSolution}
use Rattle.palm_model.specs.Constraint.{IsWellFormed}
use Rattle.palm_model.specs.Domains.{Domains, Has}
use Rattle.palm_model.specs.Event.{WithdrawsAll}
use Rattle.palm_model.specs.Limits.{IsValue}
use Rattle.palm_model.specs.Log.{Active, IsActive, cons_of, log_pairs}
use Rattle.palm_model.specs.Part.{Satisfies}
use Rattle.palm_model.specs.State.{EngineState, IsValid, present}
use Rattle.palm_model.specs.Trial.{listed}
use Rattle.palm_model.specs.declared.constraint.Con.TheVariants.{CompareConst}
use Rattle.palm_model.specs.declared.constraint.Op.{Op}
use Rattle.palm_model.specs.declared.constraint.Op.TheVariants.{Lt}
use Rattle.palm_model.specs.declared.part.Part.TheVariants.{CompareConst as CompareConstPart}
use Rattle.palm_model.proofs.cited.Without.{length_without}
use Rattle.palm_events.specs.Along.{IsStill}
use Rattle.palm_events.specs.Reasons.{ReasonsAreRight}
use Rattle.palm_events.proofs.cited.States.{with_posted_cases, with_posted_here}
use Rattle.palm_engine.specs.Engine.{View, IsInterrupted, KeepsCounts}
use Rattle.palm_engine.specs.Following.{Hearing, HasSettledBy, LeadsAlong, hearings}
use Rattle.palm_engine.specs.Settling.{Filters}
use Rattle.palm_engine.specs.declared.settle.Settle.{Settle}
use Rattle.palm_engine.proofs.cited.Leading.{leads_then}
use Rattle.palm_engine.proofs.cited.Settled.{settling_filters}
use Rattle.palm_search.specs.declared.turn.Turn.{Turn}
use Rattle.palm_search.specs.declared.turn.Turn.TheVariants.{Decide as TurnDecide, Undo as TurnUndo}
use Rattle.palm_search.specs.declared.machine.Machine.{Machine}
use Rattle.palm_search.specs.Calls.{SearchView, TakesTurn, search_state}
use Rattle.palm_search.specs.Following.{Moment, settling_hearings}
use Rattle.palm_search.specs.Kept.{HasDecisions, HasNone, HasNoneNegated, IsSearching}
use Rattle.palm_search.specs.Machine.{KeepsOrder}
use Rattle.palm_search.specs.Search.{HasNoSolution, IsFound, begun, own_cids}
use Rattle.palm_search.specs.Turning.{IsCutUndoing}
use Rattle.palm_search.specs.Turning.IsCutUndoing.{cut_before, cut_within}
use Rattle.palm_search.specs.Turns.{SearchState, SettlesAfter, Takes}
use Rattle.palm_search.proofs.cited.Joining.{joined_searching}
use Rattle.palm_search.proofs.cited.Solving.{found_solves}
use Rattle.palm_search.proofs.cited.Following.{SettlesOn}
use Rattle.palm_search.proofs.cited.Keeping.{settles_keep, takes_keep, user_not}
use Rattle.palm_search.proofs.cited.Leaving.{settles_still}
use Rattle.palm_search.proofs.cited.Running.{fresh_has, interrupted_filters, interrupted_has, run_starts, settled_same, unnegated_takes}
use Rattle.palm_search.proofs.cited.Taking.{HasTaken}
use Rattle.palm_best.specs.Breaking.{IsCutOff}
use Rattle.palm_best.specs.Breaking.IsCutOff.{after_cut, after_turn, before_move, in_first_settling, in_undoing}
use Rattle.palm_best.specs.Cuts.{cut_of, is_own}
use Rattle.palm_best.specs.Ends.{EndsBest, HasMoved, opened}
use Rattle.palm_best.specs.Following.{HasRunBy, MinimizesBy, moved_hearings, moves_hearings, moves_moments}
use Rattle.palm_best.specs.Improving.{AreCounted, Cuts, HasCuts, HasLast, Proves, best_state}
use Rattle.palm_best.specs.Moves.{BestState, Move, turns_of}
use Rattle.palm_best.specs.Moves.Move.{Cut, Taken}
use Rattle.palm_best.specs.declared.best.Best.{Best}
use Rattle.palm_best.specs.declared.incumbent.Incumbent.{Incumbent}
use Rattle.palm_best.specs.declared.limits.TheConstants.{FIRST_CUT, MOST_CUTS}
use Rattle.palm_best.proofs.Cutting.{KeepsUsers, cuts_kept, cuts_more, cuts_none, users_filtered, users_taken, users_undone}
use Rattle.palm_best.proofs.Owned.{only_users}
use Rattle.palm_best.proofs.Moving.{MovesOne, moves_on, turns_cut, turns_push}

-- ---- numbers

-- the cuts have numbers of 32 bits
pub cuts_few : (target cuts : ℕ) (best : Option (List ℤ)) → AreCounted target cuts best → cuts ≤ MOST_CUTS
cuts_few target cuts None counted = let none : cuts ≡ 0 = counted in omega (arith, none)
cuts_few target cuts (Some values) counted =
    let sum = counted.0 in
    let least = counted.1.above in
    omega (arith, ints, sum, least)

-- a comparison with a value of the language is a constraint of the language, a cut among them
pub compared_formed : {op : Op} (initial : Domains) (target : ℕ) (v : ℤ) → target < length initial → IsValue v → IsWellFormed (length initial) (CompareConst target op v)
compared_formed initial target v lt value = record {
  declared = All-cons (λ x. x < length initial) target [] lt (All-nil (λ x. x < length initial));
  distinct = (λ m. member_nil target m, tt);
  some = omega arith;
  few = omega arith;
  shaped = value;
}

-- a turn or a cut leaves fewer moves
abbrev pub left_moves : ℕ → ℕ → ℕ → ℕ
left_moves budget turns cuts = (budget - turns) * (MOST_CUTS + 1) + (MOST_CUTS - cuts)

fewer_turn : (budget before after cuts : ℕ) → before < budget → after ≡ before + 1 → left_moves budget after cuts < left_moves budget before cuts
fewer_turn budget before after cuts lt e = omega (arith, lt, e)

fewer_cut : (budget turns old new : ℕ) → new ≤ MOST_CUTS → new ≡ old + 1 → left_moves budget turns new < left_moves budget turns old
fewer_cut budget turns old new few e = omega (arith, few, e)

-- ---- values that were found

pub found_long : (e : EngineState) (target : ℕ) (values : List ℤ) → IsFound (present e) values → target < length e.initial → target < length values
found_long e target values found lt =
    let len : length values ≡ length e.initial = sym (length-map values (λ w. w ∷ [])) ∙ sym (ap length found) ∙ length_without e.initial (log_pairs e.log) in
    omega (arith, lt, len)

-- a lesser value leaves room for one cut more
found_fewer : (target : ℕ) (e : EngineState) (values : List ℤ) (cuts : ℕ) (best : Option (List ℤ)) → IsSolution e.initial (Contains (cons_of e.active)) (listed values) → IsValue (listed values target) → AreCounted target cuts best → HasLast target best e
    → AreCounted target (cuts + 1) (Some values)
found_fewer target e values cuts None solution small counted last =
    let most = small.below in
    let none : cuts ≡ 0 = counted in
    (omega (arith, ints, most, none), small)
found_fewer target e values cuts (Some others) solution small counted last =
    let a = cut_of target last.0 (listed others target) in
    let holds : Satisfies (listed values) (CompareConst target Lt (listed others target)) = solution.satisfies a.con (member_map (λ (b : Active). b.con) e.active a last.1) in
    let less : listed values target <ℤ listed others target = holds (CompareConstPart target Lt (listed others target)) (member_here (CompareConstPart target Lt (listed others target)) []) in
    let old = counted.0 in
    (omega (arith, ints, less, old), small)

last_kept : (target : ℕ) (best : Option (List ℤ)) (s t : EngineState) → KeepsUsers s t → HasLast target best s → HasLast target best t
last_kept target None s t keeps last = tt
last_kept target (Some values) s t keeps last = (last.0, keeps.stays (cut_of target last.0 (listed values target)) refl last.1)

-- ---- what each move and each settling keeps

pub record Keeps (target : ℕ) (s t : EngineState) (search : SearchView) (incumbent : Incumbent) : Type 0 where
  pub searching : IsSearching (search_state t search)
  pub unnegated : HasNoneNegated (search_state t search)
  pub initial : t.initial ≡ s.initial
  pub cuts : HasCuts incumbent.cuts t
  pub counted : AreCounted target incumbent.cuts incumbent.values
  pub last : HasLast target incumbent.values t

-- the target is declared, and its values are values of the language
pub record IsTarget (target : ℕ) (s : EngineState) : Type 0 where
  pub declared : target < length s.initial
  pub values : (v : ℤ) → Has s.initial target v → IsValue v

-- the number of the next cut is free
pub next_free : (target : ℕ) (s t : EngineState) (search : SearchView) (incumbent : Incumbent) → Keeps target s t search incumbent → IsActive t.active (User (FIRST_CUT + incumbent.cuts)) → ⊥
next_free target s t search incumbent keeps is = let lt = keeps.cuts.none incumbent.cuts is in omega (arith, lt)

found_solution : (target : ℕ) (s t : EngineState) (search : SearchView) (incumbent : Incumbent) (values : List ℤ) → Keeps target s t search incumbent → IsStill t → IsFound (present t) values → IsSolution t.initial (Contains (cons_of t.active)) (listed values)
found_solution target s t search incumbent values keeps still found = found_solves t values keeps.searching.valid still found

pub found_small : (target : ℕ) (s t : EngineState) (search : SearchView) (incumbent : Incumbent) (values : List ℤ) → IsTarget target s → Keeps target s t search incumbent → IsStill t → IsFound (present t) values → IsValue (listed values target)
found_small target s t search incumbent values is keeps still found =
    let solution = found_solution target s t search incumbent values keeps still found in
    is.values (listed values target) (subst (λ d. Has d target (listed values target)) keeps.initial (solution.within target (subst (λ d. target < length d) (sym keeps.initial) is.declared)))

takes_initial : (guided : Bool) (s : SearchState) (turn : Turn) (t : SearchState) → Takes guided s turn t → t.engine.initial ≡ s.engine.initial
takes_initial guided s (TurnDecide pair pick) t takes = ap (λ (z : EngineState). z.initial) takes.posts.after
takes_initial guided s (TurnUndo gone conflict) t takes = ap (λ (z : EngineState). z.initial) takes.posts.after ∙ ap (λ (z : EngineState). z.initial) takes.withdraws.after

keeps_turn : (guided : Bool) (target : ℕ) (s m : EngineState) (before : SearchView) (turn : Turn) (t : EngineState) (after : SearchView) (incumbent : Incumbent) → Keeps target s m before incumbent → IsStill m → Takes guided (search_state m before) turn (search_state t after)
    → Keeps target s t after incumbent
keeps_turn guided target s m before turn t after incumbent keeps still takes =
    let users = users_taken guided (search_state m before) turn (search_state t after) takes keeps.searching.valid in
    record {
      searching = takes_keep guided (search_state m before) turn (search_state t after) takes keeps.searching;
      unnegated = unnegated_takes guided (search_state m before) turn (search_state t after) takes (record { searching = keeps.searching; unnegated = keeps.unnegated; still = still });
      initial = takes_initial guided (search_state m before) turn (search_state t after) takes ∙ keeps.initial;
      cuts = cuts_kept incumbent.cuts m t users keeps.cuts;
      counted = keeps.counted;
      last = last_kept target incumbent.values m t users keeps.last;
    }

keeps_cut : (target : ℕ) (s m t : EngineState) (search : SearchView) (old new : Incumbent) (values : List ℤ) → IsTarget target s → Keeps target s m search old → IsStill m → IsFound (present m) values → Cuts target m old values t new → Keeps target s t search new
keeps_cut target s m t search old new values is keeps still found cuts =
    let cut = cut_of target old.cuts (listed values target) in
    let small = found_small target s m search old values is keeps still found in
    let fewer = found_fewer target m values old.cuts old.values (found_solution target s m search old values keeps still found) small keeps.counted keeps.last in
    record {
      searching = joined_searching (search_state m search) cut (search_state t search) refl cuts.posts refl keeps.searching;
      unnegated = λ p k negated. keeps.unnegated p k (not_cut p negated);
      initial = ap (λ (z : EngineState). z.initial) cuts.posts.after ∙ keeps.initial;
      cuts = subst (λ n. HasCuts n t) (sym cuts.cuts) (cuts_more target old.cuts (listed values target) m t cuts.posts keeps.cuts);
      counted = subst (λ b. AreCounted target new.cuts b) (sym cuts.values) (subst (λ n. AreCounted target n (Some values)) (sym cuts.cuts) fewer);
      last = subst (λ b. HasLast target b t) (sym cuts.values) (old.cuts, subst (λ (z : EngineState). Contains z.active cut) (sym cuts.posts.after) (with_posted_here cut m.active));
    }
  where
    not_cut : (p : Pair) → IsActive t.active (Not p) → IsActive m.active (Not p)
    not_cut p negated =
        elim (with_posted_cases (cut_of target old.cuts (listed values target)) m.active negated.owner (subst (λ (z : EngineState). Contains z.active negated.owner) cuts.posts.after negated.posted)) [
          | inl e ↦ absurd (user_not (User (FIRST_CUT + old.cuts)) p refl (ap (λ (b : Active). b.cid) e ∙ negated.named))
          | inr j ↦ record { owner = negated.owner; posted = j; named = negated.named }
        ]

keeps_settled : ReasonsAreRight → (ordered : Bool) (target : ℕ) (s m t : EngineState) (search : SearchView) (incumbent : Incumbent) → Keeps target s m search incumbent → SettlesAfter ordered (search_state m search) (search_state t search) → Keeps target s t search incumbent
keeps_settled right ordered target s m t search incumbent keeps settles =
    let filters = settling_filters None m settles.revisions t settles.settles in
    let users = users_filtered m t filters in
    record {
      searching = settles_keep right ordered (search_state m search) (search_state t search) settles keeps.searching;
      unnegated = settled_same ordered (search_state m search) (search_state t search) settles keeps.unnegated;
      initial = filters.initial ∙ keeps.initial;
      cuts = cuts_kept incumbent.cuts m t users keeps.cuts;
      counted = keeps.counted;
      last = last_kept target incumbent.values m t users keeps.last;
    }

-- ---- between two moves

pub record IsMinimizing (guided ordered : Bool) (target budget : ℕ) (s t : EngineState) (search : SearchView) (incumbent : Incumbent) : Type 0 where
  pub moved : HasMoved guided ordered target budget s search.journal (best_state t search incumbent)
  pub keeps : Keeps target s t search incumbent
  pub still : IsStill t

-- and what the moves and the settlings so far led to
pub record IsMinimizingBy {X O : Type 0} (guiding : Moment → X → X → Type 0) (ordering : Hearing → Option O → Option O → Type 0) (guided : Bool) (first now : X) (order_first order_now : Option O)
    (target budget : ℕ) (s t : EngineState) (search : SearchView) (incumbent : Incumbent) : Type 0 where
  pub minimizing : IsMinimizing guided (is_some order_first) target budget s t search incumbent
  pub guide : LeadsAlong guiding (moves_moments guided (is_some order_first) target (opened minimizing.moved.start) minimizing.moved.moves (best_state t search incumbent) minimizing.moved.taken) first now
  pub order_begun : Option O
  pub begins : LeadsAlong ordering (settling_hearings (is_some order_first) (begun s) minimizing.moved.start minimizing.moved.settles) order_first order_begun
  pub order : LeadsAlong ordering (moves_hearings guided (is_some order_first) target (opened minimizing.moved.start) minimizing.moved.moves (best_state t search incumbent) minimizing.moved.taken) order_begun order_now

-- ---- the first settling

pub starts_by : ReasonsAreRight → {X O : Type 0} (guiding : Moment → X → X → Type 0) (ordering : Hearing → Option O → Option O → Type 0) (guided : Bool) (first : X) (order_first order_now : Option O) (target budget : ℕ) (answer : Settle)
    (before after : View) (search : SearchView) (incumbent : Incumbent) → IsValid before.state → HasNone is_own before.state → search ≡ record { decisions = []; journal = [] } → incumbent ≡ record { values = None; cuts = 0 }
    → HasSettledBy ordering None order_first order_now answer before after → IsMinimizingBy guiding ordering guided first first order_first order_now target budget before.state after.state search incumbent
starts_by right guiding ordering guided first order_first order_now target budget answer before after search incumbent valid none fresh opens by =
    subst (λ (v : SearchView). IsMinimizingBy guiding ordering guided first first order_first order_now target budget before.state after.state v incumbent) (sym fresh)
    (subst (λ (i : Incumbent). IsMinimizingBy guiding ordering guided first first order_first order_now target budget before.state after.state (record { decisions = []; journal = [] }) i) (sym opens) (
    let settled = by.settled in
    let start : SearchState = record { engine = after.state; decisions = [] } in
    let filters = settling_filters None before.state settled.revisions after.state settled.settles in
    let between = (run_starts right guided (is_some order_first) budget answer before after (record { decisions = []; journal = [] }) valid (only_users before.state none) refl settled).between in
    record {
      minimizing = record {
        moved = record {
          moves = [];
          journal = refl;
          start = start;
          settles = record { revisions = settled.revisions; fits = settled.fits; settles = settled.settles; decisions = refl };
          taken = refl;
          within = omega arith;
        };
        keeps = record {
          searching = between.searching;
          unnegated = between.unnegated;
          initial = filters.initial;
          cuts = cuts_kept 0 before.state after.state (users_filtered before.state after.state filters) (cuts_none before.state none);
          counted = refl;
          last = tt;
        };
        still = between.still;
      };
      guide = refl;
      order_begun = order_now;
      begins = by.followed;
      order = refl;
    }))

-- ---- one move more

moved_on_by : {X O : Type 0} (guiding : Moment → X → X → Type 0) (ordering : Hearing → Option O → Option O → Type 0) (guided : Bool) (first was now : X) (order_first order_was order_now : Option O) (target budget : ℕ)
    (s m : EngineState) (before : SearchView) (old : Incumbent) (move : Move) (t : EngineState) (after : SearchView) (new : Incumbent) → (by : IsMinimizingBy guiding ordering guided first was order_first order_was target budget s m before old)
    → MovesOne guiding ordering guided (is_some order_first) target (best_state m before old) move (best_state t after new) was now order_was order_now → after.journal ≡ turns_of (by.minimizing.moved.moves ++ move ∷ []) → length after.journal ≤ budget
    → Keeps target s t after new → IsStill t → IsMinimizingBy guiding ordering guided first now order_first order_now target budget s t after new
moved_on_by guiding ordering guided first was now order_first order_was order_now target budget s m before old move t after new by one journal within keeps still =
    let moved = by.minimizing.moved in
    let on = moves_on guiding ordering guided (is_some order_first) target (opened moved.start) moved.moves (best_state m before old) move (best_state t after new) first was now by.order_begun order_was order_now moved.taken by.guide by.order one in
    record {
      minimizing = record {
        moved = record { moves = moved.moves ++ move ∷ []; journal = journal; start = moved.start; settles = moved.settles; taken = on.taken; within = within };
        keeps = keeps;
        still = still;
      };
      guide = on.guide;
      order_begun = by.order_begun;
      begins = by.begins;
      order = on.order;
    }

-- a move before its settling: a turn was taken, or the values that were found are cut
pub data HasMade {G : Type 0} (guiding : Moment → Option G → Option G → Type 0) (target budget : ℕ) (before after : View) (search now : SearchView) (old new : Incumbent) (guide_old guide_new : Option G) : Type 0 where
  made_turn : HasTaken guiding budget before after search now guide_old guide_new → new ≡ old → HasMade guiding target budget before after search now old new guide_old guide_new
  made_cut : (values : List ℤ) → IsFound (present before.state) values → Cuts target before.state old values after.state new → KeepsCounts before after → now ≡ search → guide_new ≡ guide_old
      → HasMade guiding target budget before after search now old new guide_old guide_new

-- a move over a machine, which settles nothing
pub record HasMadeOn {F G O L : Type 0} (guiding : Moment → Option G → Option G → Type 0) (target budget : ℕ) (m t : Machine F G O L) (old new : Incumbent) : Type 0 where
  pub made : HasMade guiding target budget m.engine.now t.engine.now m.search.now t.search.now old new m.guide.now t.guide.now
  pub keeps : KeepsOrder m t

-- it keeps what each move keeps
made_keeps : {G : Type 0} (guiding : Moment → Option G → Option G → Type 0) (guided ordered : Bool) (target budget : ℕ) (s : EngineState) (before after : View) (search now : SearchView) (old new : Incumbent) (guide_old guide_new : Option G)
    → IsTarget target s → IsMinimizing guided ordered target budget s before.state search old → HasMade guiding target budget before after search now old new guide_old guide_new → Keeps target s after.state now new
made_keeps guiding guided ordered target budget s before after search now old new guide_old guide_new is minimizing (made_turn taken same) =
    subst (Keeps target s after.state now) (sym same) (keeps_turn (is_some guide_old) target s before.state search taken.turn after.state now old minimizing.keeps minimizing.still taken.takes.takes)
made_keeps guiding guided ordered target budget s before after search now old new guide_old guide_new is minimizing (made_cut values found cuts counts view lent) =
    subst (λ (v : SearchView). Keeps target s after.state v new) (sym view) (keeps_cut target s before.state after.state search old new values is minimizing.keeps minimizing.still found cuts)

-- and leaves fewer of them
pub made_fewer : {G : Type 0} (guiding : Moment → Option G → Option G → Type 0) (guided ordered : Bool) (target budget : ℕ) (s : EngineState) (before after : View) (search now : SearchView) (old new : Incumbent) (guide_old guide_new : Option G)
    → IsTarget target s → IsMinimizing guided ordered target budget s before.state search old → HasMade guiding target budget before after search now old new guide_old guide_new
    → left_moves budget (length now.journal) new.cuts < left_moves budget (length search.journal) old.cuts
made_fewer guiding guided ordered target budget s before after search now old new guide_old guide_new is minimizing (made_turn taken same) =
    let longer = ap length taken.takes.journal ∙ length-append search.journal (taken.turn ∷ []) in
    subst (λ (i : Incumbent). left_moves budget (length now.journal) i.cuts < left_moves budget (length search.journal) old.cuts) (sym same)
    (fewer_turn budget (length search.journal) (length now.journal) old.cuts taken.left (omega (arith, longer)))
made_fewer guiding guided ordered target budget s before after search now old new guide_old guide_new is minimizing (made_cut values found cuts counts view lent) =
    let keeps = keeps_cut target s before.state after.state search old new values is minimizing.keeps minimizing.still found cuts in
    subst (λ (v : SearchView). left_moves budget (length v.journal) new.cuts < left_moves budget (length search.journal) old.cuts) (sym view)
    (fewer_cut budget (length search.journal) old.cuts new.cuts (cuts_few target new.cuts new.values keeps.counted) cuts.cuts)

settles_after : {O : Type 0} (ordering : Hearing → Option O → Option O → Type 0) (ordered : Bool) (answer : Settle) (before after : View) (search : SearchView) (first last : Option O) → SettlesOn ordering ordered answer before after first last
    → (settles : SettlesAfter ordered (search_state before.state search) (search_state after.state search)) × LeadsAlong ordering (settling_hearings ordered (search_state before.state search) (search_state after.state search) settles) first last
settles_after ordering ordered answer before after search first last on =
    let settled = on.0 in
    (record { revisions = settled.revisions; fits = settled.fits; settles = settled.settles; decisions = refl }, on.1)

-- a move, and the settling after it
pub goes_on_by : ReasonsAreRight → {G O : Type 0} (guiding : Moment → Option G → Option G → Type 0) (ordering : Hearing → Option O → Option O → Type 0) (first was now : Option G) (order_first order_was order_now : Option O) (target budget : ℕ) (answer : Settle)
    (s : EngineState) (before made after : View) (search done : SearchView) (old new : Incumbent) → IsTarget target s → is_some was ≡ is_some first → IsMinimizingBy guiding ordering (is_some first) first was order_first order_was target budget s before.state search old
    → HasMade guiding target budget before made search done old new was now → SettlesOn ordering (is_some order_first) answer made after order_was order_now
    → IsMinimizingBy guiding ordering (is_some first) first now order_first order_now target budget s after.state done new
goes_on_by right guiding ordering first was now order_first order_was order_now target budget answer s before made after search done old new is there by (made_turn taken same) on =
    subst (λ (i : Incumbent). IsMinimizingBy guiding ordering (is_some first) first now order_first order_now target budget s after.state done i) (sym same) (
    let ordered = is_some order_first in
    let settles = settles_after ordering ordered answer made after done order_was order_now on in
    let turn = taken.turn in
    let takes = subst (λ b. TakesTurn b turn before.state search made.state done) there taken.takes in
    let longer = ap length takes.journal ∙ length-append search.journal (turn ∷ []) in
    let left = taken.left in
    let moved = by.minimizing.moved in
    let keeps = keeps_turn (is_some first) target s before.state search turn made.state done old by.minimizing.keeps by.minimizing.still takes.takes in
    moved_on_by guiding ordering (is_some first) first was now order_first order_was order_now target budget s before.state search old (Taken turn) after.state done old by
    (record {
      made = record { follows = record { middle = search_state made.state done; takes = takes.takes; settles = settles.0 }; incumbent = refl; cuts = refl };
      guide = (now, taken.step, refl);
      order = settles.1;
    })
    (takes.journal ∙ ap (λ l. l ++ turn ∷ []) moved.journal ∙ sym (turns_push moved.moves turn))
    (omega (arith, longer, left))
    (keeps_settled right ordered target s made.state after.state done old keeps settles.0)
    (settles_still ordered (search_state made.state done) (search_state after.state done) settles.0))
goes_on_by right guiding ordering first was now order_first order_was order_now target budget answer s before made after search done old new is there by (made_cut values found cuts counts view lent) on =
    subst (λ (v : SearchView). IsMinimizingBy guiding ordering (is_some first) first now order_first order_now target budget s after.state v new) (sym view) (
    let ordered = is_some order_first in
    let settles = settles_after ordering ordered answer made after search order_was order_now on in
    let moved = by.minimizing.moved in
    let keeps = keeps_cut target s before.state made.state search old new values is by.minimizing.keeps by.minimizing.still found cuts in
    moved_on_by guiding ordering (is_some first) first was now order_first order_was order_now target budget s before.state search old (Cut values) after.state search new by
    (record {
      made = record { found = found; middle = search_state made.state search; posts = cuts.posts; decisions = refl; settles = settles.0; incumbent = cuts.values; cuts = cuts.cuts };
      guide = lent;
      order = settles.1;
    })
    (moved.journal ∙ sym (turns_cut moved.moves values))
    moved.within
    (keeps_settled right ordered target s made.state after.state search new keeps settles.0)
    (settles_still ordered (search_state made.state search) (search_state after.state search) settles.0))

-- ---- where memory runs out

-- where the run is cut off, and what is left to withdraw
pub record Stops (guided ordered : Bool) (target budget : ℕ) (s t : EngineState) (search : SearchView) (cuts : ℕ) : Type 0 where
  pub is : IsCutOff guided ordered target budget s search.journal t
  pub decisions : HasDecisions (search_state t search)
  pub active : HasCuts cuts t
  pub few : cuts ≤ MOST_CUTS

pub stops_first : (guided ordered : Bool) (target budget : ℕ) (before after : View) (search : SearchView) (incumbent : Incumbent) → IsValid before.state → HasNone is_own before.state → search ≡ record { decisions = []; journal = [] } → incumbent ≡ record { values = None; cuts = 0 }
    → IsInterrupted None ordered before after → Stops guided ordered target budget before.state after.state search incumbent.cuts
stops_first guided ordered target budget before after search incumbent valid none fresh opens cut =
    let filters = interrupted_filters ordered before after cut in
    subst (λ (i : Incumbent). Stops guided ordered target budget before.state after.state search i.cuts) (sym opens) (record {
      is = in_first_settling (ap (λ (v : SearchView). v.journal) fresh) filters;
      decisions = interrupted_has ordered before after search cut (fresh_has before.state search valid (only_users before.state none) fresh);
      active = cuts_kept 0 before.state after.state (users_filtered before.state after.state filters) (cuts_none before.state none);
      few = omega arith;
    })

-- between two moves
pub stops_here : (guided ordered : Bool) (target budget : ℕ) (s m t : EngineState) (before after : SearchView) (incumbent : Incumbent) (cuts : ℕ) → IsMinimizing guided ordered target budget s m before incumbent → t ≡ m → after ≡ before → cuts ≡ incumbent.cuts
    → Stops guided ordered target budget s t after cuts
stops_here guided ordered target budget s m t before after incumbent cuts minimizing e f n =
    subst (λ z. Stops guided ordered target budget s z after cuts) (sym e)
    (subst (λ (v : SearchView). Stops guided ordered target budget s m v cuts) (sym f)
    (subst (Stops guided ordered target budget s m before) (sym n) (record {
      is = before_move (best_state m before incumbent) minimizing.moved refl;
      decisions = minimizing.keeps.searching.decisions;
      active = minimizing.keeps.cuts;
      few = cuts_few target incumbent.cuts incumbent.values minimizing.keeps.counted;
    })))

-- within an undoing
pub stops_undoing : (guided ordered : Bool) (target budget : ℕ) (s m t : EngineState) (before after : SearchView) (incumbent : Incumbent) (conflict : List Cid) → IsMinimizing guided ordered target budget s m before incumbent → length before.journal < budget
    → IsCutUndoing conflict m before t after → HasDecisions (search_state t after) → Stops guided ordered target budget s t after incumbent.cuts
stops_undoing guided ordered target budget s m t before after incumbent conflict minimizing left (cut_before e f) decisions =
    stops_here guided ordered target budget s m t before after incumbent incumbent.cuts minimizing e f refl
stops_undoing guided ordered target budget s m t before after incumbent conflict minimizing left (cut_within gone next undoes e f) decisions = record {
  is = in_undoing (best_state m before incumbent) next before.journal gone conflict undoes minimizing.moved left e f;
  decisions = decisions;
  active = subst (HasCuts incumbent.cuts) (sym f) (cuts_kept incumbent.cuts m undoes.middle (users_undone (search_state m before) gone conflict next undoes minimizing.keeps.searching.valid) minimizing.keeps.cuts);
  few = cuts_few target incumbent.cuts incumbent.values minimizing.keeps.counted;
}

-- in the settling after a move
pub stops_settling : {G : Type 0} (guiding : Moment → Option G → Option G → Type 0) (guided ordered : Bool) (target budget : ℕ) (s : EngineState) (before made after : View) (search done : SearchView) (old new : Incumbent) (was now : Option G)
    → IsTarget target s → is_some was ≡ guided → IsMinimizing guided ordered target budget s before.state search old → HasMade guiding target budget before made search done old new was now
    → IsInterrupted None ordered made after → Stops guided ordered target budget s after.state done new.cuts
stops_settling guiding guided ordered target budget s before made after search done old new was now is there minimizing move cut =
    let filters = interrupted_filters ordered made after cut in
    let keeps = made_keeps guiding guided ordered target budget s before made search done old new was now is minimizing move in
    record {
      is = where_cut move filters;
      decisions = interrupted_has ordered made after done cut keeps.searching.decisions;
      active = cuts_kept new.cuts made.state after.state (users_filtered made.state after.state filters) keeps.cuts;
      few = cuts_few target new.cuts new.values keeps.counted;
    }
  where
    where_cut : HasMade guiding target budget before made search done old new was now → Filters made.state after.state → IsCutOff guided ordered target budget s done.journal after.state
    where_cut (made_turn taken same) filters =
        after_turn (best_state before.state search old) (search_state made.state done) search.journal taken.turn minimizing.moved taken.left
        (subst (λ b. Takes b (search_state before.state search) taken.turn (search_state made.state done)) there taken.takes.takes) taken.takes.journal filters
    where_cut (made_cut values found cuts counts view lent) filters =
        subst (λ (v : SearchView). IsCutOff guided ordered target budget s v.journal after.state) (sym view)
        (after_cut (best_state before.state search old) made.state values minimizing.moved found cuts.posts filters)

-- ---- the end

pub proved_ends : (budget count : ℕ) (s : BestState) (incumbent : Option (List ℤ)) (users : List Cid) (best : Best) → s.incumbent ≡ incumbent → HasNoSolution s.search.engine users → Proves incumbent users best → EndsBest budget count s best
proved_ends budget count s None users best e none proves = subst (EndsBest budget count s) (sym proves) (e, none)
proved_ends budget count s (Some values) users best e none proves = subst (EndsBest budget count s) (sym proves) (e, record { conflict = users; none = none; are = refl })

pub ends_by : {G O : Type 0} (guiding : Moment → Option G → Option G → Type 0) (ordering : Hearing → Option O → Option O → Type 0) (guide_first guide_last : Option G) (order_first order_last : Option O) (target budget : ℕ) (s t : EngineState)
    (search : SearchView) (incumbent : Incumbent) (best : Best) → IsMinimizingBy guiding ordering (is_some guide_first) guide_first guide_last order_first order_last target budget s t search incumbent → EndsBest budget (length search.journal) (best_state t search incumbent) best
    → HasRunBy guiding ordering guide_first guide_last order_first order_last target budget s search.journal best (search_state t search)
ends_by guiding ordering guide_first guide_last order_first order_last target budget s t search incumbent best by ends =
    let moved = by.minimizing.moved in
    let guided = is_some guide_first in
    let ordered = is_some order_first in
    record {
      state = best_state t search incumbent;
      search = refl;
      by = record {
        run = record { moved = moved; ends = ends };
        guide = by.guide;
        order = leads_then ordering (settling_hearings ordered (begun s) moved.start moved.settles) (moves_hearings guided ordered target (opened moved.start) moved.moves (best_state t search incumbent) moved.taken) order_first by.order_begun order_last by.begins by.order;
      };
    }

-- all that is the minimization's own is withdrawn, and the engine settles once more
pub whole_by : {G O : Type 0} (guiding : Moment → Option G → Option G → Type 0) (ordering : Hearing → Option O → Option O → Type 0) (guide_first guide_last : Option G) (order_first order_end order_last : Option O) (target budget : ℕ) (s : EngineState)
    (turns : List Turn) (best : Best) (last : SearchState) (answer : Settle) (n t : View) → HasRunBy guiding ordering guide_first guide_last order_first order_end target budget s turns best last
    → WithdrawsAll last.engine (own_cids is_own last.engine.active) n.state → SettlesOn ordering (is_some order_first) answer n t order_end order_last
    → MinimizesBy guiding ordering guide_first guide_last order_first order_last target budget s turns best t.state
whole_by guiding ordering guide_first guide_last order_first order_end order_last target budget s turns best last answer n t has withdraws settles_on =
    let settled = settles_on.0 in
    let by = has.by in
    record {
      minimizes = record {
        last = has.state;
        run = by.run;
        closes = record {
          middle = n.state;
          withdraws = subst (λ (z : SearchState). WithdrawsAll z.engine (own_cids is_own z.engine.active) n.state) (sym has.search) withdraws;
          revisions = settled.revisions;
          fits = settled.fits;
          settles = settled.settles;
        };
      };
      guide = by.guide;
      order = leads_then ordering (moved_hearings (is_some guide_first) (is_some order_first) target budget s turns has.state by.run.moved) (hearings n.state settled.revisions t.state settled.settles.revisions) order_first order_end order_last by.order settles_on.1;
    }
