-- There is a minimization for every state and every budget.
use Rattle.std.proofs.Common.{◌≡◌, ℕ, zero, suc, ℤ, ◌+◌, ◌<◌, ◌≤◌, ◌<ℤ◌, Bool, not, Option, None, Some, List, [], ◌∷◌, ◌++◌, map, filter, length, Contains, All, inl, inr, refl, sym, ap, ◌∙◌, subst, arith}
use Rattle.std.specs.Prelude.{⊤}
use Rattle.std.proofs.lemmas.Int.{ints}
use Rattle.std.proofs.lemmas.List.{length-map}
use Rattle.std.proofs.lemmas.List.Elements.{All-head, All-tail, Contains-append_left}
use Rattle.palm_base.specs.declared.terms.Cid.{Cid}
use Rattle.palm_base.specs.declared.terms.Cid.TheVariants.{User}
use Rattle.palm_base.specs.declared.terms.Pair.{Pair}
use Rattle.palm_base.proofs.cited.Members.{member_cases, member_here, member_map, member_nil, member_same, member_unmap}
use Rattle.palm_model.specs.Closure.{IsSolution}
use Rattle.palm_model.specs.Domains.{Domains, Has}
use Rattle.palm_model.specs.Event.{Posts, Runs, Step, StepLeads, posted, removal_of}
use Rattle.palm_model.specs.Event.Event.{Post, Remove, Withdraw}
use Rattle.palm_model.specs.Event.Step.{Calm, Declare, Happens}
use Rattle.palm_model.specs.Limits.{IsValue}
use Rattle.palm_model.specs.Log.{Active, Removal, cons_of, log_pairs}
use Rattle.palm_model.specs.Part.{Satisfies}
use Rattle.palm_model.specs.State.{EngineState, IsValid, present}
use Rattle.palm_model.specs.Trial.{listed}
use Rattle.palm_model.specs.declared.constraint.Con.TheVariants.{CompareConst}
use Rattle.palm_model.specs.declared.constraint.Op.TheVariants.{Lt}
use Rattle.palm_model.specs.declared.part.Part.TheVariants.{CompareConst as CompareConstPart}
use Rattle.palm_model.proofs.cited.Without.{length_without, without_grows}
use Rattle.palm_events.specs.Along.{IsFiltering}
use Rattle.palm_events.specs.Reasons.{ReasonsAreRight}
use Rattle.palm_events.proofs.cited.Outcomes.{withdrawal_exists}
use Rattle.palm_events.proofs.cited.States.{with_posted_cases, with_posted_here}
use Rattle.palm_engine.proofs.cited.Settled.{plainly_exists, settling_filters}
use Rattle.palm_search.specs.declared.ending.SearchEnd.{SearchEnd}
use Rattle.palm_search.specs.declared.ending.SearchEnd.TheVariants.{Found as FoundEnd, NoSolution as NoneEnd, Spent as SpentEnd}
use Rattle.palm_search.specs.declared.turn.Pick.{Pick}
use Rattle.palm_search.specs.declared.turn.Turn.{Turn}
use Rattle.palm_search.specs.Kept.{HasNone, HasNoneNegated}
use Rattle.palm_search.specs.Search.{Closes, EndsWith, GoesOn, HasNoSolution, IsFound, begun, own_cids}
use Rattle.palm_search.specs.Turning.{IsBetween}
use Rattle.palm_search.specs.Turns.{FitsGuide, Follows, SearchState, Turns}
use Rattle.palm_search.proofs.cited.Going.{order_fits, settle_exists, turns_exist}
use Rattle.palm_search.proofs.cited.Joining.{joined_searching}
use Rattle.palm_search.proofs.cited.Keeping.{begins, follows_keep, settles_keep, user_not}
use Rattle.palm_search.proofs.cited.Leaving.{settles_still}
use Rattle.palm_search.proofs.cited.Measuring.{turn_weighs}
use Rattle.palm_search.proofs.cited.Running.{settled_same, unnegated_takes}
use Rattle.palm_search.proofs.cited.Solving.{found_solves}
use Rattle.palm_best.specs.Cuts.{cut_of, is_cut, is_own}
use Rattle.palm_best.specs.Ends.{EndsBest, Minimizes, opened}
use Rattle.palm_best.specs.Improving.{HasCuts}
use Rattle.palm_best.specs.Moves.{Advances, AllMoves, BestState, Improves, Move, turns_of}
use Rattle.palm_best.specs.Moves.Move.{Cut, Taken}
use Rattle.palm_best.specs.declared.best.Best.{Best}
use Rattle.palm_best.specs.declared.best.Best.TheVariants.{Least, NoSolution, Spent}
use Rattle.palm_best.specs.declared.limits.TheConstants.{FIRST_CUT}
use Rattle.palm_best.proofs.Bounding.{improves_searching}
use Rattle.palm_best.proofs.Cutting.{cuts_kept, cuts_more, cuts_none, users_filtered, users_taken}
use Rattle.palm_best.proofs.Looping.{compared_formed}
use Rattle.palm_best.proofs.Owned.{only_users}
use Rattle.palm_best.proofs.cited.Alone.{closed_valid, moves_searching, takes_goes}

-- ---- after a cut nothing is found before a turn

-- filtering takes values out
run_shrinks : (s : EngineState) (steps : List Step) (t : EngineState) → All IsFiltering steps → Runs s steps t → (x : ℕ) (v : ℤ) → Has (present t) x v → Has (present s) x v
run_shrinks s [] t filtering run x v has = subst (λ (z : EngineState). Has (present z) x v) run has
run_shrinks s (step ∷ steps) t filtering run x v has =
    step_shrinks step run.0 (All-head IsFiltering step steps filtering) run.1 (run_shrinks run.0 steps t (All-tail IsFiltering step steps filtering) run.2 x v has)
  where
    logged_more : (a : Active) (p q : Pair) → Contains (log_pairs s.log) q → Contains (log_pairs (s.log ++ removal_of s a p ∷ [])) q
    logged_more a p q k =
        let r = member_unmap (λ (r : Removal). r.pair) s.log q k in
        let more : List Removal = s.log ++ removal_of s a p ∷ [] in
        member_same (log_pairs more) r.0.pair q r.2 (member_map (λ (r : Removal). r.pair) more r.0 (Contains-append_left s.log (removal_of s a p ∷ []) r.0 r.1))

    step_shrinks : (step : Step) (m : EngineState) → IsFiltering step → StepLeads s step m → Has (present m) x v → Has (present s) x v
    step_shrinks (Happens (Post a)) m filtering leads has = absurd filtering
    step_shrinks (Happens (Withdraw cid)) m filtering leads has = absurd filtering
    step_shrinks (Happens (Remove a p)) m filtering leads has =
        without_grows s.initial (log_pairs (s.log ++ removal_of s a p ∷ [])) (log_pairs s.log) (logged_more a p) x v (subst (λ (z : EngineState). Has (present z) x v) leads.after has)
    step_shrinks (Calm a) m filtering leads has = subst (λ (z : EngineState). Has (present z) x v) leads.after has
    step_shrinks (Declare values) m filtering leads has = absurd filtering

single_has : (values : List ℤ) (x : ℕ) → x < length values → Has (map (λ v. v ∷ []) values) x (listed values x)
single_has [] x lt = absurd (omega (arith, lt))
single_has (v ∷ values) zero lt = member_here v []
single_has (v ∷ values) (suc x) lt = single_has values x (omega (arith, lt))

single_is : (values : List ℤ) (x : ℕ) (v : ℤ) → Has (map (λ v. v ∷ []) values) x v → listed values x ≡ v
single_is [] x v has = absurd (member_nil v has)
single_is (w ∷ values) zero v has = only w v has
  where
    only : (w v : ℤ) → Contains (w ∷ []) v → w ≡ v
    only w v k = elim (member_cases w [] v k) [ inl e ↦ e | inr n ↦ absurd (member_nil v n) ]
single_is (w ∷ values) (suc x) v has = single_is values x v has

found_long : (e : EngineState) (values : List ℤ) → IsFound (present e) values → length values ≡ length e.initial
found_long e values found = sym (length-map values (λ (v : ℤ). v ∷ [])) ∙ ap (λ (d : Domains). length d) (sym found) ∙ length_without e.initial (log_pairs e.log)

cut_unfound : ReasonsAreRight → (ordered : Bool) (target : ℕ) (m : BestState) (values : List ℤ) (t : BestState) → target < length m.search.engine.initial → IsBetween t.search → Improves ordered target m values t
    → (others : List ℤ) → IsFound (present t.search.engine) others → ⊥
cut_unfound right ordered target m values t lt between improves others found =
    let middle = improves.middle in
    let cut = cut_of target m.cuts (listed values target) in
    let filters = settling_filters None middle.engine improves.settles.revisions t.search.engine improves.settles.settles in
    let initial : t.search.engine.initial ≡ m.search.engine.initial = filters.initial ∙ ap (λ (z : EngineState). z.initial) improves.posts.after in
    let long : target < length others = subst (λ (n : ℕ). target < n) (sym (found_long t.search.engine others found ∙ ap (λ (d : Domains). length d) initial)) lt in
    let now : Has (present t.search.engine) target (listed others target) = subst (λ (d : Domains). Has d target (listed others target)) (sym found) (single_has others target long) in
    let settled : Has (present middle.engine) target (listed others target) = run_shrinks middle.engine filters.steps t.search.engine filters.filtering filters.run target (listed others target) now in
    let before : Has (present m.search.engine) target (listed others target) = subst (λ (z : EngineState). Has (present z) target (listed others target)) improves.posts.after settled in
    let same : listed values target ≡ listed others target = single_is values target (listed others target) (subst (λ (d : Domains). Has d target (listed others target)) improves.found before) in
    let solution : IsSolution t.search.engine.initial (Contains (cons_of t.search.engine.active)) (listed others) = found_solves t.search.engine others between.searching.valid between.still found in
    let posted_cut : Contains middle.engine.active cut = subst (λ (z : EngineState). Contains z.active cut) (sym improves.posts.after) (with_posted_here cut m.search.engine.active) in
    let active : Contains t.search.engine.active cut = subst (λ (l : List Active). Contains l cut) (sym filters.active) posted_cut in
    let holds : Satisfies (listed others) (CompareConst target Lt (listed values target)) = solution.satisfies cut.con (member_map (λ (a : Active). a.con) t.search.engine.active cut active) in
    let less : listed others target <ℤ listed values target = holds (CompareConstPart target Lt (listed values target)) (member_here (CompareConstPart target Lt (listed values target)) []) in
    omega (arith, ints, less, same)

-- ---- what is known between two moves

record Stands (s : EngineState) (m : BestState) : Type 0 where
  between : IsBetween m.search
  initial : m.search.engine.initial ≡ s.initial
  cuts : HasCuts m.cuts m.search.engine

stands_turn : ReasonsAreRight → (guided ordered : Bool) (s : EngineState) (m : BestState) (turn : Turn) (t : BestState) → Advances guided ordered m turn t → Stands s m → Stands s t
stands_turn right guided ordered s m turn t advances stands =
    let follows = advances.follows in
    let middle = follows.middle in
    let searching = stands.between.searching in
    let filters = settling_filters None middle.engine follows.settles.revisions t.search.engine follows.settles.settles in
    let taken = cuts_kept m.cuts m.search.engine middle.engine (users_taken guided m.search turn middle follows.takes searching.valid) stands.cuts in
    let settled = cuts_kept m.cuts middle.engine t.search.engine (users_filtered middle.engine t.search.engine filters) taken in
    record {
      between = record {
        searching = follows_keep right guided ordered m.search turn t.search follows searching;
        unnegated = settled_same ordered middle t.search follows.settles (unnegated_takes guided m.search turn middle follows.takes stands.between);
        still = settles_still ordered middle t.search follows.settles;
      };
      initial = (turn_weighs right guided ordered m.search turn t.search follows searching).initial ∙ stands.initial;
      cuts = subst (λ (n : ℕ). HasCuts n t.search.engine) (sym advances.cuts) settled;
    }

stands_cut : ReasonsAreRight → (ordered : Bool) (target : ℕ) (s : EngineState) (m : BestState) (values : List ℤ) (t : BestState) → Improves ordered target m values t → Stands s m → Stands s t
stands_cut right ordered target s m values t improves stands =
    let middle = improves.middle in
    let cut = cut_of target m.cuts (listed values target) in
    let filters = settling_filters None middle.engine improves.settles.revisions t.search.engine improves.settles.settles in
    let posted_cuts = cuts_more target m.cuts (listed values target) m.search.engine middle.engine improves.posts stands.cuts in
    let settled = cuts_kept (m.cuts + 1) middle.engine t.search.engine (users_filtered middle.engine t.search.engine filters) posted_cuts in
    record {
      between = record {
        searching = improves_searching right ordered target m values t improves stands.between.searching;
        unnegated = settled_same ordered middle t.search improves.settles unnegated;
        still = settles_still ordered middle t.search improves.settles;
      };
      initial = filters.initial ∙ ap (λ (z : EngineState). z.initial) improves.posts.after ∙ stands.initial;
      cuts = subst (λ (n : ℕ). HasCuts n t.search.engine) (sym improves.cuts) settled;
    }
  where
    -- a cut is no negation
    unnegated : HasNoneNegated improves.middle
    unnegated p k is =
        let decided = subst (λ (l : List Pair). Contains l p) improves.decisions k in
        let posted_or_old = with_posted_cases (cut_of target m.cuts (listed values target)) m.search.engine.active is.owner (subst (λ (z : EngineState). Contains z.active is.owner) improves.posts.after is.posted) in
        elim posted_or_old [
          | inl e ↦ user_not (User (FIRST_CUT + m.cuts)) p refl (ap (λ (a : Active). a.cid) e ∙ is.named)
          | inr j ↦ stands.between.unnegated p decided (record { owner = is.owner; posted = j; named = is.named })
        ]

-- ---- one move

-- values were found, or there is no solution, or a turn can be taken
data Standing (guided ordered : Bool) (m : BestState) : Type 0 where
  has_found : (values : List ℤ) → IsFound (present m.search.engine) values → Standing guided ordered m
  has_none : (users : List Cid) → HasNoSolution m.search.engine users → Standing guided ordered m
  may_turn : GoesOn m.search.engine → (turn : Turn) (t : SearchState) → Follows guided ordered m.search turn t → Standing guided ordered m

standing_of : (guided ordered : Bool) (m : BestState) (turns : List Turn) (end : SearchEnd) (t : SearchState) → Turns guided ordered m.search turns t → length turns ≤ 1 → EndsWith 1 (length turns) t.engine end → Standing guided ordered m
standing_of guided ordered m [] (FoundEnd values) t run within ends = has_found values (subst (λ (z : SearchState). IsFound (present z.engine) values) run ends)
standing_of guided ordered m [] (NoneEnd users) t run within ends = has_none users (subst (λ (z : SearchState). HasNoSolution z.engine users) run ends)
standing_of guided ordered m [] (SpentEnd count) t run within ends = let e : 0 ≡ 1 = ends.1 in absurd (omega (arith, e))
standing_of guided ordered m (turn ∷ []) end t run within ends = may_turn (takes_goes guided m.search turn run.1.middle run.1.takes) turn run.0 run.1
standing_of guided ordered m (turn ∷ other ∷ turns) end t run within ends = absurd (omega (arith, within))

standing : ReasonsAreRight → (guided ordered : Bool) (pick : Pick) → FitsGuide guided pick → (s : EngineState) (m : BestState) → Stands s m → Standing guided ordered m
standing right guided ordered pick fits s m stands =
    let between = stands.between in
    let r = turns_exist right guided ordered 1 1 0 (λ k. pick) m.search (λ k. fits) (omega arith) between.searching between.unnegated between.still in
    let within = r.within in
    standing_of guided ordered m r.turns r.end r.state r.run (omega (arith, within)) (subst (λ (k : ℕ). EndsWith 1 k r.state.engine r.end) (plus (length r.turns)) r.ends)
  where
    plus : (n : ℕ) → 0 + n ≡ n
    plus n = omega arith

-- a cut below the values that were found
record CutsTo (ordered : Bool) (target : ℕ) (m : BestState) (values : List ℤ) : Type 0 where
  state : BestState
  improves : Improves ordered target m values state

cut_exists : (ordered : Bool) (target : ℕ) (s : EngineState) (m : BestState) (values : List ℤ) → target < length s.initial → ((v : ℤ) → Has s.initial target v → IsValue v) → Stands s m
    → IsFound (present m.search.engine) values → CutsTo ordered target m values
cut_exists ordered target s m values lt small stands found =
    let e = m.search.engine in
    let cut = cut_of target m.cuts (listed values target) in
    let here : target < length e.initial = subst (λ (d : Domains). target < length d) (sym stands.initial) lt in
    let solution = found_solves e values stands.between.searching.valid stands.between.still found in
    let value : IsValue (listed values target) = small (listed values target) (subst (λ (d : Domains). Has d target (listed values target)) stands.initial (solution.within target here)) in
    let middle : SearchState = record { engine = posted e cut; decisions = m.search.decisions } in
    let posts : Posts e cut middle.engine = record {
      inactive = λ is. let below = stands.cuts.none m.cuts is in omega (arith, below);
      formed = record { form = (compared_formed e.initial target (listed values target) here value, refl) };
      after = refl;
    } in
    let valid = (joined_searching m.search cut middle refl posts refl stands.between.searching).valid in
    let settled = settle_exists ordered middle valid in
    record {
      state = record { search = settled.state; incumbent = Some values; cuts = m.cuts + 1 };
      improves = record { found = found; middle = middle; posts = posts; decisions = refl; settles = settled.settles; incumbent = refl; cuts = refl };
    }

-- ---- moves to an end

record MovesTo (guided ordered : Bool) (target budget n : ℕ) (m : BestState) : Type 0 where
  moves : List Move
  best : Best
  state : BestState
  run : AllMoves guided ordered target m moves state
  within : n + length (turns_of moves) ≤ budget
  ends : EndsBest budget (n + length (turns_of moves)) state best

module _ (right : ReasonsAreRight) (guided ordered : Bool) (pick : Pick) (fits : FitsGuide guided pick) (target budget : ℕ) (s : EngineState) (lt : target < length s.initial) (small : (v : ℤ) → Has s.initial target v → IsValue v) where
  abbrev To : ℕ → BestState → Type 0
  To n m = MovesTo guided ordered target budget n m

  at_end : (n : ℕ) (m : BestState) (best : Best) → n ≤ budget → EndsBest budget n m best → To n m
  at_end n m best le ends = record {
    moves = [];
    best = best;
    state = m;
    run = refl;
    within = omega (arith, le);
    ends = subst (λ (k : ℕ). EndsBest budget k m best) (plus n) ends;
  }
    where
      plus : (n : ℕ) → n ≡ n + 0
      plus n = omega arith

  -- without a solution the incumbent is the answer, if there is one
  at_none : (n : ℕ) (m : BestState) (users : List Cid) → n ≤ budget → HasNoSolution m.search.engine users → To n m
  at_none n m users le none = by m.incumbent refl
    where
      by : (best : Option (List ℤ)) → m.incumbent ≡ best → To n m
      by None e = at_end n m (NoSolution users) le (e, none)
      by (Some values) e = at_end n m (Least values (filter (λ c. not (is_cut c)) users)) le (e, record { conflict = users; none = none; are = refl })

  one_turn : (n : ℕ) (m : BestState) (turn : Turn) (t : BestState) → Advances guided ordered m turn t → To (n + 1) t → To n m
  one_turn n m turn t advances rest =
      let within = rest.within in
      record {
        moves = Taken turn ∷ rest.moves;
        best = rest.best;
        state = rest.state;
        run = (t, advances, rest.run);
        within = omega (arith, within);
        ends = subst (λ (k : ℕ). EndsBest budget k rest.state rest.best) (next n (length (turns_of rest.moves))) rest.ends;
      }
    where
      next : (n m : ℕ) → (n + 1) + m ≡ n + suc m
      next n m = omega arith

  one_cut : (n : ℕ) (m : BestState) (values : List ℤ) (t : BestState) → Improves ordered target m values t → To n t → To n m
  one_cut n m values t improves rest =
      record { moves = Cut values ∷ rest.moves; best = rest.best; state = rest.state; run = (t, improves, rest.run); within = rest.within; ends = rest.ends }

  -- moves exist from every state in which fewer turns are left
  abbrev Rest : ℕ → Type 0
  Rest zero = ⊤
  Rest (suc left) = (n : ℕ) (m : BestState) → n + left ≡ budget → Stands s m → To n m

  turn_or_spend : (left n : ℕ) (m : BestState) → n + left ≡ budget → Stands s m → GoesOn m.search.engine → (turn : Turn) (t : SearchState) → Follows guided ordered m.search turn t → Rest left → To n m
  turn_or_spend zero n m e stands goes turn t follows rest = at_end n m (Spent n m.incumbent) (omega (arith, e)) (refl, (refl, omega (arith, e), goes))
  turn_or_spend (suc left) n m e stands goes turn t follows rest =
      let after : BestState = record { search = t; incumbent = m.incumbent; cuts = m.cuts } in
      let advances : Advances guided ordered m turn after = record { follows = follows; incumbent = refl; cuts = refl } in
      one_turn n m turn after advances (rest (n + 1) after (omega (arith, e)) (stands_turn right guided ordered s m turn after advances stands))

  from_unfound : (left n : ℕ) (m : BestState) → n + left ≡ budget → Stands s m → ((values : List ℤ) → IsFound (present m.search.engine) values → ⊥) → Rest left → To n m
  from_unfound left n m e stands unfound rest = elim (standing right guided ordered pick fits s m stands) [
    | has_found values found ↦ absurd (unfound values found)
    | has_none users none ↦ at_none n m users (omega (arith, e)) none
    | may_turn goes turn t follows ↦ turn_or_spend left n m e stands goes turn t follows rest
  ]

  from_any : (left n : ℕ) (m : BestState) → n + left ≡ budget → Stands s m → Rest left → To n m
  from_any left n m e stands rest = elim (standing right guided ordered pick fits s m stands) [
    | has_found values found ↦
        let cut = cut_exists ordered target s m values lt small stands found in
        let after = stands_cut right ordered target s m values cut.state cut.improves stands in
        let here : target < length m.search.engine.initial = subst (λ (d : Domains). target < length d) (sym stands.initial) lt in
        one_cut n m values cut.state cut.improves (from_unfound left n cut.state e after (cut_unfound right ordered target m values cut.state here after.between cut.improves) rest)
    | has_none users none ↦ at_none n m users (omega (arith, e)) none
    | may_turn goes turn t follows ↦ turn_or_spend left n m e stands goes turn t follows rest
  ]

  moves_exist : (left n : ℕ) (m : BestState) → n + left ≡ budget → Stands s m → To n m
  moves_exist zero n m e stands = from_any zero n m e stands tt
  moves_exist (suc left) n m e stands = from_any (suc left) n m e stands (λ k t f standing_there. moves_exist left k t f standing_there)

-- ---- whole minimizations

-- a minimization, and how it ends
pub record HasBest (guided ordered : Bool) (target budget : ℕ) (s : EngineState) : Type 0 where
  pub turns : List Turn
  pub best : Best
  pub state : EngineState
  pub minimizes : Minimizes guided ordered target budget s turns best state

closes_exist : (ordered : Bool) (m : EngineState) → IsValid m → (t : EngineState) × Closes is_own ordered m t
closes_exist ordered m valid =
    let w = withdrawal_exists m (own_cids is_own m.active) valid in
    let r = plainly_exists None w.0 (closed_valid m w.0 valid w.1) in
    (r.state, record { middle = w.0; withdraws = w.1; revisions = r.revisions; fits = order_fits ordered r.revisions r.fits; settles = r.settles })

pub best_exists : ReasonsAreRight → (guided ordered : Bool) (pick : Pick) → FitsGuide guided pick → (target budget : ℕ) (s : EngineState)
    → IsValid s → HasNone is_own s → target < length s.initial → ((v : ℤ) → Has s.initial target v → IsValue v) → HasBest guided ordered target budget s
best_exists right guided ordered pick fits target budget s valid none lt small =
    let start = settle_exists ordered (begun s) valid in
    let m = start.state in
    let filters = settling_filters None s start.settles.revisions m.engine start.settles.settles in
    let unnegated : HasNoneNegated m = λ p k is. member_nil p (subst (λ (l : List Pair). Contains l p) start.settles.decisions k) in
    let searching = settles_keep right ordered (begun s) m start.settles (begins s valid (only_users s none)) in
    let stands : Stands s (opened m) = record {
      between = record { searching = searching; unnegated = unnegated; still = settles_still ordered (begun s) m start.settles };
      initial = filters.initial;
      cuts = cuts_kept 0 s m.engine (users_filtered s m.engine filters) (cuts_none s none);
    } in
    let r = moves_exist right guided ordered pick fits target budget s lt small budget 0 (opened m) (omega arith) stands in
    let within = r.within in
    let last = moves_searching right guided ordered target (opened m) r.moves r.state r.run searching in
    let closes = closes_exist ordered r.state.search.engine last.valid in
    record {
      turns = turns_of r.moves;
      best = r.best;
      state = closes.0;
      minimizes = record {
        last = r.state;
        run = record {
          moved = record { moves = r.moves; journal = refl; start = m; settles = start.settles; taken = r.run; within = omega (arith, within) };
          ends = subst (λ (k : ℕ). EndsBest budget k r.state r.best) (plus (length (turns_of r.moves))) r.ends;
        };
        closes = closes.1;
      };
    }
  where
    plus : (n : ℕ) → 0 + n ≡ n
    plus n = omega arith
