-- How a minimization ends, and what is left after it, whether it ended or was broken off.
use Rattle.std.proofs.Common.{◌≡◌, ℕ, ℤ, ◌<◌, ◌<ℤ◌, ◌≤ℤ◌, Bool, true, false, not, None, Some, IfSome, List, [], ◌∷◌, length, Contains, inl, inr, refl, sym, ap, ◌∙◌, subst, arith}
use Rattle.std.specs.Prelude.{Result, Ok, OnOk}
use Rattle.std.proofs.lemmas.Bool.{cases_Bool, not-true}
use Rattle.std.proofs.lemmas.Int.{ints}
use Rattle.palm_base.specs.declared.terms.Cid.{Cid}
use Rattle.palm_base.specs.declared.terms.Cid.TheVariants.{Decide}
use Rattle.palm_base.proofs.cited.Members.{filter_member, member_filter, member_single}
use Rattle.palm_model.specs.Closure.{IsSolution}
use Rattle.palm_model.specs.Domains.{Assignment, Has}
use Rattle.palm_model.specs.Event.{WithdrawsAll}
use Rattle.palm_model.specs.Log.{Active, IsActive, Named}
use Rattle.palm_model.specs.Part.{Holds, Satisfies}
use Rattle.palm_model.specs.State.{EngineState, IsValid, is_user}
use Rattle.palm_model.specs.Trial.{listed, value_count}
use Rattle.palm_model.specs.declared.constraint.Con.TheVariants.{CompareConst}
use Rattle.palm_model.specs.declared.constraint.Op.TheVariants.{Lt}
use Rattle.palm_model.specs.declared.part.Part.TheVariants.{CompareConst as CompareConstPart}
use Rattle.palm_events.specs.Along.{IsStill}
use Rattle.palm_events.specs.Reasons.{ReasonsAreRight}
use Rattle.palm_events.proofs.cited.Valid.{posts_valid, withdraws_valid}
use Rattle.palm_engine.specs.Settling.{Filters}
use Rattle.palm_engine.proofs.cited.Settled.{filters_valid, settling_filters, settling_still}
use Rattle.palm_search.specs.declared.turn.Turn.{Turn}
use Rattle.palm_search.specs.Calls.{SearchView}
use Rattle.palm_search.specs.Kept.{HasNone, Rests}
use Rattle.palm_search.specs.Leaves.{Leaves}
use Rattle.palm_search.specs.Measure.{most_turns}
use Rattle.palm_search.specs.Search.{HasNoSolution, begun, own_cids}
use Rattle.palm_search.proofs.cited.Keeping.{takes_keep}
use Rattle.palm_search.proofs.cited.Owning.{Gains, Remembers, closing_leaves, closing_returns, gains_filtered, gains_none, gains_posted, gains_settles, gains_takes, gains_undone, other_before, remembers_filtered, remembers_none, remembers_posted, remembers_takes, remembers_undone}
use Rattle.palm_search.proofs.cited.Solving.{users_active, users_unsolved}
use Rattle.palm_best.specs.declared.best.Best.{Best}
use Rattle.palm_best.specs.declared.best.Best.TheVariants.{Least, NoSolution, Spent}
use Rattle.palm_best.specs.Answers.{AreSolution, IsLeast, IsTrueOf}
use Rattle.palm_best.specs.Breaking.{BreaksOff, IsCutOff}
use Rattle.palm_best.specs.Breaking.IsCutOff.{after_cut, after_turn, before_move, in_first_settling, in_undoing}
use Rattle.palm_best.specs.Cuts.{cut_of, is_cut, is_own}
use Rattle.palm_best.specs.Ends.{BestRun, HasMoved, IsProved, Minimizes, opened}
use Rattle.palm_best.specs.Moves.{AllMoves, BestState, Move}
use Rattle.palm_best.specs.Moves.Move.{Cut, Taken}
use Rattle.palm_best.proofs.Bounding.{best_bounded}
use Rattle.palm_best.proofs.Owned.{cut_is_own, is_own_owns, user_not_cut}
use Rattle.palm_best.proofs.Reaching.{Reached, moved_reached}

-- ---- the users of a conflict

-- a user's constraint that is no cut is from before
kept_before : (s : EngineState) (target : ℕ) (m : BestState) → Reached s target m → (a : Active) → Contains m.search.engine.active a → is_user a.cid ≡ true → is_cut a.cid ≡ false → Contains s.active a
kept_before s target m reached a k user other = other_before is_own s m.search.engine reached.searching.valid reached.remembers a k (user_not_cut a.cid user other)

-- a user of the conflict that is no cut was active before
user_kept : (s : EngineState) (target : ℕ) (m : BestState) (users : List Cid) → Reached s target m → HasNoSolution m.search.engine users → (c : Cid) → Contains users c → is_cut c ≡ false → IsActive s.active c
user_kept s target m users reached none c k other =
    let active = users_active m.search reached.searching users none c k in
    let is = active.0 in
    let user = subst (λ d. is_user d ≡ true) (sym is.named) active.1 in
    record { owner = is.owner; posted = kept_before s target m reached is.owner is.posted user (subst (λ d. is_cut d ≡ false) (sym is.named) other); named = is.named }

-- ---- the least values

proved_active : (s : EngineState) (target : ℕ) (m : BestState) (users : List Cid) → Reached s target m → IsProved m.search.engine users → (c : Cid) → Contains users c → IsActive s.active c
proved_active s target m users reached proved c k =
    let r = filter_member (λ d. not (is_cut d)) proved.conflict c (subst (λ l. Contains l c) proved.are k) in
    user_kept s target m proved.conflict reached proved.none c r.0 (not-true (is_cut c) r.1)

satisfies_cut : (b : Assignment) (target : ℕ) (v : ℤ) → b target <ℤ v → Satisfies b (CompareConst target Lt v)
satisfies_cut b target v less part k = subst (λ q. Holds q b) (member_single (CompareConstPart target Lt v) part k) less

some_same : (xs ys : List ℤ) → Some xs ≡ Some ys → xs ≡ ys
some_same xs ys e = cc

-- what gives the target a lesser value than the incumbent satisfies each cut
less_satisfies : (s : EngineState) (target : ℕ) (m : BestState) (values : List ℤ) → Reached s target m → m.incumbent ≡ Some values → (b : Assignment) → b target <ℤ listed values target
    → (a : Active) → Contains m.search.engine.active a → is_cut a.cid ≡ true → Satisfies b a.con
less_satisfies s target m values reached best b less a k cut =
    let old = reached.cuts a k cut in
    let same : old.values ≡ values = some_same old.values values (sym old.is ∙ best) in
    let above : listed values target ≤ℤ old.bound = subst (λ (vs : List ℤ). listed vs target ≤ℤ old.bound) same old.above in
    subst (Satisfies b) (sym old.con) (satisfies_cut b target old.bound (omega (arith, ints, less, above)))

proved_least : (s : EngineState) (target : ℕ) (m : BestState) (values : List ℤ) (users : List Cid) → Reached s target m → m.incumbent ≡ Some values → IsProved m.search.engine users → IsLeast s target values users
proved_least s target m values users reached best proved b solution less = users_unsolved m.search reached.searching proved.conflict proved.none b (record {
  within = subst (λ d. (x : ℕ) → x < length d → Has d x (b x)) (sym reached.remembers.initial) solution.within;
  satisfies = λ c named.
      let a = named.owner in
      subst (Satisfies b) named.is (elim (cases_Bool (is_cut a.cid)) [
        | inl cut ↦ less_satisfies s target m values reached best b less a named.posted cut
        | inr other ↦
            let user = (users_active m.search reached.searching proved.conflict proved.none a.cid named.named).1 in
            solution.satisfies a.con (record {
              owner = a;
              posted = kept_before s target m reached a named.posted user other;
              is = refl;
              named = subst (λ l. Contains l a.cid) (sym proved.are) (member_filter (λ d. not (is_cut d)) proved.conflict a.cid named.named (ap not other));
            })
      ]);
})

-- ---- no solution

none_some : (xs : List ℤ) → None ≡ Some xs → ⊥
none_some xs e = cc

-- without an incumbent no cut is active
no_cut : (s : EngineState) (target : ℕ) (m : BestState) → Reached s target m → m.incumbent ≡ None → (a : Active) → Contains m.search.engine.active a → is_cut a.cid ≡ false
no_cut s target m reached none a k = elim (cases_Bool (is_cut a.cid)) [
  | inl cut ↦ let old = reached.cuts a k cut in absurd (none_some old.values (sym none ∙ old.is))
  | inr other ↦ other
]

unsolved_active : (s : EngineState) (target : ℕ) (m : BestState) (users : List Cid) → Reached s target m → m.incumbent ≡ None → HasNoSolution m.search.engine users → (c : Cid) → Contains users c → IsActive s.active c
unsolved_active s target m users reached best none c k =
    let is = (users_active m.search reached.searching users none c k).0 in
    user_kept s target m users reached none c k (subst (λ d. is_cut d ≡ false) is.named (no_cut s target m reached best is.owner is.posted))

unsolved_none : (s : EngineState) (target : ℕ) (m : BestState) (users : List Cid) → Reached s target m → m.incumbent ≡ None → HasNoSolution m.search.engine users
    → (b : Assignment) → IsSolution s.initial (Named s.active (Contains users)) b → ⊥
unsolved_none s target m users reached best none b solution = users_unsolved m.search reached.searching users none b (record {
  within = subst (λ d. (x : ℕ) → x < length d → Has d x (b x)) (sym reached.remembers.initial) solution.within;
  satisfies = λ c named.
      let a = named.owner in
      let user = (users_active m.search reached.searching users none a.cid named.named).1 in
      solution.satisfies c (record {
        owner = a;
        posted = kept_before s target m reached a named.posted user (no_cut s target m reached best a named.posted);
        is = named.is;
        named = named.named;
      });
})

-- ---- every end

pub best_true : ReasonsAreRight → (guided ordered : Bool) (target budget : ℕ) (s : EngineState) (turns : List Turn) (best : Best) (t : BestState) → HasNone is_own s → IsValid s → BestRun guided ordered target budget s turns best t → IsTrueOf s target budget best
best_true right guided ordered target budget s turns (Least values users) t none valid run =
    let reached = moved_reached right guided ordered target budget s turns t none valid run.moved in
    let ends = run.ends in
    record {
      solution = subst (λ best. IfSome best (AreSolution s)) ends.0 reached.solution;
      active = proved_active s target t users reached ends.1;
      least = proved_least s target t values users reached ends.0 ends.1;
    }
best_true right guided ordered target budget s turns (NoSolution users) t none valid run =
    let reached = moved_reached right guided ordered target budget s turns t none valid run.moved in
    let ends = run.ends in
    record { active = unsolved_active s target t users reached ends.0 ends.1; none = unsolved_none s target t users reached ends.0 ends.1 }
best_true right guided ordered target budget s turns (Spent spent best) t none valid run =
    let reached = moved_reached right guided ordered target budget s turns t none valid run.moved in
    let ends = run.ends in
    let count = ends.1.0 in
    let few = best_bounded right guided ordered target budget s turns t valid none run.moved in
    record {
      whole = count ∙ ends.1.1;
      few = subst (λ n. n < most_turns (length s.initial) (value_count s.initial)) (sym count) few;
      solution = subst (λ b. IfSome b (AreSolution s)) (sym ends.0) reached.solution;
    }

-- ---- what is gained on the state before

gains_moves : ReasonsAreRight → (guided ordered : Bool) (target : ℕ) (s : EngineState) (m : BestState) (moves : List Move) (t : BestState) → HasNone is_own s → IsValid s → IsStill s → AllMoves guided ordered target m moves t
    → Gains is_own s m.search.engine → Gains is_own s t.search.engine
gains_moves right guided ordered target s m [] t none valid still run gains = subst (λ (z : BestState). Gains is_own s z.search.engine) (sym run) gains
gains_moves right guided ordered target s m (Taken turn ∷ moves) t none valid still run gains =
    let follows = run.1.follows in
    let taken = gains_takes guided is_own s m.search turn follows.middle is_own_owns none valid follows.takes gains in
    gains_moves right guided ordered target s run.0 moves t none valid still run.2 (gains_settles right ordered is_own s follows.middle run.0.search follows.settles valid still taken)
gains_moves right guided ordered target s m (Cut values ∷ moves) t none valid still run gains =
    let improves = run.1 in
    let posted = gains_posted is_own s m.search.engine (cut_of target m.cuts (listed values target)) improves.middle.engine (cut_is_own target m.cuts (listed values target)) improves.posts gains in
    gains_moves right guided ordered target s run.0 moves t none valid still run.2 (gains_settles right ordered is_own s improves.middle run.0.search improves.settles valid still posted)

pub moved_gains : ReasonsAreRight → (guided ordered : Bool) (target budget : ℕ) (s : EngineState) (turns : List Turn) (m : BestState) → HasNone is_own s → IsValid s → IsStill s → HasMoved guided ordered target budget s turns m → Gains is_own s m.search.engine
moved_gains right guided ordered target budget s turns m none valid still moved =
    gains_moves right guided ordered target s (opened moved.start) moved.moves m none valid still moved.taken
    (gains_settles right ordered is_own s (begun s) moved.start moved.settles valid still (gains_none is_own s valid))

-- ---- what is left after a whole run

pub best_rests : ReasonsAreRight → (guided ordered : Bool) (target budget : ℕ) (s : EngineState) (turns : List Turn) (best : Best) (t : EngineState) → HasNone is_own s → IsValid s → Minimizes guided ordered target budget s turns best t → Rests s t
best_rests right guided ordered target budget s turns best t none valid minimizes =
    let last = minimizes.last in
    let closes = minimizes.closes in
    let reached = moved_reached right guided ordered target budget s turns last none valid minimizes.run.moved in
    let returns = closing_returns right is_own s last.search.engine closes.middle t is_own_owns none valid reached.searching.valid reached.remembers closes.withdraws (settling_filters None closes.middle closes.revisions t closes.settles) in
    record { valid = returns.valid; active = returns.active; initial = returns.initial; still = settling_still closes.middle closes.revisions t closes.settles }

pub best_leaves : ReasonsAreRight → (guided ordered : Bool) (target budget : ℕ) (s : EngineState) (turns : List Turn) (best : Best) (t : EngineState) → HasNone is_own s → IsValid s → IsStill s → Minimizes guided ordered target budget s turns best t → t.log ≡ s.log
best_leaves right guided ordered target budget s turns best t none valid still minimizes =
    let last = minimizes.last in
    let closes = minimizes.closes in
    closing_leaves right is_own s last.search.engine closes.middle t is_own_owns none valid still
    (moved_gains right guided ordered target budget s turns last none valid still minimizes.run.moved)
    closes.withdraws (settling_filters None closes.middle closes.revisions t closes.settles)

pub minimizes_leaves : {E : Type 0} → ReasonsAreRight → (guided ordered : Bool) (target budget : ℕ) (s : EngineState) (turns : List Turn) (best : Best) (t : EngineState) (after : SearchView) → HasNone is_own s → IsValid s
    → Minimizes guided ordered target budget s turns best t → IsValid t → after.decisions ≡ [] → Leaves {T = Best} {E = E} s t after (Ok best)
minimizes_leaves right guided ordered target budget s turns best t after none valid minimizes valid_after closed =
    let rests = best_rests right guided ordered target budget s turns best t none valid minimizes in
    record {
      active = rests.active;
      initial = rests.initial;
      log = λ still. best_leaves right guided ordered target budget s turns best t none valid still minimizes;
      still = rests.still;
      decisions = closed;
      valid = valid_after;
    }

-- ---- where a run is cut off

-- the engine is valid and remembers s
record Knows (s t : EngineState) : Type 0 where
  valid : IsValid t
  remembers : Remembers is_own s t

cut_knows : ReasonsAreRight → (guided ordered : Bool) (target budget : ℕ) (s : EngineState) (turns : List Turn) (t : EngineState) → HasNone is_own s → IsValid s → IsCutOff guided ordered target budget s turns t → Knows s t
cut_knows right guided ordered target budget s turns t none valid (in_first_settling e filters) =
    record { valid = filters_valid right s t filters valid; remembers = remembers_filtered is_own s s t filters (remembers_none is_own s) }
cut_knows right guided ordered target budget s turns t none valid (before_move m moved e) =
    let reached = moved_reached right guided ordered target budget s turns m none valid moved in
    subst (Knows s) (sym e) (record { valid = reached.searching.valid; remembers = reached.remembers })
cut_knows right guided ordered target budget s turns t none valid (in_undoing m next before gone conflict undoes moved lt e f) =
    let reached = moved_reached right guided ordered target budget s before m none valid moved in
    subst (Knows s) (sym f) (record {
      valid = withdraws_valid m.search.engine undoes.middle (Decide gone.var) undoes.withdraws reached.searching.valid;
      remembers = remembers_undone is_own s m.search gone conflict next undoes is_own_owns none reached.searching.valid reached.remembers;
    })
cut_knows right guided ordered target budget s turns t none valid (after_turn m next before turn moved lt takes e filters) =
    let reached = moved_reached right guided ordered target budget s before m none valid moved in
    record {
      valid = filters_valid right next.engine t filters (takes_keep guided m.search turn next takes reached.searching).valid;
      remembers = remembers_filtered is_own s next.engine t filters (remembers_takes guided is_own s m.search turn next is_own_owns none reached.searching.valid takes reached.remembers);
    }
cut_knows right guided ordered target budget s turns t none valid (after_cut m middle values moved found posts filters) =
    let reached = moved_reached right guided ordered target budget s turns m none valid moved in
    let cut = cut_of target m.cuts (listed values target) in
    record {
      valid = filters_valid right middle t filters (posts_valid m.search.engine middle cut posts reached.searching.valid);
      remembers = remembers_filtered is_own s middle t filters (remembers_posted is_own s m.search.engine cut middle (cut_is_own target m.cuts (listed values target)) posts reached.remembers);
    }

cut_gains : ReasonsAreRight → (guided ordered : Bool) (target budget : ℕ) (s : EngineState) (turns : List Turn) (t : EngineState) → HasNone is_own s → IsValid s → IsStill s → IsCutOff guided ordered target budget s turns t → Gains is_own s t
cut_gains right guided ordered target budget s turns t none valid still (in_first_settling e filters) = gains_filtered right is_own s s t filters valid still (gains_none is_own s valid)
cut_gains right guided ordered target budget s turns t none valid still (before_move m moved e) =
    subst (Gains is_own s) (sym e) (moved_gains right guided ordered target budget s turns m none valid still moved)
cut_gains right guided ordered target budget s turns t none valid still (in_undoing m next before gone conflict undoes moved lt e f) =
    subst (Gains is_own s) (sym f) (gains_undone is_own s m.search gone conflict next undoes is_own_owns none valid (moved_gains right guided ordered target budget s before m none valid still moved))
cut_gains right guided ordered target budget s turns t none valid still (after_turn m next before turn moved lt takes e filters) =
    gains_filtered right is_own s next.engine t filters valid still
    (gains_takes guided is_own s m.search turn next is_own_owns none valid takes (moved_gains right guided ordered target budget s before m none valid still moved))
cut_gains right guided ordered target budget s turns t none valid still (after_cut m middle values moved found posts filters) =
    gains_filtered right is_own s middle t filters valid still
    (gains_posted is_own s m.search.engine (cut_of target m.cuts (listed values target)) middle (cut_is_own target m.cuts (listed values target)) posts
    (moved_gains right guided ordered target budget s turns m none valid still moved))

-- ---- and all its decisions, negations and cuts are withdrawn

pub broken_leaves : {T E : Type 0} → ReasonsAreRight → (guided ordered : Bool) (target budget : ℕ) (s : EngineState) (turns : List Turn) (t : EngineState) (after : SearchView) (result : Result T E) → HasNone is_own s → IsValid s
    → BreaksOff guided ordered target budget s turns t → IsValid t → after.decisions ≡ [] → OnOk result (IsStill t) → Leaves s t after result
broken_leaves right guided ordered target budget s turns t after result none valid broken valid_after closed still =
    let knows = cut_knows right guided ordered target budget s turns broken.cut none valid broken.is in
    let returns = closing_returns right is_own s broken.cut broken.middle t is_own_owns none valid knows.valid knows.remembers broken.withdraws broken.filters in
    record {
      active = returns.active;
      initial = returns.initial;
      log = λ rest. closing_leaves right is_own s broken.cut broken.middle t is_own_owns none valid rest (cut_gains right guided ordered target budget s turns broken.cut none valid rest broken.is) broken.withdraws broken.filters;
      still = still;
      decisions = closed;
      valid = valid_after;
    }

-- the run has ended, and its decisions, negations and cuts are withdrawn
pub broken_at_end : (guided ordered : Bool) (target budget : ℕ) (s : EngineState) (turns : List Turn) (best : Best) (last : BestState) (n t : EngineState) → BestRun guided ordered target budget s turns best last
    → WithdrawsAll last.search.engine (own_cids is_own last.search.engine.active) n → Filters n t → BreaksOff guided ordered target budget s turns t
broken_at_end guided ordered target budget s turns best last n t run withdraws filters = record {
  cut = last.search.engine;
  is = before_move last run.moved refl;
  middle = n;
  withdraws = withdraws;
  filters = filters;
}
