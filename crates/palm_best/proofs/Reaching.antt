-- What a minimization keeps of the state before it, and what is known of its cuts.
use Rattle.std.proofs.Common.{◌≡◌, ℕ, ℤ, ◌<ℤ◌, ◌≤ℤ◌, Bool, true, Option, None, Some, IfSome, List, [], ◌∷◌, Contains, inl, inr, refl, sym, ◌∙◌, subst, arith}
use Rattle.std.proofs.lemmas.Bool.{false≢true}
use Rattle.std.proofs.lemmas.Int.{ints}
use Rattle.palm_base.specs.declared.terms.Cid.{Cid}
use Rattle.palm_base.specs.declared.terms.Cid.TheVariants.{Decide}
use Rattle.palm_base.proofs.cited.Members.{member_here, member_map}
use Rattle.palm_model.specs.Closure.{IsSolution}
use Rattle.palm_model.specs.Event.{Posts, WithdrawsAll, gone_with}
use Rattle.palm_model.specs.Log.{Active, cons_of}
use Rattle.palm_model.specs.Part.{Satisfies}
use Rattle.palm_model.specs.State.{EngineState, IsValid, decision_of, negation_of}
use Rattle.palm_model.specs.Trial.{listed}
use Rattle.palm_model.specs.declared.constraint.Con.TheVariants.{CompareConst}
use Rattle.palm_model.specs.declared.constraint.Op.TheVariants.{Lt}
use Rattle.palm_model.specs.declared.part.Part.TheVariants.{CompareConst as CompareConstPart}
use Rattle.palm_events.specs.Along.{IsStill}
use Rattle.palm_events.specs.Reasons.{ReasonsAreRight}
use Rattle.palm_events.proofs.cited.States.{with_posted_cases, without_cids_member}
use Rattle.palm_engine.specs.Settling.{Filters}
use Rattle.palm_engine.proofs.cited.Settled.{settling_filters}
use Rattle.palm_search.specs.declared.turn.Turn.{Turn}
use Rattle.palm_search.specs.declared.turn.Turn.TheVariants.{Decide as TurnDecide, Undo as TurnUndo}
use Rattle.palm_search.specs.Kept.{HasNone, IsSearching}
use Rattle.palm_search.specs.Search.{begun}
use Rattle.palm_search.specs.Turns.{SearchState, SettlesAfter, Takes}
use Rattle.palm_search.proofs.cited.Keeping.{begins, follows_keep, settles_keep}
use Rattle.palm_search.proofs.cited.Leaving.{settles_still}
use Rattle.palm_search.proofs.cited.Owning.{Remembers, remembers_none, remembers_posted, remembers_settles, remembers_takes, solves_before}
use Rattle.palm_search.proofs.cited.Solving.{found_solves}
use Rattle.palm_best.specs.Answers.{AreSolution}
use Rattle.palm_best.specs.Cuts.{cut_of, is_cut, is_own}
use Rattle.palm_best.specs.Ends.{HasMoved, opened}
use Rattle.palm_best.specs.Moves.{Advances, AllMoves, BestState, Improves, Move}
use Rattle.palm_best.specs.Moves.Move.{Cut, Taken}
use Rattle.palm_best.proofs.Bounding.{improves_searching}
use Rattle.palm_best.proofs.Owned.{cut_is_own, cut_own, is_own_owns, only_users}

-- ---- cuts

-- the cut is not below the incumbent
pub record IsAbove (target : ℕ) (incumbent : Option (List ℤ)) (a : Active) : Type 0 where
  pub values : List ℤ
  pub is : incumbent ≡ Some values
  pub bound : ℤ
  pub con : a.con ≡ CompareConst target Lt bound
  pub above : listed values target ≤ℤ bound

-- nor is any active one
abbrev pub AreAbove : ℕ → Option (List ℤ) → EngineState → Type 0
AreAbove target incumbent m = (a : Active) → Contains m.active a → is_cut a.cid ≡ true → IsAbove target incumbent a

above_none : (s : EngineState) (target : ℕ) → HasNone is_own s → AreAbove target None s
above_none s target none a m cut = absurd (false≢true (sym (none a m) ∙ cut_own a.cid cut))

above_posted : (target : ℕ) (incumbent : Option (List ℤ)) (m : EngineState) (a : Active) (t : EngineState) → (is_cut a.cid ≡ true → IsAbove target incumbent a) → Posts m a t → AreAbove target incumbent m → AreAbove target incumbent t
above_posted target incumbent m a t new posts cuts b k cut = elim (with_posted_cases a m.active b (subst (λ (z : EngineState). Contains z.active b) posts.after k)) [
  | inl e ↦ subst (IsAbove target incumbent) e (new (subst (λ (c : Active). is_cut c.cid ≡ true) (sym e) cut))
  | inr j ↦ cuts b j cut
]

above_withdrawn : (target : ℕ) (incumbent : Option (List ℤ)) (m : EngineState) (gone : List Cid) (t : EngineState) → WithdrawsAll m gone t → AreAbove target incumbent m → AreAbove target incumbent t
above_withdrawn target incumbent m gone t withdraws cuts b k cut = cuts b (without_cids_member gone m.active b (subst (λ (z : EngineState). Contains z.active b) withdraws.after k)).0 cut

above_filtered : (target : ℕ) (incumbent : Option (List ℤ)) (m t : EngineState) → Filters m t → AreAbove target incumbent m → AreAbove target incumbent t
above_filtered target incumbent m t filters cuts b k cut = cuts b (subst (λ l. Contains l b) filters.active k) cut

above_settles : (ordered : Bool) (target : ℕ) (incumbent : Option (List ℤ)) (m t : SearchState) → SettlesAfter ordered m t → AreAbove target incumbent m.engine → AreAbove target incumbent t.engine
above_settles ordered target incumbent m t settles cuts = above_filtered target incumbent m.engine t.engine (settling_filters None m.engine settles.revisions t.engine settles.settles) cuts

above_takes : (guided : Bool) (target : ℕ) (incumbent : Option (List ℤ)) (m : SearchState) (turn : Turn) (t : SearchState) → Takes guided m turn t → AreAbove target incumbent m.engine → AreAbove target incumbent t.engine
above_takes guided target incumbent m (TurnDecide pair pick) t takes cuts = above_posted target incumbent m.engine (decision_of pair) t.engine (λ cut. absurd (false≢true cut)) takes.posts cuts
above_takes guided target incumbent m (TurnUndo gone conflict) t takes cuts =
    above_posted target incumbent takes.middle (negation_of gone _) t.engine (λ cut. absurd (false≢true cut)) takes.posts
    (above_withdrawn target incumbent m.engine (gone_with m.engine.active (Decide gone.var)) takes.middle takes.withdraws cuts)

-- values that were found satisfy each cut, so no cut is below them
above_found : (target : ℕ) (incumbent : Option (List ℤ)) (m : EngineState) (values : List ℤ) → IsSolution m.initial (Contains (cons_of m.active)) (listed values) → AreAbove target incumbent m → AreAbove target (Some values) m
above_found target incumbent m values solution cuts a k cut =
    let old = cuts a k cut in
    let holds = subst (Satisfies (listed values)) old.con (solution.satisfies a.con (member_map (λ (b : Active). b.con) m.active a k)) in
    let less : listed values target <ℤ old.bound = holds (CompareConstPart target Lt old.bound) (member_here (CompareConstPart target Lt old.bound) []) in
    record { values = values; is = refl; bound = old.bound; con = old.con; above = omega (arith, ints, less) }

-- ---- moves

-- what is known of a state of a minimization
pub record Reached (s : EngineState) (target : ℕ) (m : BestState) : Type 0 where
  pub searching : IsSearching m.search
  pub still : IsStill m.search.engine
  pub remembers : Remembers is_own s m.search.engine
  pub cuts : AreAbove target m.incumbent m.search.engine
  pub solution : IfSome m.incumbent (AreSolution s)

advances_reached : ReasonsAreRight → (guided ordered : Bool) (s : EngineState) (target : ℕ) (m : BestState) (turn : Turn) (t : BestState) → HasNone is_own s → Advances guided ordered m turn t → Reached s target m → Reached s target t
advances_reached right guided ordered s target m turn t none advances reached =
    let follows = advances.follows in
    let taken = remembers_takes guided is_own s m.search turn follows.middle is_own_owns none reached.searching.valid follows.takes reached.remembers in
    let cuts = above_takes guided target m.incumbent m.search turn follows.middle follows.takes reached.cuts in
    record {
      searching = follows_keep right guided ordered m.search turn t.search follows reached.searching;
      still = settles_still ordered follows.middle t.search follows.settles;
      remembers = remembers_settles ordered is_own s follows.middle t.search follows.settles taken;
      cuts = subst (λ best. AreAbove target best t.search.engine) (sym advances.incumbent) (above_settles ordered target m.incumbent follows.middle t.search follows.settles cuts);
      solution = subst (λ best. IfSome best (AreSolution s)) (sym advances.incumbent) reached.solution;
    }

improves_above : (ordered : Bool) (target : ℕ) (m : BestState) (values : List ℤ) (t : BestState) → IsSolution m.search.engine.initial (Contains (cons_of m.search.engine.active)) (listed values)
    → Improves ordered target m values t → AreAbove target m.incumbent m.search.engine → AreAbove target (Some values) t.search.engine
improves_above ordered target m values t solution improves cuts =
    let cut = cut_of target m.cuts (listed values target) in
    let new : IsAbove target (Some values) cut = record { values = values; is = refl; bound = listed values target; con = refl; above = omega (arith, ints) } in
    above_settles ordered target (Some values) improves.middle t.search improves.settles
    (above_posted target (Some values) m.search.engine cut improves.middle.engine (λ _. new) improves.posts
    (above_found target m.incumbent m.search.engine values solution cuts))

improves_reached : ReasonsAreRight → (ordered : Bool) (s : EngineState) (target : ℕ) (m : BestState) (values : List ℤ) (t : BestState) → Improves ordered target m values t → Reached s target m → Reached s target t
improves_reached right ordered s target m values t improves reached =
    let cut = cut_of target m.cuts (listed values target) in
    let solution = found_solves m.search.engine values reached.searching.valid reached.still improves.found in
    let posted = remembers_posted is_own s m.search.engine cut improves.middle.engine (cut_is_own target m.cuts (listed values target)) improves.posts reached.remembers in
    record {
      searching = improves_searching right ordered target m values t improves reached.searching;
      still = settles_still ordered improves.middle t.search improves.settles;
      remembers = remembers_settles ordered is_own s improves.middle t.search improves.settles posted;
      cuts = subst (λ best. AreAbove target best t.search.engine) (sym improves.incumbent) (improves_above ordered target m values t solution improves reached.cuts);
      solution = subst (λ best. IfSome best (AreSolution s)) (sym improves.incumbent) (solves_before is_own s m.search.engine (listed values) reached.remembers solution);
    }

pub moves_reached : ReasonsAreRight → (guided ordered : Bool) (s : EngineState) (target : ℕ) (m : BestState) (moves : List Move) (t : BestState) → HasNone is_own s → AllMoves guided ordered target m moves t → Reached s target m → Reached s target t
moves_reached right guided ordered s target m [] t none run reached = subst (Reached s target) (sym run) reached
moves_reached right guided ordered s target m (Taken turn ∷ moves) t none run reached =
    moves_reached right guided ordered s target run.0 moves t none run.2 (advances_reached right guided ordered s target m turn run.0 none run.1 reached)
moves_reached right guided ordered s target m (Cut values ∷ moves) t none run reached =
    moves_reached right guided ordered s target run.0 moves t none run.2 (improves_reached right ordered s target m values run.0 run.1 reached)

pub opening_reached : ReasonsAreRight → (ordered : Bool) (s : EngineState) (target : ℕ) (start : SearchState) → HasNone is_own s → IsValid s → SettlesAfter ordered (begun s) start → Reached s target (opened start)
opening_reached right ordered s target start none valid settles = record {
  searching = settles_keep right ordered (begun s) start settles (begins s valid (only_users s none));
  still = settles_still ordered (begun s) start settles;
  remembers = remembers_settles ordered is_own s (begun s) start settles (remembers_none is_own s);
  cuts = above_settles ordered target None (begun s) start settles (above_none s target none);
  solution = tt;
}

pub moved_reached : ReasonsAreRight → (guided ordered : Bool) (target budget : ℕ) (s : EngineState) (turns : List Turn) (m : BestState) → HasNone is_own s → IsValid s → HasMoved guided ordered target budget s turns m → Reached s target m
moved_reached right guided ordered target budget s turns m none valid moved =
    moves_reached right guided ordered s target (opened moved.start) moved.moves m none moved.taken (opening_reached right ordered s target moved.start none valid moved.settles)
