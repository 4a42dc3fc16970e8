-- Without guide and order there is one minimization.
use Rattle.std.proofs.Common.{◌≡◌, ℕ, suc, ℤ, ◌+◌, ◌≤◌, Bool, false, not, Option, None, Some, List, [], ◌∷◌, filter, length, refl, sym, ap, ◌∙◌, subst, arith}
use Rattle.palm_base.specs.declared.terms.Cid.{Cid}
use Rattle.palm_model.specs.Event.{WithdrawsAll, posted}
use Rattle.palm_model.specs.State.{EngineState, IsValid, present}
use Rattle.palm_model.specs.Trial.{listed}
use Rattle.palm_events.specs.Reasons.{ReasonsAreRight}
use Rattle.palm_events.proofs.cited.Outcomes.{withdrawal_same}
use Rattle.palm_events.proofs.cited.Valid.{withdraws_all_valid}
use Rattle.palm_engine.specs.Settling.{Settles}
use Rattle.palm_engine.proofs.cited.Settled.{plainly_same}
use Rattle.palm_search.specs.declared.ending.SearchEnd.TheVariants.{Found as FoundEnd, NoSolution as NoneEnd}
use Rattle.palm_search.specs.declared.turn.Turn.{Turn}
use Rattle.palm_search.specs.declared.turn.Turn.TheVariants.{Decide as TurnDecide, Undo as TurnUndo}
use Rattle.palm_search.specs.Kept.{HasNone, IsSearching}
use Rattle.palm_search.specs.Search.{Closes, GoesOn, HasNoSolution, IsFound, begun, own_cids}
use Rattle.palm_search.specs.Search.GoesOn.{could_decide, could_undo}
use Rattle.palm_search.specs.Turns.{SearchState, SettlesAfter, Takes}
use Rattle.palm_search.proofs.cited.Alone.{decided_open, end_stops, ends_same, follows_same, settles_same}
use Rattle.palm_search.proofs.cited.Joining.{joined_searching}
use Rattle.palm_search.proofs.cited.Keeping.{begins, follows_keep, settles_keep}
use Rattle.palm_search.proofs.cited.Owning.{closing_keeps}
use Rattle.palm_best.specs.Cuts.{cut_of, is_cut, is_own}
use Rattle.palm_best.specs.Ends.{BestRun, EndsBest, Minimizes, opened}
use Rattle.palm_best.specs.Moves.{Advances, AllMoves, BestState, Improves, Move, turns_of}
use Rattle.palm_best.specs.Moves.Move.{Cut, Taken}
use Rattle.palm_best.specs.declared.best.Best.{Best}
use Rattle.palm_best.specs.declared.best.Best.TheVariants.{Least, NoSolution, Spent}
use Rattle.palm_best.proofs.Bounding.{improves_searching}
use Rattle.palm_best.proofs.Owned.{is_own_owns, only_users}

-- ---- what excludes what

-- where a turn is taken, the run can go on
pub takes_goes : (guided : Bool) (s : SearchState) (turn : Turn) (t : SearchState) → Takes guided s turn t → GoesOn s.engine
takes_goes guided s (TurnDecide p pick) t takes = could_decide p.var takes.filled (decided_open (present s.engine) pick p takes.decided)
takes_goes guided s (TurnUndo g c) t takes = could_undo g.var c takes.flat takes.latest.held

goes_not_found : (s : EngineState) (values : List ℤ) → IsFound (present s) values → GoesOn s → ⊥
goes_not_found s values found goes = end_stops 1 0 0 s (FoundEnd values) found (omega arith) goes

goes_not_unsolved : (s : EngineState) (users : List Cid) → HasNoSolution s users → GoesOn s → ⊥
goes_not_unsolved s users none goes = end_stops 1 0 0 s (NoneEnd users) none (omega arith) goes

unsolved_not_found : (s : EngineState) (users : List Cid) (values : List ℤ) → HasNoSolution s users → IsFound (present s) values → ⊥
unsolved_not_found s users values none found = let e : NoneEnd users ≡ FoundEnd values = ends_same 0 0 s (NoneEnd users) (FoundEnd values) none found in cc

found_same : (s : EngineState) (values others : List ℤ) → IsFound (present s) values → IsFound (present s) others → values ≡ others
found_same s values others one two = let e : FoundEnd values ≡ FoundEnd others = ends_same 0 0 s (FoundEnd values) (FoundEnd others) one two in cc

unsolved_same : (s : EngineState) (users others : List Cid) → HasNoSolution s users → HasNoSolution s others → users ≡ others
unsolved_same s users others one two = let e : NoneEnd users ≡ NoneEnd others = ends_same 0 0 s (NoneEnd users) (NoneEnd others) one two in cc

-- ---- ends

none_some : (best : Option (List ℤ)) (values : List ℤ) → best ≡ None → best ≡ Some values → ⊥
none_some best values one two = let e : None ≡ Some values = sym one ∙ two in cc

some_same : (best : Option (List ℤ)) (values others : List ℤ) → best ≡ Some values → best ≡ Some others → values ≡ others
some_same best values others one two = let e : Some values ≡ Some others = sym one ∙ two in cc

best_ends_same : (budget count : ℕ) (s : BestState) (best other : Best) → EndsBest budget count s best → EndsBest budget count s other → best ≡ other
best_ends_same budget count s (Least values users) (Least others more) one two =
    let found = some_same s.incumbent values others one.0 two.0 in
    let conflict = unsolved_same s.search.engine one.1.conflict two.1.conflict one.1.none two.1.none in
    let same : users ≡ more = one.1.are ∙ ap (λ (l : List Cid). filter (λ c. not (is_cut c)) l) conflict ∙ sym two.1.are in
    ap (λ (l : List ℤ). Least l users) found ∙ ap (Least others) same
best_ends_same budget count s (Least values users) (NoSolution others) one two = absurd (none_some s.incumbent values two.0 one.0)
best_ends_same budget count s (Least values users) (Spent turns best) one two = absurd (goes_not_unsolved s.search.engine one.1.conflict one.1.none two.1.2)
best_ends_same budget count s (NoSolution users) (Least values others) one two = absurd (none_some s.incumbent values one.0 two.0)
best_ends_same budget count s (NoSolution users) (NoSolution others) one two = ap NoSolution (unsolved_same s.search.engine users others one.1 two.1)
best_ends_same budget count s (NoSolution users) (Spent turns best) one two = absurd (goes_not_unsolved s.search.engine users one.1 two.1.2)
best_ends_same budget count s (Spent turns best) (Least values users) one two = absurd (goes_not_unsolved s.search.engine two.1.conflict two.1.none one.1.2)
best_ends_same budget count s (Spent turns best) (NoSolution users) one two = absurd (goes_not_unsolved s.search.engine users two.1 one.1.2)
best_ends_same budget count s (Spent turns best) (Spent others more) one two =
    let same : best ≡ more = one.0 ∙ sym two.0 in
    ap (λ (n : ℕ). Spent n best) (one.1.0 ∙ sym two.1.0) ∙ ap (Spent others) same

-- a run that has ended takes no turn
best_end_stops : (budget count more : ℕ) (s : BestState) (best : Best) → EndsBest budget count s best → count + suc more ≤ budget → GoesOn s.search.engine → ⊥
best_end_stops budget count more s (Least values users) ends le goes = goes_not_unsolved s.search.engine ends.1.conflict ends.1.none goes
best_end_stops budget count more s (NoSolution users) ends le goes = goes_not_unsolved s.search.engine users ends.1 goes
best_end_stops budget count more s (Spent turns best) ends le goes = let e = ends.1.1 in omega (arith, e)

-- and finds nothing
best_end_unfound : (budget count : ℕ) (s : BestState) (best : Best) (values : List ℤ) → EndsBest budget count s best → IsFound (present s.search.engine) values → ⊥
best_end_unfound budget count s (Least others users) values ends found = unsolved_not_found s.search.engine ends.1.conflict values ends.1.none found
best_end_unfound budget count s (NoSolution users) values ends found = unsolved_not_found s.search.engine users values ends.1 found
best_end_unfound budget count s (Spent turns best) values ends found = goes_not_found s.search.engine values found ends.1.2

-- ---- moves

advances_same : (s : BestState) → IsSearching s.search → (turn : Turn) (t : BestState) (other : Turn) (u : BestState) → Advances false false s turn t → Advances false false s other u → (turn ≡ other) × (t ≡ u)
advances_same s searching turn t other u one two =
    let same = follows_same s.search searching turn t.search other u.search one.follows two.follows in
    let incumbent : t.incumbent ≡ u.incumbent = one.incumbent ∙ sym two.incumbent in
    let cuts : t.cuts ≡ u.cuts = one.cuts ∙ sym two.cuts in
    (same.same, λ i. record { search = same.state i; incumbent = incumbent i; cuts = cuts i })

improves_same : (target : ℕ) (s : BestState) → IsSearching s.search → (values : List ℤ) (t : BestState) (others : List ℤ) (u : BestState) → Improves false target s values t → Improves false target s others u → (values ≡ others) × (t ≡ u)
improves_same target s searching values t others u one two =
    let found = found_same s.search.engine values others one.found two.found in
    let engines : one.middle.engine ≡ two.middle.engine =
    one.posts.after ∙ ap (λ (vs : List ℤ). posted s.search.engine (cut_of target s.cuts (listed vs target))) found ∙ sym two.posts.after in
    let lists = one.decisions ∙ sym two.decisions in
    let middle : one.middle ≡ two.middle = λ i. record { engine = engines i; decisions = lists i } in
    let valid = (joined_searching s.search (cut_of target s.cuts (listed others target)) two.middle refl two.posts two.decisions searching).valid in
    let search : t.search ≡ u.search = settles_same two.middle t.search u.search valid (subst (λ (z : SearchState). SettlesAfter false z t.search) middle one.settles) two.settles in
    let incumbent : t.incumbent ≡ u.incumbent = one.incumbent ∙ ap Some found ∙ sym two.incumbent in
    let cuts : t.cuts ≡ u.cuts = one.cuts ∙ sym two.cuts in
    (found, λ i. record { search = search i; incumbent = incumbent i; cuts = cuts i })

-- two runs of moves are one
record IsSameMoves (moves : List Move) (best : Best) (t : BestState) (others : List Move) (other : Best) (u : BestState) : Type 0 where
  moves_are : moves ≡ others
  best_is : best ≡ other
  state : t ≡ u

next : (n m : ℕ) → n + suc m ≡ (n + 1) + m
next n m = omega arith

moves_same : ReasonsAreRight → (target budget n : ℕ) (s : BestState) → IsSearching s.search → (moves : List Move) (best : Best) (t : BestState) (others : List Move) (other : Best) (u : BestState)
    → AllMoves false false target s moves t → AllMoves false false target s others u → n + length (turns_of moves) ≤ budget → n + length (turns_of others) ≤ budget
    → EndsBest budget (n + length (turns_of moves)) t best → EndsBest budget (n + length (turns_of others)) u other → IsSameMoves moves best t others other u
moves_same right target budget n s searching [] best t [] other u one two wt wu et eu = record {
  moves_are = refl;
  best_is = best_ends_same budget (n + 0) s best other (subst (λ (z : BestState). EndsBest budget (n + 0) z best) one et) (subst (λ (z : BestState). EndsBest budget (n + 0) z other) two eu);
  state = one ∙ sym two;
}
moves_same right target budget n s searching [] best t (Taken turn ∷ others) other u one two wt wu et eu =
    absurd (best_end_stops budget (n + 0) (length (turns_of others)) s best (subst (λ (z : BestState). EndsBest budget (n + 0) z best) one et) (omega (arith, wu)) (takes_goes false s.search turn two.1.follows.middle two.1.follows.takes))
moves_same right target budget n s searching [] best t (Cut values ∷ others) other u one two wt wu et eu =
    absurd (best_end_unfound budget (n + 0) s best values (subst (λ (z : BestState). EndsBest budget (n + 0) z best) one et) two.1.found)
moves_same right target budget n s searching (Taken turn ∷ moves) best t [] other u one two wt wu et eu =
    absurd (best_end_stops budget (n + 0) (length (turns_of moves)) s other (subst (λ (z : BestState). EndsBest budget (n + 0) z other) two eu) (omega (arith, wt)) (takes_goes false s.search turn one.1.follows.middle one.1.follows.takes))
moves_same right target budget n s searching (Cut values ∷ moves) best t [] other u one two wt wu et eu =
    absurd (best_end_unfound budget (n + 0) s other values (subst (λ (z : BestState). EndsBest budget (n + 0) z other) two eu) one.1.found)
moves_same right target budget n s searching (Taken turn ∷ moves) best t (Cut values ∷ others) other u one two wt wu et eu =
    absurd (goes_not_found s.search.engine values two.1.found (takes_goes false s.search turn one.1.follows.middle one.1.follows.takes))
moves_same right target budget n s searching (Cut values ∷ moves) best t (Taken turn ∷ others) other u one two wt wu et eu =
    absurd (goes_not_found s.search.engine values one.1.found (takes_goes false s.search turn two.1.follows.middle two.1.follows.takes))
moves_same right target budget n s searching (Taken turn ∷ moves) best t (Taken turn' ∷ others) other u one two wt wu et eu =
    let first = advances_same s searching turn one.0 turn' two.0 one.1 two.1 in
    let searching' = follows_keep right false false s.search turn one.0.search one.1.follows searching in
    let rest = moves_same right target budget (n + 1) one.0 searching' moves best t others other u one.2 (subst (λ (z : BestState). AllMoves false false target z others u) (sym first.1) two.2)
    (omega (arith, wt)) (omega (arith, wu))
    (subst (λ (k : ℕ). EndsBest budget k t best) (next n (length (turns_of moves))) et) (subst (λ (k : ℕ). EndsBest budget k u other) (next n (length (turns_of others))) eu) in
    record { moves_are = λ i. Taken (first.0 i) ∷ rest.moves_are i; best_is = rest.best_is; state = rest.state }
moves_same right target budget n s searching (Cut values ∷ moves) best t (Cut values' ∷ others) other u one two wt wu et eu =
    let first = improves_same target s searching values one.0 values' two.0 one.1 two.1 in
    let searching' = improves_searching right false target s values one.0 one.1 searching in
    let rest = moves_same right target budget n one.0 searching' moves best t others other u one.2 (subst (λ (z : BestState). AllMoves false false target z others u) (sym first.1) two.2) wt wu et eu in
    record { moves_are = λ i. Cut (first.0 i) ∷ rest.moves_are i; best_is = rest.best_is; state = rest.state }

-- ---- whole minimizations

-- two minimizations are one
pub record IsSameBest (turns : List Turn) (best : Best) (t : EngineState) (others : List Turn) (other : Best) (u : EngineState) : Type 0 where
  pub turns_same : turns ≡ others
  pub best_same : best ≡ other
  pub state_same : t ≡ u

run_searching : ReasonsAreRight → (target budget : ℕ) (s : EngineState) (turns : List Turn) (best : Best) (t : BestState) → IsValid s → HasNone is_own s → (run : BestRun false false target budget s turns best t) → IsSearching run.moved.start
run_searching right target budget s turns best t valid none run = settles_keep right false (begun s) run.moved.start run.moved.settles (begins s valid (only_users s none))

pub moves_searching : ReasonsAreRight → (guided ordered : Bool) (target : ℕ) (s : BestState) (moves : List Move) (t : BestState) → AllMoves guided ordered target s moves t → IsSearching s.search → IsSearching t.search
moves_searching right guided ordered target s [] t run searching = subst (λ (z : BestState). IsSearching z.search) (sym run) searching
moves_searching right guided ordered target s (Taken turn ∷ moves) t run searching =
    moves_searching right guided ordered target run.0 moves t run.2 (follows_keep right guided ordered s.search turn run.0.search run.1.follows searching)
moves_searching right guided ordered target s (Cut values ∷ moves) t run searching =
    moves_searching right guided ordered target run.0 moves t run.2 (improves_searching right ordered target s values run.0 run.1 searching)

zero_plus : (m : ℕ) → m ≡ 0 + m
zero_plus m = omega arith

run_same : ReasonsAreRight → (target budget : ℕ) (s : EngineState) (turns : List Turn) (best : Best) (t : BestState) (others : List Turn) (other : Best) (u : BestState) → IsValid s → HasNone is_own s
    → (one : BestRun false false target budget s turns best t) (two : BestRun false false target budget s others other u) → IsSameMoves one.moved.moves best t two.moved.moves other u
run_same right target budget s turns best t others other u valid none one two =
    let start = settles_same (begun s) one.moved.start two.moved.start valid one.moved.settles two.moved.settles in
    let searching = run_searching right target budget s turns best t valid none one in
    let wt = subst (λ (l : List Turn). length l ≤ budget) one.moved.journal one.moved.within in
    let wu = subst (λ (l : List Turn). length l ≤ budget) two.moved.journal two.moved.within in
    let et = subst (λ (l : List Turn). EndsBest budget (length l) t best) one.moved.journal one.ends in
    let eu = subst (λ (l : List Turn). EndsBest budget (length l) u other) two.moved.journal two.ends in
    moves_same right target budget 0 (opened one.moved.start) searching one.moved.moves best t two.moved.moves other u one.moved.taken
    (subst (λ (z : SearchState). AllMoves false false target (opened z) two.moved.moves u) (sym start) two.moved.taken)
    (omega (arith, wt)) (omega (arith, wu))
    (subst (λ (k : ℕ). EndsBest budget k t best) (zero_plus (length (turns_of one.moved.moves))) et)
    (subst (λ (k : ℕ). EndsBest budget k u other) (zero_plus (length (turns_of two.moved.moves))) eu)

pub closed_valid : (m t : EngineState) → IsValid m → WithdrawsAll m (own_cids is_own m.active) t → IsValid t
closed_valid m t valid withdraws = withdraws_all_valid m t (own_cids is_own m.active) (closing_keeps is_own is_own_owns m valid) withdraws valid

closes_same : (m t u : EngineState) → IsValid m → Closes is_own false m t → Closes is_own false m u → t ≡ u
closes_same m t u valid one two =
    let middle : one.middle ≡ two.middle = withdrawal_same m (own_cids is_own m.active) one.middle two.middle one.withdraws two.withdraws in
    (plainly_same None two.middle one.revisions t two.revisions u (closed_valid m two.middle valid two.withdraws) one.fits two.fits (subst (λ (z : EngineState). Settles None z one.revisions t) middle one.settles) two.settles).state

pub best_alone : ReasonsAreRight → (target budget : ℕ) (s : EngineState) (turns : List Turn) (best : Best) (t : EngineState) (others : List Turn) (other : Best) (u : EngineState)
    → IsValid s → HasNone is_own s → Minimizes false false target budget s turns best t → Minimizes false false target budget s others other u → IsSameBest turns best t others other u
best_alone right target budget s turns best t others other u valid none one two =
    let same = run_same right target budget s turns best one.last others other two.last valid none one.run two.run in
    let moved = two.run.moved in
    let last = (moves_searching right false false target (opened moved.start) moved.moves two.last moved.taken (run_searching right target budget s others other two.last valid none two.run)).valid in
    record {
      turns_same = one.run.moved.journal ∙ ap turns_of same.moves_are ∙ sym moved.journal;
      best_same = same.best_is;
      state_same = closes_same two.last.search.engine t u last (subst (λ (z : BestState). Closes is_own false z.search.engine t) same.state one.closes) two.closes;
    }
