-- A turn of a repair, and one after another.
use Rattle.std.proofs.Common.{◌≡◌, ℕ, zero, suc, ◌+◌, ◌<◌, ◌≤◌, Bool, true, false, cond, nat_eq, Option, None, Some, List, [], ◌∷◌, ◌++◌, length, slice_get, take, drop, Contains, inl, inr, refl, sym, ap, ◌∙◌, subst, arith, length-append}
use Rattle.std.specs.List.{list_any}
use Rattle.std.specs.Prelude.{MatchOption, remove, is_some}
use Rattle.std.proofs.lemmas.List.Elements.{All-contains}
use Rattle.palm_base.specs.declared.terms.Pair.{Pair}
use Rattle.palm_base.specs.declared.terms.Cid.{Cid}
use Rattle.palm_base.specs.declared.terms.Cid.TheVariants.{Decide, Not, User}
use Rattle.palm_base.proofs.cited.Members.{member_nil, member_here, member_there, member_cases, member_same, member_place}
use Rattle.palm_model.specs.Constraint.{Distinct}
use Rattle.palm_model.specs.Event.{gone_with}
use Rattle.palm_base.specs.Order.{Rises, cid_before}
use Rattle.palm_model.specs.Log.{Active}
use Rattle.palm_model.specs.State.{EngineState}
use Rattle.palm_model.proofs.cited.Narrowing.{has_declared}
use Rattle.palm_events.specs.Reasons.{ReasonsAreRight}
use Rattle.palm_events.proofs.cited.Conflicts.{flat_justifiers}
use Rattle.palm_base.proofs.cited.CidOrder.{not_before_itself}
use Rattle.palm_search.specs.declared.turn.Pick.{Pick}
use Rattle.palm_search.specs.declared.turn.Turn.{Turn}
use Rattle.palm_search.specs.declared.turn.Turn.TheVariants.{Decide as TurnDecide, Undo as TurnUndo}
use Rattle.palm_search.specs.declared.machine.Machine.{Machine}
use Rattle.palm_search.specs.Calls.{SearchView, TakesBack, TakesTurn, search_state}
use Rattle.palm_search.specs.Kept.{HasDecisions}
use Rattle.palm_search.specs.Machine.{KeepsDecisions, state_of}
use Rattle.palm_search.specs.Turning.{Hears}
use Rattle.palm_search.specs.Turns.{HasFlatConflict, decided_vars}
use Rattle.palm_search.proofs.cited.Going.{vars_member}
use Rattle.palm_search.proofs.cited.Showing.{at_drop, split_place}
use Rattle.palm_repair.specs.Posting.{Nogood, RepairState, PostsAll, PostsSome, nogood_of}
use Rattle.palm_repair.specs.Repair.{IsHeaviest, MakesRoom, RepairUndoes, RepairTakes, RepairFollows, raised, raised_from, weight_of}
use Rattle.palm_repair.specs.Kept.{IsNogood, IsRepairing}
use Rattle.palm_repair.specs.Learned.{IsHeaviestAt, LearnedView, repair_state}
use Rattle.palm_repair.specs.Turning.{IsCutTurn, IsReady, Learns, LearnsSome, filtered}
use Rattle.palm_repair.specs.Turning.IsCutTurn.{cut_within}
use Rattle.palm_repair.proofs.Blocking.{follows_at_turn}
use Rattle.palm_repair.proofs.cited.Existing.{posting_exists, settles_short, takes_short}
use Rattle.palm_repair.proofs.Forcing.{posts_from_leaves}
use Rattle.palm_repair.proofs.Reading.{none_some, some_same}
use Rattle.palm_repair.proofs.Refuting.{flat_nogood, nogood_kept, users_withdrawn}
use Rattle.palm_repair.proofs.Repairing.{decided_repairing, decision_no_user, raised_length, roomy_repairing, undone, withdrawn_repairing}

-- ---- how many there are

-- room is made, and a nogood appended: no more than one more were ever listed
pub room_sum : (tabu : ℕ) (s roomy : RepairState) (nogood : Nogood) (most : ℕ) (learned : LearnedView) → {engine : EngineState} {decisions : List Pair} → MakesRoom tabu s roomy
    → repair_state engine decisions learned ≡ record roomy { nogoods = roomy.nogoods ++ nogood ∷ [] } → s.dropped + length s.nogoods < most → learned.dropped + length learned.nogoods ≤ most
room_sum tabu s roomy nogood most learned room e lt =
    let sum = ap (λ (z : RepairState). z.dropped + length z.nogoods) e in
    let more = length-append roomy.nogoods (nogood ∷ []) in
    elim room [
      | inr r ↦ let same = ap (λ (z : RepairState). z.dropped + length z.nogoods) r.1 in omega (arith, sum, more, same, lt)
      | inl r ↦
          let are = ap length r.1.are in
          let after = ap (λ (z : RepairState). z.dropped + length z.nogoods) r.1.after in
          omega (arith, sum, more, are, after, lt)
    ]

raised_bound : (x : ℕ) (weights vars : List ℕ) (n : ℕ) → ((w : ℕ) → Contains weights w → w ≤ n) → (w : ℕ) → Contains (raised_from x weights vars) w → w ≤ n + 1
raised_bound x [] vars n small w m = absurd (member_nil w m)
raised_bound x (v ∷ weights) vars n small w m = elim (member_cases _ (raised_from (x + 1) weights vars) w m) [
  | inl e ↦ subst (λ k. k ≤ n + 1) e (one (list_any (λ y. nat_eq y x) vars) (small v (member_here v weights)))
  | inr k ↦ raised_bound (x + 1) weights vars n (λ u j. small u (member_there v weights u j)) w k
]
  where
    one : (b : Bool) → v ≤ n → cond b (v + 1) v ≤ n + 1
    one true le = omega (arith, le)
    one false le = omega (arith, le)

-- what of a repair state is counted
record IsCounted (count : ℕ) (s : RepairState) : Type 0 where
  weights : (w : ℕ) → Contains s.weights w → w ≤ count
  listed : s.dropped + length s.nogoods ≤ count

room_counted : (tabu count : ℕ) (s t : RepairState) → MakesRoom tabu s t → IsCounted count s → IsCounted count t
room_counted tabu count s t room counted = elim room [
  | inr r ↦ subst (IsCounted count) (sym r.1) counted
  | inl r ↦
      let drops = r.1 in
      let are = ap length drops.are in
      let le = counted.listed in
      subst (IsCounted count) (sym drops.after) (record { weights = counted.weights; listed = omega (arith, are, le) })
]

posts_counted : (count : ℕ) (s t : RepairState) → PostsAll s t → IsCounted count s → IsCounted count t
posts_counted count s t posts counted =
    let leaves = posts_from_leaves s s.dropped s.nogoods t posts in
    let n = ap length leaves.nogoods in
    let d = leaves.dropped in
    let le = counted.listed in
    record { weights = λ w m. counted.weights w (subst (λ l. Contains l w) leaves.weights m); listed = omega (arith, n, d, le) }

takes_counted : (guided : Bool) (tabu count : ℕ) (s : RepairState) (turn : Turn) (t : RepairState) → RepairTakes guided tabu s turn t → IsCounted count s → IsCounted (count + 1) t
takes_counted guided tabu count s (TurnDecide pair pick) t takes counted =
    let le = counted.listed in
    posts_counted (count + 1) (record s { search = takes.middle }) t takes.posts (record { weights = λ w m. let small = counted.weights w m in omega (arith, small); listed = omega (arith, le) })
takes_counted guided tabu count s (TurnUndo gone conflict) t takes counted =
    let roomy = takes.roomy in
    let nogood = nogood_of s.search.decisions conflict in
    let m = undone s takes.engine takes.left (decided_vars conflict) in
    let le = counted.listed in
    posts_counted (count + 1) (record roomy { nogoods = roomy.nogoods ++ nogood ∷ [] }) t takes.posts
    (elim takes.makes_room [
      | inr r ↦
          let same = ap (λ (z : RepairState). z.dropped + length z.nogoods) r.1 in
          let more = length-append roomy.nogoods (nogood ∷ []) in
          record {
            weights = λ w k. raised_bound 0 s.weights (decided_vars conflict) count counted.weights w (subst (λ (z : RepairState). Contains z.weights w) r.1 k);
            listed = omega (arith, same, more, le);
          }
      | inl r ↦
          let drops = r.1 in
          let are = ap length drops.are in
          let same = ap (λ (z : RepairState). z.dropped + length z.nogoods) drops.after in
          let more = length-append roomy.nogoods (nogood ∷ []) in
          record {
            weights = λ w k. raised_bound 0 s.weights (decided_vars conflict) count counted.weights w (subst (λ (z : RepairState). Contains z.weights w) drops.after k);
            listed = omega (arith, are, same, more, le);
          }
    ])

pub follows_ready : ReasonsAreRight → (guided ordered : Bool) (tabu count : ℕ) (s : RepairState) (turn : Turn) (t : RepairState) → RepairFollows guided ordered tabu s turn t → IsReady tabu count s → IsReady tabu (count + 1) t
follows_ready right guided ordered tabu count s turn t follows ready =
    let m = follows.middle in
    let counted = takes_counted guided tabu count s turn m follows.takes (record { weights = ready.weights; listed = ready.listed }) in
    let same = follows.settles.after in
    let le = counted.listed in
    let listed = ap (λ (z : RepairState). z.dropped + length z.nogoods) same in
    record {
      at = follows_at_turn right guided ordered tabu s turn t follows ready.at;
      few = settles_short ordered tabu m t follows.settles (takes_short guided tabu s turn m follows.takes ready.few);
      weights = λ w k. counted.weights w (subst (λ (z : RepairState). Contains z.weights w) same k);
      listed = omega (arith, le, listed);
    }

-- ---- deciding

pub decided_ready : (guided : Bool) (e m : EngineState) (before after : SearchView) (learned : LearnedView) (p : Pair) (pick : Pick) → TakesTurn guided (TurnDecide p pick) e before m after → IsRepairing (repair_state e before.decisions learned)
    → IsRepairing (repair_state m after.decisions learned)
decided_ready guided e m before after learned p pick taken repairing = decided_repairing guided (repair_state e before.decisions learned) p pick (search_state m after) taken.takes repairing

-- memory ran out after the decision
pub decided_cut : (guided : Bool) (tabu : ℕ) (e m t : EngineState) (before after : SearchView) (learned : LearnedView) (p : Pair) (pick : Pick) → TakesTurn guided (TurnDecide p pick) e before m after → IsRepairing (repair_state e before.decisions learned)
    → PostsSome (repair_state m after.decisions learned) t → IsCutTurn guided tabu (repair_state e before.decisions learned) before t after
decided_cut guided tabu e m t before after learned p pick taken repairing some =
    let posting = posting_exists (repair_state m after.decisions learned) (decided_ready guided e m before after learned p pick taken repairing) in
    cut_within (TurnDecide p pick) posting.0 (record { middle = search_state m after; decides = taken.takes; posts = posting.1 }) some taken.journal

-- ---- undoing

rising_vars : (cids : List Cid) → Rises cids → Distinct (decided_vars cids)
rising_vars [] rises = tt
rising_vars (Decide x ∷ cids) rises = (λ m. not_before_itself (Decide x) (All-contains (λ d. cid_before (Decide x) d ≡ true) cids (Decide x) rises.0 (vars_member cids x m)), rising_vars cids rises.1)
rising_vars (Not p ∷ cids) rises = rising_vars cids rises.1
rising_vars (User n ∷ cids) rises = rising_vars cids rises.1

pub conflict_distinct : (s : EngineState) (conflict : List Cid) → HasFlatConflict s conflict → Distinct (decided_vars conflict)
conflict_distinct s conflict flat = rising_vars conflict flat.is.rising

-- the decision that a flat conflict holds
pub conflict_decision : (s : RepairState) (conflict : List Cid) (x : ℕ) → IsRepairing s → HasFlatConflict s.search.engine conflict → Contains conflict (Decide x) → (p : Pair) × Contains s.search.decisions p × (p.var ≡ x)
conflict_decision s conflict x repairing flat held =
    let searching = repairing.searching in
    let is = (flat_justifiers s.search.engine searching.valid flat.var (Decide x) (flat.is.sound (Decide x) held)).1 in
    let taken = searching.decisions.taken is.owner x is.posted is.named in
    (taken.0, taken.1, same_var taken.0.var x (sym (ap (λ (a : Active). a.cid) taken.2) ∙ is.named))
  where
    same_var : (y x : ℕ) → Decide y ≡ Decide x → y ≡ x
    same_var y x e = cc

-- a decided variable has a weight
pub decision_weighed : (s : RepairState) (p : Pair) → IsRepairing s → Contains s.search.decisions p → p.var < length s.weights
decision_weighed s p repairing m =
    let lt = has_declared s.search.engine.initial p.var p.value (repairing.searching.declared.decided p m) in
    let e = repairing.weighed in
    omega (arith, lt, e)

pub conflict_weighed : (s : RepairState) (conflict : List Cid) (x : ℕ) → IsRepairing s → HasFlatConflict s.search.engine conflict → Contains (decided_vars conflict) x → x < length s.weights
conflict_weighed s conflict x repairing flat m =
    let d = conflict_decision s conflict x repairing flat (vars_member conflict x m) in
    subst (λ y. y < length s.weights) d.2 (decision_weighed s d.0 repairing d.1)

pub raised_weighed : (s : RepairState) (vars : List ℕ) (p : Pair) → IsRepairing s → Contains s.search.decisions p → p.var < length (raised s.weights vars)
raised_weighed s vars p repairing m = let lt = decision_weighed s p repairing m in let e = raised_length 0 s.weights vars in omega (arith, lt, e)

-- so the heaviest decision is found
pub heaviest_found : (s : RepairState) (weights : List ℕ) (conflict : List Cid) (x : ℕ) (place : Option ℕ) (decisions : List Pair) (cids : List Cid) → IsRepairing s → HasFlatConflict s.search.engine conflict → Contains conflict (Decide x)
    → decisions ≡ s.search.decisions → cids ≡ conflict
    → MatchOption place ((p : Pair) → Contains decisions p → Contains cids (Decide p.var) → ⊥) (IsHeaviestAt weights decisions cids) → is_some place ≡ true
heaviest_found s weights conflict x None decisions cids repairing flat held ed en found =
    let d = conflict_decision s conflict x repairing flat held in
    absurd (found d.0 (subst (λ l. Contains l d.0) (sym ed) d.1) (subst (λ l. Contains l (Decide d.0.var)) (sym en) (member_same conflict (Decide x) (Decide d.0.var) (ap Decide (sym d.2)) held)))
heaviest_found s weights conflict x (Some place) decisions cids repairing flat held ed en found = refl

at_take : {X : Type 0} (n : ℕ) (xs : List X) (j : ℕ) (x : X) → slice_get (take n xs) j ≡ Some x → (j < n) × (slice_get xs j ≡ Some x)
at_take zero xs j x e = absurd (none_some x e)
at_take (suc n) [] j x e = absurd (none_some x e)
at_take (suc n) (y ∷ xs) zero x e = (omega arith, e)
at_take (suc n) (y ∷ xs) (suc j) x e = let r = at_take n xs j x e in let lt = r.0 in (omega (arith, lt), r.1)

is_heaviest : (weights : List ℕ) (decisions : List Pair) (cids : List Cid) (k : ℕ) (gone : Pair) → slice_get decisions k ≡ Some gone → IsHeaviestAt weights decisions cids k → IsHeaviest weights decisions cids gone (remove decisions k)
is_heaviest weights decisions cids k gone stood at =
    let same : at.pair ≡ gone = some_same at.pair gone (sym at.stands ∙ stood) in
    record {
      earlier = take k decisions;
      later = drop (suc k) decisions;
      are = split_place decisions k gone stood;
      held = member_same cids (Decide at.pair.var) (Decide gone.var) (ap (λ (p : Pair). Decide p.var) same) at.held;
      heaviest = λ p m held.
          let j = member_place (take k decisions) p m in
          let r = at_take k decisions j.0 p j.1 in
          subst (λ (z : Pair). weight_of weights p.var ≤ weight_of weights z.var) same (at.heaviest j.0 p r.0 r.1 held);
      latest = λ p m held.
          let j = member_place (drop (suc k) decisions) p m in
          let r = at_drop (suc k) decisions j.0 p j.1 in
          let le = r.1 in
          subst (λ (z : Pair). weight_of weights p.var < weight_of weights z.var) same (at.latest r.0 p (omega (arith, le)) r.2 held);
      others = refl;
    }

-- the decision is undone: what learning asks, and what it makes of the turn
pub record IsUndone (tabu : ℕ) (e m : EngineState) (before after : SearchView) (learned : LearnedView) (conflict : List Cid) (gone : Pair) : Type 0 where
  pub repairing : IsRepairing (filtered (repair_state m after.decisions (record learned { weights = raised learned.weights (decided_vars conflict) })))
  pub nogood : IsNogood m (nogood_of before.decisions conflict)
  pub turn : (now : LearnedView) (t : EngineState) → Learns tabu (nogood_of before.decisions conflict) (filtered (repair_state m after.decisions (record learned { weights = raised learned.weights (decided_vars conflict) }))) (repair_state t after.decisions now)
      → RepairUndoes tabu (repair_state e before.decisions learned) gone conflict (repair_state t after.decisions now)
  pub cut : (guided : Bool) (t : EngineState) → LearnsSome tabu (nogood_of before.decisions conflict) (filtered (repair_state m after.decisions (record learned { weights = raised learned.weights (decided_vars conflict) }))) t
      → IsCutTurn guided tabu (repair_state e before.decisions learned) before t after
  pub journal : after.journal ≡ before.journal ++ TurnUndo gone conflict ∷ []

pub undone_here : (tabu count : ℕ) (e m : EngineState) (before after : SearchView) (learned : LearnedView) (conflict : List Cid) (k : ℕ) (back : TakesBack conflict k e before m after)
    → IsReady tabu count (repair_state e before.decisions learned) → HasFlatConflict e conflict → IsHeaviestAt (raised learned.weights (decided_vars conflict)) before.decisions conflict k
    → IsUndone tabu e m before after learned conflict back.gone
undone_here tabu count e m before after learned conflict k back ready flat at =
    let s = repair_state e before.decisions learned in
    let vars = decided_vars conflict in
    let repairing = ready.at.repairing in
    let heaviest : IsHeaviest (raised learned.weights vars) before.decisions conflict back.gone after.decisions =
    subst (IsHeaviest (raised learned.weights vars) before.decisions conflict back.gone) (sym back.decisions) (is_heaviest (raised learned.weights vars) before.decisions conflict k back.gone back.stood at) in
    let here : IsRepairing (undone s m after.decisions vars) = withdrawn_repairing s back.gone conflict after.decisions m heaviest back.withdraws repairing in
    record {
      repairing = here;
      nogood = nogood_kept e m (nogood_of before.decisions conflict)
          (users_withdrawn e (gone_with e.active (Decide back.gone.var)) m (decision_no_user e repairing.searching.valid back.gone.var) back.withdraws)
          (flat_nogood s.search conflict repairing.searching flat);
      turn = λ now t learns. record {
        flat = flat;
        left = after.decisions;
        heaviest = heaviest;
        engine = m;
        withdraws = back.withdraws;
        roomy = learns.roomy;
        makes_room = learns.makes_room;
        posts = learns.posts;
      };
      cut = λ guided t learns.
          let roomy = learns.roomy in
          let whole = roomy_repairing tabu s back.gone conflict after.decisions m roomy flat heaviest back.withdraws learns.makes_room repairing in
          let posting = posting_exists (record roomy { nogoods = roomy.nogoods ++ nogood_of before.decisions conflict ∷ [] }) whole in
          cut_within (TurnUndo back.gone conflict) posting.0 (record {
            flat = flat;
            left = after.decisions;
            heaviest = heaviest;
            engine = m;
            withdraws = back.withdraws;
            roomy = roomy;
            makes_room = learns.makes_room;
            posts = posting.1;
          }) learns.posts back.journal;
      journal = back.journal;
    }

-- the same, from what the calls told
pub undone_by : (tabu : ℕ) (e m : EngineState) (before after : SearchView) (learned : LearnedView) (conflict : List Cid) (found : Option ℕ) (k : ℕ) (weights : List ℕ) (decisions : List Pair) (cids : List Cid)
    → weights ≡ raised learned.weights (decided_vars conflict) → decisions ≡ before.decisions → cids ≡ conflict
    → MatchOption found ((p : Pair) → Contains decisions p → Contains cids (Decide p.var) → ⊥) (IsHeaviestAt weights decisions cids) → found ≡ Some k → (back : TakesBack conflict k e before m after)
    → IsReady tabu (length before.journal) (repair_state e before.decisions learned) → HasFlatConflict e conflict → IsUndone tabu e m before after learned conflict back.gone
undone_by tabu e m before after learned conflict found k weights decisions cids ew ed en told is back ready flat =
    let here : IsHeaviestAt weights decisions cids k =
    subst (λ o. MatchOption o ((p : Pair) → Contains decisions p → Contains cids (Decide p.var) → ⊥) (IsHeaviestAt weights decisions cids)) is told in
    undone_here tabu (length before.journal) e m before after learned conflict k back ready flat
    (subst (λ l. IsHeaviestAt (raised learned.weights (decided_vars conflict)) before.decisions l k) en
    (subst (λ l. IsHeaviestAt (raised learned.weights (decided_vars conflict)) l cids k) ed (subst (λ l. IsHeaviestAt l decisions cids k) ew here)))

-- ---- over a machine

-- who is told is there afterwards
pub hears_stays : {G : Type 0} (hears : G → List ℕ → List ℕ → Type 0) (state : G → List ℕ) (vars : List ℕ) (before after : Option G) → Hears hears state vars before after → is_some after ≡ is_some before
hears_stays hears state vars None None h = refl
hears_stays hears state vars None (Some a) h = absurd h
hears_stays hears state vars (Some b) None h = absurd h
hears_stays hears state vars (Some b) (Some a) h = refl

-- where nothing was done
pub same_keeps : {F G O L : Type 0} {m : Machine F G O L} → HasDecisions (state_of m) → KeepsDecisions m m
same_keeps has = record {
  quiet = record {
    holds = record { engine = refl; search = refl; guide = refl; order = refl; steps = refl };
    order = refl;
    steps = refl;
    counts = record { revisions = refl; checks = refl };
    stays = refl;
  };
  decisions = has;
}
