-- From every state a repair goes on until it ends: there is a repair for every budget.
use Rattle.std.proofs.Common.{◌≡◌, ℕ, zero, suc, ◌+◌, ◌<◌, ◌≤◌, Bool, List, [], ◌∷◌, ◌++◌, length, Contains, ◌⊎◌, inl, inr, refl, sym, ap, ◌∙◌, subst, arith, length-append}
use Rattle.std.specs.Prelude.{nat_lt}
use Rattle.std.proofs.lemmas.Bool.{cases_Bool, false≢true, lt-ltb, ltb-true}
use Rattle.std.proofs.lemmas.List.Elements.{Contains-append_cases}
use Rattle.palm_base.specs.declared.terms.Pair.{Pair}
use Rattle.palm_base.specs.declared.terms.Cid.{Cid}
use Rattle.palm_base.specs.declared.terms.Cid.TheVariants.{Decide, Not}
use Rattle.palm_base.proofs.cited.Members.{member_nil, member_cases, member_same, any_known, member_known, nat_known}
use Rattle.palm_model.specs.Log.{Active, cids_of, is_named}
use Rattle.palm_model.specs.State.{EngineState, IsValid, negation_of}
use Rattle.palm_model.specs.Event.{gone_with, posted}
use Rattle.palm_model.proofs.cited.Narrowing.{has_declared}
use Rattle.palm_events.specs.Reasons.{ReasonsAreRight}
use Rattle.palm_base.proofs.cited.CidOrder.{cid_known}
use Rattle.palm_events.proofs.cited.Names.{named_member, member_named}
use Rattle.palm_events.proofs.cited.States.{active_cid, cid_active}
use Rattle.palm_events.proofs.cited.Outcomes.{withdrawal_exists}
use Rattle.palm_events.proofs.cited.Conflicts.{flat_justifiers}
use Rattle.palm_search.specs.declared.turn.Pick.{Pick}
use Rattle.palm_search.specs.declared.turn.Turn.{Turn}
use Rattle.palm_search.specs.declared.turn.Turn.TheVariants.{Decide as TurnDecide, Undo as TurnUndo}
use Rattle.palm_search.specs.Turns.{FitsGuide, HasFlatConflict, decided_vars}
use Rattle.palm_search.specs.declared.ending.SearchEnd.{SearchEnd}
use Rattle.palm_search.specs.Search.{EndsWith, GoesOn, IsPicked}
use Rattle.palm_search.specs.declared.ending.SearchEnd.TheVariants.{Spent}
use Rattle.palm_search.specs.Search.GoesOn.{could_decide, could_undo}
use Rattle.palm_search.specs.Kept.{HasOnlyUsers}
use Rattle.palm_search.proofs.cited.Going.{IsPickedBy, picks_after, picked_more, fits_after, settle_exists, decides_some, turn_or_end}
use Rattle.palm_search.proofs.cited.Going.TurnOrEnd.{run_is_over, run_may_decide, run_may_undo}
use Rattle.palm_search.proofs.cited.Whole.{closes_exist}
use Rattle.palm_repair.specs.Posting.{Nogood, RepairState, PostsFor, PostsFrom, PostsAll, nogood_of, undecided, justification}
use Rattle.palm_repair.specs.Repair.{IsHeaviest, Drops, MakesRoom, RepairTakes, RepairSettles, RepairFollows, RepairTurns, RepairRun, RepairsTo, weight_of, raised, forced_by, repair_begun}
use Rattle.palm_repair.specs.Kept.{IsNumbered, IsRepairing, IsAtTurn}
use Rattle.palm_repair.proofs.Forcing.{justification_justifies, one_left, negated, numbered_member, posts_for_keeps, posts_for_leaves, IsWalked, walked_more, none_walked, posts_from_leaves}
use Rattle.palm_repair.proofs.Repairing.{undone, decided_repairing, withdrawn_repairing, roomy_repairing, repair_takes_keep}
use Rattle.palm_repair.proofs.Blocking.{follows_at_turn, starts_at_turn, turns_at_turn}

-- ---- posting

posts_for_exists : (s : RepairState) (number : ℕ) (nogood : Nogood) (left : List Pair) → undecided s.search.decisions nogood ≡ left → IsNumbered s number nogood → IsRepairing s
    → (t : RepairState) × PostsFor s number nogood left t
posts_for_exists s number nogood [] e numbered repairing = (s, refl)
posts_for_exists s number nogood (p ∷ []) e numbered repairing = elim (cases_Bool (is_named (cids_of s.search.engine.active) (Not p))) [
  | inl t ↦ (s, inl (active_cid s.search.engine.active (Not p) (named_member (cids_of s.search.engine.active) (Not p) t), refl))
  | inr f ↦
      let engine = s.search.engine in
      let is = repairing.nogoods nogood (numbered_member s number nogood numbered) in
      let has = is.declared p (one_left s.search.decisions nogood p e) in
      let a = negation_of p (justification nogood p) in (
        negated s number p (posted engine a),
        inr (record {
          posts = record {
            inactive = λ active. false≢true (sym f ∙ member_named (cids_of engine.active) (Not p) (member_same (cids_of engine.active) active.owner.cid (Not p) active.named (cid_active engine.active active.owner active.posted)));
            formed = record { form = (refl, has_declared engine.initial p.var p.value has, λ c m. justification_justifies s.search nogood p repairing.searching is e c m) };
            after = refl;
          };
          after = refl;
        }),
      )
]
posts_for_exists s number nogood (p ∷ q ∷ left) e numbered repairing = (s, refl)

posts_from_exists : (s : RepairState) (number : ℕ) (left : List Nogood) → IsWalked s number left → IsRepairing s → (t : RepairState) × PostsFrom s number left t
posts_from_exists s number [] walked repairing = (s, refl)
posts_from_exists s number (nogood ∷ left) walked repairing =
    let numbered : IsNumbered s number nogood = record { older = walked.earlier; newer = left; are = walked.are; counts = walked.counts } in
    let first = posts_for_exists s number nogood (undecided s.search.decisions nogood) refl numbered repairing in
    let m = first.0 in
    let leaves = posts_for_leaves s number nogood (undecided s.search.decisions nogood) m first.1 in
    let rest = posts_from_exists m (number + 1) left (walked_more s m number nogood left leaves walked)
    (posts_for_keeps s number nogood (undecided s.search.decisions nogood) m refl first.1 numbered repairing) in
    (rest.0, (m, first.1, rest.1))

pub posting_exists : (s : RepairState) → IsRepairing s → (t : RepairState) × PostsAll s t
posting_exists s repairing = posts_from_exists s s.dropped s.nogoods (none_walked s) repairing

-- ---- the heaviest decision

record HeaviestOf (weights : List ℕ) (decisions : List Pair) (cids : List Cid) : Type 0 where
  gone : Pair
  left : List Pair
  heaviest : IsHeaviest weights decisions cids gone left

not_less : (m n : ℕ) → (m < n → ⊥) → n ≤ m
not_less m n k = omega (arith, k)

less_or_not : (m n : ℕ) → (m < n) ⊎ (n ≤ m)
less_or_not m n = elim (cases_Bool (nat_lt m n)) [
  | inl t ↦ inl (ltb-true m n t)
  | inr f ↦ inr (not_less m n (λ lt. false≢true (sym f ∙ lt-ltb m n lt)))
]

-- a decision that is heavier than the heaviest one behind it
heavier_first : (weights : List ℕ) (q : Pair) (decisions : List Pair) (cids : List Cid) → Contains cids (Decide q.var) → (rest : HeaviestOf weights decisions cids)
    → weight_of weights rest.gone.var < weight_of weights q.var → HeaviestOf weights (q ∷ decisions) cids
heavier_first weights q decisions cids held rest lt =
    let h = rest.heaviest in
    record {
      gone = q;
      left = decisions;
      heaviest = record {
        earlier = [];
        later = decisions;
        are = refl;
        held = held;
        heaviest = λ p m k. absurd (member_nil p m);
        latest = λ p m k. elim (Contains-append_cases h.earlier (rest.gone ∷ h.later) p (subst (λ l. Contains l p) h.are m)) [
          | inl j ↦ let le = h.heaviest p j k in omega (arith, le, lt)
          | inr j ↦ elim (member_cases rest.gone h.later p j) [
            | inl e ↦ subst (λ (z : Pair). weight_of weights z.var < weight_of weights q.var) e lt
            | inr i ↦ let less = h.latest p i k in omega (arith, less, lt)
          ]
        ];
        others = refl;
      };
    }

-- a decision that is not heavier, or that the ids do not hold
lighter_first : (weights : List ℕ) (q : Pair) (decisions : List Pair) (cids : List Cid) → (rest : HeaviestOf weights decisions cids)
    → (Contains cids (Decide q.var) → weight_of weights q.var ≤ weight_of weights rest.gone.var) → HeaviestOf weights (q ∷ decisions) cids
lighter_first weights q decisions cids rest le =
    let h = rest.heaviest in
    record {
      gone = rest.gone;
      left = q ∷ rest.left;
      heaviest = record {
        earlier = q ∷ h.earlier;
        later = h.later;
        are = ap (λ l. q ∷ l) h.are;
        held = h.held;
        heaviest = λ p m k. elim (member_cases q h.earlier p m) [
          | inl e ↦ subst (λ (z : Pair). weight_of weights z.var ≤ weight_of weights rest.gone.var) e (le (subst (λ (z : Pair). Contains cids (Decide z.var)) (sym e) k))
          | inr j ↦ h.heaviest p j k
        ];
        latest = h.latest;
        others = ap (λ l. q ∷ l) h.others;
      };
    }

heaviest_exists : (weights : List ℕ) (decisions : List Pair) (cids : List Cid) (p : Pair) → Contains decisions p → Contains cids (Decide p.var) → HeaviestOf weights decisions cids
heaviest_exists weights [] cids p m held = absurd (member_nil p m)
heaviest_exists weights (q ∷ decisions) cids p m held = elim (any_known (λ (r : Pair). Contains cids (Decide r.var)) decisions (λ r k. member_known cid_known cids (Decide r.var))) [
  | inr none ↦ record {
    gone = q;
    left = decisions;
    heaviest = record {
      earlier = [];
      later = decisions;
      are = refl;
      held = elim (member_cases q decisions p m) [
        | inl e ↦ subst (λ (z : Pair). Contains cids (Decide z.var)) (sym e) held
        | inr k ↦ absurd (none p k held)
      ];
      heaviest = λ r k h. absurd (member_nil r k);
      latest = λ r k h. absurd (none r k h);
      others = refl;
    };
  }
  | inl r ↦
      let rest = heaviest_exists weights decisions cids r.0 r.1 r.2 in
      elim (member_known cid_known cids (Decide q.var)) [
        | inr n ↦ lighter_first weights q decisions cids rest (λ k. absurd (n k))
        | inl k ↦ elim (less_or_not (weight_of weights rest.gone.var) (weight_of weights q.var)) [
          | inl lt ↦ heavier_first weights q decisions cids k rest lt
          | inr le ↦ lighter_first weights q decisions cids rest (λ h. le)
        ]
      ]
]

-- ---- room

pub room_exists : (tabu : ℕ) (s : RepairState) → 0 < tabu → length s.nogoods ≤ tabu → IsRepairing s → (t : RepairState) × MakesRoom tabu s t
room_exists tabu s some few repairing = elim (nat_known (length s.nogoods) tabu) [
  | inr ne ↦ (s, inr (omega (arith, few, ne), refl))
  | inl e ↦
      let d = drop_exists s s.nogoods refl (subst (λ n. 0 < n) (sym e) some) repairing in
      (d.0, inl (e, d.1))
]
  where
    drop_exists : (s : RepairState) (nogoods : List Nogood) → s.nogoods ≡ nogoods → 0 < length nogoods → IsRepairing s → (t : RepairState) × Drops s t
    drop_exists s [] e some repairing = absurd (omega (arith, some))
    drop_exists s (oldest ∷ rest) e some repairing =
        let w = withdrawal_exists s.search.engine (forced_by s.search.engine s.dropped s.origins) repairing.searching.valid in
        (_, record { oldest = oldest; rest = rest; are = e; engine = w.0; withdraws = w.1; after = refl })

-- there are never more nogoods than the tabu length
pub room_short : (tabu : ℕ) (s t : RepairState) → MakesRoom tabu s t → length t.nogoods < tabu
room_short tabu s t room = elim room [
  | inl r ↦
      let drops = r.1 in
      let are = ap length drops.are in
      let after = ap (λ (z : RepairState). length z.nogoods) drops.after in
      let full = r.0 in
      omega (arith, are, after, full)
  | inr r ↦
      let same = ap (λ (z : RepairState). length z.nogoods) r.1 in
      let less = r.0 in
      omega (arith, same, less)
]

pub takes_short : (guided : Bool) (tabu : ℕ) (s : RepairState) (turn : Turn) (t : RepairState) → RepairTakes guided tabu s turn t → length s.nogoods ≤ tabu → length t.nogoods ≤ tabu
takes_short guided tabu s (TurnDecide p pick) t turn few =
    let leaves = posts_from_leaves (record s { search = turn.middle }) s.dropped s.nogoods t turn.posts in
    let same = ap length leaves.nogoods in
    omega (arith, few, same)
takes_short guided tabu s (TurnUndo gone conflict) t turn few =
    let roomy = turn.roomy in
    let nogood = nogood_of s.search.decisions conflict in
    let nogoods = roomy.nogoods ++ nogood ∷ [] in
    let leaves = posts_from_leaves (record roomy { nogoods = nogoods }) roomy.dropped nogoods t turn.posts in
    let same = ap length leaves.nogoods in
    let more = length-append roomy.nogoods (nogood ∷ []) in
    let short = room_short tabu (undone s turn.engine turn.left (decided_vars conflict)) roomy turn.makes_room in
    omega (arith, same, more, short)

pub settles_short : (ordered : Bool) (tabu : ℕ) (s t : RepairState) → RepairSettles ordered s t → length s.nogoods ≤ tabu → length t.nogoods ≤ tabu
settles_short ordered tabu s t settles few = let same = ap (λ (z : RepairState). length z.nogoods) settles.after in omega (arith, few, same)

-- ---- a turn

record TakesSome (guided : Bool) (tabu : ℕ) (pick : Pick) (s : RepairState) : Type 0 where
  turn : Turn
  state : RepairState
  takes : RepairTakes guided tabu s turn state
  picked : IsPickedBy pick turn

undo_exists : (guided : Bool) (tabu : ℕ) (pick : Pick) (s : RepairState) → 0 < tabu → length s.nogoods ≤ tabu → IsRepairing s → (conflict : List Cid) (x : ℕ) → HasFlatConflict s.search.engine conflict → Contains conflict (Decide x)
    → TakesSome guided tabu pick s
undo_exists guided tabu pick s some few repairing conflict x flat held =
    let engine = s.search.engine in
    let searching = repairing.searching in
    let is = (flat_justifiers engine searching.valid flat.var (Decide x) (flat.is.sound (Decide x) held)).1 in
    let taken = searching.decisions.taken is.owner x is.posted is.named in
    let held' : Contains conflict (Decide taken.0.var) = member_same conflict (Decide x) (Decide taken.0.var) (sym is.named ∙ ap (λ (a : Active). a.cid) taken.2) held in
    let vars = decided_vars conflict in
    let found = heaviest_exists (raised s.weights vars) s.search.decisions conflict taken.0 taken.1 held' in
    let gone = found.gone in
    let w = withdrawal_exists engine (gone_with engine.active (Decide gone.var)) searching.valid in
    let m : RepairState = undone s w.0 found.left vars in
    let room = room_exists tabu m some few (withdrawn_repairing s gone conflict found.left w.0 found.heaviest w.1 repairing) in
    let roomy = room.0 in
    let ready = roomy_repairing tabu s gone conflict found.left w.0 roomy flat found.heaviest w.1 room.1 repairing in
    let posting = posting_exists (record roomy { nogoods = roomy.nogoods ++ nogood_of s.search.decisions conflict ∷ [] }) ready in
    record {
      turn = TurnUndo gone conflict;
      state = posting.0;
      takes = record { flat = flat; left = found.left; heaviest = found.heaviest; engine = w.0; withdraws = w.1; roomy = roomy; makes_room = room.1; posts = posting.1 };
      picked = tt;
    }

-- a run has ended here, or a turn can be taken
data Stands (guided : Bool) (tabu : ℕ) (pick : Pick) (s : RepairState) : Type 0 where
  has_ended : (end : SearchEnd) → ((budget count : ℕ) → EndsWith budget count s.search.engine end) → Stands guided tabu pick s
  may_go : GoesOn s.search.engine → TakesSome guided tabu pick s → Stands guided tabu pick s

stands : (guided : Bool) (tabu : ℕ) (pick : Pick) (s : RepairState) → FitsGuide guided pick → 0 < tabu → length s.nogoods ≤ tabu → IsAtTurn s → Stands guided tabu pick s
stands guided tabu pick s fits some few at = elim (turn_or_end s.search.engine at.repairing.searching.valid at.still) [
  | run_is_over end ends ↦ has_ended end ends
  | run_may_undo conflict x flat held ↦ may_go (could_undo x conflict flat held) (undo_exists guided tabu pick s some few at.repairing conflict x flat held)
  | run_may_decide quiet filled x is_open lowest ↦
      let decision = decides_some guided pick s.search fits at.repairing.searching quiet filled x is_open lowest in
      let posting = posting_exists (record s { search = decision.state }) (decided_repairing guided s decision.pair pick decision.state decision.decides at.repairing) in
      may_go (could_decide x filled is_open) (record {
        turn = TurnDecide decision.pair pick;
        state = posting.0;
        takes = record { middle = decision.state; decides = decision.decides; posts = posting.1 };
        picked = refl;
      })
]

-- ---- runs

pub settled_exists : (ordered : Bool) (s : RepairState) → IsValid s.search.engine → (t : RepairState) × RepairSettles ordered s t
settled_exists ordered s valid =
    let r = settle_exists ordered s.search valid in
    (record s { search = r.state }, record { settles = r.settles; after = refl })

-- turns from a state to an end
record TurnsTo (guided ordered : Bool) (tabu : ℕ) (f : ℕ → Pick) (budget n : ℕ) (s : RepairState) : Type 0 where
  turns : List Turn
  end : SearchEnd
  state : RepairState
  run : RepairTurns guided ordered tabu s turns state
  within : n + length turns ≤ budget
  ends : EndsWith budget (n + length turns) state.search.engine end
  picked : IsPicked f turns

at_end : (guided ordered : Bool) (tabu : ℕ) (f : ℕ → Pick) (budget n : ℕ) (s : RepairState) (end : SearchEnd) → n ≤ budget → EndsWith budget n s.search.engine end → TurnsTo guided ordered tabu f budget n s
at_end guided ordered tabu f budget n s end le ends = record {
  turns = [];
  end = end;
  state = s;
  run = refl;
  within = omega arith;
  ends = subst (λ k. EndsWith budget k s.search.engine end) (plus n) ends;
  picked = tt;
}
  where
    plus : (n : ℕ) → n ≡ n + 0
    plus n = omega arith

one_more : (guided ordered : Bool) (tabu : ℕ) (f : ℕ → Pick) (budget n : ℕ) (s : RepairState) (turn : Turn) (m : RepairState) → IsPickedBy (f 0) turn
    → TurnsTo guided ordered tabu (picks_after turn f) budget (n + 1) m → RepairFollows guided ordered tabu s turn m → TurnsTo guided ordered tabu f budget n s
one_more guided ordered tabu f budget n s turn m picked rest follows =
    let within = rest.within in
    record {
      turns = turn ∷ rest.turns;
      end = rest.end;
      state = rest.state;
      run = (m, follows, rest.run);
      within = omega (arith, within);
      ends = subst (λ k. EndsWith budget k rest.state.search.engine rest.end) (next n (length rest.turns)) rest.ends;
      picked = picked_more f turn rest.turns picked rest.picked;
    }
  where
    next : (n m : ℕ) → (n + 1) + m ≡ n + suc m
    next n m = omega arith

turns_exist : ReasonsAreRight → (guided ordered : Bool) (tabu left budget n : ℕ) (f : ℕ → Pick) (s : RepairState) → ((k : ℕ) → FitsGuide guided (f k)) → n + left ≡ budget
    → 0 < tabu → length s.nogoods ≤ tabu → IsAtTurn s → TurnsTo guided ordered tabu f budget n s
turns_exist right guided ordered tabu zero budget n f s fits e positive few at = elim (stands guided tabu (f 0) s (fits 0) positive few at) [
  | has_ended end ends ↦ at_end guided ordered tabu f budget n s end (omega arith) (ends budget n)
  | may_go goes some ↦ at_end guided ordered tabu f budget n s (Spent n) (omega arith) (refl, omega arith, goes)
]
turns_exist right guided ordered tabu (suc left) budget n f s fits e positive few at = elim (stands guided tabu (f 0) s (fits 0) positive few at) [
  | has_ended end ends ↦ at_end guided ordered tabu f budget n s end (omega arith) (ends budget n)
  | may_go goes some ↦
      let repairing = repair_takes_keep guided tabu s some.turn some.state some.takes at.repairing in
      let settled = settled_exists ordered some.state repairing.searching.valid in
      let m = settled.0 in
      let follows : RepairFollows guided ordered tabu s some.turn m = record { middle = some.state; takes = some.takes; settles = settled.1 } in
      let short = settles_short ordered tabu some.state m settled.1 (takes_short guided tabu s some.turn some.state some.takes few) in
      let rest = turns_exist right guided ordered tabu left budget (n + 1) (picks_after some.turn f) m (fits_after guided f some.turn fits) (omega arith) positive short
      (follows_at_turn right guided ordered tabu s some.turn m follows at) in
      one_more guided ordered tabu f budget n s some.turn m some.picked rest follows
]

pub repair_exists : ReasonsAreRight → (guided ordered : Bool) (tabu : ℕ) (f : ℕ → Pick) → ((k : ℕ) → FitsGuide guided (f k)) → (budget : ℕ) (s : EngineState) → 0 < tabu → IsValid s → HasOnlyUsers s
    → RepairsTo guided ordered tabu f budget s
repair_exists right guided ordered tabu f fits budget s positive valid users =
    let start = settled_exists ordered (repair_begun s) valid in
    let m = start.0 in
    let at = starts_at_turn right ordered s m valid users start.1 in
    let r = turns_exist right guided ordered tabu budget budget 0 f m fits (omega arith) positive (settles_short ordered tabu (repair_begun s) m start.1 (omega arith)) at in
    let within = r.within in
    let run : RepairRun guided ordered tabu budget s r.turns r.end r.state.dropped r.state = record {
      start = m;
      settles = start.1;
      taken = r.run;
      within = omega (arith, within);
      ends = subst (λ k. EndsWith budget k r.state.search.engine r.end) (plus (length r.turns)) r.ends;
      drops = refl;
    } in
    let closes = closes_exist ordered r.state.search.engine (turns_at_turn right guided ordered tabu m r.turns r.state r.run at).repairing.searching.valid in
    record {
      turns = r.turns;
      end = r.end;
      dropped = r.state.dropped;
      state = closes.0;
      repairs = record { last = r.state; run = run; closes = closes.1 };
      picked = r.picked;
    }
  where
    plus : (n : ℕ) → 0 + n ≡ n
    plus n = omega arith
