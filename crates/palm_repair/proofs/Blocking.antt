-- After posting no listed nogood has all its pairs decided.
use Rattle.std.proofs.Common.{◌≡◌, ℕ, Bool, true, not, None, List, [], ◌∷◌, ◌++◌, filter, Contains, ◌⊎◌, inl, inr, sym, ap, ◌∙◌, subst}
use Rattle.std.proofs.lemmas.Bool.{cases_Bool, false≢true}
use Rattle.std.proofs.lemmas.List.{map-append}
use Rattle.std.proofs.lemmas.List.Elements.{Contains-append_right, Contains-push_cases}
use Rattle.palm_base.specs.declared.terms.Pair.{Pair}
use Rattle.palm_base.specs.declared.terms.Cid.{Cid}
use Rattle.palm_base.specs.declared.terms.Cid.TheVariants.{Not}
use Rattle.palm_base.proofs.cited.Members.{nat_known, member_nil, member_here, member_there, member_single, member_same, member_map, member_unmap, filter_member}
use Rattle.palm_model.specs.Constraint.{Distinct}
use Rattle.palm_base.specs.Order.{same_pair}
use Rattle.palm_model.specs.Log.{IsActive}
use Rattle.palm_model.specs.State.{EngineState, IsValid, present}
use Rattle.palm_model.specs.Event.{vars_of}
use Rattle.palm_events.specs.Along.{IsStill}
use Rattle.palm_events.specs.Reasons.{ReasonsAreRight}
use Rattle.palm_base.proofs.cited.CidOrder.{pair_same, same_pair_itself}
use Rattle.palm_engine.proofs.cited.Settled.{settling_filters}
use Rattle.palm_engine.proofs.cited.Walking.{not_empty}
use Rattle.palm_search.specs.declared.turn.Pick.{Pick}
use Rattle.palm_search.specs.declared.turn.Turn.{Turn}
use Rattle.palm_search.specs.declared.turn.Turn.TheVariants.{Decide as TurnDecide, Undo as TurnUndo}
use Rattle.palm_search.specs.Turns.{SearchState, Decides, decided_vars}
use Rattle.palm_search.specs.Kept.{HasOnlyUsers}
use Rattle.palm_search.proofs.cited.Deciding.{latest_vars, others_taken}
use Rattle.palm_search.proofs.cited.Going.{decided_lawful, quiet_negated}
use Rattle.palm_search.proofs.cited.Leaving.{settles_still}
use Rattle.palm_repair.specs.Posting.{Nogood, RepairState, PostsAll, nogood_of, is_decided, undecided}
use Rattle.palm_repair.specs.Repair.{RepairDecides, IsHeaviest, MakesRoom, RepairUndoes, RepairTakes, RepairSettles, RepairFollows, RepairTurns, raised, repair_begun}
use Rattle.palm_repair.specs.Kept.{IsRepairing, HasUndecided, HasNoneWhole, IsPosted, IsAtTurn}
use Rattle.palm_repair.proofs.Refuting.{pair_nogood}
use Rattle.palm_repair.proofs.Forcing.{posts_from_leaves, posts_from_forces, undecided_member, member_undecided}
use Rattle.palm_repair.proofs.Repairing.{undone, repair_takes_keep, repair_settles_keep, repair_begins}

-- ---- one more decision

distinct_kept : (test : Pair → Bool) (pairs : List Pair) → Distinct (vars_of pairs) → Distinct (vars_of (filter test pairs))
distinct_kept test [] distinct = tt
distinct_kept test (p ∷ pairs) distinct = elim (cases_Bool (test p)) [
  | inl t ↦ rw t (
    λ m.
        let r = member_unmap (λ (q : Pair). q.var) (filter test pairs) p.var m in
        distinct.0 (member_same (vars_of pairs) r.0.var p.var r.2 (member_map (λ (q : Pair). q.var) pairs r.0 (filter_member test pairs r.0 r.1).0)),
    distinct_kept test pairs distinct.1,
  )
  | inr f ↦ rw f (distinct_kept test pairs distinct.1)
]

-- among pairs of different variables one is alone, or there is one of another variable
alone_or_not : (pairs : List Pair) (p : Pair) → Contains pairs p → Distinct (vars_of pairs) → (pairs ≡ p ∷ []) ⊎ ((q : Pair) × Contains pairs q × (p.var ≡ q.var → ⊥))
alone_or_not [] p m distinct = absurd (member_nil p m)
alone_or_not (x ∷ []) p m distinct = inl (ap (λ z. z ∷ []) (member_single x p m))
alone_or_not (x ∷ y ∷ pairs) p m distinct = elim (nat_known p.var x.var) [
  | inr ne ↦ inr (x, member_here x (y ∷ pairs), ne)
  | inl e ↦ inr (
    y,
    member_there x (y ∷ pairs) y (member_here y pairs),
    λ f. distinct.0 (member_same (vars_of (y ∷ pairs)) y.var x.var (sym f ∙ e) (member_here y.var (vars_of pairs))),
  )
]

-- a nogood of which not this pair alone is undecided is not whole once the pair is decided
still_open : (decisions : List Pair) (nogood : Nogood) (p : Pair) → Distinct (vars_of nogood.pairs) → (undecided decisions nogood ≡ p ∷ [] → ⊥) → HasUndecided decisions nogood → HasUndecided (decisions ++ p ∷ []) nogood
still_open decisions nogood p distinct not_alone has =
    elim (cases_Bool (same_pair p has.0)) [
      | inr f ↦ stays has.0 has.1 (λ e. false≢true (sym f ∙ subst (λ q. same_pair p q ≡ true) e (same_pair_itself p)))
      | inl t ↦
          let m = subst (λ q. Contains (undecided decisions nogood) q) (sym (pair_same p has.0 t)) has.1 in
          elim (alone_or_not (undecided decisions nogood) p m (distinct_kept (λ q. not (is_decided decisions q)) nogood.pairs distinct)) [
            | inl e ↦ absurd (not_alone e)
            | inr r ↦ stays r.0 r.1 (λ e. r.2 (ap (λ (q : Pair). q.var) e))
          ]
    ]
  where
    stays : (q : Pair) → Contains (undecided decisions nogood) q → (p ≡ q → ⊥) → HasUndecided (decisions ++ p ∷ []) nogood
    stays q m ne =
        let u = undecided_member decisions nogood q m in
        (q, member_undecided (decisions ++ p ∷ []) nogood q u.0 (λ k. elim (Contains-push_cases decisions p q k) [ inl j ↦ u.1 j | inr e ↦ ne e ]))

-- fewer decisions leave more pairs undecided
fewer_open : (decisions left : List Pair) (nogood : Nogood) → ((p : Pair) → Contains left p → Contains decisions p) → HasUndecided decisions nogood → HasUndecided left nogood
fewer_open decisions left nogood sub has =
    let u = undecided_member decisions nogood has.0 has.1 in
    (has.0, member_undecided left nogood has.0 u.0 (λ k. u.1 (sub has.0 k)))

-- ---- posting

pub posting_posted : (s t : RepairState) → PostsAll s t → HasNoneWhole s → IsPosted t
posting_posted s t posts none =
    let leaves = posts_from_leaves s s.dropped s.nogoods t posts in
    record {
      none_whole = λ n m. subst (λ d. HasUndecided d n) (sym leaves.decisions) (none n (subst (λ l. Contains l n) leaves.nogoods m));
      forced = λ n p m one. posts_from_forces s s.dropped s.nogoods t posts n p (subst (λ l. Contains l n) leaves.nogoods m) (subst (λ d. undecided d n ≡ p ∷ []) leaves.decisions one);
    }

-- ---- turns

decided_open : (guided : Bool) (s : RepairState) (p : Pair) (pick : Pick) (middle : SearchState) → Decides guided s.search p pick middle → IsRepairing s → IsPosted s → IsStill s.search.engine
    → (nogood : Nogood) → Contains s.nogoods nogood → HasUndecided middle.decisions nogood
decided_open guided s p pick middle decides repairing posted still nogood m =
    let engine = s.search.engine in
    subst (λ d. HasUndecided d nogood) (sym decides.decisions) (still_open s.search.decisions nogood p (repairing.nogoods nogood m).distinct (λ one.
    elim still [
      | inr empty ↦ not_empty (present engine) decides.filled empty
      | inl quiet ↦ quiet_negated engine repairing.searching.valid quiet p (decided_lawful (present engine) pick p decides.decided).has (posted.forced nogood p m one)
    ]) (posted.none_whole nogood m))

decides_posted : (guided : Bool) (s : RepairState) (p : Pair) (pick : Pick) (t : RepairState) → RepairDecides guided s p pick t → IsRepairing s → IsPosted s → IsStill s.search.engine → IsPosted t
decides_posted guided s p pick t turn repairing posted still =
    posting_posted (record s { search = turn.middle }) t turn.posts (λ n m. decided_open guided s p pick turn.middle turn.decides repairing posted still n m)

room_none_whole : (tabu : ℕ) (s t : RepairState) → MakesRoom tabu s t → HasNoneWhole s → HasNoneWhole t
room_none_whole tabu s t room none = elim room [
  | inr r ↦ subst HasNoneWhole (sym r.1) none
  | inl r ↦
      let drops = r.1 in
      subst HasNoneWhole (sym drops.after) (λ n m. none n (subst (λ l. Contains l n) (sym drops.are) (member_there drops.oldest drops.rest n m)))
]

pub room_decisions : (tabu : ℕ) (s t : RepairState) → MakesRoom tabu s t → t.search.decisions ≡ s.search.decisions
room_decisions tabu s t room = elim room [
  | inr r ↦ ap (λ (z : RepairState). z.search.decisions) r.1
  | inl r ↦ ap (λ (z : RepairState). z.search.decisions) r.1.after
]

-- the undone pair is one of the new nogood, and decided no more
pub undone_pair : (s : RepairState) (weights : List ℕ) (conflict : List Cid) (gone : Pair) (left : List Pair) → IsHeaviest weights s.search.decisions conflict gone left → Distinct (vars_of s.search.decisions)
    → Contains s.search.decisions gone × (Contains left gone → ⊥)
undone_pair s weights conflict gone left heaviest distinct =
    let vars = latest_vars s.search heaviest.earlier heaviest.later gone heaviest.are distinct in (
      subst (λ l. Contains l gone) (sym heaviest.are) (Contains-append_right heaviest.earlier (gone ∷ heaviest.later) gone (member_here gone heaviest.later)),
      λ m. vars.lacks (subst (λ l. Contains l gone.var) (map-append (λ (q : Pair). q.var) heaviest.earlier heaviest.later)
          (member_map (λ (q : Pair). q.var) (heaviest.earlier ++ heaviest.later) gone (subst (λ l. Contains l gone) heaviest.others m))),
    )

pub undoes_posted : (tabu : ℕ) (s : RepairState) (gone : Pair) (conflict : List Cid) (t : RepairState) → RepairUndoes tabu s gone conflict t → IsRepairing s → HasNoneWhole s → IsPosted t
undoes_posted tabu s gone conflict t turn repairing none =
    let heaviest = turn.heaviest in
    let roomy = turn.roomy in
    let nogood = nogood_of s.search.decisions conflict in
    let pair = undone_pair s (raised s.weights (decided_vars conflict)) conflict gone turn.left heaviest repairing.searching.decisions.distinct in
    let withdrawn : RepairState = undone s turn.engine turn.left (decided_vars conflict) in
    let same = room_decisions tabu withdrawn roomy turn.makes_room in
    let old = room_none_whole tabu withdrawn roomy turn.makes_room (λ n m. fewer_open s.search.decisions turn.left n (λ p k. subst (λ l. Contains l p) (sym heaviest.are)
    (others_taken heaviest.earlier heaviest.later gone p (subst (λ l. Contains l p) heaviest.others k))) (none n m)) in
    posting_posted (record roomy { nogoods = roomy.nogoods ++ nogood ∷ [] }) t turn.posts (λ n m. elim (Contains-push_cases roomy.nogoods nogood n m) [
      | inl k ↦ old n k
      | inr e ↦ subst (λ k. HasUndecided roomy.search.decisions k) e (subst (λ d. HasUndecided d nogood) (sym same)
          (gone, member_undecided turn.left nogood gone (pair_nogood s.search.decisions conflict gone pair.0 heaviest.held) pair.1))
    ])

pub takes_posted : (guided : Bool) (tabu : ℕ) (s : RepairState) (turn : Turn) (t : RepairState) → RepairTakes guided tabu s turn t → IsRepairing s → IsPosted s → IsStill s.search.engine → IsPosted t
takes_posted guided tabu s (TurnDecide pair pick) t takes repairing posted still = decides_posted guided s pair pick t takes repairing posted still
takes_posted guided tabu s (TurnUndo gone conflict) t takes repairing posted still = undoes_posted tabu s gone conflict t takes repairing posted.none_whole

pub settles_posted : (ordered : Bool) (s t : RepairState) → RepairSettles ordered s t → IsPosted s → IsPosted t
settles_posted ordered s t settles posted =
    let filters = settling_filters None s.search.engine settles.settles.revisions t.search.engine settles.settles.settles in
    let decisions = settles.settles.decisions in
    let nogoods : t.nogoods ≡ s.nogoods = ap (λ (z : RepairState). z.nogoods) settles.after in
    record {
      none_whole = λ n m. subst (λ d. HasUndecided d n) (sym decisions) (posted.none_whole n (subst (λ l. Contains l n) nogoods m));
      forced = λ n p m one. subst (λ l. IsActive l (Not p)) (sym filters.active) (posted.forced n p (subst (λ l. Contains l n) nogoods m) (subst (λ d. undecided d n ≡ p ∷ []) decisions one));
    }

pub repair_settles_still : (ordered : Bool) (s t : RepairState) → RepairSettles ordered s t → IsStill t.search.engine
repair_settles_still ordered s t settles = settles_still ordered s.search t.search settles.settles

pub begun_posted : (s : EngineState) → IsPosted (repair_begun s)
begun_posted s = record { none_whole = λ n m. absurd (member_nil n m); forced = λ n p m one. absurd (member_nil n m) }

-- ---- between two turns

pub settles_at_turn : ReasonsAreRight → (ordered : Bool) (s t : RepairState) → RepairSettles ordered s t → IsRepairing s → IsPosted s → IsAtTurn t
settles_at_turn right ordered s t settles repairing posted = record {
  repairing = repair_settles_keep right ordered s t settles repairing;
  posted = settles_posted ordered s t settles posted;
  still = repair_settles_still ordered s t settles;
}

pub follows_at_turn : ReasonsAreRight → (guided ordered : Bool) (tabu : ℕ) (s : RepairState) (turn : Turn) (t : RepairState) → RepairFollows guided ordered tabu s turn t → IsAtTurn s → IsAtTurn t
follows_at_turn right guided ordered tabu s turn t follows at =
    settles_at_turn right ordered follows.middle t follows.settles (repair_takes_keep guided tabu s turn follows.middle follows.takes at.repairing)
    (takes_posted guided tabu s turn follows.middle follows.takes at.repairing at.posted at.still)

pub turns_at_turn : ReasonsAreRight → (guided ordered : Bool) (tabu : ℕ) (s : RepairState) (turns : List Turn) (t : RepairState) → RepairTurns guided ordered tabu s turns t → IsAtTurn s → IsAtTurn t
turns_at_turn right guided ordered tabu s [] t run at = subst IsAtTurn (sym run) at
turns_at_turn right guided ordered tabu s (turn ∷ turns) t run at =
    turns_at_turn right guided ordered tabu run.0 turns t run.2 (follows_at_turn right guided ordered tabu s turn run.0 run.1 at)

-- the settling before the first turn
pub starts_at_turn : ReasonsAreRight → (ordered : Bool) (s : EngineState) (start : RepairState) → IsValid s → HasOnlyUsers s → RepairSettles ordered (repair_begun s) start → IsAtTurn start
starts_at_turn right ordered s start valid users settles = settles_at_turn right ordered (repair_begun s) start settles (repair_begins s valid users) (begun_posted s)
