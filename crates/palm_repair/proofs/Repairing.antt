-- Turns and settlings of a repair keep all negations justified, each by a listed nogood.
use Rattle.std.proofs.Common.{◌≡◌, ℕ, ◌+◌, Bool, true, None, List, [], ◌∷◌, ◌++◌, length, filter, Contains, inl, inr, refl, sym, ap, ◌∙◌, subst, arith, append_assoc, nat_eq, eq-eqb, eqb-true}
use Rattle.std.proofs.lemmas.Bool.{false≢true}
use Rattle.std.proofs.lemmas.List.{length-map}
use Rattle.std.proofs.lemmas.List.Elements.{Contains-push_cases}
use Rattle.palm_base.specs.declared.terms.Pair.{Pair}
use Rattle.palm_base.specs.declared.terms.Cid.{Cid}
use Rattle.palm_base.specs.declared.terms.Cid.TheVariants.{Decide, Not}
use Rattle.palm_base.proofs.cited.Members.{member_nil, member_there, member_same, member_map, member_unmap, member_filter, filter_member}
use Rattle.palm_model.specs.Domains.{Has}
use Rattle.palm_model.specs.Log.{Active, IsActive, cids_of, is_named}
use Rattle.palm_model.specs.State.{EngineState, IsValid, IsJustifier, is_user, decision_of}
use Rattle.palm_model.specs.Event.{Withdraws, WithdrawsAll, with_posted, without_cids, gone_with}
use Rattle.palm_model.specs.Event.Event.{Withdraw}
use Rattle.palm_model.specs.Event.Step.{Happens}
use Rattle.palm_events.specs.Along.{KeepsJustifiers}
use Rattle.palm_events.specs.Reasons.{ReasonsAreRight}
use Rattle.palm_events.proofs.cited.Names.{named_member, member_named}
use Rattle.palm_events.proofs.cited.States.{active_cid, cid_active, with_posted_cases, member_with_posted, without_cids_member, member_without_cids}
use Rattle.palm_events.proofs.cited.Valid.{withdraws_valid, withdraws_all_valid}
use Rattle.palm_events.proofs.cited.Conflicts.{step_justified, withdraws_justified}
use Rattle.palm_engine.proofs.cited.Settled.{settling_filters}
use Rattle.palm_search.specs.declared.turn.Pick.{Pick}
use Rattle.palm_search.specs.declared.turn.Turn.{Turn}
use Rattle.palm_search.specs.declared.turn.Turn.TheVariants.{Decide as TurnDecide, Undo as TurnUndo}
use Rattle.palm_search.specs.Turns.{SearchState, Decides, HasFlatConflict, decided_vars}
use Rattle.palm_search.specs.Kept.{HasOnlyUsers, IsSearching}
use Rattle.palm_search.proofs.cited.Deciding.{withdrawn_has, others_taken}
use Rattle.palm_search.proofs.cited.Keeping.{begins, user_not, takes_keep, settles_keep}
use Rattle.palm_search.proofs.cited.Owning.{gone_no_user}
use Rattle.palm_repair.specs.Posting.{Nogood, Origin, RepairState, nogood_of, active_origins}
use Rattle.palm_repair.specs.Repair.{RepairDecides, IsHeaviest, Drops, MakesRoom, RepairUndoes, RepairTakes, RepairSettles, RepairFollows, RepairTurns, raised_from, raised, negations_from, forced_by, repair_begun}
use Rattle.palm_repair.specs.Kept.{IsNogood, IsNumbered, HasOrigins, IsRepairing}
use Rattle.palm_repair.proofs.Refuting.{KeepsUsers, users_posted, users_withdrawn, users_filtered, users_then, nogood_kept, flat_nogood}
use Rattle.palm_repair.proofs.Forcing.{comes_same, posting_keeps}

-- ---- origins

-- the negations are the same ones
pub origins_moved : (s : RepairState) (search : SearchState) → ((a : Active) (p : Pair) → Contains search.engine.active a → a.cid ≡ Not p → Contains s.search.engine.active a)
    → ((a : Active) → Contains s.search.engine.active a → Contains search.engine.active a) → HasOrigins s → HasOrigins (record s { search = search })
origins_moved s search old more origins = record {
  comes = λ a p m named.
      let comes = origins.comes a p (old a p m named) named in
      comes_same s (record s { search = search }) p a.justification refl refl comes comes.origin;
  active = λ o m. let is = origins.active o m in record { owner = is.owner; posted = more is.owner is.posted; named = is.named };
  single = origins.single;
}

-- the negations are fewer
pub origins_fewer : (s : RepairState) (search : SearchState) (weights : List ℕ) → ((a : Active) → Contains search.engine.active a → Contains s.search.engine.active a) → HasOrigins s
    → HasOrigins (record s { search = search; origins = active_origins search.engine.active s.origins; weights = weights })
origins_fewer s search weights old origins =
    let t : RepairState = record s { search = search; origins = active_origins search.engine.active s.origins; weights = weights } in
    let test = λ (o : Origin). is_named (cids_of search.engine.active) (Not o.pair) in
    record {
      comes = λ a p m named.
          let comes = origins.comes a p (old a m) named in
          comes_same s t p a.justification refl refl comes
          (member_filter test s.origins (record { pair = p; nogood = comes.number }) comes.origin
          (member_named (cids_of search.engine.active) (Not p) (member_same (cids_of search.engine.active) a.cid (Not p) named (cid_active search.engine.active a m))));
      active = λ o m. active_cid search.engine.active (Not o.pair) (named_member (cids_of search.engine.active) (Not o.pair) (filter_member test s.origins o m).1);
      single = λ o q m k e. origins.single o q (filter_member test s.origins o m).0 (filter_member test s.origins q k).0 e;
    }

-- ---- deciding

not_negation : (x : ℕ) (p : Pair) → Decide x ≡ Not p → ⊥
not_negation x p e = cc

-- after the decision, before the negations that follow
pub decided_repairing : (guided : Bool) (s : RepairState) (p : Pair) (pick : Pick) (middle : SearchState) → Decides guided s.search p pick middle → IsRepairing s → IsRepairing (record s { search = middle })
decided_repairing guided s p pick middle decides repairing =
    let posts = decides.posts in
    let a = decision_of p in
    let ea : middle.engine.active ≡ with_posted a s.search.engine.active = ap (λ (z : EngineState). z.active) posts.after in
    let keeps = users_posted s.search.engine a middle.engine posts in
    record {
      searching = takes_keep guided s.search (TurnDecide p pick) middle decides repairing.searching;
      nogoods = λ n m. nogood_kept s.search.engine middle.engine n keeps (repairing.nogoods n m);
      origins = origins_moved s middle (λ b q m named. elim (with_posted_cases a s.search.engine.active b (subst (λ l. Contains l b) ea m)) [
        | inl e ↦ absurd (not_negation p.var q (ap (λ (c : Active). c.cid) e ∙ named))
        | inr k ↦ k
      ]) (λ b m. subst (λ l. Contains l b) (sym ea) (member_with_posted a s.search.engine.active b posts.inactive m)) repairing.origins;
      weighed = repairing.weighed ∙ ap length (sym keeps.initial);
    }

pub decides_keep : (guided : Bool) (s : RepairState) (p : Pair) (pick : Pick) (t : RepairState) → RepairDecides guided s p pick t → IsRepairing s → IsRepairing t
decides_keep guided s p pick t turn repairing = posting_keeps (record s { search = turn.middle }) t turn.posts (decided_repairing guided s p pick turn.middle turn.decides repairing)

-- ---- withdrawing

undone_searching : (s : SearchState) (gone : Pair) (earlier later : List Pair) (engine : EngineState) → s.decisions ≡ earlier ++ gone ∷ later → Withdraws s.engine (Decide gone.var) engine
    → IsSearching s → IsSearching (record { engine = engine; decisions = earlier ++ later })
undone_searching s gone earlier later engine e withdraws searching =
    let ei : engine.initial ≡ s.engine.initial = ap (λ (z : EngineState). z.initial) withdraws.after in
    let ea : engine.active ≡ without_cids (gone_with s.engine.active (Decide gone.var)) s.engine.active = ap (λ (z : EngineState). z.active) withdraws.after in
    record {
      valid = withdraws_valid s.engine engine (Decide gone.var) withdraws searching.valid;
      justified = step_justified s.engine (Happens (Withdraw (Decide gone.var))) engine withdraws searching.valid tt searching.justified;
      decisions = withdrawn_has s gone earlier later engine e ea searching.valid searching.decisions;
      declared = record {
        decided = λ q m. subst (λ d. Has d q.var q.value) (sym ei) (searching.declared.decided q (subst (λ l. Contains l q) (sym e) (others_taken earlier later gone q m)));
        negated = λ a q m named. subst (λ d. Has d q.var q.value) (sym ei)
            (searching.declared.negated a q (without_cids_member (gone_with s.engine.active (Decide gone.var)) s.engine.active a (subst (λ l. Contains l a) ea m)).0 named);
      };
    }

pub raised_length : (x : ℕ) (weights vars : List ℕ) → length (raised_from x weights vars) ≡ length weights
raised_length x [] vars = refl
raised_length x (w ∷ weights) vars = let e = raised_length (x + 1) weights vars in omega (arith, e)

-- the state after the withdrawal of the heaviest decision
abbrev pub undone : RepairState → EngineState → List Pair → List ℕ → RepairState
undone s engine left vars = record s {
  search = record { engine = engine; decisions = left };
  origins = active_origins engine.active s.origins;
  weights = raised s.weights vars;
}

-- what goes with a decision is no user
pub decision_no_user : (s : EngineState) → IsValid s → (x : ℕ) (c : Cid) → Contains (gone_with s.active (Decide x)) c → is_user c ≡ true → ⊥
decision_no_user s valid x c m user = gone_no_user s valid x c m user

undone_repairing : (s : RepairState) (gone : Pair) (earlier later : List Pair) (engine : EngineState) (vars : List ℕ) → s.search.decisions ≡ earlier ++ gone ∷ later
    → Withdraws s.search.engine (Decide gone.var) engine → IsRepairing s → IsRepairing (undone s engine (earlier ++ later) vars)
undone_repairing s gone earlier later engine vars e withdraws repairing =
    let cids = gone_with s.search.engine.active (Decide gone.var) in
    let keeps = users_withdrawn s.search.engine cids engine (decision_no_user s.search.engine repairing.searching.valid gone.var) withdraws in
    let ea : engine.active ≡ without_cids cids s.search.engine.active = ap (λ (z : EngineState). z.active) withdraws.after in
    record {
      searching = undone_searching s.search gone earlier later engine e withdraws repairing.searching;
      nogoods = λ n m. nogood_kept s.search.engine engine n keeps (repairing.nogoods n m);
      origins = origins_fewer s (record { engine = engine; decisions = earlier ++ later }) (raised s.weights vars)
          (λ a m. (without_cids_member cids s.search.engine.active a (subst (λ l. Contains l a) ea m)).0) repairing.origins;
      weighed = raised_length 0 s.weights vars ∙ repairing.weighed ∙ ap length (sym keeps.initial);
    }

-- ---- making room

-- what is forced by a nogood are negations
pub forced_negation : (s : EngineState) (number : ℕ) (origins : List Origin) (c : Cid) → Contains (forced_by s number origins) c → (o : Origin) × Contains origins o × (o.nogood ≡ number) × (Not o.pair ≡ c)
forced_negation s number origins c m =
    let f = filter_member (λ d. is_named (cids_of s.active) d) (negations_from number origins) c m in
    let r = member_unmap (λ (o : Origin). Not o.pair) (filter (λ o. nat_eq o.nogood number) origins) c f.0 in
    let k = filter_member (λ (o : Origin). nat_eq o.nogood number) origins r.0 r.1 in
    (r.0, k.0, eqb-true r.0.nogood number k.1, r.2)

pub forced_no_user : (s : EngineState) (number : ℕ) (origins : List Origin) (c : Cid) → Contains (forced_by s number origins) c → is_user c ≡ true → ⊥
forced_no_user s number origins c m user =
    let r = forced_negation s number origins c m in
    false≢true (subst (λ d. is_user d ≡ true) (sym r.3) user)

pub forced_keeps : (s : EngineState) (number : ℕ) (origins : List Origin) → KeepsJustifiers s.active (forced_by s number origins)
forced_keeps s number origins a m stays c held justifier gone = let r = forced_negation s number origins c gone in subst IsJustifier (sym r.3) justifier

roomy_searching : (s : SearchState) (number : ℕ) (origins : List Origin) (engine : EngineState) → WithdrawsAll s.engine (forced_by s.engine number origins) engine → IsSearching s
    → IsSearching (record { engine = engine; decisions = s.decisions })
roomy_searching s number origins engine withdraws searching =
    let gone = forced_by s.engine number origins in
    let ei : engine.initial ≡ s.engine.initial = ap (λ (z : EngineState). z.initial) withdraws.after in
    let ea : engine.active ≡ without_cids gone s.engine.active = ap (λ (z : EngineState). z.active) withdraws.after in
    let keeps = forced_keeps s.engine number origins in
    let has = searching.decisions in
    let old : (a : Active) → Contains engine.active a → Contains s.engine.active a = λ a m. (without_cids_member gone s.engine.active a (subst (λ l. Contains l a) ea m)).0 in
    record {
      valid = withdraws_all_valid s.engine engine gone keeps withdraws searching.valid;
      justified = withdraws_justified s.engine engine gone searching.valid keeps withdraws searching.justified;
      decisions = record {
        active = λ p m. subst (λ l. Contains l (decision_of p)) (sym ea) (member_without_cids gone s.engine.active (decision_of p) (has.active p m) (λ k.
            let r = forced_negation s.engine number origins (Decide p.var) k in not_negation p.var r.0.pair (sym r.3)));
        taken = λ a x m named. has.taken a x (old a m) named;
        distinct = has.distinct;
      };
      declared = record {
        decided = λ q m. subst (λ d. Has d q.var q.value) (sym ei) (searching.declared.decided q m);
        negated = λ a q m named. subst (λ d. Has d q.var q.value) (sym ei) (searching.declared.negated a q (old a m) named);
      };
    }

pub tail_of : (x y : Nogood) (xs ys : List Nogood) → x ∷ xs ≡ y ∷ ys → xs ≡ ys
tail_of x y xs ys e = cc

-- a listed nogood other than the oldest one keeps its number
renumbered : (s : RepairState) (oldest : Nogood) (rest : List Nogood) (number : ℕ) (nogood : Nogood) (older newer : List Nogood) → s.nogoods ≡ oldest ∷ rest → s.nogoods ≡ older ++ nogood ∷ newer
    → number ≡ s.dropped + length older → (number ≡ s.dropped → ⊥) → IsNumbered (record s { nogoods = rest; dropped = s.dropped + 1 }) number nogood
renumbered s oldest rest number nogood [] newer are at counts other = absurd (other (omega (arith, counts)))
renumbered s oldest rest number nogood (first ∷ older) newer are at counts other = record {
  older = older;
  newer = newer;
  are = tail_of oldest first rest (older ++ nogood ∷ newer) (sym are ∙ at);
  counts = omega (arith, counts);
}

pub dropped_origins : (s : RepairState) (oldest : Nogood) (rest : List Nogood) → s.nogoods ≡ oldest ∷ rest → ((o : Origin) → Contains s.origins o → o.nogood ≡ s.dropped → ⊥) → HasOrigins s
    → HasOrigins (record s { nogoods = rest; dropped = s.dropped + 1 })
dropped_origins s oldest rest are none origins = record {
  comes = λ a p m named.
      let comes = origins.comes a p m named in
      let n = comes.numbered in
      record {
        number = comes.number;
        nogood = comes.nogood;
        origin = comes.origin;
        numbered = renumbered s oldest rest comes.number comes.nogood n.older n.newer are n.are n.counts (none (record { pair = p; nogood = comes.number }) comes.origin);
        holds = comes.holds;
        justified = comes.justified;
      };
  active = origins.active;
  single = origins.single;
}

-- after the withdrawal no origin is the oldest nogood
none_left : (s : EngineState) (number : ℕ) (origins : List Origin) (engine : EngineState) → WithdrawsAll s (forced_by s number origins) engine → ((o : Origin) → Contains origins o → IsActive s.active (Not o.pair))
    → (o : Origin) → Contains (active_origins engine.active origins) o → o.nogood ≡ number → ⊥
none_left s number origins engine withdraws are o m e =
    let gone = forced_by s number origins in
    let f = filter_member (λ (q : Origin). is_named (cids_of engine.active) (Not q.pair)) origins o m in
    let is = active_cid engine.active (Not o.pair) (named_member (cids_of engine.active) (Not o.pair) f.1) in
    let was = are o f.0 in
    let left = without_cids_member gone s.active is.owner (subst (λ (z : EngineState). Contains z.active is.owner) withdraws.after is.posted) in
    left.1 (member_same gone (Not o.pair) is.owner.cid (sym is.named) (member_filter (λ c. is_named (cids_of s.active) c) (negations_from number origins) (Not o.pair)
    (member_map (λ (q : Origin). Not q.pair) (filter (λ q. nat_eq q.nogood number) origins) o (member_filter (λ (q : Origin). nat_eq q.nogood number) origins o f.0 (eq-eqb o.nogood number e)))
    (member_named (cids_of s.active) (Not o.pair) (member_same (cids_of s.active) was.owner.cid (Not o.pair) was.named (cid_active s.active was.owner was.posted)))))

pub drops_keep : (s t : RepairState) → Drops s t → IsRepairing s → IsRepairing t
drops_keep s t drops repairing =
    let engine = drops.engine in
    let search : SearchState = record { engine = engine; decisions = s.search.decisions } in
    let gone = forced_by s.search.engine s.dropped s.origins in
    let keeps = users_withdrawn s.search.engine gone engine (forced_no_user s.search.engine s.dropped s.origins) drops.withdraws in
    let ea : engine.active ≡ without_cids gone s.search.engine.active = ap (λ (z : EngineState). z.active) drops.withdraws.after in
    let fewer = origins_fewer s search s.weights (λ a m. (without_cids_member gone s.search.engine.active a (subst (λ l. Contains l a) ea m)).0) repairing.origins in
    subst IsRepairing (sym drops.after) (record {
      searching = roomy_searching s.search s.dropped s.origins engine drops.withdraws repairing.searching;
      nogoods = λ n m. nogood_kept s.search.engine engine n keeps (repairing.nogoods n (subst (λ l. Contains l n) (sym drops.are) (member_there drops.oldest drops.rest n m)));
      origins = dropped_origins (record s { search = search; origins = active_origins engine.active s.origins }) drops.oldest drops.rest drops.are
          (none_left s.search.engine s.dropped s.origins engine drops.withdraws repairing.origins.active) fewer;
      weighed = repairing.weighed ∙ ap length (sym keeps.initial);
    })

pub room_keeps : (tabu : ℕ) (s t : RepairState) → MakesRoom tabu s t → IsRepairing s → IsRepairing t
room_keeps tabu s t room repairing = elim room [
  | inl r ↦ drops_keep s t r.1 repairing
  | inr r ↦ subst IsRepairing (sym r.1) repairing
]

pub room_users : (tabu : ℕ) (s t : RepairState) → MakesRoom tabu s t → KeepsUsers s.search.engine t.search.engine
room_users tabu s t room = elim room [
  | inl r ↦
      let drops = r.1 in
      subst (λ (z : RepairState). KeepsUsers s.search.engine z.search.engine) (sym drops.after)
      (users_withdrawn s.search.engine (forced_by s.search.engine s.dropped s.origins) drops.engine (forced_no_user s.search.engine s.dropped s.origins) drops.withdraws)
  | inr r ↦ subst (λ (z : RepairState). KeepsUsers s.search.engine z.search.engine) (sym r.1) (users_filtered s.search.engine s.search.engine refl refl)
]

-- ---- undoing

pub appended_repairing : (s : RepairState) (nogood : Nogood) → IsNogood s.search.engine nogood → IsRepairing s → IsRepairing (record s { nogoods = s.nogoods ++ nogood ∷ [] })
appended_repairing s nogood is repairing = record {
  searching = repairing.searching;
  nogoods = λ n m. elim (Contains-push_cases s.nogoods nogood n m) [
    | inl k ↦ repairing.nogoods n k
    | inr e ↦ subst (λ k. IsNogood s.search.engine k) e is
  ];
  origins = record {
    comes = λ a p m named.
        let comes = repairing.origins.comes a p m named in
        let n = comes.numbered in
        record {
          number = comes.number;
          nogood = comes.nogood;
          origin = comes.origin;
          numbered = record {
            older = n.older;
            newer = n.newer ++ nogood ∷ [];
            are = ap (λ l. l ++ nogood ∷ []) n.are ∙ append_assoc n.older (comes.nogood ∷ n.newer) (nogood ∷ []);
            counts = n.counts;
          };
          holds = comes.holds;
          justified = comes.justified;
        };
    active = repairing.origins.active;
    single = repairing.origins.single;
  };
  weighed = repairing.weighed;
}

-- after the withdrawal, whichever decision was the heaviest
pub withdrawn_repairing : (s : RepairState) (gone : Pair) (conflict : List Cid) (left : List Pair) (engine : EngineState) → IsHeaviest (raised s.weights (decided_vars conflict)) s.search.decisions conflict gone left
    → Withdraws s.search.engine (Decide gone.var) engine → IsRepairing s → IsRepairing (undone s engine left (decided_vars conflict))
withdrawn_repairing s gone conflict left engine heaviest withdraws repairing =
    subst (λ l. IsRepairing (undone s engine l (decided_vars conflict))) (sym heaviest.others)
    (undone_repairing s gone heaviest.earlier heaviest.later engine (decided_vars conflict) heaviest.are withdraws repairing)

-- with room made and the nogood of the flat conflict appended
pub roomy_repairing : (tabu : ℕ) (s : RepairState) (gone : Pair) (conflict : List Cid) (left : List Pair) (engine : EngineState) (roomy : RepairState) → HasFlatConflict s.search.engine conflict
    → IsHeaviest (raised s.weights (decided_vars conflict)) s.search.decisions conflict gone left → Withdraws s.search.engine (Decide gone.var) engine → MakesRoom tabu (undone s engine left (decided_vars conflict)) roomy
    → IsRepairing s → IsRepairing (record roomy { nogoods = roomy.nogoods ++ nogood_of s.search.decisions conflict ∷ [] })
roomy_repairing tabu s gone conflict left engine roomy flat heaviest withdraws room repairing =
    let m : RepairState = undone s engine left (decided_vars conflict) in
    let nogood = nogood_of s.search.decisions conflict in
    let keeps = users_then s.search.engine engine roomy.search.engine
    (users_withdrawn s.search.engine (gone_with s.search.engine.active (Decide gone.var)) engine (decision_no_user s.search.engine repairing.searching.valid gone.var) withdraws) (room_users tabu m roomy room) in
    let is = nogood_kept s.search.engine roomy.search.engine nogood keeps (flat_nogood s.search conflict repairing.searching flat) in
    appended_repairing roomy nogood is (room_keeps tabu m roomy room (withdrawn_repairing s gone conflict left engine heaviest withdraws repairing))

pub undoes_keep : (tabu : ℕ) (s : RepairState) (gone : Pair) (conflict : List Cid) (t : RepairState) → RepairUndoes tabu s gone conflict t → IsRepairing s → IsRepairing t
undoes_keep tabu s gone conflict t turn repairing =
    let roomy = turn.roomy in
    posting_keeps (record roomy { nogoods = roomy.nogoods ++ nogood_of s.search.decisions conflict ∷ [] }) t turn.posts
    (roomy_repairing tabu s gone conflict turn.left turn.engine roomy turn.flat turn.heaviest turn.withdraws turn.makes_room repairing)

-- ---- turns

pub repair_takes_keep : (guided : Bool) (tabu : ℕ) (s : RepairState) (turn : Turn) (t : RepairState) → RepairTakes guided tabu s turn t → IsRepairing s → IsRepairing t
repair_takes_keep guided tabu s (TurnDecide pair pick) t takes repairing = decides_keep guided s pair pick t takes repairing
repair_takes_keep guided tabu s (TurnUndo gone conflict) t takes repairing = undoes_keep tabu s gone conflict t takes repairing

pub repair_settles_keep : ReasonsAreRight → (ordered : Bool) (s t : RepairState) → RepairSettles ordered s t → IsRepairing s → IsRepairing t
repair_settles_keep right ordered s t settles repairing =
    let filters = settling_filters None s.search.engine settles.settles.revisions t.search.engine settles.settles.settles in
    let keeps = users_filtered s.search.engine t.search.engine filters.active filters.initial in
    subst IsRepairing (sym settles.after) (record {
      searching = settles_keep right ordered s.search t.search settles.settles repairing.searching;
      nogoods = λ n m. nogood_kept s.search.engine t.search.engine n keeps (repairing.nogoods n m);
      origins = origins_moved s t.search (λ a p m named. subst (λ l. Contains l a) filters.active m) (λ a m. subst (λ l. Contains l a) (sym filters.active) m) repairing.origins;
      weighed = repairing.weighed ∙ ap length (sym filters.initial);
    })

pub repair_follows_keep : ReasonsAreRight → (guided ordered : Bool) (tabu : ℕ) (s : RepairState) (turn : Turn) (t : RepairState) → RepairFollows guided ordered tabu s turn t → IsRepairing s → IsRepairing t
repair_follows_keep right guided ordered tabu s turn t follows repairing =
    repair_settles_keep right ordered follows.middle t follows.settles (repair_takes_keep guided tabu s turn follows.middle follows.takes repairing)

pub repair_turns_keep : ReasonsAreRight → (guided ordered : Bool) (tabu : ℕ) (s : RepairState) (turns : List Turn) (t : RepairState) → RepairTurns guided ordered tabu s turns t → IsRepairing s → IsRepairing t
repair_turns_keep right guided ordered tabu s [] t run repairing = subst IsRepairing (sym run) repairing
repair_turns_keep right guided ordered tabu s (turn ∷ turns) t run repairing =
    repair_turns_keep right guided ordered tabu run.0 turns t run.2 (repair_follows_keep right guided ordered tabu s turn run.0 run.1 repairing)

-- ---- the beginning

pub repair_begins : (s : EngineState) → IsValid s → HasOnlyUsers s → IsRepairing (repair_begun s)
repair_begins s valid users = record {
  searching = begins s valid users;
  nogoods = λ n m. absurd (member_nil n m);
  origins = record {
    comes = λ a p m named. absurd (user_not a.cid p (users a m) named);
    active = λ o m. absurd (member_nil o m);
    single = λ o q m k e. absurd (member_nil o m);
  };
  weighed = length-map s.initial (λ vs. 0);
}
