-- Posting for the listed nogoods: each negation is justified by its nogood, and afterwards none is missing.
use Rattle.std.proofs.Common.{◌≡◌, ℕ, ◌+◌, true, false, not, List, [], ◌∷◌, ◌++◌, length, map, filter, Contains, ◌⊎◌, inl, inr, refl, sym, ap, ◌∙◌, subst, arith, append_assoc, length-append}
use Rattle.std.proofs.lemmas.Bool.{cases_Bool, false≢true, not-true}
use Rattle.std.proofs.lemmas.List.Elements.{Contains-append_cases, Contains-append_left, Contains-append_right}
use Rattle.palm_base.specs.declared.terms.Pair.{Pair}
use Rattle.palm_base.specs.declared.terms.Cid.{Cid}
use Rattle.palm_base.specs.declared.terms.Cid.TheVariants.{Decide, Not}
use Rattle.palm_base.proofs.cited.Members.{member_here, member_there, member_cases, member_same, member_single, member_map, member_unmap, member_filter, filter_member}
use Rattle.palm_model.specs.Domains.{Has}
use Rattle.palm_base.specs.Order.{same_pair}
use Rattle.palm_model.specs.Log.{Active, IsActive}
use Rattle.palm_model.specs.State.{EngineState, IsJustifier, decision_of, negation_of}
use Rattle.palm_model.specs.Event.{Posts, with_posted}
use Rattle.palm_model.specs.Event.Event.{Post}
use Rattle.palm_model.specs.Event.Step.{Happens}
use Rattle.palm_model.specs.Conflict.{IsJustified}
use Rattle.palm_model.specs.declared.constraint.Con.TheVariants.{CompareConst}
use Rattle.palm_model.specs.declared.constraint.Op.TheVariants.{Eq}
use Rattle.palm_model.specs.declared.part.Part.TheVariants.{CompareConst as CompareConstPart}
use Rattle.palm_model.proofs.cited.Supports.{any_member, member_any, not_true}
use Rattle.palm_base.proofs.cited.CidOrder.{pair_same, same_pair_itself}
use Rattle.palm_events.proofs.cited.States.{with_posted_cases, with_posted_here, member_with_posted}
use Rattle.palm_events.proofs.cited.Valid.{posts_valid}
use Rattle.palm_events.proofs.cited.Conflicts.{step_justified}
use Rattle.palm_search.specs.Turns.{SearchState}
use Rattle.palm_search.specs.Kept.{IsSearching}
use Rattle.palm_search.proofs.cited.Deciding.{posted_has}
use Rattle.palm_search.proofs.cited.Keeping.{satisfies_negation}
use Rattle.palm_search.proofs.cited.Owning.{user_justifier}
use Rattle.palm_repair.specs.Posting.{Nogood, Origin, RepairState, PostsNegation, PostsFor, PostsFrom, PostsAll, is_decided, undecided, justification, with_origin}
use Rattle.palm_repair.specs.Kept.{IsNogood, IsNumbered, ComesFrom, HasOrigins, IsRepairing}
use Rattle.palm_repair.proofs.Refuting.{users_posted, nogood_kept}

-- ---- decided and undecided pairs

pub decided_member : (decisions : List Pair) (p : Pair) → is_decided decisions p ≡ true → Contains decisions p
decided_member decisions p t = let r = any_member (λ q. same_pair q p) decisions t in member_same decisions r.0 p (pair_same r.0 p r.2) r.1

pub member_decided : (decisions : List Pair) (p : Pair) → Contains decisions p → is_decided decisions p ≡ true
member_decided decisions p m = member_any (λ q. same_pair q p) decisions p m (same_pair_itself p)

pub undecided_member : (decisions : List Pair) (nogood : Nogood) (p : Pair) → Contains (undecided decisions nogood) p → Contains nogood.pairs p × (Contains decisions p → ⊥)
undecided_member decisions nogood p m =
    let r = filter_member (λ q. not (is_decided decisions q)) nogood.pairs p m in
    (r.0, λ k. false≢true (sym (not-true (is_decided decisions p) r.1) ∙ member_decided decisions p k))

pub member_undecided : (decisions : List Pair) (nogood : Nogood) (p : Pair) → Contains nogood.pairs p → (Contains decisions p → ⊥) → Contains (undecided decisions nogood) p
member_undecided decisions nogood p m n =
    member_filter (λ q. not (is_decided decisions q)) nogood.pairs p m (not_true (is_decided decisions p) (λ t. n (decided_member decisions p t)))

-- where one pair is undecided, each other one is decided
pub all_but_one : (decisions : List Pair) (nogood : Nogood) (p q : Pair) → undecided decisions nogood ≡ p ∷ [] → Contains nogood.pairs q → (p ≡ q) ⊎ Contains decisions q
all_but_one decisions nogood p q one m = elim (cases_Bool (is_decided decisions q)) [
  | inl t ↦ inr (decided_member decisions q t)
  | inr f ↦ inl (member_single p q (subst (λ l. Contains l q) one (member_filter (λ r. not (is_decided decisions r)) nogood.pairs q m (ap not f))))
]

pub one_left : (decisions : List Pair) (nogood : Nogood) (p : Pair) → undecided decisions nogood ≡ p ∷ [] → Contains nogood.pairs p
one_left decisions nogood p one = (undecided_member decisions nogood p (subst (λ l. Contains l p) (sym one) (member_here p []))).0

-- ---- one negation

-- another pair's decision is in the justification
other_held : (nogood : Nogood) (p q : Pair) → Contains nogood.pairs q → same_pair q p ≡ false → Contains (justification nogood p) (Decide q.var)
other_held nogood p q m f =
    Contains-append_left (map (λ r. Decide r.var) (filter (λ r. not (same_pair r p)) nogood.pairs)) nogood.users (Decide q.var)
    (member_map (λ (r : Pair). Decide r.var) (filter (λ r. not (same_pair r p)) nogood.pairs) q (member_filter (λ r. not (same_pair r p)) nogood.pairs q m (ap not f)))

user_held : (nogood : Nogood) (p : Pair) (c : Cid) → Contains nogood.users c → Contains (justification nogood p) c
user_held nogood p c m = Contains-append_right (map (λ r. Decide r.var) (filter (λ r. not (same_pair r p)) nogood.pairs)) nogood.users c m

-- the justification holds active users and decisions alone
pub justification_justifies : (s : SearchState) (nogood : Nogood) (p : Pair) → IsSearching s → IsNogood s.engine nogood → undecided s.decisions nogood ≡ p ∷ [] → (c : Cid) → Contains (justification nogood p) c → IsJustifier c × IsActive s.engine.active c
justification_justifies s nogood p searching is one c m =
    elim (Contains-append_cases (map (λ r. Decide r.var) (filter (λ r. not (same_pair r p)) nogood.pairs)) nogood.users c m) [
      | inr k ↦ let u = is.users c k in (user_justifier c u.0, u.1)
      | inl k ↦
          let r = member_unmap (λ (q : Pair). Decide q.var) (filter (λ q. not (same_pair q p)) nogood.pairs) c k in
          let f = filter_member (λ q. not (same_pair q p)) nogood.pairs r.0 r.1 in
          subst (λ d. IsJustifier d × IsActive s.engine.active d) r.2 (
            tt,
            decided_active s searching r.0 (elim (all_but_one s.decisions nogood p r.0 one f.0) [
              | inl e ↦ absurd (false≢true (sym (not-true (same_pair r.0 p) f.1) ∙ subst (λ q. same_pair q p ≡ true) e (same_pair_itself p)))
              | inr d ↦ d
            ]),
          )
    ]
  where
    decided_active : (s : SearchState) → IsSearching s → (q : Pair) → Contains s.decisions q → IsActive s.engine.active (Decide q.var)
    decided_active s searching q m = record { owner = decision_of q; posted = searching.decisions.active q m; named = refl }

-- the negation is justified by its nogood
pub negation_justified : (s : SearchState) (nogood : Nogood) (p : Pair) → IsSearching s → IsNogood s.engine nogood → undecided s.decisions nogood ≡ p ∷ []
    → IsJustified s.engine.initial s.engine.active (negation_of p (justification nogood p))
negation_justified s nogood p searching is one b solution = satisfies_negation b p (λ at. is.refuted b (record {
  within = solution.within;
  satisfies = λ c named. solution.satisfies c (record { owner = named.owner; posted = named.posted; is = named.is; named = user_held nogood p named.owner.cid named.named });
}) (λ q m. elim (cases_Bool (same_pair q p)) [
  | inl t ↦ subst (λ (r : Pair). b r.var ≡ r.value) (sym (pair_same q p t)) at
  | inr f ↦ elim (all_but_one s.decisions nogood p q one m) [
    | inl e ↦ subst (λ (r : Pair). b r.var ≡ r.value) e at
    | inr k ↦ solution.satisfies (CompareConst q.var Eq q.value) (record {
      owner = decision_of q;
      posted = searching.decisions.active q k;
      is = refl;
      named = other_held nogood p q m f;
    }) (CompareConstPart q.var Eq q.value) (member_here (CompareConstPart q.var Eq q.value) [])
  ]
]))

not_decision : (p : Pair) (x : ℕ) → Not p ≡ Decide x → ⊥
not_decision p x e = cc

negation_same : (q p : Pair) → Not q ≡ Not p → q ≡ p
negation_same q p e = cc

pub negated_searching : (s : SearchState) (p : Pair) (because : List Cid) (t : EngineState) → Posts s.engine (negation_of p because) t → Has s.engine.initial p.var p.value
    → IsJustified s.engine.initial s.engine.active (negation_of p because) → IsSearching s → IsSearching (record { engine = t; decisions = s.decisions })
negated_searching s p because t posts has justified searching =
    let a = negation_of p because in
    let ei : t.initial ≡ s.engine.initial = ap (λ (z : EngineState). z.initial) posts.after in
    record {
      valid = posts_valid s.engine t a posts searching.valid;
      justified = step_justified s.engine (Happens (Post a)) t posts searching.valid (λ q e. justified) searching.justified;
      decisions = posted_has s a t (ap (λ (z : EngineState). z.active) posts.after) posts.inactive (λ x e. not_decision p x e) searching.decisions;
      declared = record {
        decided = λ q m. subst (λ d. Has d q.var q.value) (sym ei) (searching.declared.decided q m);
        negated = λ b q m named. subst (λ d. Has d q.var q.value) (sym ei) (elim (with_posted_cases a s.engine.active b (subst (λ (z : EngineState). Contains z.active b) posts.after m)) [
          | inl e ↦ subst (λ (z : Pair). Has s.engine.initial z.var z.value) (negation_same p q (ap (λ (c : Active). c.cid) e ∙ named)) has
          | inr k ↦ searching.declared.negated b q k named
        ]);
      };
    }

-- ---- numbers and origins

pub numbered_member : (s : RepairState) (number : ℕ) (nogood : Nogood) → IsNumbered s number nogood → Contains s.nogoods nogood
numbered_member s number nogood numbered =
    subst (λ l. Contains l nogood) (sym numbered.are) (Contains-append_right numbered.older (nogood ∷ numbered.newer) nogood (member_here nogood numbered.newer))

pub numbered_same : (s t : RepairState) (number : ℕ) (nogood : Nogood) → t.nogoods ≡ s.nogoods → t.dropped ≡ s.dropped → IsNumbered s number nogood → IsNumbered t number nogood
numbered_same s t number nogood en ed numbered = record {
  older = numbered.older;
  newer = numbered.newer;
  are = en ∙ numbered.are;
  counts = numbered.counts ∙ ap (λ k. k + length numbered.older) (sym ed);
}

pub comes_same : (s t : RepairState) (p : Pair) (because : List Cid) → t.nogoods ≡ s.nogoods → t.dropped ≡ s.dropped → (comes : ComesFrom s p because) → Contains t.origins (record { pair = p; nogood = comes.number }) → ComesFrom t p because
comes_same s t p because en ed comes m = record {
  number = comes.number;
  nogood = comes.nogood;
  origin = m;
  numbered = numbered_same s t comes.number comes.nogood en ed comes.numbered;
  holds = comes.holds;
  justified = comes.justified;
}

-- the state after a negation was posted for a nogood
abbrev pub negated : RepairState → ℕ → Pair → EngineState → RepairState
negated s number p engine = record s { search = record { engine = engine; decisions = s.search.decisions }; origins = with_origin p number s.origins }

kept_origin : (p : Pair) (number : ℕ) (origins : List Origin) (o : Origin) → same_pair o.pair p ≡ false → Contains origins o → Contains (with_origin p number origins) o
kept_origin p number origins o f m =
    member_there (record { pair = p; nogood = number }) (filter (λ q. not (same_pair q.pair p)) origins) o (member_filter (λ (q : Origin). not (same_pair q.pair p)) origins o m (ap not f))

old_origin : (p : Pair) (origins : List Origin) (o : Origin) → Contains (filter (λ q. not (same_pair q.pair p)) origins) o → Contains origins o × (o.pair ≡ p → ⊥)
old_origin p origins o m =
    let r = filter_member (λ (q : Origin). not (same_pair q.pair p)) origins o m in
    (r.0, λ e. false≢true (sym (not-true (same_pair o.pair p) r.1) ∙ subst (λ q. same_pair q p ≡ true) (sym e) (same_pair_itself p)))

pub negated_origins : (s : RepairState) (number : ℕ) (nogood : Nogood) (p : Pair) (engine : EngineState) → Posts s.search.engine (negation_of p (justification nogood p)) engine → Contains nogood.pairs p
    → IsNumbered s number nogood → HasOrigins s → HasOrigins (negated s number p engine)
negated_origins s number nogood p engine posts holds numbered origins =
    let t = negated s number p engine in
    let a = negation_of p (justification nogood p) in
    let new : Origin = record { pair = p; nogood = number } in
    let old = filter (λ q. not (same_pair q.pair p)) s.origins in
    let ea : engine.active ≡ with_posted a s.search.engine.active = ap (λ (z : EngineState). z.active) posts.after in
    record {
      comes = λ b q m named. elim (with_posted_cases a s.search.engine.active b (subst (λ l. Contains l b) ea m)) [
        | inl e ↦ subst (λ r. ComesFrom t r b.justification) (negation_same p q (ap (λ (c : Active). c.cid) e ∙ named)) (record {
          number = number;
          nogood = nogood;
          origin = member_here new old;
          numbered = numbered_same s t number nogood refl refl numbered;
          holds = holds;
          justified = sym (ap (λ (c : Active). c.justification) e);
        })
        | inr k ↦
            let comes = origins.comes b q k named in
            comes_same s t q b.justification refl refl comes (kept_origin p number s.origins (record { pair = q; nogood = comes.number }) (not_same p q b k named posts.inactive) comes.origin)
      ];
      active = λ o m. subst (λ l. IsActive l (Not o.pair)) (sym ea) (elim (member_cases new old o m) [
        | inl e ↦ subst (λ (r : Origin). IsActive (with_posted a s.search.engine.active) (Not r.pair)) e (record { owner = a; posted = with_posted_here a s.search.engine.active; named = refl })
        | inr k ↦
            let is = origins.active o (old_origin p s.origins o k).0 in
            record { owner = is.owner; posted = member_with_posted a s.search.engine.active is.owner posts.inactive is.posted; named = is.named }
      ]);
      single = λ o q m k e. elim (member_cases new old o m) [
        | inl eo ↦ elim (member_cases new old q k) [
          | inl eq ↦ sym eo ∙ eq
          | inr mq ↦ absurd ((old_origin p s.origins q mq).1 (sym e ∙ sym (ap (λ (r : Origin). r.pair) eo)))
        ]
        | inr mo ↦ elim (member_cases new old q k) [
          | inl eq ↦ absurd ((old_origin p s.origins o mo).1 (e ∙ sym (ap (λ (r : Origin). r.pair) eq)))
          | inr mq ↦ origins.single o q (old_origin p s.origins o mo).0 (old_origin p s.origins q mq).0 e
        ]
      ];
    }
  where
    not_same : (p q : Pair) (b : Active) → Contains s.search.engine.active b → b.cid ≡ Not q → (IsActive s.search.engine.active (Not p) → ⊥) → same_pair q p ≡ false
    not_same p q b m named inactive = elim (cases_Bool (same_pair q p)) [
      | inl t ↦ absurd (inactive (record { owner = b; posted = m; named = named ∙ ap Not (pair_same q p t) }))
      | inr f ↦ f
    ]

pub negated_repairing : (s : RepairState) (number : ℕ) (nogood : Nogood) (p : Pair) (engine : EngineState) → Posts s.search.engine (negation_of p (justification nogood p)) engine → undecided s.search.decisions nogood ≡ p ∷ []
    → IsNumbered s number nogood → IsRepairing s → IsRepairing (negated s number p engine)
negated_repairing s number nogood p engine posts one numbered repairing =
    let is = repairing.nogoods nogood (numbered_member s number nogood numbered) in
    let holds = one_left s.search.decisions nogood p one in
    let searching = repairing.searching in
    let keeps = users_posted s.search.engine (negation_of p (justification nogood p)) engine posts in
    record {
      searching = negated_searching s.search p (justification nogood p) engine posts (is.declared p holds) (negation_justified s.search nogood p searching is one) searching;
      nogoods = λ n m. nogood_kept s.search.engine engine n keeps (repairing.nogoods n m);
      origins = negated_origins s number nogood p engine posts holds numbered repairing.origins;
      weighed = repairing.weighed ∙ ap length (sym keeps.initial);
    }

-- ---- the walk

pub posts_for_keeps : (s : RepairState) (number : ℕ) (nogood : Nogood) (left : List Pair) (t : RepairState) → undecided s.search.decisions nogood ≡ left → PostsFor s number nogood left t
    → IsNumbered s number nogood → IsRepairing s → IsRepairing t
posts_for_keeps s number nogood [] t e posts numbered repairing = subst IsRepairing (sym posts) repairing
posts_for_keeps s number nogood (p ∷ []) t e posts numbered repairing = elim posts [
  | inl r ↦ subst IsRepairing (sym r.1) repairing
  | inr r ↦ subst IsRepairing (sym r.after) (negated_repairing s number nogood p t.search.engine r.posts e numbered repairing)
]
posts_for_keeps s number nogood (p ∷ q ∷ left) t e posts numbered repairing = subst IsRepairing (sym posts) repairing

-- posting adds negations, and leaves all else
pub record OnlyPosts (s t : RepairState) : Type 0 where
  pub decisions : t.search.decisions ≡ s.search.decisions
  pub nogoods : t.nogoods ≡ s.nogoods
  pub weights : t.weights ≡ s.weights
  pub dropped : t.dropped ≡ s.dropped
  pub initial : t.search.engine.initial ≡ s.search.engine.initial
  pub active : (a : Active) → Contains s.search.engine.active a → Contains t.search.engine.active a

pub leaves_none : (s : RepairState) → OnlyPosts s s
leaves_none s = record { decisions = refl; nogoods = refl; weights = refl; dropped = refl; initial = refl; active = λ a m. m }

pub leaves_then : (s m t : RepairState) → OnlyPosts s m → OnlyPosts m t → OnlyPosts s t
leaves_then s m t one two = record {
  decisions = two.decisions ∙ one.decisions;
  nogoods = two.nogoods ∙ one.nogoods;
  weights = two.weights ∙ one.weights;
  dropped = two.dropped ∙ one.dropped;
  initial = two.initial ∙ one.initial;
  active = λ a k. two.active a (one.active a k);
}

negation_leaves : (s : RepairState) (number : ℕ) (nogood : Nogood) (p : Pair) (t : RepairState) → PostsNegation s number nogood p t → OnlyPosts s t
negation_leaves s number nogood p t posts =
    let after = posts.posts.after in
    record {
      decisions = ap (λ (z : RepairState). z.search.decisions) posts.after;
      nogoods = ap (λ (z : RepairState). z.nogoods) posts.after;
      weights = ap (λ (z : RepairState). z.weights) posts.after;
      dropped = ap (λ (z : RepairState). z.dropped) posts.after;
      initial = ap (λ (z : EngineState). z.initial) after;
      active = λ a m. subst (λ (z : EngineState). Contains z.active a) (sym after)
          (member_with_posted (negation_of p (justification nogood p)) s.search.engine.active a posts.posts.inactive m);
    }

pub posts_for_leaves : (s : RepairState) (number : ℕ) (nogood : Nogood) (left : List Pair) (t : RepairState) → PostsFor s number nogood left t → OnlyPosts s t
posts_for_leaves s number nogood [] t posts = subst (λ z. OnlyPosts s z) (sym posts) (leaves_none s)
posts_for_leaves s number nogood (p ∷ []) t posts = elim posts [
  | inl r ↦ subst (λ z. OnlyPosts s z) (sym r.1) (leaves_none s)
  | inr r ↦ negation_leaves s number nogood p t r
]
posts_for_leaves s number nogood (p ∷ q ∷ left) t posts = subst (λ z. OnlyPosts s z) (sym posts) (leaves_none s)

pub posts_from_leaves : (s : RepairState) (number : ℕ) (left : List Nogood) (t : RepairState) → PostsFrom s number left t → OnlyPosts s t
posts_from_leaves s number [] t posts = subst (λ z. OnlyPosts s z) (sym posts) (leaves_none s)
posts_from_leaves s number (nogood ∷ left) t posts =
    leaves_then s posts.0 t (posts_for_leaves s number nogood (undecided s.search.decisions nogood) posts.0 posts.1) (posts_from_leaves posts.0 (number + 1) left t posts.2)

-- so many nogoods of the list were walked, and these are left
pub record IsWalked (s : RepairState) (number : ℕ) (left : List Nogood) : Type 0 where
  pub earlier : List Nogood
  pub are : s.nogoods ≡ earlier ++ left
  pub counts : number ≡ s.dropped + length earlier

pub walked_more : (s t : RepairState) (number : ℕ) (nogood : Nogood) (left : List Nogood) → OnlyPosts s t → IsWalked s number (nogood ∷ left) → IsWalked t (number + 1) left
walked_more s t number nogood left leaves walked = record {
  earlier = walked.earlier ++ nogood ∷ [];
  are = leaves.nogoods ∙ walked.are ∙ sym (append_assoc walked.earlier (nogood ∷ []) left);
  counts =
      let c = walked.counts in
      let d = leaves.dropped in
      let l = length-append walked.earlier (nogood ∷ []) in
      omega (arith, c, d, l);
}

posts_from_keeps : (s : RepairState) (number : ℕ) (left : List Nogood) (t : RepairState) → PostsFrom s number left t → IsWalked s number left → IsRepairing s → IsRepairing t
posts_from_keeps s number [] t posts walked repairing = subst IsRepairing (sym posts) repairing
posts_from_keeps s number (nogood ∷ left) t posts walked repairing =
    let m = posts.0 in
    let numbered : IsNumbered s number nogood = record { older = walked.earlier; newer = left; are = walked.are; counts = walked.counts } in
    let leaves = posts_for_leaves s number nogood (undecided s.search.decisions nogood) m posts.1 in
    posts_from_keeps m (number + 1) left t posts.2 (walked_more s m number nogood left leaves walked)
    (posts_for_keeps s number nogood (undecided s.search.decisions nogood) m refl posts.1 numbered repairing)

-- before the walk all are left
pub none_walked : (s : RepairState) → IsWalked s s.dropped s.nogoods
none_walked s = record { earlier = []; are = refl; counts = plus_none s.dropped }
  where
    plus_none : (n : ℕ) → n ≡ n + 0
    plus_none n = omega arith

pub posting_keeps : (s t : RepairState) → PostsAll s t → IsRepairing s → IsRepairing t
posting_keeps s t posts repairing = posts_from_keeps s s.dropped s.nogoods t posts (none_walked s) repairing

-- ---- what the walk forces

posts_for_forces : (s : RepairState) (number : ℕ) (nogood : Nogood) (left : List Pair) (t : RepairState) (p : Pair) → left ≡ p ∷ [] → PostsFor s number nogood left t → IsActive t.search.engine.active (Not p)
posts_for_forces s number nogood left t p e posts = elim (subst (λ l. PostsFor s number nogood l t) e posts) [
  | inl r ↦ subst (λ (z : RepairState). IsActive z.search.engine.active (Not p)) (sym r.1) r.0
  | inr r ↦ record {
    owner = negation_of p (justification nogood p);
    posted = subst (λ (z : EngineState). Contains z.active (negation_of p (justification nogood p))) (sym r.posts.after) (with_posted_here (negation_of p (justification nogood p)) s.search.engine.active);
    named = refl;
  }
]

pub still_active : (s t : RepairState) (c : Cid) → OnlyPosts s t → IsActive s.search.engine.active c → IsActive t.search.engine.active c
still_active s t c leaves is = record { owner = is.owner; posted = leaves.active is.owner is.posted; named = is.named }

pub posts_from_forces : (s : RepairState) (number : ℕ) (left : List Nogood) (t : RepairState) → PostsFrom s number left t
    → (nogood : Nogood) (p : Pair) → Contains left nogood → undecided s.search.decisions nogood ≡ p ∷ [] → IsActive t.search.engine.active (Not p)
posts_from_forces s number [] t posts nogood p m one = absurd (omega (arith, m.1))
posts_from_forces s number (first ∷ left) t posts nogood p m one =
    let n = posts.0 in
    elim (member_cases first left nogood m) [
      | inl e ↦ still_active n t (Not p) (posts_from_leaves n (number + 1) left t posts.2)
          (posts_for_forces s number first (undecided s.search.decisions first) n p (subst (λ k. undecided s.search.decisions k ≡ p ∷ []) (sym e) one) posts.1)
      | inr k ↦
          let leaves = posts_for_leaves s number first (undecided s.search.decisions first) n posts.1 in
          posts_from_forces n (number + 1) left t posts.2 nogood p k (subst (λ d. undecided d nogood ≡ p ∷ []) (sym leaves.decisions) one)
    ]

-- ---- what holds along the walk

-- what every posting of a negation keeps is kept by the walk
pub posts_from_along : (Q : EngineState → Type 0) → ((m : EngineState) (p : Pair) (because : List Cid) (t : EngineState) → Posts m (negation_of p because) t → Q m → Q t)
    → (s : RepairState) (number : ℕ) (left : List Nogood) (t : RepairState) → PostsFrom s number left t → Q s.search.engine → Q t.search.engine
posts_from_along Q step s number [] t posts q = subst (λ (z : RepairState). Q z.search.engine) (sym posts) q
posts_from_along Q step s number (nogood ∷ left) t posts q =
    posts_from_along Q step posts.0 (number + 1) left t posts.2 (posts_for_along Q step s number nogood (undecided s.search.decisions nogood) posts.0 posts.1 q)
  where
    posts_for_along : (Q : EngineState → Type 0) → ((m : EngineState) (p : Pair) (because : List Cid) (t : EngineState) → Posts m (negation_of p because) t → Q m → Q t)
        → (s : RepairState) (number : ℕ) (nogood : Nogood) (left : List Pair) (t : RepairState) → PostsFor s number nogood left t → Q s.search.engine → Q t.search.engine
    posts_for_along Q step s number nogood [] t posts q = subst (λ (z : RepairState). Q z.search.engine) (sym posts) q
    posts_for_along Q step s number nogood (p ∷ []) t posts q = elim posts [
      | inl r ↦ subst (λ (z : RepairState). Q z.search.engine) (sym r.1) q
      | inr r ↦ step s.search.engine p (justification nogood p) t.search.engine r.posts q
    ]
    posts_for_along Q step s number nogood (p ∷ q' ∷ left) t posts q = subst (λ (z : RepairState). Q z.search.engine) (sym posts) q
