-- The decisions of a search are the active ones, and stay so from turn to turn.
use Rattle.std.proofs.Common.{◌≡◌, ℕ, Bool, length, List, [], ◌∷◌, ◌++◌, filter, Contains, inl, inr, sym, ap, ◌∙◌, subst}
use Rattle.std.proofs.lemmas.List.{map-append}
use Rattle.std.proofs.lemmas.List.Elements.{Contains-append_cases, Contains-append_left, Contains-append_right, Contains-push, Contains-push_cases}
use Rattle.palm_base.specs.declared.terms.Pair.{Pair}
use Rattle.palm_base.specs.declared.terms.Cid.{Cid}
use Rattle.palm_base.specs.declared.terms.Cid.TheVariants.{Decide, Not}
use Rattle.palm_base.proofs.cited.Members.{member_nil, member_here, member_there, member_cases, member_same, member_map, member_unmap, filter_member}
use Rattle.palm_model.specs.Domains.{Domains, Has}
use Rattle.palm_model.specs.Constraint.{Distinct}
use Rattle.palm_model.proofs.cited.Without.{without_has}
use Rattle.palm_model.specs.Log.{Active, IsActive, cids_of, is_named, log_pairs}
use Rattle.palm_model.specs.State.{EngineState, IsValid, IsJustifier, FitsCid, present, decision_of, negation_of}
use Rattle.palm_search.specs.declared.turn.Pick.{Pick}
use Rattle.palm_model.specs.Event.{with_posted, without_cids, gone_with, vars_of}
use Rattle.palm_events.proofs.cited.Names.{named_member}
use Rattle.palm_events.proofs.cited.States.{with_posted_cases, with_posted_here, member_with_posted, without_cids_member, member_without_cids, held_not_justifier}
use Rattle.palm_search.specs.Turns.{SearchState, IsDecided, Decides, Undoes}
use Rattle.palm_search.specs.declared.turn.Pick.TheVariants.{NoGuide, Nothing, Asked}
use Rattle.palm_search.specs.Kept.{HasDecisions, HasDeclared}

-- ---- distinct lists

pub distinct_push : (xs : List ℕ) (y : ℕ) → Distinct xs → (Contains xs y → ⊥) → Distinct (xs ++ y ∷ [])
distinct_push [] y d n = (λ m. member_nil y m, tt)
distinct_push (x ∷ xs) y d n = (
  λ m. elim (Contains-push_cases xs y x m) [ inl k ↦ d.0 k | inr e ↦ n (member_same (x ∷ xs) x y (sym e) (member_here x xs)) ],
  distinct_push xs y d.1 (λ m. n (member_there x xs y m)),
)

-- without one of its members a list is distinct and lacks it
pub record IsWithoutOne (xs ys : List ℕ) (z : ℕ) : Type 0 where
  pub distinct : Distinct (xs ++ ys)
  pub lacks : Contains (xs ++ ys) z → ⊥

pub distinct_without : (xs ys : List ℕ) (z : ℕ) → Distinct (xs ++ z ∷ ys) → IsWithoutOne xs ys z
distinct_without [] ys z d = record { distinct = d.1; lacks = d.0 }
distinct_without (x ∷ xs) ys z d =
    let rest = distinct_without xs ys z d.1 in
    record {
      distinct = (
        λ m. d.0 (elim (Contains-append_cases xs ys x m) [
          | inl k ↦ Contains-append_left xs (z ∷ ys) x k
          | inr k ↦ Contains-append_right xs (z ∷ ys) x (member_there z ys x k)
        ]),
        rest.distinct,
      );
      lacks = λ m. elim (member_cases x (xs ++ ys) z m) [
        | inl e ↦ d.0 (member_same (xs ++ z ∷ ys) z x (sym e) (Contains-append_right xs (z ∷ ys) z (member_here z ys)))
        | inr k ↦ rest.lacks k
      ];
    }

-- ---- decisions

decide_same : (x y : ℕ) → Decide x ≡ Decide y → x ≡ y
decide_same x y e = cc

pub apart_not : (p : Pair) (x : ℕ) → Not p ≡ Decide x → ⊥
apart_not p x e = cc

-- a variable with no active decision has none in the search
no_decision : (s : SearchState) → HasDecisions s → (x : ℕ) → (IsActive s.engine.active (Decide x) → ⊥) → Contains (vars_of s.decisions) x → ⊥
no_decision s has x inactive m =
    let r = member_unmap (λ (p : Pair). p.var) s.decisions x m in
    inactive (record { owner = decision_of r.0; posted = has.active r.0 r.1; named = ap Decide r.2 })

pub decided_has : (s : SearchState) (p : Pair) (engine : EngineState) → engine.active ≡ with_posted (decision_of p) s.engine.active → (IsActive s.engine.active (Decide p.var) → ⊥)
    → HasDecisions s → HasDecisions (record { engine = engine; decisions = s.decisions ++ p ∷ [] })
decided_has s p engine e inactive has = record {
  active = λ q m. subst (λ l. Contains l (decision_of q)) (sym e) (elim (Contains-push_cases s.decisions p q m) [
    | inl k ↦ member_with_posted (decision_of p) s.engine.active (decision_of q) inactive (has.active q k)
    | inr f ↦ subst (λ z. Contains (with_posted (decision_of p) s.engine.active) (decision_of z)) f (with_posted_here (decision_of p) s.engine.active)
  ]);
  taken = λ a x m named. elim (with_posted_cases (decision_of p) s.engine.active a (subst (λ l. Contains l a) e m)) [
    | inl f ↦ (p, Contains-push s.decisions p, sym f)
    | inr k ↦ let r = has.taken a x k named in (r.0, Contains-append_left s.decisions (p ∷ []) r.0 r.1, r.2)
  ];
  distinct = subst Distinct (sym (map-append (λ (q : Pair). q.var) s.decisions (p ∷ []))) (distinct_push (vars_of s.decisions) p.var has.distinct (no_decision s has p.var inactive));
}

-- ---- undoing

-- what goes with a justifier is no other justifier
pub justifier_stays : (n : ℕ) (active : List Active) (cid : Cid) → ((a : Active) → Contains active a → FitsCid n active a) → (c : Cid) → IsJustifier c → (c ≡ cid → ⊥) → Contains (gone_with active cid) c → ⊥
justifier_stays n active cid formed c justifier ne m = elim (member_cases cid (cids_of (filter (λ b. is_named b.justification cid) active)) c m) [
  | inl e ↦ ne (sym e)
  | inr k ↦
      let r = member_unmap (λ (b : Active). b.cid) (filter (λ b. is_named b.justification cid) active) c k in
      let f = filter_member (λ (b : Active). is_named b.justification cid) active r.0 r.1 in
      held_not_justifier n active r.0 cid (formed r.0 f.0) (named_member r.0.justification cid f.1) (subst IsJustifier (sym r.2) justifier)
]

pub gone_itself : (active : List Active) (cid : Cid) → Contains (gone_with active cid) cid
gone_itself active cid = member_here cid (cids_of (filter (λ b. is_named b.justification cid) active))

-- the decisions but one
pub latest_vars : (s : SearchState) (earlier later : List Pair) (gone : Pair) → s.decisions ≡ earlier ++ gone ∷ later → Distinct (vars_of s.decisions) → IsWithoutOne (vars_of earlier) (vars_of later) gone.var
latest_vars s earlier later gone e d =
    distinct_without (vars_of earlier) (vars_of later) gone.var
    (subst Distinct (ap vars_of e ∙ map-append (λ (q : Pair). q.var) earlier (gone ∷ later)) d)

pub others_taken : (earlier later : List Pair) (gone p : Pair) → Contains (earlier ++ later) p → Contains (earlier ++ gone ∷ later) p
others_taken earlier later gone p m = elim (Contains-append_cases earlier later p m) [
  | inl k ↦ Contains-append_left earlier (gone ∷ later) p k
  | inr k ↦ Contains-append_right earlier (gone ∷ later) p (member_there gone later p k)
]

pub taken_others : (earlier later : List Pair) (gone p : Pair) → (gone ≡ p → ⊥) → Contains (earlier ++ gone ∷ later) p → Contains (earlier ++ later) p
taken_others earlier later gone p ne m = elim (Contains-append_cases earlier (gone ∷ later) p m) [
  | inl k ↦ Contains-append_left earlier later p k
  | inr k ↦ elim (member_cases gone later p k) [
    | inl e ↦ absurd (ne e)
    | inr j ↦ Contains-append_right earlier later p j
  ]
]

-- without one of its decisions, which is withdrawn, a search has the others
pub withdrawn_has : (s : SearchState) (gone : Pair) (earlier later : List Pair) (engine : EngineState) → s.decisions ≡ earlier ++ gone ∷ later
    → engine.active ≡ without_cids (gone_with s.engine.active (Decide gone.var)) s.engine.active → IsValid s.engine → HasDecisions s → HasDecisions (record { engine = engine; decisions = earlier ++ later })
withdrawn_has s gone earlier later engine e ee valid has =
    let vars = latest_vars s earlier later gone e has.distinct in
    record {
      active = λ q m.
          let taken : Contains s.decisions q = subst (λ l. Contains l q) (sym e) (others_taken earlier later gone q m) in
          let other : Decide q.var ≡ Decide gone.var → ⊥ = λ f. vars.lacks (subst (λ l. Contains l gone.var) (map-append (λ (p : Pair). p.var) earlier later)
          (member_same (vars_of (earlier ++ later)) q.var gone.var (decide_same q.var gone.var f) (member_map (λ (p : Pair). p.var) (earlier ++ later) q m))) in
          let stays = justifier_stays (length s.engine.initial) s.engine.active (Decide gone.var) valid.formed (Decide q.var) tt other in
          subst (λ l. Contains l (decision_of q)) (sym ee)
          (member_without_cids (gone_with s.engine.active (Decide gone.var)) s.engine.active (decision_of q) (has.active q taken) stays);
      taken = λ a x m named.
          let old = without_cids_member (gone_with s.engine.active (Decide gone.var)) s.engine.active a (subst (λ l. Contains l a) ee m) in
          let r = has.taken a x old.0 named in
          let other : gone ≡ r.0 → ⊥ = λ f. old.1 (member_same (gone_with s.engine.active (Decide gone.var)) (Decide gone.var) a.cid
          (ap (λ (p : Pair). Decide p.var) f ∙ sym (ap (λ (b : Active). b.cid) r.2)) (gone_itself s.engine.active (Decide gone.var))) in
          (r.0, taken_others earlier later gone r.0 other (subst (λ l. Contains l r.0) e r.1), r.2);
      distinct = subst Distinct (sym (map-append (λ (p : Pair). p.var) earlier later)) vars.distinct;
    }

-- a constraint that is no decision is posted, and the decisions stay
pub posted_has : (s : SearchState) (a : Active) (engine : EngineState) → engine.active ≡ with_posted a s.engine.active → (IsActive s.engine.active a.cid → ⊥) → ((x : ℕ) → a.cid ≡ Decide x → ⊥)
    → HasDecisions s → HasDecisions (record { engine = engine; decisions = s.decisions })
posted_has s a engine e inactive other has = record {
  active = λ p m. subst (λ l. Contains l (decision_of p)) (sym e) (member_with_posted a s.engine.active (decision_of p) inactive (has.active p m));
  taken = λ b x m named. elim (with_posted_cases a s.engine.active b (subst (λ l. Contains l b) e m)) [
    | inl f ↦ absurd (other x (ap (λ (c : Active). c.cid) f ∙ named))
    | inr k ↦ has.taken b x k named
  ];
  distinct = has.distinct;
}

-- ---- turns

-- a search state by its parts
pub same_state : (t : SearchState) (decisions : List Pair) → t.decisions ≡ decisions → record { engine = t.engine; decisions = decisions } ≡ t
same_state t decisions e = λ i. record { engine = t.engine; decisions = sym e i }

pub decides_has : (guided : Bool) (s : SearchState) (p : Pair) (pick : Pick) (t : SearchState) → Decides guided s p pick t → HasDecisions s → HasDecisions t
decides_has guided s p pick t turn has = subst HasDecisions (same_state t (s.decisions ++ p ∷ []) turn.decisions)
    (decided_has s p t.engine (ap (λ (z : EngineState). z.active) turn.posts.after) turn.posts.inactive has)

pub undoes_has : (s : SearchState) (gone : Pair) (conflict : List Cid) (t : SearchState) → Undoes s gone conflict t → IsValid s.engine → HasDecisions s → HasDecisions t
undoes_has s gone conflict t turn valid has =
    let latest = turn.latest in
    let left = latest.earlier ++ latest.later in
    let middle = withdrawn_has s gone latest.earlier latest.later turn.middle latest.are (ap (λ (z : EngineState). z.active) turn.withdraws.after) valid has in
    subst HasDecisions (same_state t left latest.others)
    (posted_has (record { engine = turn.middle; decisions = left }) (negation_of gone _) t.engine (ap (λ (z : EngineState). z.active) turn.posts.after) turn.posts.inactive (λ x. apart_not gone x) middle)

pub settles_has : (s t : SearchState) → t.engine.active ≡ s.engine.active → t.decisions ≡ s.decisions → HasDecisions s → HasDecisions t
settles_has s t e f has = record {
  active = λ p m. subst (λ l. Contains l (decision_of p)) (sym e) (has.active p (subst (λ l. Contains l p) f m));
  taken = λ a x m named. let r = has.taken a x (subst (λ l. Contains l a) e m) named in (r.0, subst (λ l. Contains l r.0) (sym f) r.1, r.2);
  distinct = subst (λ l. Distinct (vars_of l)) (sym f) has.distinct;
}

-- ---- declared pairs

pub not_negation : (x : ℕ) (p : Pair) → Decide x ≡ Not p → ⊥
not_negation x p e = cc

negation_same : (q p : Pair) → Not q ≡ Not p → q ≡ p
negation_same q p e = cc

decided_present : (d : Domains) (pick : Pick) (p : Pair) → IsDecided d pick p → Has d p.var p.value
decided_present d NoGuide p decided = decided.has
decided_present d Nothing p decided = decided.has
decided_present d (Asked q) p decided = elim decided [
  | inl r ↦ subst (λ (z : Pair). Has d z.var z.value) (sym r.1) r.0.has
  | inr r ↦ r.1.has
]

pub decides_declared : (guided : Bool) (s : SearchState) (p : Pair) (pick : Pick) (t : SearchState) → Decides guided s p pick t → HasDeclared s → HasDeclared t
decides_declared guided s p pick t turn declared =
    let ei : t.engine.initial ≡ s.engine.initial = ap (λ (z : EngineState). z.initial) turn.posts.after in
    record {
      decided = λ q m. subst (λ d. Has d q.var q.value) (sym ei) (elim (Contains-push_cases s.decisions p q (subst (λ l. Contains l q) turn.decisions m)) [
        | inl k ↦ declared.decided q k
        | inr e ↦ subst (λ (z : Pair). Has s.engine.initial z.var z.value) e (without_has s.engine.initial (log_pairs s.engine.log) p.var p.value (decided_present (present s.engine) pick p turn.decided)).0
      ]);
      negated = λ a q m named. subst (λ d. Has d q.var q.value) (sym ei) (elim (with_posted_cases (decision_of p) s.engine.active a (subst (λ (z : EngineState). Contains z.active a) turn.posts.after m)) [
        | inl e ↦ absurd (not_negation p.var q (ap (λ (b : Active). b.cid) e ∙ named))
        | inr k ↦ declared.negated a q k named
      ]);
    }

pub undoes_declared : (s : SearchState) (gone : Pair) (conflict : List Cid) (t : SearchState) → Undoes s gone conflict t → HasDeclared s → HasDeclared t
undoes_declared s gone conflict t turn declared =
    let latest = turn.latest in
    let ei : t.engine.initial ≡ s.engine.initial = ap (λ (z : EngineState). z.initial) turn.posts.after ∙ ap (λ (z : EngineState). z.initial) turn.withdraws.after in
    record {
      decided = λ q m. subst (λ d. Has d q.var q.value) (sym ei)
          (declared.decided q (subst (λ l. Contains l q) (sym latest.are) (others_taken latest.earlier latest.later gone q (subst (λ l. Contains l q) latest.others m))));
      negated = λ a q m named. subst (λ d. Has d q.var q.value) (sym ei) (elim (with_posted_cases (negation_of gone _) turn.middle.active a (subst (λ (z : EngineState). Contains z.active a) turn.posts.after m)) [
        | inl e ↦ subst (λ (z : Pair). Has s.engine.initial z.var z.value) (negation_same gone q (ap (λ (b : Active). b.cid) e ∙ named))
            (declared.decided gone (subst (λ l. Contains l gone) (sym latest.are) (Contains-append_right latest.earlier (gone ∷ latest.later) gone (member_here gone latest.later))))
        | inr k ↦ declared.negated a q (without_cids_member (gone_with s.engine.active (Decide gone.var)) s.engine.active a (subst (λ (z : EngineState). Contains z.active a) turn.withdraws.after k)).0 named
      ]);
    }

pub settles_declared : (s t : SearchState) → t.engine.active ≡ s.engine.active → t.engine.initial ≡ s.engine.initial → t.decisions ≡ s.decisions → HasDeclared s → HasDeclared t
settles_declared s t e ei f declared = record {
  decided = λ p m. subst (λ d. Has d p.var p.value) (sym ei) (declared.decided p (subst (λ l. Contains l p) f m));
  negated = λ a p m named. subst (λ d. Has d p.var p.value) (sym ei) (declared.negated a p (subst (λ l. Contains l a) e m) named);
}
