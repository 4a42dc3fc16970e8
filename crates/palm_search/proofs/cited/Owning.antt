-- Constraints that are a search's own come and go: what stays of the state before them.
use Rattle.std.proofs.Common.{◌≡◌, ℕ, ◌<◌, None, Bool, true, false, not, List, filter, length, Contains, All, ◌⊎◌, inl, inr, refl, sym, ap, ◌∙◌, subst}
use Rattle.std.proofs.lemmas.Bool.{cases_Bool, false≢true}
use Rattle.std.proofs.lemmas.List.Elements.{All-contains}
use Rattle.palm_base.specs.declared.terms.Cid.{Cid}
use Rattle.palm_base.specs.declared.terms.Pair.{Pair}
use Rattle.palm_base.specs.declared.terms.Cid.TheVariants.{Decide, Not, User}
use Rattle.palm_base.proofs.cited.Members.{member_map, member_unmap, member_filter, filter_member}
use Rattle.palm_model.specs.Closure.{IsSolution}
use Rattle.palm_model.specs.Domains.{Assignment, Has}
use Rattle.palm_model.specs.Log.{Active, IsActive, cons_of}
use Rattle.palm_model.specs.State.{EngineState, IsValid, IsJustifier, is_user, decision_of, negation_of}
use Rattle.palm_model.specs.Event.{Posts, WithdrawsAll, Step, gone_with}
use Rattle.palm_model.specs.Event.Event.{Withdraw}
use Rattle.palm_model.specs.Event.Step.{Happens}
use Rattle.palm_events.specs.Along.{IsStill, IsNew, AreNew, KeepsJustifiers, KeepsAll, IsFiltering}
use Rattle.palm_events.specs.Reasons.{ReasonsAreRight}
use Rattle.palm_events.proofs.cited.Names.{single}
use Rattle.palm_events.proofs.cited.States.{with_posted_cases, member_with_posted, without_cids_member, member_without_cids, held_not_justifier, gone_justifiers}
use Rattle.palm_events.proofs.cited.Valid.{posts_valid, withdraws_all_valid}
use Rattle.palm_events.proofs.cited.Undone.{active_same, Carries, carries_none, carries_posted, carries_withdrawn, gone_later, run_carries, carried_log}
use Rattle.palm_engine.specs.Settling.{Filters}
use Rattle.palm_engine.proofs.cited.Settled.{settling_filters, filters_valid}
use Rattle.palm_search.specs.declared.turn.Turn.{Turn}
use Rattle.palm_search.specs.declared.turn.Turn.TheVariants.{Decide as TurnDecide, Undo as TurnUndo}
use Rattle.palm_search.specs.Turns.{SearchState, Takes, Undoes, SettlesAfter}
use Rattle.palm_search.specs.Search.{of_search, own_cids}
use Rattle.palm_search.specs.Kept.{HasNone}
use Rattle.palm_search.proofs.cited.Deciding.{justifier_stays}
use Rattle.palm_search.proofs.cited.Keeping.{user_not_decision}

-- ---- what is a search's own

-- at least its decisions and negations are
abbrev pub OwnsSearch : (Cid → Bool) → Type 0
OwnsSearch own = (c : Cid) → is_user c ≡ false → own c ≡ true

pub search_owns : OwnsSearch of_search
search_owns c f = ap not f

pub not_own_user : (own : Cid → Bool) → OwnsSearch own → (c : Cid) → own c ≡ false → is_user c ≡ true
not_own_user own owns c f = elim (cases_Bool (is_user c)) [
  | inl t ↦ t
  | inr u ↦ absurd (false≢true (sym f ∙ owns c u))
]

pub own_new : (own : Cid → Bool) (s : EngineState) → HasNone own s → (c : Cid) → own c ≡ true → IsNew s c
own_new own s none c t is = false≢true (sym (subst (λ d. own d ≡ false) is.named (none is.owner is.posted)) ∙ t)

-- what is no user is new
pub others_new : (own : Cid → Bool) (s : EngineState) → OwnsSearch own → HasNone own s → (gone : List Cid) → ((c : Cid) → Contains gone c → is_user c ≡ true → ⊥) → AreNew s gone
others_new own s owns none gone others c m is = elim (cases_Bool (is_user c)) [
  | inl t ↦ others c m t
  | inr f ↦ own_new own s none c (owns c f) is
]

pub own_member : (own : Cid → Bool) (active : List Active) (c : Cid) → Contains (own_cids own active) c → own c ≡ true
own_member own active c m =
    let r = member_unmap (λ (a : Active). a.cid) (filter (λ a. own a.cid) active) c m in
    subst (λ d. own d ≡ true) r.2 (filter_member (λ (a : Active). own a.cid) active r.0 r.1).1

pub member_own : (own : Cid → Bool) (active : List Active) (a : Active) → Contains active a → own a.cid ≡ true → Contains (own_cids own active) a.cid
member_own own active a m t = member_map (λ (b : Active). b.cid) (filter (λ b. own b.cid) active) a (member_filter (λ (b : Active). own b.cid) active a m t)

pub stays_other : (own : Cid → Bool) (active : List Active) (a : Active) → Contains active a → (Contains (own_cids own active) a.cid → ⊥) → own a.cid ≡ false
stays_other own active a m n = elim (cases_Bool (own a.cid)) [
  | inl t ↦ absurd (n (member_own own active a m t))
  | inr f ↦ f
]

pub user_justifier : (c : Cid) → is_user c ≡ true → IsJustifier c
user_justifier (Decide x) t = tt
user_justifier (Not p) t = false≢true t
user_justifier (User n) t = tt

pub closing_keeps : (own : Cid → Bool) → OwnsSearch own → (m : EngineState) → IsValid m → KeepsJustifiers m.active (own_cids own m.active)
closing_keeps own owns m valid a k stays c held justifier gone =
    held_not_justifier (length m.initial) m.active a c (valid.formed a k) held (user_justifier a.cid (not_own_user own owns a.cid (stays_other own m.active a k stays)))

-- what goes with a decision is no user
pub gone_no_user : (m : EngineState) → IsValid m → (x : ℕ) (c : Cid) → Contains (gone_with m.active (Decide x)) c → is_user c ≡ true → ⊥
gone_no_user m valid x c k user = justifier_stays (length m.initial) m.active (Decide x) valid.formed c (user_justifier c user) (user_not_decision c x user) k

-- ---- what is gained on the state before

-- what was gained on the state s: the engine is valid, and all that came later is the search's own
pub record Gains (own : Cid → Bool) (s m : EngineState) : Type 0 where
  pub valid : IsValid m
  pub carries : Carries s m
  pub initial : m.initial ≡ s.initial
  pub later : (a : Active) → Contains m.active a → IsActive s.active a.cid ⊎ (own a.cid ≡ true)

pub gains_none : (own : Cid → Bool) (s : EngineState) → IsValid s → Gains own s s
gains_none own s valid = record { valid = valid; carries = carries_none s; initial = refl; later = λ a m. inl (record { owner = a; posted = m; named = refl }) }

pub gains_posted : (own : Cid → Bool) (s m : EngineState) (a : Active) (t : EngineState) → own a.cid ≡ true → Posts m a t → Gains own s m → Gains own s t
gains_posted own s m a t is posts gains = record {
  valid = posts_valid m t a posts gains.valid;
  carries = carries_posted s m a t posts gains.carries;
  initial = ap (λ (z : EngineState). z.initial) posts.after ∙ gains.initial;
  later = λ b k. elim (with_posted_cases a m.active b (subst (λ (z : EngineState). Contains z.active b) posts.after k)) [
    | inl e ↦ inr (subst (λ (c : Active). own c.cid ≡ true) e is)
    | inr j ↦ gains.later b j
  ];
}

pub gains_withdrawn : (own : Cid → Bool) (s m : EngineState) (gone : List Cid) (t : EngineState) → KeepsJustifiers m.active gone → AreNew s gone → WithdrawsAll m gone t → IsValid s → Gains own s m → Gains own s t
gains_withdrawn own s m gone t keeps later withdraws valid gains = record {
  valid = withdraws_all_valid m t gone keeps withdraws gains.valid;
  carries = carries_withdrawn s m gone t withdraws later valid gains.valid gains.carries;
  initial = ap (λ (z : EngineState). z.initial) withdraws.after ∙ gains.initial;
  later = λ b k. gains.later b (without_cids_member gone m.active b (subst (λ (z : EngineState). Contains z.active b) withdraws.after k)).0;
}

pub gains_filtered : ReasonsAreRight → (own : Cid → Bool) (s m t : EngineState) → Filters m t → IsValid s → IsStill s → Gains own s m → Gains own s t
gains_filtered right own s m t filters valid still gains = record {
  valid = filters_valid right m t filters gains.valid;
  carries = run_carries right s m filters.steps t filters.run valid still gains.valid (withdraws_none s filters.steps filters.filtering) gains.carries;
  initial = filters.initial ∙ gains.initial;
  later = λ b k. gains.later b (subst (λ l. Contains l b) filters.active k);
}
  where
    withdraws_none : (s : EngineState) (steps : List Step) → All IsFiltering steps → KeepsAll s steps
    withdraws_none s steps filtering cid m = absurd (All-contains IsFiltering steps (Happens (Withdraw cid)) filtering m)

-- in an undoing, before the negation is posted
pub gains_undone : (own : Cid → Bool) (s : EngineState) (m : SearchState) (gone : Pair) (conflict : List Cid) (t : SearchState) (undoes : Undoes m gone conflict t) → OwnsSearch own → HasNone own s → IsValid s → Gains own s m.engine → Gains own s undoes.middle
gains_undone own s m gone conflict t undoes owns none valid gains =
    let cid : Cid = Decide gone.var in
    gains_withdrawn own s m.engine (gone_with m.engine.active cid) undoes.middle
    (gone_justifiers (length m.engine.initial) m.engine.active cid gains.valid.formed) (gone_later s m.engine cid gains.carries valid gains.valid (own_new own s none cid (owns cid refl))) undoes.withdraws valid gains

pub gains_takes : (guided : Bool) (own : Cid → Bool) (s : EngineState) (m : SearchState) (turn : Turn) (t : SearchState) → OwnsSearch own → HasNone own s → IsValid s → Takes guided m turn t → Gains own s m.engine → Gains own s t.engine
gains_takes guided own s m (TurnDecide pair pick) t owns none valid takes gains = gains_posted own s m.engine (decision_of pair) t.engine (owns (Decide pair.var) refl) takes.posts gains
gains_takes guided own s m (TurnUndo gone conflict) t owns none valid takes gains =
    gains_posted own s takes.middle (negation_of gone _) t.engine (owns (Not gone) refl) takes.posts (gains_undone own s m gone conflict t takes owns none valid gains)

pub gains_settles : ReasonsAreRight → (ordered : Bool) (own : Cid → Bool) (s : EngineState) (m t : SearchState) → SettlesAfter ordered m t → IsValid s → IsStill s → Gains own s m.engine → Gains own s t.engine
gains_settles right ordered own s m t settles valid still gains =
    gains_filtered right own s m.engine t.engine (settling_filters None m.engine settles.revisions t.engine settles.settles) valid still gains

-- after the closing the constraints are those from before
closed_alone : (own : Cid → Bool) (s m t : EngineState) → WithdrawsAll m (own_cids own m.active) t → Gains own s m → (a : Active) → Contains t.active a → IsActive s.active a.cid
closed_alone own s m t withdraws gains a k =
    let r = without_cids_member (own_cids own m.active) m.active a (subst (λ (z : EngineState). Contains z.active a) withdraws.after k) in
    elim (gains.later a r.0) [
      | inl is ↦ is
      | inr t' ↦ absurd (false≢true (sym (stays_other own m.active a r.0 r.1) ∙ t'))
    ]

-- the search's own constraints of m go, and filtering may follow: the log is the one from before
pub closing_leaves : ReasonsAreRight → (own : Cid → Bool) (s m n t : EngineState) → OwnsSearch own → HasNone own s → IsValid s → IsStill s → Gains own s m → WithdrawsAll m (own_cids own m.active) n → Filters n t → t.log ≡ s.log
closing_leaves right own s m n t owns none valid still gains withdraws filters =
    let closed = gains_withdrawn own s m (own_cids own m.active) n (closing_keeps own owns m gains.valid)
    (λ c k. own_new own s none c (own_member own m.active c k)) withdraws valid gains in
    let last = gains_filtered right own s n t filters valid still closed in
    carried_log s t last.valid last.carries (λ a k. closed_alone own s m n withdraws gains a (subst (λ l. Contains l a) filters.active k))

-- ---- what is kept of the state before, whatever was pending

-- the constraints of s, and besides them only the search's own
pub record Remembers (own : Cid → Bool) (s m : EngineState) : Type 0 where
  pub initial : m.initial ≡ s.initial
  pub active : (a : Active) → Contains s.active a → Contains m.active a
  pub others : (a : Active) → Contains m.active a → own a.cid ≡ false → IsActive s.active a.cid

pub remembers_none : (own : Cid → Bool) (s : EngineState) → Remembers own s s
remembers_none own s = record { initial = refl; active = λ a m. m; others = λ a m f. record { owner = a; posted = m; named = refl } }

pub remembers_posted : (own : Cid → Bool) (s m : EngineState) (a : Active) (t : EngineState) → own a.cid ≡ true → Posts m a t → Remembers own s m → Remembers own s t
remembers_posted own s m a t is posts old = record {
  initial = ap (λ (z : EngineState). z.initial) posts.after ∙ old.initial;
  active = λ b k. subst (λ (z : EngineState). Contains z.active b) (sym posts.after) (member_with_posted a m.active b posts.inactive (old.active b k));
  others = λ b k other. elim (with_posted_cases a m.active b (subst (λ (z : EngineState). Contains z.active b) posts.after k)) [
    | inl e ↦ absurd (false≢true (sym other ∙ subst (λ (c : Active). own c.cid ≡ true) e is))
    | inr j ↦ old.others b j other
  ];
}

pub remembers_withdrawn : (own : Cid → Bool) (s m : EngineState) (gone : List Cid) (t : EngineState) → AreNew s gone → WithdrawsAll m gone t → Remembers own s m → Remembers own s t
remembers_withdrawn own s m gone t later withdraws old = record {
  initial = ap (λ (z : EngineState). z.initial) withdraws.after ∙ old.initial;
  active = λ b k. subst (λ (z : EngineState). Contains z.active b) (sym withdraws.after)
      (member_without_cids gone m.active b (old.active b k) (λ j. later b.cid j (record { owner = b; posted = k; named = refl })));
  others = λ b k other. old.others b (without_cids_member gone m.active b (subst (λ (z : EngineState). Contains z.active b) withdraws.after k)).0 other;
}

pub remembers_filtered : (own : Cid → Bool) (s m t : EngineState) → Filters m t → Remembers own s m → Remembers own s t
remembers_filtered own s m t filters old = record {
  initial = filters.initial ∙ old.initial;
  active = λ b k. subst (λ l. Contains l b) (sym filters.active) (old.active b k);
  others = λ b k other. old.others b (subst (λ l. Contains l b) filters.active k) other;
}

pub remembers_undone : (own : Cid → Bool) (s : EngineState) (m : SearchState) (gone : Pair) (conflict : List Cid) (t : SearchState) (undoes : Undoes m gone conflict t) → OwnsSearch own → HasNone own s → IsValid m.engine → Remembers own s m.engine → Remembers own s undoes.middle
remembers_undone own s m gone conflict t undoes owns none valid old =
    let cids = gone_with m.engine.active (Decide gone.var) in
    remembers_withdrawn own s m.engine cids undoes.middle (others_new own s owns none cids (gone_no_user m.engine valid gone.var)) undoes.withdraws old

pub remembers_takes : (guided : Bool) (own : Cid → Bool) (s : EngineState) (m : SearchState) (turn : Turn) (t : SearchState) → OwnsSearch own → HasNone own s → IsValid m.engine → Takes guided m turn t → Remembers own s m.engine → Remembers own s t.engine
remembers_takes guided own s m (TurnDecide pair pick) t owns none valid takes old = remembers_posted own s m.engine (decision_of pair) t.engine (owns (Decide pair.var) refl) takes.posts old
remembers_takes guided own s m (TurnUndo gone conflict) t owns none valid takes old =
    remembers_posted own s takes.middle (negation_of gone _) t.engine (owns (Not gone) refl) takes.posts (remembers_undone own s m gone conflict t takes owns none valid old)

pub remembers_settles : (ordered : Bool) (own : Cid → Bool) (s : EngineState) (m t : SearchState) → SettlesAfter ordered m t → Remembers own s m.engine → Remembers own s t.engine
remembers_settles ordered own s m t settles old = remembers_filtered own s m.engine t.engine (settling_filters None m.engine settles.revisions t.engine settles.settles) old

-- what is not the search's own is from before
pub other_before : (own : Cid → Bool) (s m : EngineState) → IsValid m → Remembers own s m → (a : Active) → Contains m.active a → own a.cid ≡ false → Contains s.active a
other_before own s m valid old a k other =
    let is = old.others a k other in
    subst (λ b. Contains s.active b) (single m.active valid.rising is.owner a (old.active is.owner is.posted) k is.named) is.posted

-- what satisfies all constraints of m satisfies those of s
pub solves_before : (own : Cid → Bool) (s m : EngineState) (b : Assignment) → Remembers own s m → IsSolution m.initial (Contains (cons_of m.active)) b → IsSolution s.initial (Contains (cons_of s.active)) b
solves_before own s m b old solution = record {
  within = subst (λ d. (x : ℕ) → x < length d → Has d x (b x)) old.initial solution.within;
  satisfies = λ c k.
      let r = member_unmap (λ (a : Active). a.con) s.active c k in
      solution.satisfies c (subst (λ d. Contains (cons_of m.active) d) r.2 (member_map (λ (a : Active). a.con) m.active r.0 (old.active r.0 r.1)));
}

-- the constraints and the declared values are those from before
pub record Returns (s t : EngineState) : Type 0 where
  pub valid : IsValid t
  pub active : t.active ≡ s.active
  pub initial : t.initial ≡ s.initial

pub closing_returns : ReasonsAreRight → (own : Cid → Bool) (s m n t : EngineState) → OwnsSearch own → HasNone own s → IsValid s → IsValid m → Remembers own s m → WithdrawsAll m (own_cids own m.active) n → Filters n t → Returns s t
closing_returns right own s m n t owns none valid valid_m old withdraws filters =
    let gone = own_cids own m.active in
    let last = remembers_filtered own s n t filters (remembers_withdrawn own s m gone n (λ c k. own_new own s none c (own_member own m.active c k)) withdraws old) in
    let valid_t = filters_valid right n t filters (withdraws_all_valid m n gone (closing_keeps own owns m valid_m) withdraws valid_m) in
    let back : (a : Active) → Contains t.active a → Contains s.active a = λ a k.
    let r = without_cids_member gone m.active a (subst (λ (z : EngineState). Contains z.active a) withdraws.after (subst (λ l. Contains l a) filters.active k)) in
    other_before own s m valid_m old a r.0 (stays_other own m.active a r.0 r.1) in
    record { valid = valid_t; active = active_same t.active s.active valid_t.rising valid.rising back last.active; initial = last.initial }
