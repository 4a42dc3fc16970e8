-- What an engine keeps holds after a removal, a withdrawal, a posting and a declaration.
use Rattle.std.proofs.Common.{◌≡◌, ℕ, ◌<◌, true, false, not, List, [], ◌∷◌, ◌++◌, length, Contains, Option, None, Some, ℤ, All, ◌+◌, ◌⊎◌, ◌↔◌, inl, inr, refl, sym, ap, ◌∙◌, subst, arith, length-append}
use Rattle.std.specs.List.{list_any}
use Rattle.std.proofs.lemmas.Bool.{or_cases, false≢true, cases_lt}
use Rattle.std.specs.Prelude.{slice_set}
use Rattle.std.proofs.lemmas.List.{get_or_push, length-map, map-append}
use Rattle.std.proofs.lemmas.List.Elements.{All-append, All-cons, All-nil, Contains-push_cases}
use Rattle.palm_base.specs.declared.terms.Pair.{Pair}
use Rattle.palm_base.specs.declared.terms.Cid.{Cid}
use Rattle.palm_base.proofs.cited.Members.{member_nil, member_here, member_there, member_cases, member_same, member_single, member_filter, all_members, nat_known}
use Rattle.palm_domain.specs.Rows.{Row, IsPresent, initial_of, present_of, values_without}
use Rattle.palm_model.specs.Domains.{Domains, AllAscend, Ascends, Has, IsInside, is_among, values_of, without}
use Rattle.palm_model.specs.Constraint.{scope}
use Rattle.palm_base.specs.Order.{Rises}
use Rattle.palm_model.specs.Log.{Active, IsActive, Removal, cids_of, is_named, log_pairs}
use Rattle.palm_model.specs.State.{EngineState, FitsCid, IsEmptyAt, is_awake, is_over, present, woken}
use Rattle.palm_model.specs.Event.{Declares, Posts, WithdrawsAll, with_posted, without_cids, posted, vars_of, lost_pairs}
use Rattle.palm_model.proofs.cited.Narrowing.{has_declared}
use Rattle.palm_model.proofs.cited.Supports.{any_member, not_true}
use Rattle.palm_model.proofs.cited.Ascending.{domains_same}
use Rattle.palm_model.proofs.cited.Without.{among_member, ascend_without, has_without, length_without, pair_of, without_has}
use Rattle.palm_events.proofs.cited.Agreeing.{has_more, more_has, values_of_more}
use Rattle.palm_base.proofs.cited.CidOrder.{rising_same}
use Rattle.palm_events.proofs.cited.Names.{named_member}
use Rattle.palm_events.proofs.cited.Scoped.{posts_scoped}
use Rattle.palm_events.proofs.cited.States.{over_member, awake_named, awake_over, woken_active, member_woken, woken_rises, without_cid_member, member_without_cid, without_cids_member, member_without_cids, without_cids_rises, with_posted_rises, with_posted_here, member_with_posted}
use Rattle.palm_events.proofs.cited.Valid.{active_declared, declares_valid, left_grows, posts_valid}
use Rattle.palm_explain.specs.Explanations.{Explanations, IsSpanned, LacksExactly}
use Rattle.palm_filter.specs.declared.heed.Heed.{Heed}
use Rattle.palm_agenda.specs.Agenda.{Waiting, IsFormed, IsOver, marked_whole, with_connected, without_connected}
use Rattle.palm_engine.specs.declared.filtering.Filtering.{Filtering}
use Rattle.palm_engine.specs.Kept.{AreConnected, AreHeeded, AreMarked, IsEmptyKept, IsHeededAs, IsInStep, IsEngine, state_of}
use Rattle.palm_engine.specs.Changed.{HasLost, NotesGain, PutsBack, TakesOut, widened_by}
use Rattle.palm_engine.proofs.Scopes.{active_over, bare_widened, connected_is_active, connected_stays, heeded_stays, over_active, with_heeded, with_is_connected, without_heeded, without_is_connected}
use Rattle.palm_engine.proofs.Taking.{without_push}
use Rattle.palm_engine.proofs.Marking.{agreeing_marked, restored_marked, posted_marked}

-- ---- empty variables

has_filled : (vs : List ℤ) (v : ℤ) → Contains vs v → 0 < length vs
has_filled [] v m = absurd (member_nil v m)
has_filled (w ∷ vs) v m = omega arith

filled_has : (vs : List ℤ) → 0 < length vs → (v : ℤ) × Contains vs v
filled_has [] lt = absurd (omega arith)
filled_has (w ∷ vs) lt = (w, member_here w vs)

pub empty_or_filled : (vs : List ℤ) → (vs ≡ []) ⊎ (0 < length vs)
empty_or_filled [] = inl refl
empty_or_filled (w ∷ vs) = inr (omega arith)

empty_not_filled : (vs : List ℤ) → vs ≡ [] → 0 < length vs → ⊥
empty_not_filled vs e lt = absurd (omega (arith, ap (λ (ws : List ℤ). length ws) e, lt))

pub present_long : (rows : List Row) → length (present_of rows) ≡ length (initial_of rows)
present_long rows = length-map rows (λ (r : Row). r.present) ∙ sym (length-map rows (λ (r : Row). r.initial))

-- a variable that is empty in e is empty in d, where e has more
was_empty : (d e : Domains) (y : ℕ) → length d ≡ length e → IsInside d e → IsEmptyAt e y → IsEmptyAt d y
was_empty d e y long inside is = record {
  exists = subst (λ n. y < n) (sym long) is.exists;
  empty = elim (empty_or_filled (values_of d y)) [
    | inl none ↦ none
    | inr some ↦ let r = filled_has (values_of d y) some in absurd (empty_not_filled (values_of e y) is.empty (has_filled (values_of e y) r.0 (inside y r.0 r.1)))
  ];
}

gain_empty : (before after : Option ℕ) (d e : Domains) → length d ≡ length e → IsInside d e → IsEmptyKept d before → NotesGain before after e → IsEmptyKept e after
gain_empty None after d e long inside kept notes =
    subst (IsEmptyKept e) (sym notes) (λ y within.
    let r = filled_has (values_of d y) (kept y (subst (λ n. y < n) (sym long) within)) in has_filled (values_of e y) r.0 (inside y r.0 r.1))
gain_empty (Some x) after d e long inside kept notes = elim (empty_or_filled (values_of e x)) [
  | inl none ↦ subst (IsEmptyKept e) (sym (notes.0 none)) (
    record { exists = subst (λ n. x < n) long kept.0.exists; empty = none },
    λ y is. kept.1 y (was_empty d e y long inside is),
  )
  | inr some ↦ subst (IsEmptyKept e) (sym (notes.1 some)) (λ y within. elim (empty_or_filled (values_of e y)) [
    | inr more ↦ more
    | inl gone ↦
        let same = kept.1 y (was_empty d e y long inside (record { exists = within; empty = gone })) in
        absurd (empty_not_filled (values_of e x) (subst (λ z. values_of e z ≡ []) same gone) some)
  ])
]

-- ---- a removal

-- a removal that is entered, taken out of the domains and told to the agenda
pub took_out : (f : Filtering) (log : Explanations) (g : Filtering) (p : Pair) (by : Cid) (reasons : List Pair)
    → LacksExactly f.store (log_pairs f.log.log) → IsPresent f.store p.var p.value
    → log ≡ record (f.log) { log = f.log.log ++ record { pair = p; by = by; reasons = reasons } ∷ [] }
    → HasLost (record f { log = log }) p g → TakesOut f p by reasons g
took_out f log g p by reasons lacks has logged lost =
    let pairs = log_pairs f.log.log in
    let last : Removal = record { pair = p; by = by; reasons = reasons } in
    let entered : g.log ≡ record (f.log) { log = f.log.log ++ last ∷ [] } = lost.log ∙ logged in
    let same : log_pairs g.log.log ≡ pairs ++ p ∷ [] = ap (λ (e : Explanations). log_pairs e.log) entered ∙ map-append (λ (r : Removal). r.pair) f.log.log (last ∷ []) in
    let had : Has (without (initial_of f.store) pairs) p.var p.value = subst (λ d. Has d p.var p.value) lacks.present has in
    let declared : Has (initial_of f.store) p.var p.value = (without_has (initial_of f.store) pairs p.var p.value had).0 in
    record {
      initial = lost.initial;
      loses = lost.loses;
      removed = record {
        declared = λ q m. subst (λ d. Has d q.var q.value) (sym lost.initial) (elim (Contains-push_cases pairs p q (subst (λ ps. Contains ps q) same m)) [
          | inl k ↦ lacks.declared q k
          | inr e ↦ subst (λ (r : Pair). Has (initial_of f.store) r.var r.value) e declared
        ]);
        present = lost.present
            ∙ ap (λ d. slice_set d p.var (values_without p.value (values_of d p.var))) lacks.present
            ∙ sym (without_push (initial_of f.store) pairs p (has_declared (initial_of f.store) p.var p.value declared))
            ∙ ap (λ ps. without (initial_of f.store) ps) (sym same) ∙ ap (λ d. without d (log_pairs g.log.log)) (sym lost.initial);
      };
      log = ap (λ (e : Explanations). e.log) entered;
      formed = lost.formed;
      loss = lost.loss;
      told = lost.told;
      connected = lost.connected;
      pending = lost.pending;
      empty = lost.empty;
      checks = lost.checks;
    }

-- ---- a withdrawal

-- a value that is not lost from the log is present as it was
unlost_same : (s : EngineState) (left : List Removal) (x : ℕ) (v : ℤ) → (Contains (lost_pairs s.log left) (pair_of x v) → ⊥) → Has (without s.initial (log_pairs left)) x v → Has (present s) x v
unlost_same s left x v untouched has =
    let r = without_has s.initial (log_pairs left) x v has in
    has_without s.initial (log_pairs s.log) x v r.0 (λ m. untouched
    (member_filter (λ p. not (is_among (log_pairs left) p.var p.value)) (log_pairs s.log) (pair_of x v) m
    (not_true (is_among (log_pairs left) x v) (λ t. r.1 (among_member (log_pairs left) x v t)))))

pub put_back_kept : (f g : Filtering) (cid : Cid) (active : List Active) → PutsBack f cid g → IsInStep f active → IsInStep g (without_cids (cid ∷ []) active)
put_back_kept f g cid active puts kept =
    let s = state_of f active in
    let now : present_of f.store ≡ present s = kept.removed.present in
    let then : present_of g.store ≡ without s.initial (log_pairs g.log.log) = puts.removed.present ∙ ap (λ d. without d (log_pairs g.log.log)) puts.initial in
    let grows : IsInside (present_of f.store) (present_of g.store) = λ x v has.
    subst (λ d. Has d x v) (sym then) (left_grows s (cid ∷ []) g.log.log puts.loses x v (subst (λ d. Has d x v) now has)) in
    let only : (z : ℕ) (u : ℤ) → (IsSpanned g.log.restored (pair_of z u) → ⊥) → Has (present_of g.store) z u → Has (present_of f.store) z u = λ z u no has.
    subst (λ d. Has d z u) (sym now) (unlost_same s g.log.log z u (λ m. no (puts.within (pair_of z u) m)) (subst (λ d. Has d z u) then has)) in
    let long : length (present_of f.store) ≡ length (present_of g.store) = present_long f.store ∙ ap (λ (d : Domains). length d) (sym puts.initial) ∙ sym (present_long g.store) in
    let without = without_is_connected active f.agenda.connected cid kept.connected in
    record {
      removed = puts.removed;
      formed = puts.formed;
      connected = subst (AreConnected (without_cids (cid ∷ []) active)) (sym puts.connected)
          (connected_stays (without_cids (cid ∷ []) active) (without_connected cid f.agenda.connected) (widened_by g.log.restored) (bare_widened g.log.restored) without);
      heeded = subst (AreHeeded (without_cids (cid ∷ []) active)) (sym puts.connected)
          (heeded_stays (without_cids (cid ∷ []) active) (without_connected cid f.agenda.connected) (widened_by g.log.restored) (bare_widened g.log.restored)
          (without_heeded active f.agenda.connected cid kept.heeded));
      marked = subst (AreMarked (present_of g.store) (without_cids (cid ∷ []) active)) (sym puts.connected)
          (restored_marked active f.agenda.connected (present_of f.store) (present_of g.store) cid g.log.restored grows only kept.marked);
      empty = gain_empty f.empty g.empty (present_of f.store) (present_of g.store) long grows kept.empty puts.empty;
    }

pub put_back_withdraws : (f g : Filtering) (cid : Cid) (active : List Active) → Rises (cids_of active) → PutsBack f cid g → IsInStep f active
    → WithdrawsAll (state_of f active) (cid ∷ []) (state_of g (without_cids (cid ∷ []) active))
put_back_withdraws f g cid active rises puts kept =
    let left = without_cids (cid ∷ []) active in
    let vars = vars_of (lost_pairs f.log.log g.log.log) in
    let after_rises : Rises (cids_of left) = without_cids_rises (cid ∷ []) active rises in
    let connected = without_is_connected active f.agenda.connected cid kept.connected in
    let same : g.agenda.pending ≡ woken left f.agenda.pending vars =
    rising_same g.agenda.pending (woken left f.agenda.pending vars) puts.formed.pending_rising (woken_rises left f.agenda.pending vars after_rises)
    (λ c m. elim ((puts.pending c).0 m) [
      | inl k ↦
          let r = without_cid_member cid f.agenda.pending c k in
          let is = connected_is_active active f.agenda.connected kept.connected c (kept.formed.pending_connected c r.0) in
          let stays = member_without_cids (cid ∷ []) active is.owner is.posted (λ n. r.1 (sym (is.named) ∙ sym (single_cid cid is.owner.cid n))) in
          subst (Contains (woken left f.agenda.pending vars)) is.named
          (member_woken left f.agenda.pending vars is.owner stays (awake_named f.agenda.pending vars is.owner (member_same f.agenda.pending c is.owner.cid (sym is.named) r.0)))
      | inr k ↦
          let a = over_active left (without_connected cid f.agenda.connected) connected k.0 c k.2 in
          subst (Contains (woken left f.agenda.pending vars)) a.2
          (member_woken left f.agenda.pending vars a.0 a.1 (awake_over f.agenda.pending vars a.0 k.0 ((puts.restored k.0).0 k.1) a.3))
    ])
    (λ c m.
    let r = woken_active left f.agenda.pending vars c m in
    let stays = without_cids_member (cid ∷ []) active r.0 r.1 in
    (puts.pending c).1 (elim (or_cases (is_named f.agenda.pending r.0.cid) (list_any (λ x. is_over r.0.con x) vars) r.3) [
      | inl t ↦ inl (member_without_cid cid f.agenda.pending c (member_same f.agenda.pending r.0.cid c r.2 (named_member f.agenda.pending r.0.cid t))
          (λ e. stays.1 (member_same (cid ∷ []) cid r.0.cid (sym (r.2 ∙ e)) (member_here cid []))))
      | inr t ↦
          let x = any_member (λ y. is_over r.0.con y) vars t in
          inr (x.0, (puts.restored x.0).1 x.1, subst (λ d. IsOver (without_connected cid f.agenda.connected) x.0 d) r.2 (active_over left (without_connected cid f.agenda.connected) connected x.0 r.0 r.1 (over_member r.0.con x.0 x.2)))
    ])) in
    record {
      left = g.log.log;
      loses = puts.loses;
      after = λ i. record { initial = puts.initial i; active = left; log = g.log.log; pending = same i };
    }
  where
    single_cid : (c d : Cid) → Contains (c ∷ []) d → c ≡ d
    single_cid c d m = elim (member_cases c [] d m) [ inl e ↦ e | inr k ↦ absurd (member_nil d k) ]

-- ---- a posting

pub posted_kept : (f : Filtering) (w : Waiting) (a : Active) (heeds : List Heed) (active : List Active) → (IsActive active a.cid → ⊥) → IsFormed w → IsHeededAs a heeds
    → w.connected ≡ with_connected (marked_whole a.cid (scope a.con) heeds) f.agenda.connected → IsInStep f active → IsInStep (record f { agenda = w }) (with_posted a active)
posted_kept f w a heeds active inactive formed fit connected kept = record {
  removed = kept.removed;
  formed = formed;
  connected = subst (AreConnected (with_posted a active)) (sym connected) (with_is_connected active f.agenda.connected a heeds kept.connected);
  heeded = subst (AreHeeded (with_posted a active)) (sym connected) (with_heeded active f.agenda.connected a heeds kept.connected inactive fit kept.heeded);
  marked = subst (AreMarked (present_of f.store) (with_posted a active)) (sym connected) (posted_marked active f.agenda.connected (present_of f.store) a heeds kept.connected inactive kept.marked);
  empty = kept.empty;
}

-- where no variable is restored, only what was pending is awake
awake_alone : (cids : List Cid) (a : Active) → is_awake cids [] a ≡ true → Contains cids a.cid
awake_alone cids a h = elim (or_cases (is_named cids a.cid) false h) [
  | inl t ↦ named_member cids a.cid t
  | inr f ↦ absurd (false≢true f)
]

pub posted_state : (f : Filtering) (w : Waiting) (a : Active) (active : List Active) → Rises (cids_of active) → (IsActive active a.cid → ⊥) → IsFormed w
    → ((c : Cid) → Contains w.pending c ↔ (Contains f.agenda.pending c ⊎ (c ≡ a.cid))) → IsInStep f active
    → state_of (record f { agenda = w }) (with_posted a active) ≡ posted (state_of f active) a
posted_state f w a active rises inactive formed pending kept =
    let more = with_posted a active in
    let cids = a.cid ∷ f.agenda.pending in
    let same : w.pending ≡ woken more cids [] =
    rising_same w.pending (woken more cids []) formed.pending_rising (woken_rises more cids [] (with_posted_rises a active rises))
    (λ c m. elim ((pending c).0 m) [
      | inl k ↦
          let is = connected_is_active active f.agenda.connected kept.connected c (kept.formed.pending_connected c k) in
          subst (Contains (woken more cids [])) is.named
          (member_woken more cids [] is.owner (member_with_posted a active is.owner inactive is.posted)
          (awake_named cids [] is.owner (member_there a.cid f.agenda.pending is.owner.cid (member_same f.agenda.pending c is.owner.cid (sym is.named) k))))
      | inr e ↦ subst (Contains (woken more cids [])) (sym e) (member_woken more cids [] a (with_posted_here a active) (awake_named cids [] a (member_here a.cid f.agenda.pending)))
    ])
    (λ c m.
    let r = woken_active more cids [] c m in
    (pending c).1 (elim (member_cases a.cid f.agenda.pending r.0.cid (awake_alone cids r.0 r.3)) [
      | inl e ↦ inr (sym (e ∙ r.2))
      | inr k ↦ inl (member_same f.agenda.pending r.0.cid c r.2 k)
    ])) in
    λ i. record { initial = initial_of f.store; active = more; log = f.log.log; pending = same i }

-- what a posting leaves, where it succeeded
pub record IsActivated (f : Filtering) (w : Waiting) (a : Active) (active after : List Active) : Type 0 where
  pub fits : FitsCid (length (initial_of f.store)) active a
  pub posted : after ≡ with_posted a active
  pub connected : (heeds : List Heed) × IsHeededAs a heeds × (w.connected ≡ with_connected (marked_whole a.cid (scope a.con) heeds) f.agenda.connected)
  pub pending : (c : Cid) → Contains w.pending c ↔ (Contains f.agenda.pending c ⊎ (c ≡ a.cid))
  pub formed : IsFormed w

pub activated_posts : (f : Filtering) (w : Waiting) (a : Active) (active after : List Active) → (IsActive active a.cid → ⊥) → IsActivated f w a active after → IsEngine f active
    → Posts (state_of f active) a (state_of (record f { agenda = w }) after)
activated_posts f w a active after inactive is engine = record {
  inactive = inactive;
  formed = is.fits;
  after = ap (state_of (record f { agenda = w })) is.posted ∙ posted_state f w a active engine.valid.rising inactive is.formed is.pending engine.kept;
}

pub activated_engine : (f : Filtering) (w : Waiting) (a : Active) (active after : List Active) → (IsActive active a.cid → ⊥) → IsActivated f w a active after → IsEngine f active
    → IsEngine (record f { agenda = w }) after
activated_engine f w a active after inactive is engine = record {
  kept = subst (IsInStep (record f { agenda = w })) (sym is.posted) (posted_kept f w a is.connected.0 active inactive is.formed is.connected.1 is.connected.2 engine.kept);
  valid = posts_valid (state_of f active) (state_of (record f { agenda = w }) after) a (activated_posts f w a active after inactive is engine) engine.valid;
  scoped = posts_scoped (state_of f active) (state_of (record f { agenda = w }) after) a (activated_posts f w a active after inactive is engine) engine.scoped;
}

pub unchanged_engine : (f : Filtering) (w : Waiting) (active after : List Active) → after ≡ active → w ≡ f.agenda → IsEngine f active → IsEngine (record f { agenda = w }) after
unchanged_engine f w active after same still engine =
    subst (IsEngine (record f { agenda = w })) (sym same) (subst (λ v. IsEngine (record f { agenda = v }) active) (sym still) engine)

-- ---- a declaration

pub declared_state : (f : Filtering) (store : List Row) (values : List ℤ) (active : List Active) → Ascends values → store ≡ f.store ++ record { initial = values; present = values } ∷ []
    → Declares (state_of f active) values (state_of (record f { store = store }) active)
declared_state f store values active ascends e = record {
  ascend = ascends;
  after = ap (λ (rows : List Row). record (state_of f active) { initial = initial_of rows }) e
      ∙ ap (λ d. record (state_of f active) { initial = d }) (map-append (λ (r : Row). r.initial) f.store (record { initial = values; present = values } ∷ []));
}

-- the last variable has its values
last_values : (d : Domains) (vs : List ℤ) → values_of (d ++ vs ∷ []) (length d) ≡ vs
last_values d vs = get_or_push d vs [] (length d) refl

pub declared_present : (d : Domains) (pairs : List Pair) (vs : List ℤ) → AllAscend d → Ascends vs → ((p : Pair) → Contains pairs p → Has d p.var p.value)
    → without d pairs ++ vs ∷ [] ≡ without (d ++ vs ∷ []) pairs
declared_present d pairs vs ascend ascends declared =
    let more = d ++ vs ∷ [] in
    let left = without d pairs ++ vs ∷ [] in
    let long : length (without d pairs) ≡ length d = length_without d pairs in
    let ascend_left : AllAscend left = All-append Ascends (without d pairs) (vs ∷ []) (ascend_without d pairs ascend) (All-cons Ascends vs [] ascends (All-nil Ascends)) in
    let ascend_more : AllAscend (without more pairs) = ascend_without more pairs (All-append Ascends d (vs ∷ []) ascend (All-cons Ascends vs [] ascends (All-nil Ascends))) in
    let lengths : length left ≡ length (without more pairs) = length-append (without d pairs) (vs ∷ []) ∙ ap (λ n. n + 1) long ∙ sym (length-append d (vs ∷ [])) ∙ sym (length_without more pairs) in
    domains_same left (without more pairs) ascend_left ascend_more lengths
    (λ x v has. elim (which x (length d) (subst (λ n. x < n + 1) long (subst (λ n. x < n) (length-append (without d pairs) (vs ∷ [])) (has_declared left x v has)))) [
      | inl lt ↦ has_more d vs pairs x v lt (subst (λ ws. Contains ws v) (values_of_more (without d pairs) vs x (subst (λ n. x < n) (sym long) lt)) has)
      | inr e ↦ has_without more pairs x v
          (subst (λ ws. Contains ws v) (sym (ap (values_of more) e ∙ last_values d vs)) (subst (λ ws. Contains ws v) (ap (values_of left) (e ∙ sym long) ∙ last_values (without d pairs) vs) has))
          (λ m. no_pair x v e m)
    ])
    (λ x v has. let r = without_has more pairs x v has in elim (which x (length d) (subst (λ n. x < n) (length-append d (vs ∷ [])) (has_declared more x v r.0))) [
      | inl lt ↦ subst (λ ws. Contains ws v) (sym (values_of_more (without d pairs) vs x (subst (λ n. x < n) (sym long) lt))) (more_has d vs pairs x v lt has)
      | inr e ↦ subst (λ ws. Contains ws v) (sym (ap (values_of left) (e ∙ sym long) ∙ last_values (without d pairs) vs)) (subst (λ ws. Contains ws v) (ap (values_of more) e ∙ last_values d vs) r.0)
    ])
  where
    which : (x n : ℕ) → x < n + 1 → (x < n) ⊎ (x ≡ n)
    which x n lt = elim (nat_known x n) [ inl e ↦ inr e | inr ne ↦ inl (below x n lt ne) ]
      where
        below : (x n : ℕ) → x < n + 1 → (x ≡ n → ⊥) → x < n
        below x n lt ne = elim (cases_lt x n) [ inl l ↦ l | inr ge ↦ absurd (ne (omega arith)) ]

    no_pair : (x : ℕ) (v : ℤ) → x ≡ length d → Contains pairs (pair_of x v) → ⊥
    no_pair x v e m = absurd (omega (arith, e, has_declared d x v (declared (pair_of x v) m)))

pub declared_engine : (f : Filtering) (store : List Row) (values : List ℤ) (active : List Active) → Ascends values → 0 < length values → store ≡ f.store ++ record { initial = values; present = values } ∷ []
    → IsEngine f active → IsEngine (record f { store = store }) active
declared_engine f store values active ascends filled e engine =
    let s = state_of f active in
    let t = state_of (record f { store = store }) active in
    let pairs = log_pairs f.log.log in
    let row : Row = record { initial = values; present = values } in
    let kept = engine.kept in
    let initial : initial_of store ≡ initial_of f.store ++ values ∷ [] = ap initial_of e ∙ map-append (λ (r : Row). r.initial) f.store (row ∷ []) in
    let now : present_of store ≡ present_of f.store ++ values ∷ [] = ap present_of e ∙ map-append (λ (r : Row). r.present) f.store (row ∷ []) in
    let was : present_of f.store ≡ without (initial_of f.store) pairs = kept.removed.present in
    let lacks : present_of store ≡ without (initial_of store) pairs =
    now ∙ ap (λ d. d ++ values ∷ []) was ∙ declared_present (initial_of f.store) pairs values engine.valid.ascend ascends kept.removed.declared ∙ ap (λ d. without d pairs) (sym initial) in
    let within : (a : Active) (z : ℕ) → Contains active a → Contains (scope a.con) z → z < length (present_of f.store) = λ a z m over.
    subst (λ n. z < n) (sym (present_long f.store)) (active_declared s engine.valid a m z over) in
    record {
      kept = record {
        removed = record {
          declared = λ p m. subst (λ d. Has d p.var p.value) (sym initial)
              (subst (λ ws. Contains ws p.value) (sym (values_of_more (initial_of f.store) values p.var (has_declared (initial_of f.store) p.var p.value (kept.removed.declared p m)))) (kept.removed.declared p m));
          present = lacks;
        };
        formed = kept.formed;
        connected = kept.connected;
        heeded = kept.heeded;
        marked = agreeing_marked active f.agenda.connected (present_of f.store) (present_of store) engine.valid.rising kept.connected
            (λ a z u m over has. subst (λ d. Has d z u) (sym now) (subst (λ ws. Contains ws u) (sym (values_of_more (present_of f.store) values z (within a z m over))) has))
            (λ a z u m over has. subst (λ ws. Contains ws u) (values_of_more (present_of f.store) values z (within a z m over)) (subst (λ d. Has d z u) now has))
            kept.marked;
        empty = subst (λ d. IsEmptyKept d f.empty) (sym now) (more_empty (present_of f.store) values filled f.empty kept.empty);
      };
      valid = declares_valid s t values (declared_state f store values active ascends e) engine.valid;
      scoped = engine.scoped;
    }
  where
    more_filled : (d : Domains) (vs : List ℤ) → 0 < length vs → (x : ℕ) → (x < length d → 0 < length (values_of d x)) → x < length (d ++ vs ∷ []) → 0 < length (values_of (d ++ vs ∷ []) x)
    more_filled d vs some x old lt = elim (cases_lt x (length d)) [
      | inl l ↦ subst (λ ws. 0 < length ws) (sym (values_of_more d vs x l)) (old l)
      | inr ge ↦
          let e : x ≡ length d = omega (arith, length-append d (vs ∷ []), lt) in
          subst (λ ws. 0 < length ws) (sym (ap (values_of (d ++ vs ∷ [])) e ∙ last_values d vs)) some
    ]

    more_empty : (d : Domains) (vs : List ℤ) → 0 < length vs → (empty : Option ℕ) → IsEmptyKept d empty → IsEmptyKept (d ++ vs ∷ []) empty
    more_empty d vs some None kept = λ x lt. more_filled d vs some x (kept x) lt
    more_empty d vs some (Some x) kept = (
      record { exists = omega (arith, length-append d (vs ∷ []), kept.0.exists); empty = values_of_more d vs x kept.0.exists ∙ kept.0.empty },
      λ y is. elim (cases_lt y (length d)) [
        | inl l ↦ kept.1 y (record { exists = l; empty = sym (values_of_more d vs y l) ∙ is.empty })
        | inr ge ↦
            let e : y ≡ length d = omega (arith, length-append d (vs ∷ []), is.exists) in
            absurd (empty_not_filled vs (sym (ap (values_of (d ++ vs ∷ [])) e ∙ last_values d vs) ∙ is.empty) some)
      ],
    )

-- ---- what a decision asks for

pub present_declared : (s : EngineState) (x : ℕ) (v : ℤ) → Has (present s) x v → x < length s.initial
present_declared s x v has = has_declared s.initial x v (without_has s.initial (log_pairs s.log) x v has).0

pub one_declared : (n x : ℕ) → x < n → All (λ y. y < n) (x ∷ [])
one_declared n x lt = all_members (λ y. y < n) (x ∷ []) (λ y m. subst (λ z. z < n) (member_single x y m) lt)
