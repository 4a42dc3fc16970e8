-- From every state a run goes on until it ends: there is a run for every budget.
use Rattle.std.proofs.Common.{◌≡◌, ℕ, zero, suc, ◌+◌, ◌<◌, ◌≤◌, ◌≤ℤ◌, ◌<ℤ◌, Bool, true, false, None, List, [], ◌∷◌, ◌++◌, length, filter, Contains, ℤ, ◌⊎◌, inl, inr, refl, sym, ap, ◌∙◌, subst, arith}
use Rattle.std.proofs.lemmas.Int.{ints}
use Rattle.std.proofs.lemmas.List.{map-append}
use Rattle.std.proofs.lemmas.List.Elements.{All-contains, Contains-append_right, Contains-push_cases}
use Rattle.palm_base.specs.declared.terms.Pair.{Pair}
use Rattle.palm_base.specs.declared.terms.Cid.{Cid}
use Rattle.palm_base.specs.declared.terms.Cid.TheVariants.{Decide, Not, User}
use Rattle.palm_base.proofs.cited.Members.{Known, member_nil, member_here, member_there, member_cases, member_same, member_map, any_known, nat_known, int_known, member_known}
use Rattle.palm_model.specs.Domains.{Domains, Has, Ascends, AllAscend, values_of}
use Rattle.palm_model.specs.Part.{parts}
use Rattle.palm_model.specs.Log.{Active, IsActive, log_pairs}
use Rattle.palm_model.specs.State.{EngineState, IsValid, IsEmptyAt, AllFilled, FitsCid, IsOfForm, AreJustifiers, present, without_cid, is_user, decision_of, negation_of}
use Rattle.palm_model.specs.Event.{gone_with, posted, without_cids, vars_of}
use Rattle.palm_model.specs.declared.constraint.Con.{Con}
use Rattle.palm_model.specs.declared.constraint.Con.TheVariants.{CompareConst}
use Rattle.palm_model.specs.declared.constraint.Op.TheVariants.{Eq, Ne}
use Rattle.palm_model.specs.declared.part.Part.TheVariants.{CompareConst as CompareConstPart}
use Rattle.palm_model.proofs.cited.Ascending.{ascends_at}
use Rattle.palm_model.proofs.cited.Without.{length_without, ascend_without}
use Rattle.palm_events.specs.Along.{IsStill}
use Rattle.palm_events.specs.Reasons.{ReasonsAreRight}
use Rattle.palm_base.proofs.cited.CidOrder.{cid_known}
use Rattle.palm_events.proofs.cited.States.{with_posted_cases, without_cids_member, member_without_cids, without_cid_member}
use Rattle.palm_events.proofs.cited.Outcomes.{withdrawal_exists, flat_listed}
use Rattle.palm_events.proofs.cited.Conflicts.{flat_justifiers}
use Rattle.palm_engine.specs.Settling.{Revision, FitsOrder}
use Rattle.palm_engine.proofs.cited.Settled.{plainly_exists, settling_filters}
use Rattle.palm_engine.proofs.cited.Walking.{empty_or_filled, not_empty}
use Rattle.palm_search.specs.declared.turn.Pick.{Pick}
use Rattle.palm_search.specs.declared.turn.Pick.TheVariants.{NoGuide, Nothing, Asked}
use Rattle.palm_search.specs.declared.turn.Turn.{Turn}
use Rattle.palm_search.specs.declared.turn.Turn.TheVariants.{Decide as TurnDecide, Undo as TurnUndo}
use Rattle.palm_search.specs.Turns.IsUnlawful.{no_variable, few_values, no_value}
use Rattle.palm_search.specs.Turns.{SearchState, IsOpen, IsLawful, IsUnlawful, IsDefault, IsDecided, FitsGuide, HasFlatConflict, IsLatest, Decides, Undoes, Takes, SettlesAfter, Follows, Turns, decided_vars}
use Rattle.palm_search.specs.declared.ending.SearchEnd.{SearchEnd}
use Rattle.palm_search.specs.Search.{IsFound, GoesOn, EndsWith, SearchRun, IsPicked, begun}
use Rattle.palm_search.specs.declared.ending.SearchEnd.TheVariants.{Found, NoSolution, Spent}
use Rattle.palm_search.specs.Search.GoesOn.{could_decide, could_undo}
use Rattle.palm_search.specs.Kept.{HasDecisions, HasNoneNegated, HasOnlyUsers, IsSearching}
use Rattle.palm_search.proofs.cited.Deciding.{justifier_stays, latest_vars, others_taken}
use Rattle.palm_search.proofs.cited.Keeping.{begins, takes_keep, settles_keep}
use Rattle.palm_search.proofs.cited.Leaving.{settles_still}

-- ---- settling

pub order_fits : (ordered : Bool) (rs : List Revision) → FitsOrder false rs → FitsOrder ordered rs
order_fits false rs fits = fits
order_fits true rs fits = tt

-- a settling after a state
pub record SettlesTo (ordered : Bool) (s : SearchState) : Type 0 where
  pub state : SearchState
  pub settles : SettlesAfter ordered s state

pub settle_exists : (ordered : Bool) (s : SearchState) → IsValid s.engine → SettlesTo ordered s
settle_exists ordered s valid =
    let r = plainly_exists None s.engine valid in
    record {
      state = record { engine = r.state; decisions = s.decisions };
      settles = record { revisions = r.revisions; fits = order_fits ordered r.revisions r.fits; settles = r.settles; decisions = refl };
    }

-- ---- what a quiet state allows

-- in a quiet state each present value of an active comparison's variable stands in its relation to the value
quiet_decided : (s : EngineState) → IsValid s → s.pending ≡ [] → (p : Pair) → Contains s.active (decision_of p) → (v : ℤ) → Has (present s) p.var v → v ≡ p.value
quiet_decided s valid quiet p m v has =
    let closed = valid.closed (decision_of p) m (λ k. member_nil (Decide p.var) (subst (λ l. Contains l (Decide p.var)) quiet k)) in
    let s' = closed (CompareConstPart p.var Eq p.value) (member_here (CompareConstPart p.var Eq p.value) []) p.var v (member_here p.var []) has in
    sym s'.gives ∙ s'.holds

negation_con : (n : ℕ) (active : List Active) (cid : Cid) (con : Con) (justification : List Cid) (p : Pair) → cid ≡ Not p → IsOfForm n active cid con justification → con ≡ CompareConst p.var Ne p.value
negation_con n active (Decide x) con justification p e form = absurd (apart x p e)
  where
    apart : (x : ℕ) (p : Pair) → Decide x ≡ Not p → ⊥
    apart x p e = cc
negation_con n active (Not q) con justification p e form = form.0 ∙ ap (λ (r : Pair). CompareConst r.var Ne r.value) (same q p e)
  where
    same : (q p : Pair) → Not q ≡ Not p → q ≡ p
    same q p e = cc
negation_con n active (User k) con justification p e form = absurd (apart k p e)
  where
    apart : (k : ℕ) (p : Pair) → User k ≡ Not p → ⊥
    apart k p e = cc

-- a present pair has no active negation there
pub quiet_negated : (s : EngineState) → IsValid s → s.pending ≡ [] → (p : Pair) → Has (present s) p.var p.value → IsActive s.active (Not p) → ⊥
quiet_negated s valid quiet p has is =
    let a = is.owner in
    let con = negation_con (length s.initial) s.active a.cid a.con a.justification p is.named (valid.formed a is.posted).form in
    let closed = valid.closed a is.posted (λ k. member_nil a.cid (subst (λ l. Contains l a.cid) quiet k)) in
    let is_part = subst (λ d. Contains (parts d) (CompareConstPart p.var Ne p.value)) (sym con) (member_here (CompareConstPart p.var Ne p.value) []) in
    let s' = closed (CompareConstPart p.var Ne p.value) is_part p.var p.value (member_here p.var []) has in
    s'.holds s'.gives

-- two values of a longer list
two_values : (vs : List ℤ) → Ascends vs → 2 ≤ length vs → (v : ℤ) × (w : ℤ) × Contains vs v × Contains vs w × (v <ℤ w)
two_values [] ascends two = absurd (omega arith)
two_values (v ∷ []) ascends two = absurd (omega arith)
two_values (v ∷ w ∷ vs) ascends two =
    (v, w, member_here v (w ∷ vs), member_there v (w ∷ vs) w (member_here w vs), All-contains (λ u. v <ℤ u) (w ∷ vs) w ascends.0 (member_here w vs))

-- a variable with two values has no active decision
pub open_undecided : (s : SearchState) → IsValid s.engine → HasDecisions s → s.engine.pending ≡ [] → (x : ℕ) → IsOpen (present s.engine) x → IsActive s.engine.active (Decide x) → ⊥
open_undecided s valid has quiet x is_open is =
    let r = has.taken is.owner x is.posted is.named in
    let var : r.0.var ≡ x = same r.0.var x (sym (ap (λ (a : Active). a.cid) r.2) ∙ is.named) in
    let m = has.active r.0 r.1 in
    let ascends = ascends_at (present s.engine) x (ascend_without s.engine.initial (log_pairs s.engine.log) valid.ascend) in
    let two = two_values (values_of (present s.engine) x) ascends is_open.two in
    let a = quiet_decided s.engine valid quiet r.0 m two.0 (subst (λ y. Has (present s.engine) y two.0) (sym var) two.2) in
    let b = quiet_decided s.engine valid quiet r.0 m two.1 (subst (λ y. Has (present s.engine) y two.1) (sym var) two.3) in
    let lt = two.4 in
    omega (arith, ints, lt, a, b)
  where
    same : (y x : ℕ) → Decide y ≡ Decide x → y ≡ x
    same y x e = cc

-- ---- a decision

-- the lowest of the first variables with two values, or none of them has
lowest_from : (d : Domains) (n : ℕ) → ((x : ℕ) × (x < n) × (2 ≤ length (values_of d x)) × ((y : ℕ) → y < x → length (values_of d y) < 2)) ⊎ ((x : ℕ) → x < n → length (values_of d x) < 2)
lowest_from d zero = inr (λ x lt. absurd (omega arith))
lowest_from d (suc n) = elim (lowest_from d n) [
  | inl r ↦ let lt = r.1 in inl (r.0, omega (arith, lt), r.2, r.3)
  | inr few ↦ elim (two_or_not (length (values_of d n))) [
    | inl two ↦ inl (n, omega arith, two, few)
    | inr one ↦ inr (λ x lt. elim (nat_known x n) [
      | inl e ↦ subst (λ y. length (values_of d y) < 2) (sym e) one
      | inr ne ↦ few x (omega arith)
    ])
  ]
]
  where
    two_or_not : (k : ℕ) → (2 ≤ k) ⊎ (k < 2)
    two_or_not zero = inr (omega arith)
    two_or_not (suc zero) = inr (omega arith)
    two_or_not (suc (suc k)) = inl (omega arith)

-- some variable has two values, or none has
open_or_not : (d : Domains) → ((x : ℕ) × IsOpen d x × ((y : ℕ) → IsOpen d y → x ≤ y)) ⊎ ((x : ℕ) → x < length d → length (values_of d x) < 2)
open_or_not d = elim (lowest_from d (length d)) [
  | inr few ↦ inr few
  | inl r ↦ inl (r.0, record { exists = r.1; two = r.2 }, λ y is_open. not_below r.0 y (λ lt. let a = r.3 y lt in let b = is_open.two in omega (arith, a, b)))
]
  where
    not_below : (x y : ℕ) → (y < x → ⊥) → x ≤ y
    not_below x y n = omega (arith, n)

least_value : (vs : List ℤ) → Ascends vs → 2 ≤ length vs → (v : ℤ) × Contains vs v × ((w : ℤ) → Contains vs w → v ≤ℤ w)
least_value [] ascends two = absurd (omega arith)
least_value (v ∷ vs) ascends two = (
  v,
  member_here v vs,
  λ w m. elim (member_cases v vs w m) [
    | inl e ↦ omega (arith, ints, e)
    | inr k ↦ let lt = All-contains (λ u. v <ℤ u) vs w ascends.0 k in omega (arith, ints, lt)
  ],
)

default_exists : (d : Domains) (x : ℕ) → AllAscend d → IsOpen d x → ((y : ℕ) → IsOpen d y → x ≤ y) → (p : Pair) × IsDefault d p
default_exists d x ascend is_open lowest =
    let v = least_value (values_of d x) (ascends_at d x ascend) is_open.two in
    (record { var = x; value = v.0 }, record { is_open = is_open; lowest = lowest; has = v.1; least = v.2 })

below_known : (m n : ℕ) → Known (m < n)
below_known m zero = inr (λ lt. omega arith)
below_known zero (suc n) = inl (omega arith)
below_known (suc m) (suc n) = elim (below_known m n) [ inl lt ↦ inl (omega arith) | inr k ↦ inr (λ lt. k (omega arith)) ]

lawful_or_not : (d : Domains) (q : Pair) → IsLawful d q ⊎ IsUnlawful d q
lawful_or_not d q = elim (below_known q.var (length d)) [
  | inr n ↦ inr (no_variable (omega (arith, n)))
  | inl lt ↦ elim (below_known 1 (length (values_of d q.var))) [
    | inr n ↦ inr (few_values (omega (arith, n)))
    | inl two ↦ elim (member_known int_known (values_of d q.var) q.value) [
      | inl h ↦ inl (record { is_open = record { exists = lt; two = omega arith }; has = h })
      | inr n ↦ inr (no_value n)
    ]
  ]
]

decided_exists : (d : Domains) (pick : Pick) (p : Pair) → IsDefault d p → (q : Pair) × IsDecided d pick q
decided_exists d NoGuide p default = (p, default)
decided_exists d Nothing p default = (p, default)
decided_exists d (Asked q) p default = elim (lawful_or_not d q) [ inl l ↦ (q, inl (l, refl)) | inr n ↦ (p, inr (n, default)) ]

pub decided_lawful : (d : Domains) (pick : Pick) (p : Pair) → IsDecided d pick p → IsLawful d p
decided_lawful d NoGuide p decided = record { is_open = decided.is_open; has = decided.has }
decided_lawful d Nothing p decided = record { is_open = decided.is_open; has = decided.has }
decided_lawful d (Asked q) p decided = elim decided [
  | inl r ↦ subst (λ z. IsLawful d z) (sym r.1) r.0
  | inr r ↦ record { is_open = r.1.is_open; has = r.1.has }
]

-- a decision was taken after the pick
abbrev pub IsPickedBy : Pick → Turn → Type 0
IsPickedBy pick (TurnDecide pair asked) = asked ≡ pick
IsPickedBy pick (TurnUndo gone conflict) = Unit {0}

-- the picks that are left after a turn
abbrev pub picks_after : Turn → (ℕ → Pick) → ℕ → Pick
picks_after (TurnDecide pair asked) f k = f (suc k)
picks_after (TurnUndo gone conflict) f k = f k

pub picked_more : (f : ℕ → Pick) (turn : Turn) (turns : List Turn) → IsPickedBy (f 0) turn → IsPicked (picks_after turn f) turns → IsPicked f (turn ∷ turns)
picked_more f (TurnDecide pair asked) turns first rest = (first, rest)
picked_more f (TurnUndo gone conflict) turns first rest = rest

pub fits_after : (guided : Bool) (f : ℕ → Pick) (turn : Turn) → ((k : ℕ) → FitsGuide guided (f k)) → (k : ℕ) → FitsGuide guided (picks_after turn f k)
fits_after guided f (TurnDecide pair asked) fits k = fits (suc k)
fits_after guided f (TurnUndo gone conflict) fits k = fits k

-- a turn, and what it keeps
record TakesSome (guided : Bool) (pick : Pick) (s : SearchState) : Type 0 where
  turn : Turn
  state : SearchState
  takes : Takes guided s turn state
  none_negated : HasNoneNegated state
  picked : IsPickedBy pick turn

not_decided : (x : ℕ) (p : Pair) → Decide x ≡ Not p → ⊥
not_decided x p e = cc

-- a decision in a quiet state keeps the decided pairs from being negated
pub decides_unnegated : (guided : Bool) (s : SearchState) (p : Pair) (pick : Pick) (t : SearchState) → Decides guided s p pick t → IsValid s.engine → s.engine.pending ≡ [] → HasNoneNegated s → HasNoneNegated t
decides_unnegated guided s p pick t turn valid quiet none q m is =
    elim (with_posted_cases (decision_of p) s.engine.active is.owner (subst (λ (z : EngineState). Contains z.active is.owner) turn.posts.after is.posted)) [
      | inl e ↦ not_decided p.var q (ap (λ (a : Active). a.cid) e ∙ is.named)
      | inr k ↦ elim (Contains-push_cases s.decisions p q (subst (λ l. Contains l q) turn.decisions m)) [
        | inl j ↦ none q j (record { owner = is.owner; posted = k; named = is.named })
        | inr e ↦ quiet_negated s.engine valid quiet p (decided_lawful (present s.engine) pick p turn.decided).has (record { owner = is.owner; posted = k; named = is.named ∙ ap Not (sym e) })
      ]
    ]

-- a decision after the pick, and where it leads
pub record DecidesSome (guided : Bool) (pick : Pick) (s : SearchState) : Type 0 where
  pub pair : Pair
  pub state : SearchState
  pub decides : Decides guided s pair pick state

pub decides_some : (guided : Bool) (pick : Pick) (s : SearchState) → FitsGuide guided pick → IsSearching s → s.engine.pending ≡ [] → AllFilled (present s.engine)
    → (x : ℕ) → IsOpen (present s.engine) x → ((y : ℕ) → IsOpen (present s.engine) y → x ≤ y) → DecidesSome guided pick s
decides_some guided pick s fits searching quiet filled x is_open lowest =
    let d = present s.engine in
    let ascend = ascend_without s.engine.initial (log_pairs s.engine.log) searching.valid.ascend in
    let default = default_exists d x ascend is_open lowest in
    let choice = decided_exists d pick default.0 default.1 in
    let p = choice.0 in
    let lawful = decided_lawful d pick p choice.1 in
    let exists : p.var < length s.engine.initial = subst (λ n. p.var < n) (length_without s.engine.initial (log_pairs s.engine.log)) lawful.is_open.exists in
    record {
      pair = p;
      state = record { engine = posted s.engine (decision_of p); decisions = s.decisions ++ p ∷ [] };
      decides = record {
        filled = filled;
        fits = fits;
        decided = choice.1;
        posts = record {
          inactive = open_undecided s searching.valid searching.decisions quiet p.var lawful.is_open;
          formed = record { form = (p.value, refl, exists, refl) };
          after = refl;
        };
        decisions = refl;
      };
    }

decide_exists : (guided : Bool) (pick : Pick) (s : SearchState) → FitsGuide guided pick → IsSearching s → HasNoneNegated s → s.engine.pending ≡ [] → AllFilled (present s.engine)
    → (x : ℕ) → IsOpen (present s.engine) x → ((y : ℕ) → IsOpen (present s.engine) y → x ≤ y) → TakesSome guided pick s
decide_exists guided pick s fits searching none quiet filled x is_open lowest =
    let some = decides_some guided pick s fits searching quiet filled x is_open lowest in
    record {
      turn = TurnDecide some.pair pick;
      state = some.state;
      takes = some.decides;
      none_negated = decides_unnegated guided s some.pair pick some.state some.decides searching.valid quiet none;
      picked = refl;
    }

-- ---- an undoing

pub vars_member : (cids : List Cid) (x : ℕ) → Contains (decided_vars cids) x → Contains cids (Decide x)
vars_member [] x m = absurd (member_nil x m)
vars_member (Decide y ∷ cids) x m = elim (member_cases y (decided_vars cids) x m) [
  | inl e ↦ member_same (Decide y ∷ cids) (Decide y) (Decide x) (ap Decide e) (member_here (Decide y) cids)
  | inr k ↦ member_there (Decide y) cids (Decide x) (vars_member cids x k)
]
vars_member (Not p ∷ cids) x m = member_there (Not p) cids (Decide x) (vars_member cids x m)
vars_member (User n ∷ cids) x m = member_there (User n) cids (Decide x) (vars_member cids x m)

-- the latest decision that the ids hold
record LatestOf (decisions : List Pair) (cids : List Cid) : Type 0 where
  gone : Pair
  left : List Pair
  latest : IsLatest decisions cids gone left

latest_exists : (decisions : List Pair) (cids : List Cid) (p : Pair) → Contains decisions p → Contains cids (Decide p.var) → LatestOf decisions cids
latest_exists [] cids p m held = absurd (member_nil p m)
latest_exists (q ∷ decisions) cids p m held = elim (any_known (λ (r : Pair). Contains cids (Decide r.var)) decisions (λ r k. member_known cid_known cids (Decide r.var))) [
  | inl r ↦
      let rest = latest_exists decisions cids r.0 r.1 r.2 in
      let l = rest.latest in
      record {
        gone = rest.gone;
        left = q ∷ rest.left;
        latest = record {
          earlier = q ∷ l.earlier;
          later = l.later;
          are = ap (λ k. q ∷ k) l.are;
          held = l.held;
          latest = l.latest;
          others = ap (λ k. q ∷ k) l.others;
        };
      }
  | inr none ↦ record {
    gone = q;
    left = decisions;
    latest = record {
      earlier = [];
      later = decisions;
      are = refl;
      held = elim (member_cases q decisions p m) [
        | inl e ↦ subst (λ (z : Pair). Contains cids (Decide z.var)) (sym e) held
        | inr k ↦ absurd (none p k held)
      ];
      latest = none;
      others = refl;
    };
  }
]

decided_form : (n : ℕ) (active : List Active) (p : Pair) → FitsCid n active (decision_of p) → p.var < n
decided_form n active p formed = let lt = formed.form.2 in lt

others_decided : (decisions : List Pair) (cids : List Cid) (gone : Pair) (left : List Pair) → IsLatest decisions cids gone left → (p : Pair) → Contains left p → Contains decisions p
others_decided decisions cids gone left latest p m =
    subst (λ l. Contains l p) (sym latest.are) (others_taken latest.earlier latest.later gone p (subst (λ l. Contains l p) latest.others m))

others_apart : (s : SearchState) → HasDecisions s → (cids : List Cid) (gone : Pair) (left : List Pair) → IsLatest s.decisions cids gone left → (p : Pair) → Contains left p → gone ≡ p → ⊥
others_apart s has cids gone left latest p m e =
    let vars = latest_vars s latest.earlier latest.later gone latest.are has.distinct in
    vars.lacks (subst (λ l. Contains l gone.var) (map-append (λ (q : Pair). q.var) latest.earlier latest.later)
    (member_same (vars_of (latest.earlier ++ latest.later)) p.var gone.var (sym (ap (λ (q : Pair). q.var) e))
    (member_map (λ (q : Pair). q.var) (latest.earlier ++ latest.later) p (subst (λ l. Contains l p) latest.others m))))

-- a negation that is active after the withdrawal was so before it
pub negation_before : (s : SearchState) (gone : Pair) (middle : EngineState) → middle.active ≡ without_cids (gone_with s.engine.active (Decide gone.var)) s.engine.active → (p : Pair) → IsActive middle.active (Not p) → IsActive s.engine.active (Not p)
negation_before s gone middle same p is = record {
  owner = is.owner;
  posted = (without_cids_member (gone_with s.engine.active (Decide gone.var)) s.engine.active is.owner (subst (λ l. Contains l is.owner) same is.posted)).0;
  named = is.named;
}

-- the rest of the flat conflict is active after the withdrawal
pub rest_justifiers : (s : SearchState) → IsValid s.engine → (gone : Pair) (conflict : List Cid) → HasFlatConflict s.engine conflict → (middle : EngineState) → middle.active ≡ without_cids (gone_with s.engine.active (Decide gone.var)) s.engine.active
    → AreJustifiers middle.active (without_cid (Decide gone.var) conflict)
rest_justifiers s valid gone conflict flat middle same c m =
    let r = without_cid_member (Decide gone.var) conflict c m in
    let g = flat_justifiers s.engine valid flat.var c (flat.is.sound c r.0) in
    let stays = justifier_stays (length s.engine.initial) s.engine.active (Decide gone.var) valid.formed c g.0 r.1 in
    let o = g.1 in (
      g.0,
      record {
        owner = o.owner;
        posted = subst (λ l. Contains l o.owner) (sym same) (member_without_cids (gone_with s.engine.active (Decide gone.var)) s.engine.active o.owner o.posted (λ k. stays (member_same (gone_with s.engine.active (Decide gone.var)) o.owner.cid c o.named k)));
        named = o.named;
      },
    )

-- an undoing negates a pair that is decided no longer
pub undoes_unnegated : (s : SearchState) (gone : Pair) (conflict : List Cid) (t : SearchState) → Undoes s gone conflict t → HasDecisions s → HasNoneNegated s → HasNoneNegated t
undoes_unnegated s gone conflict t turn has none p m is =
    let justification = without_cid (Decide gone.var) conflict in
    let same : turn.middle.active ≡ without_cids (gone_with s.engine.active (Decide gone.var)) s.engine.active = ap (λ (z : EngineState). z.active) turn.withdraws.after in
    elim (with_posted_cases (negation_of gone justification) turn.middle.active is.owner (subst (λ (z : EngineState). Contains z.active is.owner) turn.posts.after is.posted)) [
      | inl e ↦ others_apart s has conflict gone t.decisions turn.latest p m (same_negated gone p (ap (λ (a : Active). a.cid) e ∙ is.named))
      | inr k ↦ none p (others_decided s.decisions conflict gone t.decisions turn.latest p m) (negation_before s gone turn.middle same p (record { owner = is.owner; posted = k; named = is.named }))
    ]
  where
    same_negated : (q p : Pair) → Not q ≡ Not p → q ≡ p
    same_negated q p e = cc

undo_exists : (guided : Bool) (pick : Pick) (s : SearchState) → IsSearching s → HasNoneNegated s → (conflict : List Cid) (x : ℕ) → HasFlatConflict s.engine conflict → Contains conflict (Decide x) → TakesSome guided pick s
undo_exists guided pick s searching none conflict x flat held =
    let valid = searching.valid in
    let is = (flat_justifiers s.engine valid flat.var (Decide x) (flat.is.sound (Decide x) held)).1 in
    let taken = searching.decisions.taken is.owner x is.posted is.named in
    let held' : Contains conflict (Decide taken.0.var) = member_same conflict (Decide x) (Decide taken.0.var) (sym is.named ∙ ap (λ (a : Active). a.cid) taken.2) held in
    let found = latest_exists s.decisions conflict taken.0 taken.1 held' in
    let gone = found.gone in
    let in_decisions : Contains s.decisions gone = subst (λ l. Contains l gone) (sym found.latest.are) (gone_taken found.latest.earlier found.latest.later gone) in
    let w = withdrawal_exists s.engine (gone_with s.engine.active (Decide gone.var)) valid in
    let middle = w.0 in
    let same : middle.active ≡ without_cids (gone_with s.engine.active (Decide gone.var)) s.engine.active = ap (λ (z : EngineState). z.active) w.1.after in
    let initial : middle.initial ≡ s.engine.initial = ap (λ (z : EngineState). z.initial) w.1.after in
    let justification = without_cid (Decide gone.var) conflict in
    let t : SearchState = record { engine = posted middle (negation_of gone justification); decisions = found.left } in
    let undoes : Undoes s gone conflict t = record {
      flat = flat;
      latest = found.latest;
      middle = middle;
      withdraws = w.1;
      posts = record {
        inactive = λ is. none gone in_decisions (negation_before s gone middle same gone is);
        formed = record {
          form = (
            refl,
            subst (λ d. gone.var < length d) (sym initial) (decided_form (length s.engine.initial) s.engine.active gone (valid.formed (decision_of gone) (searching.decisions.active gone in_decisions))),
            rest_justifiers s valid gone conflict flat middle same,
          );
        };
        after = refl;
      };
    } in
    record { turn = TurnUndo gone conflict; state = t; takes = undoes; none_negated = undoes_unnegated s gone conflict t undoes searching.decisions none; picked = tt }
  where
    gone_taken : (earlier later : List Pair) (gone : Pair) → Contains (earlier ++ gone ∷ later) gone
    gone_taken earlier later gone = Contains-append_right earlier (gone ∷ later) gone (member_here gone later)

-- ---- ends

found_exists : (d : Domains) → AllFilled d → ((x : ℕ) → x < length d → length (values_of d x) < 2) → (values : List ℤ) × IsFound d values
found_exists [] filled few = ([], refl)
found_exists (vs ∷ d) filled few =
    let v = only_value vs (filled 0 (omega arith)) (few 0 (omega arith)) in
    let rest = found_exists d (λ x lt. filled (suc x) (omega arith)) (λ x lt. few (suc x) (omega arith)) in
    (v.0 ∷ rest.0, λ i. v.1 i ∷ rest.1 i)
  where
    only_value : (vs : List ℤ) → 0 < length vs → length vs < 2 → (v : ℤ) × (vs ≡ v ∷ [])
    only_value [] some few = absurd (omega arith)
    only_value (v ∷ []) some few = (v, refl)
    only_value (v ∷ w ∷ vs) some few = absurd (omega arith)

-- the lowest of the empty domains
lowest_empty_from : (d : Domains) (n : ℕ) → ((x : ℕ) × IsEmptyAt d x × ((y : ℕ) → IsEmptyAt d y → x ≤ y)) ⊎ ((y : ℕ) → y < n → IsEmptyAt d y → ⊥)
lowest_empty_from d zero = inr (λ y lt e. absurd (omega arith))
lowest_empty_from d (suc n) = elim (lowest_empty_from d n) [
  | inl r ↦ inl r
  | inr none ↦ elim (empty_known d n) [
    | inl e ↦ inl (n, e, λ y f. at_least n y (λ lt. none y lt f))
    | inr k ↦ inr (λ y lt f. elim (nat_known y n) [ inl g ↦ k (subst (λ z. IsEmptyAt d z) g f) | inr h ↦ none y (omega arith) f ])
  ]
]
  where
    at_least : (x y : ℕ) → (y < x → ⊥) → x ≤ y
    at_least x y n = omega (arith, n)

    list_empty : (vs : List ℤ) → Known (vs ≡ [])
    list_empty [] = inl refl
    list_empty (v ∷ vs) = inr (λ e. cc)

    empty_known : (d : Domains) (x : ℕ) → Known (IsEmptyAt d x)
    empty_known d x = elim (below_known x (length d)) [
      | inr n ↦ inr (λ e. n e.exists)
      | inl lt ↦ elim (list_empty (values_of d x)) [ inl e ↦ inl (record { exists = lt; empty = e }) | inr n ↦ inr (λ e. n e.empty) ]
    ]

lowest_empty : (d : Domains) (x : ℕ) → IsEmptyAt d x → (y : ℕ) × IsEmptyAt d y × ((z : ℕ) → IsEmptyAt d z → y ≤ z)
lowest_empty d x e = elim (lowest_empty_from d (suc x)) [ inl r ↦ r | inr none ↦ absurd (none x (omega arith) e) ]

-- a run has ended here, or a decision can be taken, or one of the flat conflict undone
pub data TurnOrEnd (s : EngineState) : Type 0 where
  run_is_over : (end : SearchEnd) → ((budget count : ℕ) → EndsWith budget count s end) → TurnOrEnd s
  run_may_decide : s.pending ≡ [] → AllFilled (present s) → (x : ℕ) → IsOpen (present s) x → ((y : ℕ) → IsOpen (present s) y → x ≤ y) → TurnOrEnd s
  run_may_undo : (conflict : List Cid) (x : ℕ) → HasFlatConflict s conflict → Contains conflict (Decide x) → TurnOrEnd s

pub turn_or_end : (s : EngineState) → IsValid s → IsStill s → TurnOrEnd s
turn_or_end s valid still = elim (empty_or_filled (present s)) [
  | inl empty ↦
      let first = lowest_empty (present s) empty.0 empty.1 in
      let conflict = flat_listed s valid first.0 in
      let flat : HasFlatConflict s conflict.0 = record { var = first.0; empty = first.1; lowest = first.2; is = conflict.1 } in
      in_conflict s conflict.0 flat (decided_vars conflict.0) refl
  | inr filled ↦ elim still [
    | inr empty ↦ absurd (not_empty (present s) filled empty)
    | inl quiet ↦ elim (open_or_not (present s)) [
      | inl r ↦ run_may_decide quiet filled r.0 r.1 r.2
      | inr few ↦ let f = found_exists (present s) filled few in run_is_over (Found f.0) (λ budget count. f.1)
    ]
  ]
]
  where
    in_conflict : (s : EngineState) (conflict : List Cid) → HasFlatConflict s conflict → (vars : List ℕ) → decided_vars conflict ≡ vars → TurnOrEnd s
    in_conflict s conflict flat [] e = run_is_over (NoSolution (filter is_user conflict)) (λ budget count. record { conflict = conflict; flat = flat; undecided = e; are = refl })
    in_conflict s conflict flat (x ∷ vars) e = run_may_undo conflict x flat (vars_member conflict x (subst (λ l. Contains l x) (sym e) (member_here x vars)))

-- a run has ended here, or a turn can be taken
data Stands (guided : Bool) (pick : Pick) (s : SearchState) : Type 0 where
  has_ended : (end : SearchEnd) → ((budget count : ℕ) → EndsWith budget count s.engine end) → Stands guided pick s
  may_go : GoesOn s.engine → TakesSome guided pick s → Stands guided pick s

stands : (guided : Bool) (pick : Pick) (s : SearchState) → FitsGuide guided pick → IsSearching s → HasNoneNegated s → IsStill s.engine → Stands guided pick s
stands guided pick s fits searching none still = elim (turn_or_end s.engine searching.valid still) [
  | run_is_over end ends ↦ has_ended end ends
  | run_may_decide quiet filled x is_open lowest ↦ may_go (could_decide x filled is_open) (decide_exists guided pick s fits searching none quiet filled x is_open lowest)
  | run_may_undo conflict x flat held ↦ may_go (could_undo x conflict flat held) (undo_exists guided pick s searching none conflict x flat held)
]

-- ---- runs

-- turns from a state to an end
pub record TurnsTo (guided ordered : Bool) (f : ℕ → Pick) (budget n : ℕ) (s : SearchState) : Type 0 where
  pub turns : List Turn
  pub end : SearchEnd
  pub state : SearchState
  pub run : Turns guided ordered s turns state
  pub within : n + length turns ≤ budget
  pub ends : EndsWith budget (n + length turns) state.engine end
  pub picked : IsPicked f turns

at_end : (guided ordered : Bool) (f : ℕ → Pick) (budget n : ℕ) (s : SearchState) (end : SearchEnd) → n ≤ budget → EndsWith budget n s.engine end → TurnsTo guided ordered f budget n s
at_end guided ordered f budget n s end le ends = record {
  turns = [];
  end = end;
  state = s;
  run = refl;
  within = omega arith;
  ends = subst (λ k. EndsWith budget k s.engine end) (plus n) ends;
  picked = tt;
}
  where
    plus : (n : ℕ) → n ≡ n + 0
    plus n = omega arith

one_more : (guided ordered : Bool) (f : ℕ → Pick) (budget n : ℕ) (s : SearchState) (turn : Turn) (m : SearchState) → IsPickedBy (f 0) turn → TurnsTo guided ordered (picks_after turn f) budget (n + 1) m
    → Follows guided ordered s turn m → TurnsTo guided ordered f budget n s
one_more guided ordered f budget n s turn m picked rest follows =
    let within = rest.within in
    record {
      turns = turn ∷ rest.turns;
      end = rest.end;
      state = rest.state;
      run = (m, follows, rest.run);
      within = omega (arith, within);
      ends = subst (λ k. EndsWith budget k rest.state.engine rest.end) (next n (length rest.turns)) rest.ends;
      picked = picked_more f turn rest.turns picked rest.picked;
    }
  where
    next : (n m : ℕ) → (n + 1) + m ≡ n + suc m
    next n m = omega arith

pub turns_exist : ReasonsAreRight → (guided ordered : Bool) (left budget n : ℕ) (f : ℕ → Pick) (s : SearchState) → ((k : ℕ) → FitsGuide guided (f k)) → n + left ≡ budget
    → IsSearching s → HasNoneNegated s → IsStill s.engine → TurnsTo guided ordered f budget n s
turns_exist right guided ordered zero budget n f s fits e searching none still = elim (stands guided (f 0) s (fits 0) searching none still) [
  | has_ended end ends ↦ at_end guided ordered f budget n s end (omega arith) (ends budget n)
  | may_go goes some ↦ at_end guided ordered f budget n s (Spent n) (omega arith) (refl, omega arith, goes)
]
turns_exist right guided ordered (suc left) budget n f s fits e searching none still = elim (stands guided (f 0) s (fits 0) searching none still) [
  | has_ended end ends ↦ at_end guided ordered f budget n s end (omega arith) (ends budget n)
  | may_go goes some ↦
      let searching' = takes_keep guided s some.turn some.state some.takes searching in
      let settled = settle_exists ordered some.state searching'.valid in
      let m = settled.state in
      let active : m.engine.active ≡ some.state.engine.active = (settling_filters None some.state.engine settled.settles.revisions m.engine settled.settles.settles).active in
      let none' : HasNoneNegated m = λ p k is. some.none_negated p (subst (λ l. Contains l p) settled.settles.decisions k) (subst (λ l. IsActive l (Not p)) active is) in
      let rest = turns_exist right guided ordered left budget (n + 1) (picks_after some.turn f) m (fits_after guided f some.turn fits) (omega arith)
      (settles_keep right ordered some.state m settled.settles searching') none' (settles_still ordered some.state m settled.settles) in
      one_more guided ordered f budget n s some.turn m some.picked rest (record { middle = some.state; takes = some.takes; settles = settled.settles })
]

-- a run, and how it ends
pub record RunsTo (guided ordered : Bool) (f : ℕ → Pick) (budget : ℕ) (s : EngineState) : Type 0 where
  pub turns : List Turn
  pub end : SearchEnd
  pub state : SearchState
  pub run : SearchRun guided ordered budget s turns end state
  pub picked : IsPicked f turns

pub run_exists : ReasonsAreRight → (guided ordered : Bool) (f : ℕ → Pick) → ((k : ℕ) → FitsGuide guided (f k)) → (budget : ℕ) (s : EngineState) → IsValid s → HasOnlyUsers s → RunsTo guided ordered f budget s
run_exists right guided ordered f fits budget s valid users =
    let start = settle_exists ordered (begun s) valid in
    let m = start.state in
    let none : HasNoneNegated m = λ p k is. member_nil p (subst (λ l. Contains l p) start.settles.decisions k) in
    let r = turns_exist right guided ordered budget budget 0 f m fits (omega arith) (settles_keep right ordered (begun s) m start.settles (begins s valid users)) none (settles_still ordered (begun s) m start.settles) in
    let within = r.within in
    record {
      turns = r.turns;
      end = r.end;
      state = r.state;
      run = record {
        start = m;
        settles = start.settles;
        taken = r.run;
        within = omega (arith, within);
        ends = subst (λ k. EndsWith budget k r.state.engine r.end) (plus (length r.turns)) r.ends;
      };
      picked = r.picked;
    }
  where
    plus : (n : ℕ) → 0 + n ≡ n
    plus n = omega arith
