-- Weights rise, room is made, a nogood is listed, and negations are posted.
use Rattle.std.proofs.Common.{◌≡◌, ℕ, zero, suc, ◌+◌, ◌<◌, ◌≤◌, Bool, true, false, not, ◌||◌, cond, Option, None, Some, List, [], ◌∷◌, ◌++◌, filter, length, map, slice_set, get_or, take, drop, replicate, Contains, ℤ, inl, inr, refl, sym, ap, ◌∙◌, subst, arith, nat_eq, eq-eqb, eqb-true, take_all}
use Rattle.std.specs.List.{list_any}
use Rattle.std.proofs.lemmas.Bool.{cases_Bool}
use Rattle.std.proofs.lemmas.List.{take_more, take-append-drop, length-map}
use Rattle.palm_base.specs.declared.terms.Pair.{Pair}
use Rattle.palm_base.specs.declared.terms.Cid.TheVariants.{Decide, Not}
use Rattle.palm_base.proofs.cited.Members.{member_nil, member_here, member_there, member_cases, member_same}
use Rattle.palm_model.specs.Constraint.{Distinct}
use Rattle.palm_model.specs.Domains.{Domains}
use Rattle.palm_base.specs.Order.{same_pair}
use Rattle.palm_model.specs.Log.{IsActive}
use Rattle.palm_model.specs.State.{EngineState, negation_of}
use Rattle.palm_model.proofs.cited.Supports.{not_true}
use Rattle.palm_base.proofs.cited.CidOrder.{pair_same}
use Rattle.palm_engine.specs.Engine.{View, KeepsCounts}
use Rattle.palm_domain.specs.Rows.{Row, initial_of}
use Rattle.palm_search.specs.Calls.{SearchView, search_state}
use Rattle.palm_search.specs.Kept.{HasDecisions}
use Rattle.palm_search.proofs.cited.Deciding.{posted_has}
use Rattle.palm_repair.specs.Posting.{Nogood, Origin, RepairState, PostsFor, PostsFrom, PostsAll, PostsSome, undecided, justification, with_origin}
use Rattle.palm_repair.specs.Repair.{raised, raised_from, weight_of}
use Rattle.palm_repair.specs.Kept.{HasOrigins, IsNumbered, IsRepairing}
use Rattle.palm_repair.specs.Learned.{Forces, IsForced, LearnedView, ShowsDecisions, left_open, repair_state}
use Rattle.palm_repair.proofs.Forcing.{OnlyPosts, leaves_none, leaves_then, justification_justifies, one_left, posts_for_keeps, posts_for_leaves}
use Rattle.palm_repair.proofs.Reading.{at_member, open_is, split_at}
use Rattle.palm_repair.proofs.Repairing.{raised_length}

-- ---- places

taken_length : {X : Type 0} (xs : List X) (i : ℕ) → i ≤ length xs → length (take i xs) ≡ i
taken_length xs zero le = refl
taken_length [] (suc i) le = absurd (omega (arith, le))
taken_length (x ∷ xs) (suc i) le = ap suc (taken_length xs i (omega (arith, le)))

-- ---- weights

pub no_weights : (d : Domains) (n : ℕ) → length d ≡ n → replicate {A = ℕ} n 0 ≡ map (λ vs. 0) d
no_weights d n e = ap (λ k. replicate {A = ℕ} k 0) (sym e) ∙ all d
  where
    all : (d : Domains) → replicate {A = ℕ} (length d) 0 ≡ map (λ vs. 0) d
    all [] = refl
    all (vs ∷ d) = ap (λ l. 0 ∷ l) (all d)

or_false : (b : Bool) → (b || false) ≡ b
or_false true = refl
or_false false = refl

or_true : (b c : Bool) → c ≡ true → (b || c) ≡ true
or_true true c e = refl
or_true false c e = e

other_test : (v x : ℕ) → (v ≡ x → ⊥) → nat_eq v x ≡ false
other_test v x ne = elim (cases_Bool (nat_eq v x)) [ inl t ↦ absurd (ne (eqb-true v x t)) | inr f ↦ f ]

any_push : (vars : List ℕ) (v x : ℕ) → (v ≡ x → ⊥) → list_any (λ y. nat_eq y x) (vars ++ v ∷ []) ≡ list_any (λ y. nat_eq y x) vars
any_push [] v x ne = or_false (nat_eq v x) ∙ other_test v x ne
any_push (w ∷ vars) v x ne = ap (λ b. nat_eq w x || b) (any_push vars v x ne)

any_last : (vars : List ℕ) (v : ℕ) → list_any (λ y. nat_eq y v) (vars ++ v ∷ []) ≡ true
any_last [] v = or_false (nat_eq v v) ∙ eq-eqb v v refl
any_last (w ∷ vars) v = or_true (nat_eq w v) (list_any (λ y. nat_eq y v) (vars ++ v ∷ [])) (any_last vars v)

any_none : (vars : List ℕ) (v : ℕ) → (Contains vars v → ⊥) → list_any (λ y. nat_eq y v) vars ≡ false
any_none [] v none = refl
any_none (w ∷ vars) v none =
    ap (λ b. b || list_any (λ y. nat_eq y v) vars) (other_test w v (λ e. none (member_same (w ∷ vars) w v e (member_here w vars)))) ∙ any_none vars v (λ m. none (member_there w vars v m))

raised_past : (x : ℕ) (weights vars : List ℕ) (v : ℕ) → v < x → raised_from x weights (vars ++ v ∷ []) ≡ raised_from x weights vars
raised_past x [] vars v lt = refl
raised_past x (w ∷ weights) vars v lt =
    (λ i. cond (any_push vars v x (λ e. omega (arith, lt, e)) i) (w + 1) w ∷ raised_past (x + 1) weights vars v (omega (arith, lt)) i)

-- one more variable
raised_more : (x : ℕ) (weights vars : List ℕ) (v k : ℕ) → (Contains vars v → ⊥) → v ≡ x + k → k < length weights
    → raised_from x weights (vars ++ v ∷ []) ≡ slice_set (raised_from x weights vars) k (weight_of weights k + 1)
raised_more x [] vars v k none e lt = absurd (omega (arith, lt))
raised_more x (w ∷ weights) vars v zero none e lt =
    let same : v ≡ x = omega (arith, e) in
    (λ i. cond (raises same i) (w + 1) w ∷ raised_past (x + 1) weights vars v (omega (arith, e)) i)
  where
    raises : v ≡ x → list_any (λ y. nat_eq y x) (vars ++ v ∷ []) ≡ true
    raises same = subst (λ z. list_any (λ y. nat_eq y z) (vars ++ v ∷ []) ≡ true) same (any_last vars v)
raised_more x (w ∷ weights) vars v (suc k) none e lt =
    (λ i. cond (any_push vars v x (λ f. omega (arith, e, f)) i) (w + 1) w ∷ raised_more (x + 1) weights vars v k none (omega (arith, e)) (omega (arith, lt)) i)

raised_other : (x : ℕ) (weights vars : List ℕ) (k : ℕ) → (Contains vars (x + k) → ⊥) → weight_of (raised_from x weights vars) k ≡ weight_of weights k
raised_other x [] vars k none = refl
raised_other x (w ∷ weights) vars zero none =
    let f : list_any (λ y. nat_eq y x) vars ≡ false = any_none vars x (λ m. none (member_same vars x (x + 0) (omega arith) m)) in
    ap (λ b. cond b (w + 1) w) f
raised_other x (w ∷ weights) vars (suc k) none = raised_other (x + 1) weights vars k (λ m. none (member_same vars ((x + 1) + k) (x + suc k) (omega arith) m))

-- a variable is none of those before it
apart : (vars : List ℕ) (i v : ℕ) → i < length vars → v ≡ get_or vars i v → Distinct vars → Contains (take i vars) v → ⊥
apart [] i v lt is distinct m = omega (arith, lt)
apart (x ∷ vars) zero v lt is distinct m = member_nil v m
apart (x ∷ vars) (suc i) v lt is distinct m = elim (member_cases x (take i vars) v m) [
  | inl e ↦ distinct.0 (member_same vars v x (sym e) (at_member vars i v (omega (arith, lt)) is))
  | inr k ↦ apart vars i v (omega (arith, lt)) is distinct.1 k
]

pub raise_within : (weights vars now : List ℕ) (i v : ℕ) → now ≡ raised weights (take i vars) → v < length weights → v < length now
raise_within weights vars now i v e lt = let l = ap length e ∙ raised_length 0 weights (take i vars) in omega (arith, l, lt)

weight_member : (weights : List ℕ) (k : ℕ) → k < length weights → Contains weights (weight_of weights k)
weight_member [] k lt = absurd (omega (arith, lt))
weight_member (w ∷ weights) zero lt = member_here w weights
weight_member (w ∷ weights) (suc k) lt = member_there w weights (weight_of weights k) (weight_member weights k (omega (arith, lt)))

pub raise_small : (weights vars now : List ℕ) (i v most : ℕ) → i < length vars → v ≡ get_or vars i v → Distinct vars → now ≡ raised weights (take i vars) → v < length weights → ((w : ℕ) → Contains weights w → w < most) → weight_of now v < most
raise_small weights vars now i v most lt is distinct e within small =
    let f = ap (λ l. weight_of l v) e ∙ raised_other 0 weights (take i vars) v (λ m. apart vars i v lt is distinct (member_same (take i vars) (0 + v) v (omega arith) m)) in
    subst (λ w. w < most) (sym f) (small (weight_of weights v) (weight_member weights v within))

pub raise_next : (weights vars now then : List ℕ) (i v : ℕ) → i < length vars → v ≡ get_or vars i v → Distinct vars → v < length weights → now ≡ raised weights (take i vars)
    → then ≡ slice_set now v (weight_of now v + 1) → then ≡ raised weights (take (i + 1) vars)
raise_next weights vars now then i v lt is distinct within e f =
    let none = apart vars i v lt is distinct in
    let same = raised_other 0 weights (take i vars) v (λ m. none (member_same (take i vars) (0 + v) v (omega arith) m)) in
    f ∙ (λ j. slice_set (e j) v (weight_of (e j) v + 1)) ∙ ap (λ w. slice_set (raised weights (take i vars)) v (w + 1)) same
    ∙ sym (raised_more 0 weights (take i vars) v v none (omega arith) within) ∙ ap (λ x. raised weights (take i vars ++ x ∷ [])) is ∙ ap (raised weights) (sym (take_more vars i v lt))

-- ---- posting for all nogoods

pub record IsPosting (decisions : List Pair) (start : View) (first : LearnedView) (index : ℕ) (engine : View) (learned : LearnedView) : Type 0 where
  pub posts : PostsFrom (repair_state start.state decisions first) first.dropped (take index first.nogoods) (repair_state engine.state decisions learned)
  pub repairing : IsRepairing (repair_state engine.state decisions learned)
  pub leaves : OnlyPosts (repair_state start.state decisions first) (repair_state engine.state decisions learned)
  pub counts : KeepsCounts start engine

pub counts_same : (a b c : View) → KeepsCounts a b → KeepsCounts b c → KeepsCounts a c
counts_same a b c one two = record { revisions = two.revisions ∙ one.revisions; checks = two.checks ∙ one.checks }

pub posting_starts : (decisions : List Pair) (start : View) (first : LearnedView) → IsRepairing (repair_state start.state decisions first) → IsPosting decisions start first 0 start first
posting_starts decisions start first repairing = record {
  posts = refl;
  repairing = repairing;
  leaves = leaves_none (repair_state start.state decisions first);
  counts = record { revisions = refl; checks = refl };
}

posts_push : (s : RepairState) (number : ℕ) (xs : List Nogood) (x : Nogood) (m t : RepairState) → PostsFrom s number xs m → PostsFor m (number + length xs) x (undecided m.search.decisions x) t → PostsFrom s number (xs ++ x ∷ []) t
posts_push s number [] x m t posts one =
    (t, subst (λ (z : RepairState). PostsFor z number x (undecided z.search.decisions x) t) posts (subst (λ k. PostsFor m k x (undecided m.search.decisions x) t) (plus number) one), refl)
  where
    plus : (n : ℕ) → n + 0 ≡ n
    plus n = omega arith
posts_push s number (y ∷ xs) x m t posts one =
    (posts.0, posts.1, posts_push posts.0 (number + 1) xs x m t posts.2 (subst (λ k. PostsFor m k x (undecided m.search.decisions x) t) (shift number (length xs)) one))
  where
    shift : (n k : ℕ) → n + suc k ≡ (n + 1) + k
    shift n k = omega arith

-- no origin tells the pair of a negation that is not active
origin_more : (s : RepairState) (p : Pair) (number : ℕ) → HasOrigins s → (IsActive s.search.engine.active (Not p) → ⊥) → with_origin p number s.origins ≡ record { pair = p; nogood = number } ∷ s.origins
origin_more s p number has inactive = ap (λ l. record { pair = p; nogood = number } ∷ l) (all_kept s.origins (λ o m. m))
  where
    kept : (o : Origin) → Contains s.origins o → not (same_pair o.pair p) ≡ true
    kept o m = not_true (same_pair o.pair p) (λ t. inactive (subst (λ q. IsActive s.search.engine.active (Not q)) (pair_same o.pair p t) (has.active o m)))

    all_kept : (origins : List Origin) → ((o : Origin) → Contains origins o → Contains s.origins o) → filter (λ o. not (same_pair o.pair p)) origins ≡ origins
    all_kept [] sub = refl
    all_kept (o ∷ origins) sub =
        ap (λ b. cond b (o ∷ filter (λ q. not (same_pair q.pair p)) origins) (filter (λ q. not (same_pair q.pair p)) origins)) (kept o (sub o (member_here o origins)))
        ∙ ap (λ l. o ∷ l) (all_kept origins (λ q m. sub q (member_there o origins q m)))

-- what force asks of a listed nogood
pub listed_forced : (decisions : List Pair) (engine : EngineState) (learned : LearnedView) (values : List (Option ℤ)) (nogood : Nogood) (p : Pair) → IsRepairing (repair_state engine decisions learned)
    → ShowsDecisions decisions values → Contains learned.nogoods nogood → left_open values nogood ≡ p ∷ [] → IsForced engine nogood p
listed_forced decisions engine learned values nogood p repairing shows m one =
    let is = repairing.nogoods nogood m in
    let e = sym (open_is decisions values nogood shows) ∙ one in
    record {
      declared = is.declared p (one_left decisions nogood p e);
      justifiers = justification_justifies (record { engine = engine; decisions = decisions }) nogood p repairing.searching is e;
    }

-- one more nogood was walked
walked : (decisions : List Pair) (start : View) (first : LearnedView) (index : ℕ) (engine next : View) (learned after : LearnedView) (nogood : Nogood) → index < length first.nogoods → nogood ≡ get_or learned.nogoods index nogood
    → PostsFor (repair_state engine.state decisions learned) (first.dropped + index) nogood (undecided decisions nogood) (repair_state next.state decisions after)
    → KeepsCounts engine next → IsPosting decisions start first index engine learned → IsPosting decisions start first (index + 1) next after
walked decisions start first index engine next learned after nogood lt is one counts posting =
    let s = repair_state start.state decisions first in
    let m = repair_state engine.state decisions learned in
    let t = repair_state next.state decisions after in
    let at : nogood ≡ get_or first.nogoods index nogood = is ∙ ap (λ l. get_or l index nogood) posting.leaves.nogoods in
    let long : length (take index first.nogoods) ≡ index = taken_length first.nogoods index (omega (arith, lt)) in
    let leaves = posts_for_leaves m (first.dropped + index) nogood (undecided decisions nogood) t one in
    let numbered : IsNumbered m (first.dropped + index) nogood = record {
      older = take index first.nogoods;
      newer = drop (suc index) first.nogoods;
      are = posting.leaves.nogoods ∙ split_at first.nogoods index nogood lt at;
      counts = (λ i. sym posting.leaves.dropped i + sym long i);
    } in
    record {
      posts = subst (λ l. PostsFrom s first.dropped l t) (ap (λ x. take index first.nogoods ++ x ∷ []) at ∙ sym (take_more first.nogoods index nogood lt))
          (posts_push s first.dropped (take index first.nogoods) nogood m t posting.posts (subst (λ k. PostsFor m (first.dropped + k) nogood (undecided decisions nogood) t) (sym long) one));
      repairing = posts_for_keeps m (first.dropped + index) nogood (undecided decisions nogood) t refl one numbered posting.repairing;
      leaves = leaves_then s m t posting.leaves leaves;
      counts = counts_same start engine next posting.counts counts;
    }

-- nothing was posted for it
pub posting_kept : (decisions : List Pair) (start : View) (first : LearnedView) (index : ℕ) (engine next : View) (learned : LearnedView) (values : List (Option ℤ)) (nogood : Nogood) → index < length first.nogoods
    → nogood ≡ get_or learned.nogoods index nogood → ShowsDecisions decisions values → Forces nogood (left_open values nogood) engine.state next.state None → KeepsCounts engine next
    → IsPosting decisions start first index engine learned → IsPosting decisions start first (index + 1) next learned
posting_kept decisions start first index engine next learned values nogood lt is shows forces counts posting =
    walked decisions start first index engine next learned learned nogood lt is
    (by_left (undecided decisions nogood) (λ p e. forces.0 p (open_is decisions values nogood shows ∙ e)))
    counts posting
  where
    same : repair_state next.state decisions learned ≡ repair_state engine.state decisions learned
    same = ap (λ z. repair_state z decisions learned) forces.1

    by_left : (left : List Pair) → ((p : Pair) → left ≡ p ∷ [] → IsActive engine.state.active (Not p)) → PostsFor (repair_state engine.state decisions learned) (first.dropped + index) nogood left (repair_state next.state decisions learned)
    by_left [] active = same
    by_left (p ∷ []) active = inl (active p refl, same)
    by_left (p ∷ q ∷ left) active = same

-- the negation of its only undecided pair was posted
pub posting_more : (decisions : List Pair) (start : View) (first : LearnedView) (index : ℕ) (engine next : View) (learned after : LearnedView) (values : List (Option ℤ)) (nogood : Nogood) (p : Pair) (number : ℕ) → index < length first.nogoods
    → nogood ≡ get_or learned.nogoods index nogood → ShowsDecisions decisions values → Forces nogood (left_open values nogood) engine.state next.state (Some p) → KeepsCounts engine next
    → number ≡ learned.dropped + index → after ≡ record learned { origins = record { pair = p; nogood = number } ∷ learned.origins }
    → IsPosting decisions start first index engine learned → IsPosting decisions start first (index + 1) next after
posting_more decisions start first index engine next learned after values nogood p number lt is shows forces counts en ea posting =
    let m = repair_state engine.state decisions learned in
    let one : undecided decisions nogood ≡ p ∷ [] = sym (open_is decisions values nogood shows) ∙ forces.0 in
    let same : number ≡ first.dropped + index = en ∙ ap (λ k. k + index) posting.leaves.dropped in
    let origins = origin_more m p (first.dropped + index) posting.repairing.origins forces.1.inactive in
    walked decisions start first index engine next learned after nogood lt is
    (subst (λ l. PostsFor m (first.dropped + index) nogood l (repair_state next.state decisions after)) (sym one) (inr (record {
      posts = forces.1;
      after = ap (repair_state next.state decisions) ea ∙ (λ i. record m {
        search = record { engine = next.state; decisions = decisions };
        origins = record { pair = p; nogood = same i } ∷ learned.origins;
      }) ∙ ap (λ l. record m { search = record { engine = next.state; decisions = decisions }; origins = l }) (sym origins);
    })))
    counts posting

pub posting_ends : (decisions : List Pair) (start : View) (first : LearnedView) (index : ℕ) (engine : View) (learned : LearnedView) → length first.nogoods ≤ index → IsPosting decisions start first index engine learned
    → PostsAll (repair_state start.state decisions first) (repair_state engine.state decisions learned)
posting_ends decisions start first index engine learned le posting =
    subst (λ l. PostsFrom (repair_state start.state decisions first) first.dropped l (repair_state engine.state decisions learned)) (take_all index first.nogoods le) posting.posts

-- it stops where no nogood was walked
pub posts_none : (s : RepairState) → PostsSome s s.search.engine
posts_none s = record { walked = []; others = s.nogoods; are = refl; last = s; posts = refl; is = refl }

-- it stops here
pub posting_stops : (decisions : List Pair) (start : View) (first : LearnedView) (index : ℕ) (engine : View) (learned : LearnedView) → IsPosting decisions start first index engine learned
    → PostsSome (repair_state start.state decisions first) engine.state
posting_stops decisions start first index engine learned posting = record {
  walked = take index first.nogoods;
  others = drop index first.nogoods;
  are = sym (take-append-drop index first.nogoods);
  last = repair_state engine.state decisions learned;
  posts = posting.posts;
  is = refl;
}

-- it stops after a negation was posted, whose origin is not noted
pub posting_cut : (decisions : List Pair) (start : View) (first : LearnedView) (index : ℕ) (engine next : View) (learned : LearnedView) (values : List (Option ℤ)) (nogood : Nogood) (p : Pair) → index < length first.nogoods
    → nogood ≡ get_or learned.nogoods index nogood → ShowsDecisions decisions values → Forces nogood (left_open values nogood) engine.state next.state (Some p) → KeepsCounts engine next
    → IsPosting decisions start first index engine learned → PostsSome (repair_state start.state decisions first) next.state
posting_cut decisions start first index engine next learned values nogood p lt is shows forces counts posting =
    let number = learned.dropped + index in
    let after : LearnedView = record learned { origins = record { pair = p; nogood = number } ∷ learned.origins } in
    posting_stops decisions start first (index + 1) next after (posting_more decisions start first index engine next learned after values nogood p number lt is shows forces counts refl refl posting)

-- ---- what one posting leaves

pub rows_length : (rows : List Row) (initial : Domains) → initial_of rows ≡ initial → length rows ≡ length initial
rows_length rows initial e = sym (length-map rows (λ (r : Row). r.initial)) ∙ ap length e

pub forced_has : (m t : EngineState) (search : SearchView) (nogood : Nogood) (left : List Pair) (p : Pair) → Forces nogood left m t (Some p) → HasDecisions (search_state m search) → HasDecisions (search_state t search)
forced_has m t search nogood left p forces has =
    posted_has (search_state m search) (negation_of p (justification nogood p)) t (ap (λ (z : EngineState). z.active) forces.1.after) forces.1.inactive (λ x e. other p x e) has
  where
    other : (p : Pair) (x : ℕ) → Not p ≡ Decide x → ⊥
    other p x e = cc

pub none_forced : (nogood : Nogood) (left : List Pair) (s t : EngineState) (posted : Option Pair) → ((p : Pair) → posted ≡ Some p → ⊥) → Forces nogood left s t posted → Forces nogood left s t None
none_forced nogood left s t None none forces = forces
none_forced nogood left s t (Some p) none forces = absurd (none p refl)

pub raised_none : (x : ℕ) (weights : List ℕ) → raised_from x weights [] ≡ weights
raised_none x [] = refl
raised_none x (w ∷ weights) = ap (λ l. w ∷ l) (raised_none (x + 1) weights)
