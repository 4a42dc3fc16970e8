-- How far a revision has come: over the values of a variable, and over the places of a scope.
use Rattle.std.proofs.Common.{◌≡◌, ℕ, zero, suc, ◌+◌, ◌-◌, ◌<◌, ◌≤◌, min, pos, ◌+ℤ◌, ◌<ℤ◌, ◌≤ℤ◌, List, [], ◌∷◌, ◌++◌, length, Contains, ℤ, Option, Some, None, IfSome, Result, Ok, Err, OnOk, OnErr, ◌⊎◌, inl, inr, refl, sym, ap, ◌∙◌, subst, arith, append_assoc, zero-add, length-append}
use Rattle.std.proofs.lemmas.Int.{ints, by_lt_z}
use Rattle.palm_base.specs.declared.terms.Pair.{Pair}
use Rattle.palm_base.specs.declared.terms.Cid.{Cid}
use Rattle.palm_base.specs.declared.limits.TheConstants.{LAST_COUNT}
use Rattle.palm_base.proofs.cited.Members.{member_nil, int_known}
use Rattle.palm_domain.specs.Rows.{IsLeastOf, initial_of, present_of, present_values}
use Rattle.palm_domain.proofs.cited.Ascending.{Ascends-at}
use Rattle.palm_model.specs.Domains.{Domains, Ascends, Has, values_of}
use Rattle.palm_model.specs.Constraint.{scope}
use Rattle.palm_model.specs.Support.{IsSupported, LacksSupport}
use Rattle.palm_model.specs.Removed.{pairs_of}
use Rattle.palm_model.specs.Log.{Active, log_pairs}
use Rattle.palm_model.specs.State.{IsEmptyAt, AllFilled, present}
use Rattle.palm_model.proofs.cited.Without.{pair_of, without_has}
use Rattle.palm_engine.specs.declared.filtering.Filtering.{Filtering}
use Rattle.palm_engine.specs.Changed.{TakesOut}
use Rattle.palm_engine.specs.Settling.{IsDue}
use Rattle.palm_engine.specs.Settling.Walks.{walked_all}
use Rattle.palm_engine.specs.Kept.{IsInStep, state_in_revision}
use Rattle.palm_engine.specs.Advancing.{Advanced}
use Rattle.palm_engine.specs.Revising.{IsRevising, IsAgain, Walked, WalkedPart, AreSupportedAt, HasCounted, HasTicked}
use Rattle.palm_engine.specs.Work.{asks_of}
use Rattle.palm_engine.proofs.cited.Walking.{walk_filters}
use Rattle.palm_engine.proofs.Joined.{walk_has, walk_then, walk_one_past, walk_one_out}
use Rattle.palm_engine.proofs.Bounds.{left_from, fewer_left, values_below, values_from, values_between, values_before, IsBefore, IsNextAt, below_between, below_from, between_one, below_of, member_below, member_from, walk_next, walk_on, walk_least, walk_value, pairs_both}
use Rattle.palm_engine.proofs.Quiet.{IsQuiet, asks_few, not_asked}
use Rattle.palm_engine.proofs.Revised.{over_connected, present_is, present_length, stated, out_removes, out_kept, one_keeps, one_supports, only_emptied, some_length}
use Rattle.palm_events.proofs.cited.Reasons.{reasons_right}
use Rattle.palm_events.proofs.cited.Valid.{removes_valid}

-- ---- parts of a walk

pub again_then : (n k : ℕ) (cid : Cid) (f g h : Filtering) → IsAgain n cid f g → IsAgain k cid g h → IsAgain (n + k) cid f h
again_then zero zero cid f g h first second = second ∙ first
again_then zero (suc k) cid f g h first second = subst (λ i. IsAgain i cid f h) (sym (zero-add (suc k))) second
again_then (suc n) zero cid f g h first second =
    let e : suc n ≡ suc n + zero = omega arith in
    subst (λ i. IsAgain i cid f h) e (subst (λ cs. Contains cs cid) (sym second) first)
again_then (suc n) (suc k) cid f g h first second =
    let e : suc (n + suc k) ≡ suc n + suc k = omega arith in
    subst (λ i. IsAgain i cid f h) e second

pub walked_none : (active : List Active) (owner : Active) (f : Filtering) → Walked active owner [] f f
walked_none active owner f = record { removed = 0; walk = walked_all (state_in_revision f active owner.cid); again = refl }

pub walked_then : (active : List Active) (owner : Active) (ps qs : List Pair) (f g h : Filtering) → Walked active owner ps f g → Walked active owner qs g h → Walked active owner (ps ++ qs) f h
walked_then active owner ps qs f g h first second = record {
  removed = first.removed + second.removed;
  walk = walk_then owner ps (state_in_revision f active owner.cid) first.removed (state_in_revision g active owner.cid) qs second.removed (state_in_revision h active owner.cid) first.walk second.walk;
  again = again_then first.removed second.removed owner.cid f g h first.again second.again;
}

-- the declared values stay
pub walked_initial : (active : List Active) (owner : Active) (ps : List Pair) (f g : Filtering) → Walked active owner ps f g → initial_of g.store ≡ initial_of f.store
walked_initial active owner ps f g w = (walk_filters owner ps (state_in_revision f active owner.cid) w.removed (state_in_revision g active owner.cid) w.walk).initial

-- ---- checks

again_checks : (n : ℕ) (cid : Cid) (f g : Filtering) (k : ℕ) → IsAgain n cid f g → IsAgain n cid f (record g { checks = k })
again_checks zero cid f g k a = a
again_checks (suc n) cid f g k a = a

checks_again : (n : ℕ) (cid : Cid) (f g : Filtering) (k : ℕ) → IsAgain n cid (record f { checks = k }) g → IsAgain n cid f g
checks_again zero cid f g k a = a
checks_again (suc n) cid f g k a = a

pub walked_checks : (active : List Active) (owner : Active) (ps : List Pair) (f g : Filtering) (k : ℕ) → Walked active owner ps f g → Walked active owner ps f (record g { checks = k })
walked_checks active owner ps f g k w = record { removed = w.removed; walk = w.walk; again = again_checks w.removed owner.cid f g k w.again }

pub checks_walked : (active : List Active) (owner : Active) (ps : List Pair) (f g : Filtering) (k : ℕ) → Walked active owner ps (record f { checks = k }) g → Walked active owner ps f g
checks_walked active owner ps f g k w = record { removed = w.removed; walk = w.walk; again = checks_again w.removed owner.cid f g k w.again }

pub revising_checks : (active : List Active) (owner : Active) (f : Filtering) (k : ℕ) → IsRevising f active owner → IsRevising (record f { checks = k }) active owner
revising_checks active owner f k r = record {
  kept = record { removed = r.kept.removed; formed = r.kept.formed; connected = r.kept.connected; heeded = r.kept.heeded; marked = r.kept.marked; empty = r.kept.empty };
  valid = r.valid;
  posted = r.posted;
}

min_joined : (c s t u g h last : ℕ) → s ≤ t → t ≤ u → g ≡ min (c + (t - s)) last → h ≡ min (g + (u - t)) last → h ≡ min (c + (u - s)) last
min_joined c s t u g h last st tu eg eh = omega arith

min_within : (n last : ℕ) → min n last ≤ last
min_within n last = omega arith

pub ticked_then : (a b : ℕ) (f g h : Filtering) (s t u : ℕ) → HasTicked a f g s t → HasTicked b g h t u → HasTicked (a + b) f h s u
ticked_then a b f g h s t u first second =
    let l = first.later in
    let m = second.later in
    let x = first.few in
    let y = second.few in
    record {
      later = omega (arith, l, m);
      few = omega (arith, x, y);
      checks = λ le.
          let e = first.checks le in
          let within = min_within (f.checks + (t - s)) LAST_COUNT in
          min_joined f.checks s t u g.checks h.checks LAST_COUNT l m e (second.checks (subst (λ n. n ≤ LAST_COUNT) (sym e) within));
    }

pub ticked_none : (f : Filtering) (s : ℕ) → HasTicked 0 f f s s
ticked_none f s = record { later = omega arith; few = omega arith; checks = λ le. same f.checks s LAST_COUNT le }
  where
    same : (c s last : ℕ) → c ≤ last → c ≡ min (c + (s - s)) last
    same c s last le = omega arith

pub ticked_more : (a b : ℕ) (f g : Filtering) (s t : ℕ) → a ≤ b → HasTicked a f g s t → HasTicked b f g s t
ticked_more a b f g s t le c = let x = c.few in record { later = c.later; few = omega (arith, x); checks = c.checks }

pub counted_then : (a b : ℕ) (f g h : Filtering) (s t u : ℕ) → HasCounted a f g s t → HasCounted b g h t u → HasCounted (a + b) f h s u
counted_then a b f g h s t u first second =
    let l = first.ticked.later in
    let m = second.ticked.later in
    record {
      ticked = ticked_then a b f g h s t u first.ticked second.ticked;
      silent = λ e. second.silent (omega (arith, l, m, e)) ∙ first.silent (omega (arith, l, m, e));
    }

pub counted_none : (f : Filtering) (s : ℕ) → HasCounted 0 f f s s
counted_none f s = record { ticked = ticked_none f s; silent = λ e. refl }

pub counted_more : (a b : ℕ) (f g : Filtering) (s t : ℕ) → a ≤ b → HasCounted a f g s t → HasCounted b f g s t
counted_more a b f g s t le c = record { ticked = ticked_more a b f g s t le c.ticked; silent = c.silent }

once_later : (asks s t : ℕ) → t ≡ s + asks → s ≤ t
once_later asks s t e = omega arith

once_few : (asks s t : ℕ) → t ≡ s + asks → asks ≤ 1 → t ≤ s + 1
once_few asks s t e le = omega arith

-- one value was asked for, and was left or taken out
pub counted_one : (owner : Active) (f g : Filtering) (s t : ℕ) → t ≡ s + asks_of owner → g.checks ≡ min (f.checks + (t - s)) LAST_COUNT → IsQuiet owner f g → HasCounted 1 f g s t
counted_one owner f g s t asked checks quiet = record {
  ticked = record {
    later = once_later (asks_of owner) s t asked;
    few = once_few (asks_of owner) s t asked (asks_few owner);
    checks = λ le. checks;
  };
  silent = λ e. quiet (not_asked owner s t asked e);
}

-- ---- one value

pub passed_walked : (active : List Active) (owner : Active) (p : Pair) (f : Filtering) (k : ℕ) → IsRevising f active owner → IsSupported (present_of f.store) owner.con p.var p.value → Walked active owner (p ∷ []) f (record f { checks = k })
passed_walked active owner p f k r supported = record {
  removed = 0;
  walk = walk_one_past owner p (state_in_revision f active owner.cid) (subst (λ d. IsSupported d owner.con p.var p.value) (sym (present_is f active owner.cid r.kept)) supported);
  again = refl;
}

pub out_walked : (active : List Active) (owner : Active) (p : Pair) (f g : Filtering) → IsRevising f active owner → AllFilled (present_of f.store) → Has (present_of f.store) p.var p.value
    → LacksSupport (present_of f.store) owner.con p.var p.value → Contains (scope owner.con) p.var → TakesOut f p owner.cid (stated f owner p) g → Walked active owner (p ∷ []) f g
out_walked active owner p f g r filled has lacks over takes = record {
  removed = 1;
  walk = walk_one_out owner p (state_in_revision f active owner.cid) (state_in_revision g active owner.cid) (out_removes f active owner p g r filled has lacks takes);
  again =
      (takes.pending owner.cid).1 (inr (over_connected f active r.kept p.var owner.cid (owner, r.posted, refl, over)));
}

pub out_revising : (active : List Active) (owner : Active) (p : Pair) (f g : Filtering) → IsRevising f active owner → AllFilled (present_of f.store) → Has (present_of f.store) p.var p.value
    → LacksSupport (present_of f.store) owner.con p.var p.value → Contains (scope owner.con) p.var → TakesOut f p owner.cid (stated f owner p) g → IsRevising g active owner
out_revising active owner p f g r filled has lacks over takes = record {
  kept = out_kept f active owner p g r filled has over takes;
  valid = removes_valid reasons_right (state_in_revision f active owner.cid) (state_in_revision g active owner.cid) owner p (out_removes f active owner p g r filled has lacks takes) r.valid;
  posted = r.posted;
}

-- ---- the values of a variable

pub declared_ascend : (f : Filtering) (active : List Active) (owner : Active) → IsRevising f active owner → (x : ℕ) → Ascends (values_of (initial_of f.store) x)
declared_ascend f active owner r x = Ascends-at (initial_of f.store) x r.valid.ascend

-- a present value is declared
pub has_declared_value : (f : Filtering) (active : List Active) → IsInStep f active → (x : ℕ) (v : ℤ) → Has (present_of f.store) x v → Has (initial_of f.store) x v
has_declared_value f active kept x v has = (without_has (initial_of f.store) (log_pairs f.log.log) x v (subst (λ d. Has d x v) kept.removed.present has)).0

pub values_start : (active : List Active) (owner : Active) (x : ℕ) (v : ℤ) (f : Filtering) → IsRevising f active owner → AllFilled (present_of f.store) → IsLeastOf (present_values f.store x) v
    → Advanced active owner x (Some v) f f
values_start active owner x v f r filled least =
    let vs = values_of (initial_of f.store) x in
    let e = present_is f active owner.cid r.kept in
    let walk = walk_least owner x (state_in_revision f active owner.cid) vs v (subst (λ (d : Domains). IsLeastOf (values_of d x) v) (sym e) least) in
    record {
      revising = r;
      walked = record { removed = 0; walk = walk; again = refl };
      present = least.member;
      supported = λ w m has. let lt = (below_of v vs w m).1 in let ge = least.least w has in absurd (omega (arith, ints, lt, ge));
      alone = λ y empty. let some = filled y empty.exists in absurd (omega (arith, some, ap length empty.empty));
    }

-- the values before the next one were walked over, and so many were asked for at most
pub record WalkedValues (active : List Active) (owner : Active) (x : ℕ) (next : Option ℤ) (before now : Filtering) (old new : ℕ) : Type 0 where
  pub advanced : Advanced active owner x next before now
  pub counted : HasCounted (length (values_before next (values_of (initial_of before.store) x))) before now old new

-- no value below the least one was asked for
pub start_counted : (x : ℕ) (v : ℤ) (f : Filtering) (s : ℕ) → HasCounted (length (values_below v (values_of (initial_of f.store) x))) f f s s
start_counted x v f s = counted_more 0 (length (values_below v (values_of (initial_of f.store) x))) f f s s (omega arith) (counted_none f s)

-- where only the variable of a present value may be empty, no domain is
pub alone_filled : (d : Domains) (x : ℕ) (v : ℤ) → Has d x v → ((y : ℕ) → IsEmptyAt d y → y ≡ x) → AllFilled d
alone_filled d x v has alone y lt = some_or_none (values_of d y) (λ e. let is = alone y (record { exists = lt; empty = e }) in member_nil v (subst (λ vs. Contains vs v) (ap (values_of d) (sym is) ∙ e) has))
  where
    some_or_none : (vs : List ℤ) → (vs ≡ [] → ⊥) → 0 < length vs
    some_or_none [] n = absurd (n refl)
    some_or_none (w ∷ vs) n = omega arith

pub values_filled : (active : List Active) (owner : Active) (x : ℕ) (v : ℤ) (before now : Filtering) → Advanced active owner x (Some v) before now → AllFilled (present_of now.store)
values_filled active owner x v before now w = alone_filled (present_of now.store) x v w.present w.alone

pub below_or_not : (w v : ℤ) → (w <ℤ v) ⊎ (v ≤ℤ w)
below_or_not w v = by_lt_z w v (λ l. inl l) (λ g. inr g)

pub over : (v w : ℤ) → v ≤ℤ w → (v ≡ w → ⊥) → (v +ℤ pos 1) ≤ℤ w
over v w ge other = elim (below_or_not v w) [
  | inl l ↦ omega (arith, ints, l)
  | inr le ↦ absurd (other (omega (arith, ints, ge, le)))
]

pub next_present : (next : Option ℤ) (now : List ℤ) (low : ℤ) → IsNextAt next now low → IfSome next (λ v. Contains now v)
next_present (Some v) now low next = next.member
next_present None now low none = tt

-- what is present after a walk was so before
pub stays_there : (active : List Active) (owner : Active) (x : ℕ) (v : ℤ) (now after : Filtering) (one : Walked active owner (pair_of x v ∷ []) now after) (z : ℤ) → Has (present (state_in_revision after active owner.cid)) x z
    → Has (present (state_in_revision now active owner.cid)) x z
stays_there active owner x v now after one z has = walk_has owner (pair_of x v ∷ []) (state_in_revision now active owner.cid) one.removed (state_in_revision after active owner.cid) one.walk x z has

pub alone_after : (active : List Active) (owner : Active) (x : ℕ) (v : ℤ) (now after : Filtering) → IsRevising now active owner → IsRevising after active owner → Walked active owner (pair_of x v ∷ []) now after → Has (present_of now.store) x v
    → ((y : ℕ) → IsEmptyAt (present_of now.store) y → y ≡ x) → (y : ℕ) → IsEmptyAt (present_of after.store) y → y ≡ x
alone_after active owner x v now after r q one has alone =
    let same : length (present_of after.store) ≡ length (present_of now.store) = present_length after active q.kept ∙ ap length (walked_initial active owner (pair_of x v ∷ []) now after one) ∙ sym (present_length now active r.kept) in
    let keeps = one_keeps owner x v (state_in_revision now active owner.cid) one.removed (state_in_revision after active owner.cid) one.walk in
    only_emptied (present_of now.store) (present_of after.store) x v same
    (λ y w other here. subst (λ d. Has d y w) (present_is after active owner.cid q.kept) (keeps y w other (subst (λ d. Has d y w) (sym (present_is now active owner.cid r.kept)) here)))
    (alone_filled (present_of now.store) x v has alone)

-- how many values are walked over more
before_length : (vs : List ℤ) (low : ℤ) (next : Option ℤ) (now : List ℤ) → Ascends vs → IsNextAt next now low → length (values_below low vs) ≤ length (values_before next vs)
before_length vs low (Some v) now a next =
    let e = ap length (sym (below_between low v vs a next.from)) ∙ length-append (values_below low vs) (values_between low v vs) in
    omega (arith, e)
before_length vs low None now a none =
    let e = ap length (sym (below_from low vs a)) ∙ length-append (values_below low vs) (values_from low vs) in
    omega (arith, e)

above_le : (v : ℤ) → v ≤ℤ (v +ℤ pos 1)
above_le v = omega (arith, ints)

pub one_more_below : (vs : List ℤ) (v : ℤ) → Ascends vs → Contains vs v → length (values_below (v +ℤ pos 1) vs) ≡ length (values_below v vs) + 1
one_more_below vs v a has =
    ap length (sym (below_between v (v +ℤ pos 1) vs a (above_le v)))
    ∙ length-append (values_below v vs) (values_between v (v +ℤ pos 1) vs) ∙ ap (λ n. length (values_below v vs) + n) (ap length (between_one v vs a has))

-- a value before the next one is below the one that was looked at, or is it, or is not present
before_cases : (vs : List ℤ) (v : ℤ) (next : Option ℤ) (now : List ℤ) (w : ℤ) → IsNextAt next now (v +ℤ pos 1) → Contains (values_before next vs) w → Contains now w → (v ≡ w → ⊥) → Contains (values_below v vs) w
before_cases vs v (Some u) now w next m has other =
    let r = below_of u vs w m in
    let lt = r.1 in
    elim (below_or_not w v) [
      | inl l ↦ member_below v vs w r.0 l
      | inr ge ↦ let n = next.least w has (over v w ge other) in absurd (omega (arith, ints, n, lt))
    ]
before_cases vs v None now w none m has other = elim (below_or_not w v) [
  | inl l ↦ member_below v vs w m l
  | inr ge ↦ let lt = none w has in let le = over v w ge other in absurd (omega (arith, ints, lt, le))
]

pub values_more : (active : List Active) (owner : Active) (x : ℕ) (v : ℤ) (next : Option ℤ) (before now after : Filtering) → Advanced active owner x (Some v) before now
    → Walked active owner (pair_of x v ∷ []) now after → IsRevising after active owner → (Has (present_of after.store) x v → IsSupported (present_of after.store) owner.con x v)
    → IsNextAt next (present_values after.store x) (v +ℤ pos 1) → Advanced active owner x next before after
values_more active owner x v next before now after w one r supported is_next =
    let vs = values_of (initial_of before.store) x in
    let i = walked_initial active owner (pairs_of x (values_below v vs)) before now w.walked in
    let a : Ascends vs = subst (λ (d : Domains). Ascends (values_of d x)) i (declared_ascend now active owner w.revising x) in
    let has : Contains vs v = subst (λ (d : Domains). Has d x v) i (has_declared_value now active w.revising.kept x v w.present) in
    let en = present_is now active owner.cid w.revising.kept in
    let ea = present_is after active owner.cid r.kept in
    let start = state_in_revision before active owner.cid in
    let middle = state_in_revision now active owner.cid in
    let end = state_in_revision after active owner.cid in
    let both = walk_value owner x start w.walked.removed middle one.removed end vs v a has w.walked.walk one.walk in
    let walk = walk_next owner x start (w.walked.removed + one.removed) end vs (v +ℤ pos 1) next a both (subst (λ (d : Domains). IsNextAt next (values_of d x) (v +ℤ pos 1)) (sym ea) is_next) in
    let keeps = one_keeps owner x v middle one.removed end one.walk in
    record {
      revising = r;
      walked = record { removed = w.walked.removed + one.removed; walk = walk; again = again_then w.walked.removed one.removed owner.cid before now after w.walked.again one.again };
      present = next_present next (present_values after.store x) (v +ℤ pos 1) is_next;
      supported = λ z m here. elim (int_known v z) [
        | inl e ↦ subst (λ y. IsSupported (present_of after.store) owner.con x y) e (supported (subst (λ y. Has (present_of after.store) x y) (sym e) here))
        | inr n ↦
            let was = before_cases vs v next (present_values after.store x) z is_next m here n in
            let there = stays_there active owner x v now after one z (subst (λ d. Has d x z) (sym ea) here) in
            let s_now = w.supported z was (subst (λ d. Has d x z) en there) in
            subst (λ d. IsSupported d owner.con x z) ea (one_supports owner x v middle one.removed end one.walk z n (subst (λ d. IsSupported d owner.con x z) (sym en) s_now))
      ];
      alone = λ y empty. alone_after active owner x v now after w.revising r one w.present w.alone y empty;
    }

-- those that have support are passed, up to a later one
pub values_passed : (active : List Active) (owner : Active) (x : ℕ) (v : ℤ) (next : Option ℤ) (before now : Filtering) → Advanced active owner x (Some v) before now
    → IfSome next (λ w. v ≤ℤ w) → IfSome next (λ w. Has (present_of now.store) x w) → ((u : ℤ) → v ≤ℤ u → IsBefore next u → Has (present_of now.store) x u → IsSupported (present_of now.store) owner.con x u)
    → Advanced active owner x next before now
values_passed active owner x v next before now w le here supported =
    let vs = values_of (initial_of before.store) x in
    let i = walked_initial active owner (pairs_of x (values_below v vs)) before now w.walked in
    let a : Ascends vs = subst (λ (d : Domains). Ascends (values_of d x)) i (declared_ascend now active owner w.revising x) in
    let e = present_is now active owner.cid w.revising.kept in
    let end = state_in_revision now active owner.cid in
    let walk = walk_on owner x (state_in_revision before active owner.cid) w.walked.removed end vs v next a le w.walked.walk (λ u ge is has.
    subst (λ d. IsSupported d owner.con x u) (sym e) (supported u ge is (subst (λ d. Has d x u) e has))) in
    record {
      revising = w.revising;
      walked = record { removed = w.walked.removed; walk = walk; again = w.walked.again };
      present = here;
      supported = λ z m has. let r = before_of vs next z m in elim (below_or_not z v) [
        | inl lt ↦ w.supported z (member_below v vs z r.0 lt) has
        | inr ge ↦ supported z ge r.1 has
      ];
      alone = w.alone;
    }
  where
    before_of : (vs : List ℤ) (next : Option ℤ) (z : ℤ) → Contains (values_before next vs) z → Contains vs z × IsBefore next z
    before_of vs (Some w) z m = below_of w vs z m
    before_of vs None z m = (m, tt)

-- and so many were asked for
pub more_counted : (active : List Active) (owner : Active) (x : ℕ) (v : ℤ) (next : Option ℤ) (before now after : Filtering) (s t u : ℕ) → Advanced active owner x (Some v) before now
    → HasCounted (length (values_below v (values_of (initial_of before.store) x))) before now s t → HasCounted 1 now after t u → IsNextAt next (present_values after.store x) (v +ℤ pos 1)
    → HasCounted (length (values_before next (values_of (initial_of before.store) x))) before after s u
more_counted active owner x v next before now after s t u w first counted is_next =
    let vs = values_of (initial_of before.store) x in
    let i = walked_initial active owner (pairs_of x (values_below v vs)) before now w.walked in
    let a : Ascends vs = subst (λ (d : Domains). Ascends (values_of d x)) i (declared_ascend now active owner w.revising x) in
    let has : Contains vs v = subst (λ (d : Domains). Has d x v) i (has_declared_value now active w.revising.kept x v w.present) in
    let more = before_length vs (v +ℤ pos 1) next (present_values after.store x) a is_next in
    let count = one_more_below vs v a has in
    counted_more (length (values_below v vs) + 1) (length (values_before next vs)) before after s u (omega (arith, more, count))
    (counted_then (length (values_below v vs)) 1 before now after s t u first counted)

-- after the last value the whole variable was walked over
pub values_done : (active : List Active) (owner : Active) (x : ℕ) (before now : Filtering) → Advanced active owner x None before now → Walked active owner (pairs_of x (values_of (initial_of before.store) x)) before now
values_done active owner x before now w = w.walked

pub values_supported : (active : List Active) (owner : Active) (x : ℕ) (before now : Filtering) → Advanced active owner x None before now → AreSupportedAt now owner x
values_supported active owner x before now w v has =
    let i = walked_initial active owner (pairs_of x (values_of (initial_of before.store) x)) before now w.walked in
    w.supported v (subst (λ (d : Domains). Has d x v) i (has_declared_value now active w.revising.kept x v has)) has

-- a value stands between those below and those above it
at_value : (vs : List ℤ) (v : ℤ) → Ascends vs → Contains vs v → vs ≡ values_below v vs ++ v ∷ values_from (v +ℤ pos 1) vs
at_value vs v a has =
    let below = values_below v vs in
    let above = values_from (v +ℤ pos 1) vs in
    let upto : values_below (v +ℤ pos 1) vs ≡ below ++ v ∷ [] = sym (below_between v (v +ℤ pos 1) vs a (above_le v)) ∙ ap (λ ws. below ++ ws) (between_one v vs a has) in
    sym (below_from (v +ℤ pos 1) vs a) ∙ ap (λ ws. ws ++ above) upto ∙ append_assoc below (v ∷ []) above

-- where memory runs out at a value, those below it were walked over
pub values_stopped : (active : List Active) (owner : Active) (x : ℕ) (v : ℤ) (before now : Filtering) (k : ℕ) → Advanced active owner x (Some v) before now → IsDue (present_of now.store) owner.con (pair_of x v)
    → WalkedPart active owner (pairs_of x (values_of (initial_of before.store) x)) before (record now { checks = k })
values_stopped active owner x v before now k w due =
    let vs = values_of (initial_of before.store) x in
    let below = values_below v vs in
    let above = values_from (v +ℤ pos 1) vs in
    let i = walked_initial active owner (pairs_of x below) before now w.walked in
    let a : Ascends vs = subst (λ (d : Domains). Ascends (values_of d x)) i (declared_ascend now active owner w.revising x) in
    let has : Contains vs v = subst (λ (d : Domains). Has d x v) i (has_declared_value now active w.revising.kept x v w.present) in
    record {
      done = pairs_of x below;
      next = pair_of x v;
      left = pairs_of x above;
      order = ap (pairs_of x) (at_value vs v a has) ∙ pairs_both x below (v ∷ above);
      walked = walked_checks active owner (pairs_of x below) before now k w.walked;
      due = due;
    }

pub values_counted : (active : List Active) (owner : Active) (x : ℕ) (v : ℤ) (before now after : Filtering) (s t u : ℕ) → Advanced active owner x (Some v) before now
    → HasCounted (length (values_below v (values_of (initial_of before.store) x))) before now s t → HasCounted 1 now after t u
    → HasCounted (length (values_of (initial_of before.store) x)) before after s u
values_counted active owner x v before now after s t u w first counted =
    let vs = values_of (initial_of before.store) x in
    let i = walked_initial active owner (pairs_of x (values_below v vs)) before now w.walked in
    let a : Ascends vs = subst (λ (d : Domains). Ascends (values_of d x)) i (declared_ascend now active owner w.revising x) in
    let has : Contains vs v = subst (λ (d : Domains). Has d x v) i (has_declared_value now active w.revising.kept x v w.present) in
    let e = ap length (sym (below_from v vs a)) ∙ length-append (values_below v vs) (values_from v vs) in
    let some = some_length (values_from v vs) v (member_from v vs v has (omega (arith, ints))) in
    counted_more (length (values_below v vs) + 1) (length vs) before after s u (omega (arith, e, some)) (counted_then (length (values_below v vs)) 1 before now after s t u first counted)

pub values_fewer : (active : List Active) (owner : Active) (x : ℕ) (v : ℤ) (next : Option ℤ) (before now : Filtering) (present : List ℤ) → Advanced active owner x (Some v) before now → IsNextAt next present (v +ℤ pos 1)
    → left_from next (values_of (initial_of before.store) x) < left_from (Some v) (values_of (initial_of before.store) x)
values_fewer active owner x v next before now here w is_next =
    let vs = values_of (initial_of before.store) x in
    let i = walked_initial active owner (pairs_of x (values_below v vs)) before now w.walked in
    let has : Contains vs v = subst (λ (d : Domains). Has d x v) i (has_declared_value now active w.revising.kept x v w.present) in
    fewer_left vs v next here has is_next

-- ---- what a call of `take_out` says

pub on_ok : {T E P Q : Type 0} (r : Result T E) → (P → Q) → OnOk r P → OnOk r Q
on_ok (Ok x) f p = f p
on_ok (Err e) f p = tt

pub on_err : {T E P Q : Type 0} (r : Result T E) → (P → Q) → OnErr r P → OnErr r Q
on_err (Ok x) f p = tt
on_err (Err e) f p = f p

pub both_ok : {T E P Q R : Type 0} (r : Result T E) → (P → Q → R) → OnOk r P → OnOk r Q → OnOk r R
both_ok (Ok x) f p q = f p q
both_ok (Err e) f p q = tt

pub on_either : {T E P Q R : Type 0} (r : Result T E) → (P → R) → (Q → R) → OnOk r P → OnErr r Q → R
on_either (Ok x) f g p q = f p
on_either (Err e) f g p q = g q

pub on_err_of : {T E P : Type 0} (r : Result T E) → P → OnErr r P
on_err_of (Ok x) p = tt
on_err_of (Err e) p = p

pub takes_stated : (owner : Active) (p : Pair) (f g : Filtering) (by : Cid) (reasons : List Pair) → by ≡ owner.cid → reasons ≡ stated f owner p → TakesOut f p by reasons g → TakesOut f p owner.cid (stated f owner p) g
takes_stated owner p f g by reasons named are takes = subst (λ c. TakesOut f p c (stated f owner p) g) named (subst (λ ps. TakesOut f p by ps g) are takes)

pub taken_walked : (active : List Active) (owner : Active) (p : Pair) (f g : Filtering) (by : Cid) (reasons : List Pair) → IsRevising f active owner → AllFilled (present_of f.store) → Has (present_of f.store) p.var p.value
    → LacksSupport (present_of f.store) owner.con p.var p.value → Contains (scope owner.con) p.var → by ≡ owner.cid → reasons ≡ stated f owner p → TakesOut f p by reasons g → Walked active owner (p ∷ []) f g
taken_walked active owner p f g by reasons r filled has lacks over named are takes = out_walked active owner p f g r filled has lacks over (takes_stated owner p f g by reasons named are takes)

pub taken_revising : (active : List Active) (owner : Active) (p : Pair) (f g : Filtering) (by : Cid) (reasons : List Pair) → IsRevising f active owner → AllFilled (present_of f.store) → Has (present_of f.store) p.var p.value
    → LacksSupport (present_of f.store) owner.con p.var p.value → Contains (scope owner.con) p.var → by ≡ owner.cid → reasons ≡ stated f owner p → TakesOut f p by reasons g → IsRevising g active owner
taken_revising active owner p f g by reasons r filled has lacks over named are takes = out_revising active owner p f g r filled has lacks over (takes_stated owner p f g by reasons named are takes)
