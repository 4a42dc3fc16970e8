-- Walks where all values but one have support alike.
use Rattle.std.proofs.Common.{◌≡◌, ◌≢◌, ℕ, ◌+◌, ◌≤◌, Bool, true, false, not, ℤ, pos, ◌+ℤ◌, ◌<ℤ◌, List, [], ◌∷◌, ◌++◌, length, filter, Contains, Option, Some, None, Result, Ok, Err, OnOk, OnErr, inl, inr, refl, sym, ap, ◌∙◌, subst, arith, zero-add, length-append, int_eq}
use Rattle.std.proofs.lemmas.Int.{ints}
use Rattle.std.proofs.lemmas.List.Elements.{filter-append}
use Rattle.std.proofs.lemmas.List.Filters.{length-filter_both}
use Rattle.std.proofs.lemmas.Bool.{false≢true}
use Rattle.std.proofs.lemmas.Bool.Decides.{Decides-int_eq}
use Rattle.palm_base.specs.declared.terms.Pair.{Pair}
use Rattle.palm_base.proofs.cited.Members.{member_filter, int_known}
use Rattle.palm_domain.specs.Rows.{Row, IsLeastOf, initial_of, present_of, present_values}
use Rattle.palm_domain.proofs.cited.Ascending.{Ascends-at}
use Rattle.palm_model.specs.Domains.{Ascends, Domains, Has, IsInside, values_of}
use Rattle.palm_model.specs.Support.{IsSupported, LacksSupport}
use Rattle.palm_model.specs.Removed.{pairs_of}
use Rattle.palm_model.specs.Log.{Active}
use Rattle.palm_model.specs.State.{AllFilled}
use Rattle.palm_model.specs.declared.constraint.Con.{Con}
use Rattle.palm_model.proofs.cited.Supports.{not_true}
use Rattle.palm_model.proofs.cited.Trials.{support_grows}
use Rattle.palm_model.proofs.cited.Without.{pair_of}
use Rattle.palm_engine.specs.declared.filtering.Filtering.{Filtering}
use Rattle.palm_engine.specs.Advancing.{Advanced, AreSupportedBut, LackBut, asked_but, asked_of}
use Rattle.palm_engine.specs.Kept.{state_in_revision}
use Rattle.palm_engine.specs.Revising.{IsRevising, Walked, WalkedPart, AreSupportedAt, HasCounted, HasTicked}
use Rattle.palm_engine.specs.Work.{asks_of}
use Rattle.palm_engine.specs.Settling.{IsDue, Walks}
use Rattle.palm_engine.proofs.Bounds.{IsNextAt, below_between, below_from, below_of, between_one, supported_past, values_before, values_below, values_between, values_from, walk_on, walk_value}
use Rattle.palm_engine.proofs.Joined.{walk_has}
use Rattle.palm_engine.proofs.Progress.{checks_walked, revising_checks, counted_more, counted_then, ticked_more, ticked_none, ticked_then, has_declared_value, values_stopped, walked_initial}
use Rattle.palm_engine.proofs.Quiet.{IsQuiet, not_asked}
use Rattle.palm_engine.proofs.Revised.{one_supports, present_is, some_length}

-- ---- the least present value but one

-- where the test of difference fails, the values are the same
pub same_value : (b : Bool) (v w : ℤ) → b ≡ not (int_eq v w) → b ≡ false → v ≡ w
same_value b v w e f = (Decides-int_eq v w).0 (not_false (int_eq v w) (sym e ∙ f))
  where
    not_false : (b : Bool) → not b ≡ false → b ≡ true
    not_false true h = refl
    not_false false h = absurd (false≢true (sym h))

-- where the least is this one, and no value is above it, there is no other
pub other_none : (now : List ℤ) (v but : ℤ) → IsLeastOf now v → v ≡ but → ((w : ℤ) → Contains now w → w <ℤ (v +ℤ pos 1)) → (w : ℤ) → Contains now w → w ≡ but
other_none now v but least is none w has =
    let lt = none w has in
    let ge = least.least w has in
    omega (arith, ints, is, lt, ge)

-- ---- how often it is asked

-- one of the others is asked for where there is one
pub asked_other : (vs : List ℤ) (v but : ℤ) → Contains vs v → v ≢ but → 1 ≤ asked_but but vs
asked_other vs v but m other =
    some_length (filter (λ u. not (int_eq u but)) vs) v (member_filter (λ u. not (int_eq u but)) vs v m (not_true (int_eq v but) (λ t. other ((Decides-int_eq v but).0 t))))

-- and this one where it stands in the list
pub asked_one : (vs : List ℤ) (v : ℤ) → Contains vs v → 1 ≤ asked_of v vs
asked_one vs v m = some_length (filter (λ u. int_eq u v) vs) v (member_filter (λ u. int_eq u v) vs v m ((Decides-int_eq v v).1 refl))

-- for the others once, and for this one
pub asked_both : (but : ℤ) (vs : List ℤ) → asked_but but vs + asked_of but vs ≤ length vs
asked_both but vs = let e = length-filter_both (λ v. int_eq v but) (λ v. not (int_eq v but)) (λ v. refl) vs in omega (arith, e)

asked_append : (but : ℤ) (vs ws : List ℤ) → asked_of but (vs ++ ws) ≡ asked_of but vs + asked_of but ws
asked_append but vs ws = ap length (filter-append (λ v. int_eq v but) vs ws) ∙ length-append (filter (λ v. int_eq v but) vs) (filter (λ v. int_eq v but) ws)

-- those below a value and the value are those below the number after it
one_more : (vs : List ℤ) (v : ℤ) → Ascends vs → Contains vs v → values_below v vs ++ v ∷ [] ≡ values_below (v +ℤ pos 1) vs
one_more vs v a has = ap (λ ws. values_below v vs ++ ws) (sym (between_one v vs a has)) ∙ below_between v (v +ℤ pos 1) vs a (omega (arith, ints))

asked_more : (but : ℤ) (vs : List ℤ) (v : ℤ) → Ascends vs → Contains vs v → asked_of but (values_below v vs) + asked_of but (v ∷ []) ≡ asked_of but (values_below (v +ℤ pos 1) vs)
asked_more but vs v a has = sym (asked_append but (values_below v vs) (v ∷ [])) ∙ ap (asked_of but) (one_more vs v a has)

asked_all : (but : ℤ) (vs : List ℤ) (low : ℤ) → Ascends vs → asked_of but (values_below low vs) ≤ asked_of but vs
asked_all but vs low a =
    let e = sym (asked_append but (values_below low vs) (values_from low vs)) ∙ ap (asked_of but) (below_from low vs a) in
    omega (arith, e)

asked_before : (but : ℤ) (vs : List ℤ) (low : ℤ) (next : Option ℤ) (now : List ℤ) → Ascends vs → IsNextAt next now low → asked_of but (values_below low vs) ≤ asked_of but (values_before next vs)
asked_before but vs low (Some v) now a next =
    let e = sym (asked_append but (values_below low vs) (values_between low v vs)) ∙ ap (asked_of but) (below_between low v vs a next.from) in
    omega (arith, e)
asked_before but vs low None now a none = asked_all but vs low a

-- where the checks stay, nothing was asked
ticked_same : (n : ℕ) (f g : Filtering) (s : ℕ) → g.checks ≡ f.checks → HasTicked n f g s s
ticked_same n f g s same =
    let none = ticked_more 0 n f f s s (omega arith) (ticked_none f s) in
    record { later = none.later; few = none.few; checks = λ le. same ∙ none.checks le }

-- ---- only the checks changed

part_checks : (active : List Active) (owner : Active) (ps : List Pair) (f g : Filtering) (k : ℕ) → WalkedPart active owner ps (record f { checks = k }) g → WalkedPart active owner ps f g
part_checks active owner ps f g k part = record {
  done = part.done;
  next = part.next;
  left = part.left;
  order = part.order;
  walked = checks_walked active owner part.done f g k part.walked;
  due = part.due;
}

-- the revision stands
pub asked_revising : (active : List Active) (owner : Active) (f g : Filtering) → g ≡ record f { checks = g.checks } → IsRevising f active owner → IsRevising g active owner
asked_revising active owner f g same r = subst (λ z. IsRevising z active owner) (sym same) (revising_checks active owner f g.checks r)

-- a walk from there on is one from before
pub asked_walked : (active : List Active) (owner : Active) (x : ℕ) (f g h : Filtering) → g ≡ record f { checks = g.checks } → Walked active owner (pairs_of x (values_of (initial_of g.store) x)) g h
    → Walked active owner (pairs_of x (values_of (initial_of f.store) x)) f h
asked_walked active owner x f g h same w =
    checks_walked active owner (pairs_of x (values_of (initial_of f.store) x)) f h g.checks
    (subst (λ (z : Filtering). Walked active owner (pairs_of x (values_of (initial_of z.store) x)) z h) same w)

-- and as far as one came
pub asked_part : (active : List Active) (owner : Active) (x : ℕ) (f g h : Filtering) → g ≡ record f { checks = g.checks } → WalkedPart active owner (pairs_of x (values_of (initial_of g.store) x)) g h
    → WalkedPart active owner (pairs_of x (values_of (initial_of f.store) x)) f h
asked_part active owner x f g h same part =
    part_checks active owner (pairs_of x (values_of (initial_of f.store) x)) f h g.checks
    (subst (λ (z : Filtering). WalkedPart active owner (pairs_of x (values_of (initial_of z.store) x)) z h) same part)

-- for one of the others and then for this one
pub asked_counted : (x : ℕ) (but : ℤ) (f g h : Filtering) (s t u : ℕ) → g ≡ record f { checks = g.checks } → HasCounted (asked_but but (values_of (initial_of f.store) x)) f g s t
    → HasCounted (asked_of but (values_of (initial_of g.store) x)) g h t u → HasCounted (length (values_of (initial_of f.store) x)) f h s u
asked_counted x but f g h s t u same first second =
    let vs = values_of (initial_of f.store) x in
    let store : g.store ≡ f.store = ap (λ (z : Filtering). z.store) same in
    let after = subst (λ (rows : List Row). HasCounted (asked_of but (values_of (initial_of rows) x)) g h t u) store second in
    counted_more (asked_but but vs + asked_of but vs) (length vs) f h s u (asked_both but vs) (counted_then (asked_but but vs) (asked_of but vs) f g h s t u first after)

-- and where the others were taken out for that
pub asked_others : (owner : Active) (x : ℕ) (but : ℤ) (f g h : Filtering) (s t u : ℕ) → g ≡ record f { checks = g.checks } → HasCounted (asked_but but (values_of (initial_of f.store) x)) f g s t → t ≡ s + asks_of owner
    → HasTicked (asked_of but (values_of (initial_of g.store) x)) g h t u → IsQuiet owner g h → HasCounted (length (values_of (initial_of f.store) x)) f h s u
asked_others owner x but f g h s t u same first asked second quiet =
    let vs = values_of (initial_of f.store) x in
    let store : g.store ≡ f.store = ap (λ (z : Filtering). z.store) same in
    let after = subst (λ (rows : List Row). HasTicked (asked_of but (values_of (initial_of rows) x)) g h t u) store second in
    let before = first.ticked.later in
    let later = second.later in
    record {
      ticked = ticked_more (asked_but but vs + asked_of but vs) (length vs) f h s u (asked_both but vs) (ticked_then (asked_but but vs) (asked_of but vs) f g h s t u first.ticked after);
      silent = λ e. quiet (not_asked owner s t asked (omega (arith, before, later, e))) ∙ first.silent (omega (arith, before, later, e));
    }

-- ---- one value that is asked for, and the others have support

-- a present value is what a walk comes to
one_reached : (active : List Active) (owner : Active) (x : ℕ) (v : ℤ) (f : Filtering) → IsRevising f active owner → AllFilled (present_of f.store) → Has (present_of f.store) x v → AreSupportedBut f owner x v
    → Advanced active owner x (Some v) f f
one_reached active owner x v f r filled has known =
    let vs = values_of (initial_of f.store) x in
    let e = present_is f active owner.cid r.kept in
    let below : (w : ℤ) → Contains (values_below v vs) w → w ≢ v = λ w m same. let lt = (below_of v vs w m).1 in absurd (omega (arith, ints, same, lt)) in
    record {
      revising = r;
      walked = record {
        removed = 0;
        walk = supported_past owner x (values_below v vs) (state_in_revision f active owner.cid) (λ w m here.
            subst (λ d. IsSupported d owner.con x w) (sym e) (known w (subst (λ d. Has d x w) e here) (below w m)));
        again = refl;
      };
      present = has;
      supported = λ w m here. known w here (below w m);
      alone = λ y empty. let some = filled y empty.exists in absurd (omega (arith, some, ap length empty.empty));
    }

-- where memory runs out at it
pub one_stopped : (active : List Active) (owner : Active) (x : ℕ) (v : ℤ) (f : Filtering) (k : ℕ) → IsRevising f active owner → AllFilled (present_of f.store) → Has (present_of f.store) x v → AreSupportedBut f owner x v
    → IsDue (present_of f.store) owner.con (pair_of x v) → WalkedPart active owner (pairs_of x (values_of (initial_of f.store) x)) f (record f { checks = k })
one_stopped active owner x v f k r filled has known due = values_stopped active owner x v f f k (one_reached active owner x v f r filled has known) due

-- the others keep their support
pub one_known : (active : List Active) (owner : Active) (x : ℕ) (v : ℤ) (f g : Filtering) → IsRevising f active owner → IsRevising g active owner → AreSupportedBut f owner x v → Walked active owner (pair_of x v ∷ []) f g
    → AreSupportedBut g owner x v
one_known active owner x v f g r q known one w has other =
    let start = state_in_revision f active owner.cid in
    let end = state_in_revision g active owner.cid in
    let ef = present_is f active owner.cid r.kept in
    let eg = present_is g active owner.cid q.kept in
    let was = walk_has owner (pair_of x v ∷ []) start one.removed end one.walk x w (subst (λ d. Has d x w) (sym eg) has) in
    let now = known w (subst (λ d. Has d x w) ef was) other in
    subst (λ d. IsSupported d owner.con x w) eg (one_supports owner x v start one.removed end one.walk w (λ e. other (sym e)) (subst (λ d. IsSupported d owner.con x w) (sym ef) now))

-- so all are walked over
pub one_walked : (active : List Active) (owner : Active) (x : ℕ) (v : ℤ) (f g : Filtering) → IsRevising f active owner → IsRevising g active owner → AllFilled (present_of f.store) → Has (present_of f.store) x v → AreSupportedBut f owner x v
    → Walked active owner (pair_of x v ∷ []) f g → Walked active owner (pairs_of x (values_of (initial_of f.store) x)) f g
unfolding one_reached
one_walked active owner x v f g r q filled has known one =
    let vs = values_of (initial_of f.store) x in
    let start = state_in_revision f active owner.cid in
    let end = state_in_revision g active owner.cid in
    let a = Ascends-at (initial_of f.store) x r.valid.ascend in
    let eg = present_is g active owner.cid q.kept in
    let reached = one_reached active owner x v f r filled has known in
    let upto = walk_value owner x start 0 start one.removed end vs v a (has_declared_value f active r.kept x v has) reached.walked.walk one.walk in
    let all = walk_on owner x start (0 + one.removed) end vs (v +ℤ pos 1) None a tt upto (λ w ge is here.
    subst (λ d. IsSupported d owner.con x w) (sym eg)
    (one_known active owner x v f g r q known one w (subst (λ d. Has d x w) eg here) (λ e. absurd (omega (arith, ints, e, ge))))) in
    record {
      removed = one.removed;
      walk = subst (λ n. Walks owner (pairs_of x vs) start n end) (zero-add one.removed) all;
      again = one.again;
    }

-- and have support, where the one has it
pub one_supported : (g : Filtering) (owner : Active) (x : ℕ) (v : ℤ) → AreSupportedBut g owner x v → (Has (present_of g.store) x v → IsSupported (present_of g.store) owner.con x v) → AreSupportedAt g owner x
one_supported g owner x v known supported w has = elim (int_known w v) [
  | inl e ↦ subst (λ u. IsSupported (present_of g.store) owner.con x u) (sym e) (supported (subst (λ u. Has (present_of g.store) x u) e has))
  | inr n ↦ known w has n
]

-- ---- the others lack support

-- what lacks support lacks it where fewer values are present
pub lacks_still : (d e : Domains) (c : Con) (x : ℕ) (v : ℤ) → IsInside e d → LacksSupport d c x v → LacksSupport e c x v
lacks_still d e c x v inside lacks = record {
  part = lacks.part;
  is_part = lacks.is_part;
  over = lacks.over;
  lacks = λ s. lacks.lacks (support_grows e d lacks.part x v inside s);
}

-- so the others lack it after a walk
pub lack_still : (active : List Active) (owner : Active) (ps : List Pair) (x : ℕ) (but : ℤ) (f g : Filtering) → IsRevising f active owner → IsRevising g active owner → Walked active owner ps f g → LackBut f owner x but → LackBut g owner x but
lack_still active owner ps x but f g r q w lack v has other =
    let ef = present_is f active owner.cid r.kept in
    let eg = present_is g active owner.cid q.kept in
    let inside : IsInside (present_of g.store) (present_of f.store) = λ y u here.
    subst (λ d. Has d y u) ef (walk_has owner ps (state_in_revision f active owner.cid) w.removed (state_in_revision g active owner.cid) w.walk y u (subst (λ d. Has d y u) (sym eg) here)) in
    lacks_still (present_of f.store) (present_of g.store) owner.con x v inside (lack v (inside x v has) other)

-- the values before the next one were walked over, and only this one was asked for
pub record WalkedOthers (active : List Active) (owner : Active) (x : ℕ) (but : ℤ) (next : Option ℤ) (before now : Filtering) (old new : ℕ) : Type 0 where
  pub advanced : Advanced active owner x next before now
  pub lacking : LackBut now owner x but
  pub counted : HasTicked (asked_of but (values_before next (values_of (initial_of before.store) x))) before now old new

-- no value below the least one was asked for
pub others_start : (x : ℕ) (but v : ℤ) (f : Filtering) (s : ℕ) → HasTicked (asked_of but (values_below v (values_of (initial_of f.store) x))) f f s s
others_start x but v f s = ticked_same (asked_of but (values_below v (values_of (initial_of f.store) x))) f f s refl

-- one value more
pub others_counted : (active : List Active) (owner : Active) (x : ℕ) (but v : ℤ) (next : Option ℤ) (before now after : Filtering) (s t u : ℕ) → Advanced active owner x (Some v) before now
    → HasTicked (asked_of but (values_below v (values_of (initial_of before.store) x))) before now s t → HasTicked (asked_of but (v ∷ [])) now after t u → IsNextAt next (present_values after.store x) (v +ℤ pos 1)
    → HasTicked (asked_of but (values_before next (values_of (initial_of before.store) x))) before after s u
others_counted active owner x but v next before now after s t u w first one is_next =
    let vs = values_of (initial_of before.store) x in
    let i = walked_initial active owner (pairs_of x (values_below v vs)) before now w.walked in
    let a : Ascends vs = subst (λ (d : Domains). Ascends (values_of d x)) i (Ascends-at (initial_of now.store) x w.revising.valid.ascend) in
    let has : Contains vs v = subst (λ (d : Domains). Has d x v) i (has_declared_value now active w.revising.kept x v w.present) in
    let more = asked_more but vs v a has in
    let all = asked_before but vs (v +ℤ pos 1) next (present_values after.store x) a is_next in
    ticked_more (asked_of but (values_below v vs) + asked_of but (v ∷ [])) (asked_of but (values_before next vs)) before after s u (omega (arith, more, all))
    (ticked_then (asked_of but (values_below v vs)) (asked_of but (v ∷ [])) before now after s t u first one)

-- and as many at most as there are
pub others_stopped : (active : List Active) (owner : Active) (x : ℕ) (but v : ℤ) (before now after : Filtering) (s t u : ℕ) → Advanced active owner x (Some v) before now
    → HasTicked (asked_of but (values_below v (values_of (initial_of before.store) x))) before now s t → HasTicked (asked_of but (v ∷ [])) now after t u
    → HasTicked (asked_of but (values_of (initial_of before.store) x)) before after s u
others_stopped active owner x but v before now after s t u w first one =
    let vs = values_of (initial_of before.store) x in
    let i = walked_initial active owner (pairs_of x (values_below v vs)) before now w.walked in
    let a : Ascends vs = subst (λ (d : Domains). Ascends (values_of d x)) i (Ascends-at (initial_of now.store) x w.revising.valid.ascend) in
    let has : Contains vs v = subst (λ (d : Domains). Has d x v) i (has_declared_value now active w.revising.kept x v w.present) in
    let more = asked_more but vs v a has in
    let all = asked_all but vs (v +ℤ pos 1) a in
    ticked_more (asked_of but (values_below v vs) + asked_of but (v ∷ [])) (asked_of but vs) before after s u (omega (arith, more, all))
    (ticked_then (asked_of but (values_below v vs)) (asked_of but (v ∷ [])) before now after s t u first one)

-- ---- two facts of one result

-- of one that is Ok
pub on_both : {T E P Q R : Type 0} (r : Result T E) → (P → Q → R) → OnOk r P → OnOk r Q → OnOk r R
on_both (Ok x) f p q = f p q
on_both (Err e) f p q = tt

-- and of one that is Err
pub on_err_both : {T E P Q R : Type 0} (r : Result T E) → (P → Q → R) → OnErr r P → OnErr r Q → OnErr r R
on_err_both (Ok x) f p q = tt
on_err_both (Err e) f p q = f p q
