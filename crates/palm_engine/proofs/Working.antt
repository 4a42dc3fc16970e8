-- How much a settling may ask: a constraint that is revised was pending, and each removal makes those over its variable so.
use Rattle.std.proofs.Common.{◌≡◌, ℕ, zero, suc, ◌+◌, ◌<◌, ◌≤◌, ◌||◌, Option, Bool, true, false, cond, List, [], ◌∷◌, ◌++◌, length, filter, flat_map, sum_by, Contains, ◌⊎◌, inl, inr, refl, sym, ap, ◌∙◌, subst, arith, length-append, zero-add}
use Rattle.std.specs.List.{list_any}
use Rattle.std.proofs.lemmas.Bool.{cases_Bool, or_cases}
use Rattle.std.proofs.lemmas.List.{length-map, map-append, append_assoc}
use Rattle.std.proofs.lemmas.List.Sums.{sum_by-cons, sum_by-append}
use Rattle.palm_base.specs.declared.terms.Pair.{Pair}
use Rattle.palm_base.specs.declared.terms.Cid.{Cid}
use Rattle.palm_base.proofs.cited.Members.{member_here, member_there, member_single, member_same}
use Rattle.palm_model.specs.Domains.{Domains, values_of}
use Rattle.palm_model.specs.Constraint.{scope}
use Rattle.palm_model.specs.Removed.{pairs_of}
use Rattle.palm_base.specs.Order.{Rises}
use Rattle.palm_model.specs.Log.{Active, Removal, cids_of, is_named, log_pairs}
use Rattle.palm_model.specs.State.{EngineState, AllFilled, present, is_over, woken, without_cid}
use Rattle.palm_model.specs.Event.{removal_of, removed, calmed}
use Rattle.palm_model.specs.declared.constraint.Con.{Con}
use Rattle.palm_model.proofs.cited.Formed.{part_scope}
use Rattle.palm_model.proofs.cited.Without.{pair_of}
use Rattle.palm_events.proofs.cited.Names.{named_member, member_named, single}
use Rattle.palm_events.proofs.cited.States.{member_over, woken_active, without_cid_member}
use Rattle.palm_engine.specs.Settling.{Walks, Revision, Revises, Revisions, Settles, walk_order, rested}
use Rattle.palm_engine.specs.Settling.Walks.{walked_all, walked_empty, walked_past, walked_out}
use Rattle.palm_engine.specs.Work.{size_of, sizes_of, named_sizes, sizes_over, most_asked_in, IsPaid}
use Rattle.palm_engine.proofs.cited.Walking.{took_none, chosen_pending}

-- ---- a walk looks at each pair once

pub walk_length : (initial : Domains) (c : Con) → length (walk_order initial c) ≡ size_of initial c
walk_length initial c = over (scope c)
  where
    over : (xs : List ℕ) → length (flat_map (λ x. pairs_of x (values_of initial x)) xs) ≡ sum_by (λ x. length (values_of initial x)) xs
    over [] = refl
    over (x ∷ xs) =
        let here = length-map (values_of initial x) (λ v. pair_of x v) in
        let e = length-append (pairs_of x (values_of initial x)) (flat_map (λ y. pairs_of y (values_of initial y)) xs) in
        let f = sum_by-cons (λ y. length (values_of initial y)) x xs in
        let rest = over xs in
        e ∙ ap (λ n. n + length (flat_map (λ y. pairs_of y (values_of initial y)) xs)) here ∙ ap (λ n. length (values_of initial x) + n) rest ∙ sym f

-- ---- sums over the members that pass a test

sum_filter : {X : Type 0} (f : X → ℕ) (p : X → Bool) (x : X) (xs : List X) → sum_by f (filter p (x ∷ xs)) ≡ cond (p x) (f x) 0 + sum_by f (filter p xs)
sum_filter f p x xs = elim (cases_Bool (p x)) [
  | inl t ↦ rw t (sum_by-cons f x (filter p xs))
  | inr g ↦ rw g (sym (zero-add (sum_by f (filter p xs))))
]

-- what holds of the numbers of passed tests holds of any weight
weighed : (u c p o : Bool) (n : ℕ) → cond u 1 0 + cond c 1 0 ≤ cond p 1 0 + cond o 1 0 → cond u n 0 + cond c n 0 ≤ cond p n 0 + cond o n 0
weighed true true true true n h = omega arith
weighed true true true false n h = omega arith
weighed true true false true n h = omega arith
weighed true true false false n h = omega arith
weighed true false true true n h = omega arith
weighed true false true false n h = omega arith
weighed true false false true n h = omega arith
weighed true false false false n h = omega arith
weighed false true true true n h = omega arith
weighed false true true false n h = omega arith
weighed false true false true n h = omega arith
weighed false true false false n h = omega arith
weighed false false true true n h = omega arith
weighed false false true false n h = omega arith
weighed false false false true n h = omega arith
weighed false false false false n h = omega arith

-- as many tests on the right pass as on the left, for each member
pub sums_below : {X : Type 0} (f : X → ℕ) (u c p o : X → Bool) (xs : List X) → ((x : X) → Contains xs x → cond (u x) 1 0 + cond (c x) 1 0 ≤ cond (p x) 1 0 + cond (o x) 1 0)
    → sum_by f (filter u xs) + sum_by f (filter c xs) ≤ sum_by f (filter p xs) + sum_by f (filter o xs)
sums_below f u c p o [] each = omega arith
sums_below f u c p o (x ∷ xs) each =
    let here = weighed (u x) (c x) (p x) (o x) (f x) (each x (member_here x xs)) in
    let rest = sums_below f u c p o xs (λ y m. each y (member_there x xs y m)) in
    let eu = sum_filter f u x xs in
    let ec = sum_filter f c x xs in
    let ep = sum_filter f p x xs in
    let eo = sum_filter f o x xs in
    sums_joined (sum_by f (filter u (x ∷ xs))) (sum_by f (filter c (x ∷ xs))) (sum_by f (filter p (x ∷ xs))) (sum_by f (filter o (x ∷ xs)))
    (cond (u x) (f x) 0) (cond (c x) (f x) 0) (cond (p x) (f x) 0) (cond (o x) (f x) 0)
    (sum_by f (filter u xs)) (sum_by f (filter c xs)) (sum_by f (filter p xs)) (sum_by f (filter o xs)) eu ec ep eo here rest
  where
    sums_joined : (U C P O a b d e u c p o : ℕ) → U ≡ a + u → C ≡ b + c → P ≡ d + p → O ≡ e + o → a + b ≤ d + e → u + c ≤ p + o → U + C ≤ P + O
    sums_joined U C P O a b d e u c p o eu ec ep eo here rest = omega arith

pub none_sum : {X : Type 0} (f : X → ℕ) (xs : List X) → sum_by f (filter (λ x. false) xs) ≡ 0
none_sum f [] = refl
none_sum f (x ∷ xs) = none_sum f xs

-- ---- one member at a time

-- what passes u passes p or o
pub one_or_other : (u p o : Bool) → (u ≡ true → (p ≡ true) ⊎ (o ≡ true)) → cond u 1 0 + 0 ≤ cond p 1 0 + cond o 1 0
one_or_other false p o h = omega arith
one_or_other true p o h = elim (h refl) [
  | inl e ↦ rw e (omega arith)
  | inr e ↦ rw e (omega arith)
]

-- and what passes c passes both
both_and_one : (u c p o : Bool) → (u ≡ true → (p ≡ true) ⊎ (o ≡ true)) → (c ≡ true → (p ≡ true) × (o ≡ true)) → cond u 1 0 + cond c 1 0 ≤ cond p 1 0 + cond o 1 0
both_and_one u false p o h k = one_or_other u p o h
both_and_one true true p o h k = let b = k refl in rw (b.0, b.1) (omega arith)
both_and_one false true p o h k = let b = k refl in rw (b.0, b.1) (omega arith)

-- what passes u or c passes p, and none passes both
one_alone : (u c p : Bool) → (u ≡ true → (p ≡ true) × (c ≡ false)) → (c ≡ true → p ≡ true) → cond u 1 0 + cond c 1 0 ≤ cond p 1 0 + 0
one_alone true c p h k = let b = h refl in rw (b.0, b.1) (omega arith)
one_alone false true p h k = rw (k refl) (omega arith)
one_alone false false p h k = omega arith

-- ---- a removal

-- what is pending after a removal was so before, or is over its variable
pending_after : (s : EngineState) (p : Pair) → Rises (cids_of s.active) → (b : Active) → Contains s.active b → is_named (woken s.active s.pending (p.var ∷ [])) b.cid ≡ true
    → (is_named s.pending b.cid ≡ true) ⊎ (is_over b.con p.var ≡ true)
pending_after s p rises b m t =
    let r = woken_active s.active s.pending (p.var ∷ []) b.cid (named_member (woken s.active s.pending (p.var ∷ [])) b.cid t) in
    let same = single s.active rises r.0 b r.1 m r.2 in
    elim (or_cases (is_named s.pending r.0.cid) (list_any (λ x. is_over r.0.con x) (p.var ∷ [])) r.3) [
      | inl k ↦ inl (subst (λ (c : Active). is_named s.pending c.cid ≡ true) same k)
      | inr k ↦ inr (subst (λ (c : Active). is_over c.con p.var ≡ true) same (only_one (is_over r.0.con p.var) k))
    ]
  where
    only_one : (b : Bool) → (b || false) ≡ true → b ≡ true
    only_one true h = refl
    only_one false h = h

removal_sizes : (s : EngineState) (a : Active) (p : Pair) → Rises (cids_of s.active) → named_sizes (removed s a p) (removed s a p).pending ≤ named_sizes s s.pending + sizes_over s p.var
removal_sizes s a p rises =
    let k = sums_below (λ (b : Active). size_of s.initial b.con) (λ b. is_named (woken s.active s.pending (p.var ∷ [])) b.cid) (λ b. false)
    (λ b. is_named s.pending b.cid) (λ b. is_over b.con p.var) s.active
    (λ b m. one_or_other (is_named (woken s.active s.pending (p.var ∷ [])) b.cid) (is_named s.pending b.cid) (is_over b.con p.var) (pending_after s p rises b m)) in
    let z = none_sum (λ (b : Active). size_of s.initial b.con) s.active in
    omega (arith, k, z)

-- the first removal of a revision pays for the revision too
first_sizes : (s : EngineState) (a : Active) (p : Pair) → Rises (cids_of s.active) → Contains s.active a → Contains s.pending a.cid → Contains (scope a.con) p.var
    → named_sizes (removed s a p) (removed s a p).pending + named_sizes s (a.cid ∷ []) ≤ named_sizes s s.pending + sizes_over s p.var
first_sizes s a p rises posted pending over =
    sums_below (λ (b : Active). size_of s.initial b.con) (λ b. is_named (woken s.active s.pending (p.var ∷ [])) b.cid) (λ b. is_named (a.cid ∷ []) b.cid)
    (λ b. is_named s.pending b.cid) (λ b. is_over b.con p.var) s.active
    (λ b m. both_and_one (is_named (woken s.active s.pending (p.var ∷ [])) b.cid) (is_named (a.cid ∷ []) b.cid) (is_named s.pending b.cid) (is_over b.con p.var)
    (pending_after s p rises b m)
    (λ t.
    let e = member_single a.cid b.cid (named_member (a.cid ∷ []) b.cid t) in
    let same = single s.active rises a b posted m e in
    (member_named s.pending b.cid (member_same s.pending a.cid b.cid e pending), member_over b.con p.var (subst (λ (c : Active). Contains (scope c.con) p.var) same over))))

pub calm_sizes : (s : EngineState) (cid : Cid) → Contains s.pending cid → named_sizes s (without_cid cid s.pending) + named_sizes s (cid ∷ []) ≤ named_sizes s s.pending
calm_sizes s cid pending =
    let k = sums_below (λ (b : Active). size_of s.initial b.con) (λ b. is_named (without_cid cid s.pending) b.cid) (λ b. is_named (cid ∷ []) b.cid)
    (λ b. is_named s.pending b.cid) (λ b. false) s.active
    (λ b m. one_alone (is_named (without_cid cid s.pending) b.cid) (is_named (cid ∷ []) b.cid) (is_named s.pending b.cid)
    (λ t.
    let r = without_cid_member cid s.pending b.cid (named_member (without_cid cid s.pending) b.cid t) in
    (member_named s.pending b.cid r.0, not_true_false (is_named (cid ∷ []) b.cid) (λ u. r.1 (sym (member_single cid b.cid (named_member (cid ∷ []) b.cid u))))))
    (λ t. member_named s.pending b.cid (member_same s.pending cid b.cid (member_single cid b.cid (named_member (cid ∷ []) b.cid t)) pending))) in
    let z = none_sum (λ (b : Active). size_of s.initial b.con) s.active in
    omega (arith, k, z)
  where
    not_true_false : (b : Bool) → (b ≡ true → ⊥) → b ≡ false
    not_true_false true n = absurd (n refl)
    not_true_false false n = refl

-- ---- walks

-- from s to t the log gained these, and what is pending then, with what was spent, is paid for
pub record Pays (s : EngineState) (spent : ℕ) (t : EngineState) : Type 0 where
  pub gained : List Removal
  pub log : t.log ≡ s.log ++ gained
  pub active : t.active ≡ s.active
  pub initial : t.initial ≡ s.initial
  pub paid : named_sizes t t.pending + spent ≤ named_sizes s s.pending + sum_by (λ (p : Pair). sizes_over s p.var) (log_pairs gained)

append_nil : (l : List Removal) → l ≡ l ++ []
append_nil [] = refl
append_nil (r ∷ l) = ap (λ k. r ∷ k) (append_nil l)

pays_none : (s : EngineState) → Pays s 0 s
pays_none s = record { gained = []; log = append_nil s.log; active = refl; initial = refl; paid = omega arith }

-- a removal, and what follows it
pays_removed : (s : EngineState) (a : Active) (p : Pair) (spent more : ℕ) (t : EngineState)
    → named_sizes (removed s a p) (removed s a p).pending + spent ≤ named_sizes s s.pending + sizes_over s p.var → Pays (removed s a p) more t → Pays s (spent + more) t
pays_removed s a p spent more t first rest =
    let made = removal_of s a p in
    let e = sum_by-cons (λ (q : Pair). sizes_over s q.var) p (log_pairs rest.gained) in
    let k = rest.paid in
    record {
      gained = made ∷ rest.gained;
      log = rest.log ∙ append_assoc s.log (made ∷ []) rest.gained;
      active = rest.active;
      initial = rest.initial;
      paid = joined (named_sizes t t.pending) (named_sizes (removed s a p) (removed s a p).pending) (named_sizes s s.pending) spent more (sizes_over s p.var)
          (sum_by (λ (q : Pair). sizes_over s q.var) (log_pairs rest.gained)) (sum_by (λ (q : Pair). sizes_over s q.var) (p ∷ log_pairs rest.gained)) k first e;
    }
  where
    joined : (t m s spent more over gained all : ℕ) → t + more ≤ m + gained → m + spent ≤ s + over → all ≡ over + gained → t + (spent + more) ≤ s + all
    joined t m s spent more over gained all k first e = omega arith

walk_pays : (a : Active) (pairs : List Pair) (s : EngineState) (n : ℕ) (t : EngineState) → Rises (cids_of s.active) → Walks a pairs s n t → Pays s 0 t
walk_pays a _ _ _ _ rises (walked_all s) = pays_none s
walk_pays a _ _ _ _ rises (walked_empty pairs s empty) = pays_none s
walk_pays a _ _ _ _ rises (walked_past p pairs s n t supported walk) = walk_pays a pairs s n t rises walk
walk_pays a _ _ _ _ rises (walked_out p pairs s m n t removes walk) =
    let rises' : Rises (cids_of m.active) = subst (λ (z : EngineState). Rises (cids_of z.active)) (sym removes.after) rises in
    let rest = subst (λ z. Pays z 0 t) removes.after (walk_pays a pairs m n t rises' walk) in
    let first = removal_sizes s a p rises in
    pays_removed s a p 0 0 t (omega (arith, first)) rest

-- a walk that takes something out pays for itself
pub some_pays : (a : Active) (pairs : List Pair) (s : EngineState) (n : ℕ) (t : EngineState) → Rises (cids_of s.active) → Contains s.pending a.cid → 0 < n → Walks a pairs s n t → Pays s (named_sizes s (a.cid ∷ [])) t
some_pays a _ _ _ _ rises pending lt (walked_all s) = absurd (omega arith)
some_pays a _ _ _ _ rises pending lt (walked_empty pairs s empty) = absurd (omega arith)
some_pays a _ _ _ _ rises pending lt (walked_past p pairs s n t supported walk) = some_pays a pairs s n t rises pending lt walk
some_pays a _ _ _ _ rises pending lt (walked_out p pairs s m n t removes walk) =
    let rises' : Rises (cids_of m.active) = subst (λ (z : EngineState). Rises (cids_of z.active)) (sym removes.after) rises in
    let rest = subst (λ z. Pays z 0 t) removes.after (walk_pays a pairs m n t rises' walk) in
    let over = part_scope a.con removes.lacks.part p.var removes.lacks.is_part removes.lacks.over in
    let first = first_sizes s a p rises removes.posted pending over in
    subst (λ k. Pays s k t) (plus_zero (named_sizes s (a.cid ∷ []))) (pays_removed s a p (named_sizes s (a.cid ∷ [])) 0 t first rest)
  where
    plus_zero : (n : ℕ) → n + 0 ≡ n
    plus_zero n = omega arith

-- ---- revisions and settlings

rest_pays : (s m t : EngineState) (a : Active) (cid : Cid) (n : ℕ) → Rises (cids_of s.active) → a.cid ≡ cid → Contains s.pending cid → AllFilled (present s)
    → Walks a (walk_order s.initial a.con) s n m → t ≡ rested n cid m → Pays s (named_sizes s (cid ∷ [])) t
rest_pays s m t a cid zero rises named pending filled walk after =
    let none = took_none a (walk_order s.initial a.con) s zero m walk refl filled in
    let k = calm_sizes s cid pending in
    subst (λ z. Pays s (named_sizes s (cid ∷ [])) z) (sym (after ∙ ap (λ z. calmed z cid) none.same))
    (record { gained = []; log = append_nil s.log; active = refl; initial = refl; paid = omega (arith, k) })
rest_pays s m t a cid (suc n) rises named pending filled walk after =
    subst (λ z. Pays s (named_sizes s (cid ∷ [])) z) (sym after)
    (subst (λ c. Pays s (named_sizes s (c ∷ [])) m) named (some_pays a (walk_order s.initial a.con) s (suc n) m rises (member_same s.pending cid a.cid (sym named) pending) (omega arith) walk))

pub revision_pays : (s : EngineState) (r : Revision) (t : EngineState) → Rises (cids_of s.active) → Revises s r t → Pays s (named_sizes s (r.cid ∷ [])) t
revision_pays s r t rises revises = rest_pays s revises.state t revises.owner r.cid r.removed rises revises.named (chosen_pending s r t revises) revises.filled revises.walk revises.after

-- the same constraints and declared values make the same work
same_over : (s m : EngineState) (x : ℕ) → m.active ≡ s.active → m.initial ≡ s.initial → sizes_over m x ≡ sizes_over s x
same_over s m x a i = λ j. sizes_of (i j) (filter (λ b. is_over b.con x) (a j))

pub same_named : (s m : EngineState) (cids : List Cid) → m.active ≡ s.active → m.initial ≡ s.initial → named_sizes m cids ≡ named_sizes s cids
same_named s m cids a i = λ j. sizes_of (i j) (filter (λ b. is_named cids b.cid) (a j))

pub same_asked : (s m : EngineState) (rs : List Revision) → m.active ≡ s.active → m.initial ≡ s.initial → most_asked_in m rs ≡ most_asked_in s rs
same_asked s m rs a i = ap (λ (f : Cid → ℕ). sum_by (λ (r : Revision). f r.cid) rs) (λ j c. same_named s m (c ∷ []) a i j)

same_gained : (s m : EngineState) (pairs : List Pair) → m.active ≡ s.active → m.initial ≡ s.initial → sum_by (λ (p : Pair). sizes_over m p.var) pairs ≡ sum_by (λ (p : Pair). sizes_over s p.var) pairs
same_gained s m pairs a i = ap (λ (f : ℕ → ℕ). sum_by (λ (p : Pair). f p.var) pairs) (λ j x. same_over s m x a i j)

pub pays_then : (s m t : EngineState) (spent more : ℕ) → Pays s spent m → Pays m more t → Pays s (spent + more) t
pays_then s m t spent more first rest =
    let g = same_gained s m (log_pairs rest.gained) first.active first.initial in
    let e = sum_by-append (λ (p : Pair). sizes_over s p.var) (log_pairs first.gained) (log_pairs rest.gained) in
    let l = ap (λ ps. sum_by (λ (p : Pair). sizes_over s p.var) ps) (map-append (λ (r : Removal). r.pair) first.gained rest.gained) in
    record {
      gained = first.gained ++ rest.gained;
      log = rest.log ∙ ap (λ z. z ++ rest.gained) first.log ∙ append_assoc s.log first.gained rest.gained;
      active = rest.active ∙ first.active;
      initial = rest.initial ∙ first.initial;
      paid = joined (named_sizes t t.pending) (named_sizes m m.pending) (named_sizes s s.pending) spent more
          (sum_by (λ (p : Pair). sizes_over s p.var) (log_pairs first.gained)) (sum_by (λ (p : Pair). sizes_over m p.var) (log_pairs rest.gained))
          (sum_by (λ (p : Pair). sizes_over s p.var) (log_pairs rest.gained)) (sum_by (λ (p : Pair). sizes_over s p.var) (log_pairs (first.gained ++ rest.gained)))
          first.paid rest.paid g (l ∙ e);
    }
  where
    joined : (t m s spent more one other there all : ℕ) → m + spent ≤ s + one → t + more ≤ m + other → other ≡ there → all ≡ one + there → t + (spent + more) ≤ s + all
    joined t m s spent more one other there all a b e f = omega arith

pub revisions_pay : (s : EngineState) (rs : List Revision) (t : EngineState) → Rises (cids_of s.active) → Revisions s rs t → Pays s (most_asked_in s rs) t
revisions_pay s [] t rises run = subst (λ z. Pays s 0 z) (sym run) (pays_none s)
revisions_pay s (r ∷ rs) t rises run =
    let first = revision_pays s r run.0 rises run.1 in
    let rises' : Rises (cids_of run.0.active) = subst (λ l. Rises (cids_of l)) (sym first.active) rises in
    let rest = revisions_pay run.0 rs t rises' run.2 in
    let e = same_asked s run.0 rs first.active first.initial in
    subst (λ k. Pays s k t) (sym (sum_by-cons (λ (q : Revision). named_sizes s (q.cid ∷ [])) r rs))
    (pays_then s run.0 t (named_sizes s (r.cid ∷ [])) (most_asked_in s rs) first (subst (λ k. Pays run.0 k t) e rest))

pub settling_paid : (limit : Option ℕ) (s : EngineState) (rs : List Revision) (t : EngineState) → Rises (cids_of s.active) → Settles limit s rs t → IsPaid s rs t
settling_paid limit s rs t rises settles =
    let pays = revisions_pay s rs t rises settles.revisions in
    let k = pays.paid in
    record { gained = pays.gained; log = pays.log; paid = omega (arith, k) }
