-- The measure of a search rises with each undoing and never falls. So its turns are bounded.
use Rattle.std.proofs.Common.{◌≡◌, ℕ, zero, suc, ◌+◌, ◌-◌, ◌*◌, ◌^◌, ◌<◌, ◌≤◌, Bool, true, ◌&&◌, ◌||◌, cond, None, List, [], ◌∷◌, ◌++◌, length, map, filter, take, Contains, All, ℤ, ◌⊎◌, inl, inr, refl, sym, ap, ◌∙◌, subst, arith, length-append}
use Rattle.std.proofs.lemmas.Bool.{cases_Bool, false≢true, and_parts, and_from, or_cases, or_left, or_right}
use Rattle.std.proofs.lemmas.List.{length-map}
use Rattle.std.proofs.Math.Nat.{pow-zero, pow-succ'}
use Rattle.std.proofs.lemmas.List.Sums.{AllPass-from_list_all, list_all-from_AllPass}
use Rattle.std.proofs.lemmas.List.Elements.{All-contains, Contains-append_left, Contains-append_right, Contains-append_cases, filter-append}
use Rattle.palm_base.specs.declared.terms.Pair.{Pair}
use Rattle.palm_base.specs.declared.terms.Cid.{Cid}
use Rattle.palm_base.specs.declared.terms.Cid.TheVariants.{Decide, Not, User}
use Rattle.palm_base.proofs.cited.Members.{member_nil, member_here, member_there, member_cases, member_same, member_map, member_unmap, filter_member, all_members}
use Rattle.palm_model.specs.Domains.{Domains, Has}
use Rattle.palm_model.specs.Constraint.{Distinct}
use Rattle.palm_model.specs.Trial.{value_count}
use Rattle.palm_base.specs.Order.{cid_before}
use Rattle.palm_model.specs.Log.{Active, IsActive, is_named, cids_of}
use Rattle.palm_model.specs.State.{EngineState, IsValid, IsJustifier, without_cid, is_user, decision_of, negation_of}
use Rattle.palm_model.specs.Event.{with_posted, without_cids, gone_with, vars_of}
use Rattle.palm_model.proofs.cited.Without.{pair_of}
use Rattle.palm_events.specs.Reasons.{ReasonsAreRight}
use Rattle.palm_base.proofs.cited.CidOrder.{cid_order}
use Rattle.palm_events.proofs.cited.Names.{named_member, member_named, single, rises_filter}
use Rattle.palm_events.proofs.cited.States.{without_cid_member}
use Rattle.palm_events.proofs.cited.Conflicts.{flat_justifiers}
use Rattle.palm_engine.proofs.cited.Settled.{settling_filters}
use Rattle.palm_search.specs.declared.turn.Pick.{Pick}
use Rattle.palm_search.specs.declared.turn.Turn.{Turn}
use Rattle.palm_search.specs.declared.turn.Turn.TheVariants.{Decide as TurnDecide, Undo as TurnUndo}
use Rattle.palm_search.specs.Turns.{SearchState, Decides, Undoes, SettlesAfter, Follows, Turns}
use Rattle.palm_search.specs.declared.ending.SearchEnd.{SearchEnd}
use Rattle.palm_search.specs.Search.{SearchRun, begun}
use Rattle.palm_search.specs.declared.ending.SearchEnd.TheVariants.{Spent}
use Rattle.palm_search.specs.Kept.{HasDeclared, HasOnlyUsers, IsSearching}
use Rattle.palm_search.specs.Measure.{is_of_negation, is_within, negations_within, weighed, measure, most_turns}
use Rattle.palm_search.proofs.cited.Deciding.{latest_vars}
use Rattle.palm_search.proofs.cited.Keeping.{begins, settles_keep, follows_keep}
use Rattle.palm_search.proofs.cited.Weighing.{weighed_sum, weighed_below, weighed_more, weighed_rises, turns_few, rising_short, distinct_below}

-- ---- justifications within some decisions

-- whether the constraint is a negation whose justification lies within these decisions and the users
abbrev pub held : List Pair → Active → Bool
held decisions a = is_of_negation a.cid && is_within decisions a.justification

within_cases : (decisions : List Pair) (cids : List Cid) → is_within decisions cids ≡ true → (c : Cid) → Contains cids c → (is_user c ≡ true) ⊎ ((p : Pair) × Contains decisions p × (Decide p.var ≡ c))
within_cases decisions cids h c m =
    let all : All (λ d. (is_user d || is_named (map (λ p. Decide p.var) decisions) d) ≡ true) cids = AllPass-from_list_all (λ d. is_user d || is_named (map (λ p. Decide p.var) decisions) d) cids h in
    elim (or_cases (is_user c) (is_named (map (λ p. Decide p.var) decisions) c) (All-contains (λ d. (is_user d || is_named (map (λ p. Decide p.var) decisions) d) ≡ true) cids c all m)) [
      | inl t ↦ inl t
      | inr t ↦ inr (member_unmap (λ (p : Pair). Decide p.var) decisions c (named_member (map (λ p. Decide p.var) decisions) c t))
    ]

within_from : (decisions : List Pair) (cids : List Cid) → ((c : Cid) → Contains cids c → (is_user c ≡ true) ⊎ ((p : Pair) × Contains decisions p × (Decide p.var ≡ c))) → is_within decisions cids ≡ true
within_from decisions cids each = list_all-from_AllPass (λ d. is_user d || is_named (map (λ p. Decide p.var) decisions) d) cids
    (all_members (λ d. (is_user d || is_named (map (λ p. Decide p.var) decisions) d) ≡ true) cids (λ c m. elim (each c m) [
      | inl t ↦ or_left (is_user c) (is_named (map (λ p. Decide p.var) decisions) c) t
      | inr r ↦ or_right (is_user c) (is_named (map (λ p. Decide p.var) decisions) c)
          (member_named (map (λ p. Decide p.var) decisions) c (member_same (map (λ p. Decide p.var) decisions) (Decide r.0.var) c r.2 (member_map (λ (p : Pair). Decide p.var) decisions r.0 r.1)))
    ]))

within_more : (few more : List Pair) (cids : List Cid) → ((p : Pair) → Contains few p → Contains more p) → is_within few cids ≡ true → is_within more cids ≡ true
within_more few more cids sub h = within_from more cids (λ c m. elim (within_cases few cids h c m) [ inl t ↦ inl t | inr r ↦ inr (r.0, sub r.0 r.1, r.2) ])

held_more : (few more : List Pair) (a : Active) → ((p : Pair) → Contains few p → Contains more p) → held few a ≡ true → held more a ≡ true
held_more few more a sub h =
    let b = and_parts (is_of_negation a.cid) (is_within few a.justification) h in
    and_from (is_of_negation a.cid) (is_within more a.justification) b.0 (within_more few more a.justification sub b.1)

-- ---- counting among more and among fewer constraints

count_test : (p q : Active → Bool) (xs : List Active) → ((a : Active) → Contains xs a → p a ≡ true → q a ≡ true) → length (filter p xs) ≤ length (filter q xs)
count_test p q [] sub = omega arith
count_test p q (x ∷ xs) sub = elim (cases_Bool (p x)) [
  | inl t ↦ let u = sub x (member_here x xs) t in rw (t, u) (let k = count_test p q xs (λ a m. sub a (member_there x xs a m)) in omega (arith, k))
  | inr f ↦ rw f (elim (cases_Bool (q x)) [
    | inl u ↦ rw u (let k = count_test p q xs (λ a m. sub a (member_there x xs a m)) in omega (arith, k))
    | inr g ↦ rw g (count_test p q xs (λ a m. sub a (member_there x xs a m)))
  ])
]

-- each member passes f or g, so both parts together have as many
count_split : (p f g : Active → Bool) (xs : List Active) → ((a : Active) → Contains xs a → (f a ≡ true) ⊎ (g a ≡ true)) → length (filter p xs) ≤ length (filter p (filter f xs)) + length (filter p (filter g xs))
count_split p f g [] each = omega arith
count_split p f g (x ∷ xs) each =
    let k = count_split p f g xs (λ a m. each a (member_there x xs a m)) in
    split_one p f g x xs (each x (member_here x xs)) k
  where
    split_one : (p f g : Active → Bool) (x : Active) (xs : List Active) → (f x ≡ true) ⊎ (g x ≡ true) → length (filter p xs) ≤ length (filter p (filter f xs)) + length (filter p (filter g xs))
        → length (filter p (x ∷ xs)) ≤ length (filter p (filter f (x ∷ xs))) + length (filter p (filter g (x ∷ xs)))
    split_one p f g x xs each k = elim (cases_Bool (p x)) [
      | inl t ↦ elim (cases_Bool (f x)) [
        | inl a ↦ elim (cases_Bool (g x)) [ inl b ↦ rw (a, b, t) (omega (arith, k)) | inr b ↦ rw (a, b, t) (omega (arith, k)) ]
        | inr a ↦ elim (cases_Bool (g x)) [
          | inl b ↦ rw (a, b, t) (omega (arith, k))
          | inr b ↦ elim each [ inl y ↦ absurd (false≢true (sym a ∙ y)) | inr y ↦ absurd (false≢true (sym b ∙ y)) ]
        ]
      ]
      | inr t ↦ elim (cases_Bool (f x)) [
        | inl a ↦ elim (cases_Bool (g x)) [ inl b ↦ rw (a, b, t) k | inr b ↦ rw (a, b, t) k ]
        | inr a ↦ elim (cases_Bool (g x)) [ inl b ↦ rw (a, b, t) k | inr b ↦ rw (a, b, t) k ]
      ]
    ]

-- with one more constraint, which is counted where it passes
pub count_posted : (p : Active → Bool) (a : Active) (active : List Active) → (IsActive active a.cid → ⊥) → cond (p a) 1 0 + length (filter p active) ≤ length (filter p (with_posted a active))
count_posted p a active inactive =
    let low = filter (λ b. cid_before b.cid a.cid) active in
    let high = filter (λ b. cid_before a.cid b.cid) active in
    let k = count_split p (λ b. cid_before b.cid a.cid) (λ b. cid_before a.cid b.cid) active (λ b m. elim (cid_order b.cid a.cid) [
      | inl t ↦ inl t
      | inr r ↦ elim r [ inl e ↦ absurd (inactive (record { owner = b; posted = m; named = e })) | inr t ↦ inr t ]
    ]) in
    let e = ap length (filter-append p low (a ∷ high)) ∙ length-append (filter p low) (filter p (a ∷ high)) in
    let h = count_first p a high in
    joined (length (filter p (with_posted a active))) (length (filter p low)) (length (filter p (a ∷ high))) (length (filter p high)) (length (filter p active)) (cond (p a) 1 0) e h k
  where
    count_first : (p : Active → Bool) (a : Active) (xs : List Active) → length (filter p (a ∷ xs)) ≡ cond (p a) 1 0 + length (filter p xs)
    count_first p a xs = elim (cases_Bool (p a)) [
      | inl t ↦ rw t (let k : suc (length (filter p xs)) ≡ 1 + length (filter p xs) = omega arith in k)
      | inr f ↦ rw f (let k : length (filter p xs) ≡ 0 + length (filter p xs) = omega arith in k)
    ]

    joined : (all low first high active one : ℕ) → all ≡ low + first → first ≡ one + high → active ≤ low + high → one + active ≤ all
    joined all low first high active one e h k = omega arith

-- where none of those counted goes, none is lost
count_kept : (p : Active → Bool) (gone : List Cid) (active : List Active) → ((a : Active) → Contains active a → p a ≡ true → Contains gone a.cid → ⊥) → length (filter p active) ≤ length (filter p (without_cids gone active))
count_kept p gone [] stays = omega arith
count_kept p gone (x ∷ xs) stays =
    let k = count_kept p gone xs (λ a m. stays a (member_there x xs a m)) in
    elim (cases_Bool (is_named gone x.cid)) [
      | inr f ↦ rw f (elim (cases_Bool (p x)) [ inl t ↦ rw t (omega (arith, k)) | inr g ↦ rw g k ])
      | inl n ↦ elim (cases_Bool (p x)) [
        | inl t ↦ absurd (stays x (member_here x xs) t (named_member gone x.cid n))
        | inr g ↦ rw (n, g) k
      ]
    ]

-- ---- the number of negations

-- the ids of the negations of all declared pairs, of the variables from number x on
declared_from : ℕ → Domains → List Cid
declared_from n [] = []
declared_from n (vs ∷ d) = map (λ v. Not (pair_of n v)) vs ++ declared_from (n + 1) d

declared_count : (n : ℕ) (d : Domains) → length (declared_from n d) ≡ value_count d
unfolding declared_from
declared_count n [] = refl
declared_count n (vs ∷ d) =
    let e = length-append (map (λ v. Not (pair_of n v)) vs) (declared_from (n + 1) d) in
    let f = length-map vs (λ v. Not (pair_of n v)) in
    let k = declared_count (n + 1) d in
    omega (arith, e, f, k)

declared_member : (n : ℕ) (d : Domains) (x : ℕ) (v : ℤ) → Has d x v → Contains (declared_from n d) (Not (pair_of (n + x) v))
unfolding declared_from
declared_member n [] x v h = absurd (member_nil v h)
declared_member n (vs ∷ d) zero v h =
    let e : n ≡ n + 0 = omega arith in
    Contains-append_left (map (λ w. Not (pair_of n w)) vs) (declared_from (n + 1) d) (Not (pair_of (n + 0) v))
    (subst (λ k. Contains (map (λ w. Not (pair_of n w)) vs) (Not (pair_of k v))) e (member_map (λ w. Not (pair_of n w)) vs v h))
declared_member n (vs ∷ d) (suc x) v h =
    let e : (n + 1) + x ≡ n + suc x = omega arith in
    Contains-append_right (map (λ w. Not (pair_of n w)) vs) (declared_from (n + 1) d) (Not (pair_of (n + suc x) v))
    (subst (λ k. Contains (declared_from (n + 1) d) (Not (pair_of k v))) e (declared_member (n + 1) d x v h))

negation_of_test : (c : Cid) → is_of_negation c ≡ true → (p : Pair) × (c ≡ Not p)
negation_of_test (Decide x) t = absurd (false≢true t)
negation_of_test (Not p) t = (p, refl)
negation_of_test (User n) t = absurd (false≢true t)

pub negations_few : (s : SearchState) → IsValid s.engine → HasDeclared s → (i : ℕ) → negations_within s i ≤ value_count s.engine.initial
negations_few s valid declared i =
    let test = held (take i s.decisions) in
    let some = filter test s.engine.active in
    let k = rising_short (cids_of some) (rises_filter test s.engine.active valid.rising) (declared_from 0 s.engine.initial) (λ c m.
    let r = member_unmap (λ (a : Active). a.cid) some c m in
    let f = filter_member test s.engine.active r.0 r.1 in
    let n = negation_of_test r.0.cid (and_parts (is_of_negation r.0.cid) (is_within (take i s.decisions) r.0.justification) f.1).0 in
    let has = declared.negated r.0 n.0 f.0 n.1 in
    let z : 0 + n.0.var ≡ n.0.var = omega arith in
    subst (λ d. Contains (declared_from 0 s.engine.initial) d) (ap (λ x. Not (pair_of x n.0.value)) z ∙ sym n.1 ∙ r.2) (declared_member 0 s.engine.initial n.0.var n.0.value has)) in
    let e = declared_count 0 s.engine.initial in
    let l = length-map some (λ (a : Active). a.cid) in
    omega (arith, k, e, l)

-- ---- the measure

pub weighed_is : (s : SearchState) (base n k : ℕ) → weighed s base n k ≡ weighed_sum (negations_within s) base n k
weighed_is s base n zero = refl
weighed_is s base n (suc k) = ap (λ m. m + negations_within s (suc k) * base ^ (n - suc k)) (weighed_is s base n k)

pub measure_below : (s : SearchState) → IsValid s.engine → HasDeclared s → measure s < (value_count s.engine.initial + 1) ^ (length s.engine.initial + 1)
measure_below s valid declared =
    let n = length s.engine.initial in
    let top = value_count s.engine.initial in
    let k = weighed_below (negations_within s) top n n (negations_few s valid declared) (omega arith) in
    let e = weighed_is s (top + 1) n n in
    let z : (top + 1) ^ (n - n) ≡ 1 = ap (λ m. (top + 1) ^ m) (minus_self n) ∙ pow-zero (top + 1) in
    omega (arith, k, e, z)
  where
    minus_self : (n : ℕ) → n - n ≡ 0
    minus_self n = omega arith

take_append : (i : ℕ) (xs ys : List Pair) (p : Pair) → Contains (take i xs) p → Contains (take i (xs ++ ys)) p
take_append zero xs ys p m = m
take_append (suc i) [] ys p m = absurd (member_nil p m)
take_append (suc i) (x ∷ xs) ys p m = elim (member_cases x (take i xs) p m) [
  | inl e ↦ member_same (x ∷ take i (xs ++ ys)) x p e (member_here x (take i (xs ++ ys)))
  | inr k ↦ member_there x (take i (xs ++ ys)) p (take_append i xs ys p k)
]

-- the first ones of a list that goes on differently
take_front : (i : ℕ) (xs ys zs : List Pair) → i ≤ length xs → take i (xs ++ ys) ≡ take i (xs ++ zs)
take_front zero xs ys zs le = refl
take_front (suc i) [] ys zs le = absurd (omega arith)
take_front (suc i) (x ∷ xs) ys zs le = ap (λ l. x ∷ l) (take_front i xs ys zs (omega arith))

take_of_front : (i : ℕ) (xs ys : List Pair) (p : Pair) → i ≤ length xs → Contains (take i (xs ++ ys)) p → Contains xs p
take_of_front zero xs ys p le m = absurd (member_nil p m)
take_of_front (suc i) [] ys p le m = absurd (omega arith)
take_of_front (suc i) (x ∷ xs) ys p le m = elim (member_cases x (take i (xs ++ ys)) p m) [
  | inl e ↦ member_same (x ∷ xs) x p e (member_here x xs)
  | inr k ↦ member_there x xs p (take_of_front i xs ys p (omega arith) k)
]

take_whole_front : (xs ys : List Pair) (p : Pair) → Contains xs p → Contains (take (length xs) (xs ++ ys)) p
take_whole_front [] ys p m = absurd (member_nil p m)
take_whole_front (x ∷ xs) ys p m = elim (member_cases x xs p m) [
  | inl e ↦ member_same (x ∷ take (length xs) (xs ++ ys)) x p e (member_here x (take (length xs) (xs ++ ys)))
  | inr k ↦ member_there x (take (length xs) (xs ++ ys)) p (take_whole_front xs ys p k)
]

-- ---- deciding

decided_counts : (guided : Bool) (s : SearchState) (p : Pair) (pick : Pick) (t : SearchState) → Decides guided s p pick t → (i : ℕ) → negations_within s i ≤ negations_within t i
decided_counts guided s p pick t turn i =
    let more = count_test (held (take i s.decisions)) (held (take i t.decisions)) s.engine.active (λ a m h.
    held_more (take i s.decisions) (take i t.decisions) a (λ q k. subst (λ l. Contains (take i l) q) (sym turn.decisions) (take_append i s.decisions (p ∷ []) q k)) h) in
    let posted = count_posted (held (take i t.decisions)) (decision_of p) s.engine.active turn.posts.inactive in
    let e : t.engine.active ≡ with_posted (decision_of p) s.engine.active = ap (λ (z : EngineState). z.active) turn.posts.after in
    let l : length (filter (held (take i t.decisions)) t.engine.active) ≡ length (filter (held (take i t.decisions)) (with_posted (decision_of p) s.engine.active)) = ap (λ k. length (filter (held (take i t.decisions)) k)) e in
    omega (arith, more, posted, l)

-- ---- undoing

apart_within : (s : SearchState) (gone : Pair) (earlier later : List Pair) (a : Active) (decisions : List Pair) → s.decisions ≡ earlier ++ gone ∷ later → Distinct (vars_of s.decisions)
    → ((p : Pair) → Contains decisions p → Contains earlier p) → held decisions a ≡ true → Contains (gone_with s.engine.active (Decide gone.var)) a.cid → IsSearching s → Contains s.engine.active a → ⊥
apart_within s gone earlier later a decisions e distinct sub h m searching posted =
    let b = and_parts (is_of_negation a.cid) (is_within decisions a.justification) h in
    let n = negation_of_test a.cid b.0 in
    elim (member_cases (Decide gone.var) (cids_of (filter (λ c. is_named c.justification (Decide gone.var)) s.engine.active)) a.cid m) [
      | inl f ↦ not_both gone.var n.0 (f ∙ n.1)
      | inr k ↦
          let r = member_unmap (λ (c : Active). c.cid) (filter (λ c. is_named c.justification (Decide gone.var)) s.engine.active) a.cid k in
          let f = filter_member (λ (c : Active). is_named c.justification (Decide gone.var)) s.engine.active r.0 r.1 in
          let same = single s.engine.active searching.valid.rising r.0 a f.0 posted r.2 in
          let justification : Contains a.justification (Decide gone.var) = subst (λ (c : Active). Contains c.justification (Decide gone.var)) same (named_member r.0.justification (Decide gone.var) f.1) in
          elim (within_cases decisions a.justification b.1 (Decide gone.var) justification) [
            | inl t ↦ false≢true t
            | inr q ↦
                let vars = latest_vars s earlier later gone e distinct in
                vars.lacks (member_same (vars_of earlier ++ vars_of later) q.0.var gone.var (same_var q.0.var gone.var q.2)
                (Contains-append_left (vars_of earlier) (vars_of later) q.0.var (member_map (λ (p : Pair). p.var) earlier q.0 (sub q.0 q.1))))
          ]
    ]
  where
    not_both : (x : ℕ) (p : Pair) → Decide x ≡ Not p → ⊥
    not_both x p e = cc

    same_var : (x y : ℕ) → Decide x ≡ Decide y → x ≡ y
    same_var x y e = cc

-- at a place that is not behind the undone decision none is lost, and the new one is counted where it passes
undone_counts : (s : SearchState) (gone : Pair) (conflict : List Cid) (t : SearchState) (turn : Undoes s gone conflict t) → IsSearching s → (i : ℕ) → i ≤ length turn.latest.earlier
    → cond (held (take i t.decisions) (negation_of gone (without_cid (Decide gone.var) conflict))) 1 0 + negations_within s i ≤ negations_within t i
undone_counts s gone conflict t turn searching i le =
    let latest = turn.latest in
    let neg = negation_of gone (without_cid (Decide gone.var) conflict) in
    let test = held (take i t.decisions) in
    let gone_cids = gone_with s.engine.active (Decide gone.var) in
    let front : take i s.decisions ≡ take i t.decisions = ap (take i) latest.are ∙ take_front i latest.earlier (gone ∷ latest.later) latest.later le ∙ ap (take i) (sym latest.others) in
    let before : negations_within s i ≡ length (filter test s.engine.active) = ap (λ l. length (filter (held l) s.engine.active)) front in
    let kept = count_kept test gone_cids s.engine.active (λ a m h k. apart_within s gone latest.earlier latest.later a (take i t.decisions) latest.are searching.decisions.distinct
    (λ p j. take_of_front i latest.earlier latest.later p le (subst (λ l. Contains (take i l) p) latest.others j)) h k searching m) in
    let em : turn.middle.active ≡ without_cids gone_cids s.engine.active = ap (λ (z : EngineState). z.active) turn.withdraws.after in
    let middle : length (filter test turn.middle.active) ≡ length (filter test (without_cids gone_cids s.engine.active)) = ap (λ l. length (filter test l)) em in
    let posted = count_posted test neg turn.middle.active turn.posts.inactive in
    let et : t.engine.active ≡ with_posted neg turn.middle.active = ap (λ (z : EngineState). z.active) turn.posts.after in
    let after : negations_within t i ≡ length (filter test (with_posted neg turn.middle.active)) = ap (λ l. length (filter test l)) et in
    omega (arith, before, kept, middle, posted, after)

-- the new negation lies within the decisions before the undone one
new_held : (s : SearchState) (gone : Pair) (conflict : List Cid) (t : SearchState) (turn : Undoes s gone conflict t) → IsSearching s
    → held (take (length turn.latest.earlier) t.decisions) (negation_of gone (without_cid (Decide gone.var) conflict)) ≡ true
new_held s gone conflict t turn searching = within_from (take (length turn.latest.earlier) t.decisions) (without_cid (Decide gone.var) conflict) (λ c m.
    let r = without_cid_member (Decide gone.var) conflict c m in
    let g = flat_justifiers s.engine searching.valid turn.flat.var c (turn.flat.is.sound c r.0) in
    user_or_decided c r.0 r.1 g.0 g.1)
  where
    user_or_decided : (c : Cid) → Contains conflict c → (c ≡ Decide gone.var → ⊥) → IsJustifier c → IsActive s.engine.active c → (is_user c ≡ true) ⊎ ((p : Pair) × Contains (take (length turn.latest.earlier) t.decisions) p × (Decide p.var ≡ c))
    user_or_decided (User n) k ne justifier is = inl refl
    user_or_decided (Not p) k ne justifier is = absurd justifier
    user_or_decided (Decide x) k ne justifier is =
        let taken = searching.decisions.taken is.owner x is.posted is.named in
        let named : Decide taken.0.var ≡ Decide x = sym (ap (λ (a : Active). a.cid) taken.2) ∙ is.named in
        let at = subst (λ l. Contains l taken.0) turn.latest.are taken.1 in
        inr (
          taken.0,
          elim (Contains-append_cases turn.latest.earlier (gone ∷ turn.latest.later) taken.0 at) [
            | inl j ↦ subst (λ l. Contains (take (length turn.latest.earlier) l) taken.0) (sym turn.latest.others) (take_whole_front turn.latest.earlier turn.latest.later taken.0 j)
            | inr j ↦ elim (member_cases gone turn.latest.later taken.0 j) [
              | inl e ↦ absurd (ne (sym named ∙ ap (λ (p : Pair). Decide p.var) (sym e)))
              | inr l ↦ absurd (turn.latest.latest taken.0 l (member_same conflict (Decide x) (Decide taken.0.var) (sym named) k))
            ]
          ],
          named,
        )

-- ---- turns

-- the variables of the decisions are declared
pub decisions_few : (s : SearchState) → IsSearching s → length s.decisions ≤ length s.engine.initial
decisions_few s searching =
    let k = distinct_below (vars_of s.decisions) (length s.engine.initial) searching.decisions.distinct (λ x m.
    let r = member_unmap (λ (p : Pair). p.var) s.decisions x m in
    let lt = (searching.valid.formed (decision_of r.0) (searching.decisions.active r.0 r.1)).form.2 in
    subst (λ y. y < length s.engine.initial) r.2 lt) in
    let e = length-map s.decisions (λ (p : Pair). p.var) in
    omega (arith, k, e)

pub decides_measure : (guided : Bool) (s : SearchState) (p : Pair) (pick : Pick) (t : SearchState) → Decides guided s p pick t → measure s ≤ measure t
decides_measure guided s p pick t turn =
    let n = length s.engine.initial in
    let base = value_count s.engine.initial + 1 in
    let more = weighed_more (negations_within s) (negations_within t) base n n (λ i le. decided_counts guided s p pick t turn i) in
    let ei : t.engine.initial ≡ s.engine.initial = ap (λ (z : EngineState). z.initial) turn.posts.after in
    let es = weighed_is s base n n in
    let et = weighed_is t base n n in
    let em : measure t ≡ weighed t base n n = ap (λ (d : Domains). weighed t (value_count d + 1) (length d) (length d)) ei in
    omega (arith, more, es, et, em)

counted : (b : Bool) → b ≡ true → cond b 1 0 ≡ suc zero
counted b e = rw e refl

pub undoes_measure : (s : SearchState) (gone : Pair) (conflict : List Cid) (t : SearchState) → Undoes s gone conflict t → IsSearching s → measure s < measure t
undoes_measure s gone conflict t turn searching =
    let n = length s.engine.initial in
    let top = value_count s.engine.initial in
    let j = length turn.latest.earlier in
    let few = decisions_few s searching in
    let parts : length s.decisions ≡ j + length (gone ∷ turn.latest.later) = ap length turn.latest.are ∙ length-append turn.latest.earlier (gone ∷ turn.latest.later) in
    let below : j ≤ n = omega (arith, few, parts) in
    let held_new = new_held s gone conflict t turn searching in
    let one : negations_within s j + 1 ≤ negations_within t j =
    let k = undone_counts s gone conflict t turn searching j (omega arith) in
    let c = counted (held (take j t.decisions) (negation_of gone (without_cid (Decide gone.var) conflict))) held_new in
    omega (arith, k, c) in
    let less : (i : ℕ) → i < j → negations_within s i ≤ negations_within t i = λ i lt. let k = undone_counts s gone conflict t turn searching i (omega arith) in omega (arith, k) in
    let rises = weighed_rises (negations_within s) (negations_within t) top n j below (negations_few s searching.valid searching.declared) less one in
    let ei : t.engine.initial ≡ s.engine.initial = ap (λ (z : EngineState). z.initial) turn.posts.after ∙ ap (λ (z : EngineState). z.initial) turn.withdraws.after in
    let es = weighed_is s (top + 1) n n in
    let et = weighed_is t (top + 1) n n in
    let em : measure t ≡ weighed t (top + 1) n n = ap (λ (d : Domains). weighed t (value_count d + 1) (length d) (length d)) ei in
    omega (arith, rises, es, et, em)

-- ---- settling, and whole turns

same_measure : (s t : SearchState) → t.engine.active ≡ s.engine.active → t.engine.initial ≡ s.engine.initial → t.decisions ≡ s.decisions → measure t ≡ measure s
same_measure s t a i d =
    weighed_is t (value_count t.engine.initial + 1) (length t.engine.initial) (length t.engine.initial)
    ∙ (λ j. weighed_sum (λ k. length (filter (held (take k (d j))) (a j))) (value_count (i j) + 1) (length (i j)) (length (i j)))
    ∙ sym (weighed_is s (value_count s.engine.initial + 1) (length s.engine.initial) (length s.engine.initial))

pub settles_measure : (ordered : Bool) (s t : SearchState) → SettlesAfter ordered s t → measure t ≡ measure s
settles_measure ordered s t settles =
    let filters = settling_filters None s.engine settles.revisions t.engine settles.settles in
    same_measure s t filters.active filters.initial settles.decisions

-- how many turns are decisions, and how many are undoings
pub decides_in : List Turn → ℕ
decides_in [] = 0
decides_in (TurnDecide pair pick ∷ turns) = suc (decides_in turns)
decides_in (TurnUndo gone conflict ∷ turns) = decides_in turns

pub undoes_in : List Turn → ℕ
undoes_in [] = 0
undoes_in (TurnDecide pair pick ∷ turns) = undoes_in turns
undoes_in (TurnUndo gone conflict ∷ turns) = suc (undoes_in turns)

pub turns_counted : (turns : List Turn) → length turns ≡ decides_in turns + undoes_in turns
unfolding decides_in undoes_in
turns_counted [] = refl
turns_counted (TurnDecide pair pick ∷ turns) = let e = turns_counted turns in omega (arith, e)
turns_counted (TurnUndo gone conflict ∷ turns) = let e = turns_counted turns in omega (arith, e)

pub none_counted : (undoes_in [] ≡ 0) × (decides_in [] ≡ 0)
unfolding decides_in undoes_in
none_counted = (refl, refl)

pub decide_counted : (pair : Pair) (pick : Pick) (turns : List Turn) → (undoes_in (TurnDecide pair pick ∷ turns) ≡ undoes_in turns) × (decides_in (TurnDecide pair pick ∷ turns) ≡ suc (decides_in turns))
unfolding decides_in undoes_in
decide_counted pair pick turns = (refl, refl)

pub undo_counted : (gone : Pair) (conflict : List Cid) (turns : List Turn) → (undoes_in (TurnUndo gone conflict ∷ turns) ≡ suc (undoes_in turns)) × (decides_in (TurnUndo gone conflict ∷ turns) ≡ decides_in turns)
unfolding decides_in undoes_in
undo_counted gone conflict turns = (refl, refl)

-- the measure rises by the undoings at least, and the decisions grow by those taken and shrink by those undone
pub record Weighs (s : SearchState) (turns : List Turn) (t : SearchState) : Type 0 where
  pub rises : measure s + undoes_in turns ≤ measure t
  pub decisions : length t.decisions + undoes_in turns ≡ length s.decisions + decides_in turns
  pub searching : IsSearching t
  pub initial : t.engine.initial ≡ s.engine.initial

pub turn_weighs : ReasonsAreRight → (guided ordered : Bool) (s : SearchState) (turn : Turn) (t : SearchState) → Follows guided ordered s turn t → IsSearching s → Weighs s (turn ∷ []) t
unfolding decides_in undoes_in
turn_weighs right guided ordered s (TurnDecide pair pick) t follows searching =
    let m = follows.middle in
    let takes = follows.takes in
    let filters = settling_filters None m.engine follows.settles.revisions t.engine follows.settles.settles in
    let up = decides_measure guided s pair pick m takes in
    let same = settles_measure ordered m t follows.settles in
    let el : length t.decisions ≡ length m.decisions = ap length follows.settles.decisions in
    let em : length m.decisions ≡ length s.decisions + 1 = ap length takes.decisions ∙ length-append s.decisions (pair ∷ []) in
    record {
      rises = omega (arith, up, same);
      decisions = omega (arith, el, em);
      searching = follows_keep right guided ordered s (TurnDecide pair pick) t follows searching;
      initial = filters.initial ∙ ap (λ (z : EngineState). z.initial) takes.posts.after;
    }
turn_weighs right guided ordered s (TurnUndo gone conflict) t follows searching =
    let m = follows.middle in
    let takes = follows.takes in
    let latest = takes.latest in
    let filters = settling_filters None m.engine follows.settles.revisions t.engine follows.settles.settles in
    let up = undoes_measure s gone conflict m takes searching in
    let same = settles_measure ordered m t follows.settles in
    let el : length t.decisions ≡ length m.decisions = ap length follows.settles.decisions in
    let em : length m.decisions ≡ length latest.earlier + length latest.later = ap length latest.others ∙ length-append latest.earlier latest.later in
    let es : length s.decisions ≡ length latest.earlier + length (gone ∷ latest.later) = ap length latest.are ∙ length-append latest.earlier (gone ∷ latest.later) in
    record {
      rises = omega (arith, up, same);
      decisions = omega (arith, el, em, es);
      searching = follows_keep right guided ordered s (TurnUndo gone conflict) t follows searching;
      initial = filters.initial ∙ ap (λ (z : EngineState). z.initial) takes.posts.after ∙ ap (λ (z : EngineState). z.initial) takes.withdraws.after;
    }

one_turn : (turn : Turn) (turns : List Turn) → (undoes_in (turn ∷ turns) ≡ undoes_in (turn ∷ []) + undoes_in turns) × (decides_in (turn ∷ turns) ≡ decides_in (turn ∷ []) + decides_in turns)
unfolding decides_in undoes_in
one_turn (TurnDecide pair pick) turns = (omega arith, omega arith)
one_turn (TurnUndo gone conflict) turns = (omega arith, omega arith)

-- no turn is taken, and the measure does not fall
pub weighs_none : (s t : SearchState) → measure s ≤ measure t → length t.decisions ≡ length s.decisions → IsSearching t → t.engine.initial ≡ s.engine.initial → Weighs s [] t
unfolding decides_in undoes_in
weighs_none s t up same searching initial = record { rises = omega (arith, up); decisions = omega (arith, same); searching = searching; initial = initial }

pub weighs_same : (s t : SearchState) → t ≡ s → IsSearching s → Weighs s [] t
weighs_same s t e searching = subst (λ z. Weighs s [] z) (sym e) (weighs_none s s (omega arith) refl searching refl)

-- some turns, and then others
pub weighs_then : (s m t : SearchState) (turn : Turn) (turns : List Turn) → Weighs s (turn ∷ []) m → Weighs m turns t → Weighs s (turn ∷ turns) t
weighs_then s m t turn turns first rest =
    let split = one_turn turn turns in
    let u = split.0 in
    let d = split.1 in
    let a = first.rises in
    let b = rest.rises in
    let x = first.decisions in
    let y = rest.decisions in
    record {
      rises = omega (arith, u, a, b);
      decisions = omega (arith, u, d, x, y);
      searching = rest.searching;
      initial = rest.initial ∙ first.initial;
    }

pub weighs_after : (s m t : SearchState) (turns : List Turn) → Weighs s [] m → Weighs m turns t → Weighs s turns t
weighs_after s m t turns first rest =
    let u = none_counted.0 in
    let d = none_counted.1 in
    let a = first.rises in
    let b = rest.rises in
    let x = first.decisions in
    let y = rest.decisions in
    record {
      rises = omega (arith, u, a, b);
      decisions = omega (arith, u, d, x, y);
      searching = rest.searching;
      initial = rest.initial ∙ first.initial;
    }

turns_weigh : ReasonsAreRight → (guided ordered : Bool) (s : SearchState) (turns : List Turn) (t : SearchState) → Turns guided ordered s turns t → IsSearching s → Weighs s turns t
turns_weigh right guided ordered s [] t run searching = weighs_same s t run searching
turns_weigh right guided ordered s (turn ∷ turns) t run searching =
    let first = turn_weighs right guided ordered s turn run.0 run.1 searching in
    weighs_then s run.0 t turn turns first (turns_weigh right guided ordered run.0 turns t run.2 first.searching)

one_power : (n : ℕ) → (0 + 1) ^ n ≡ suc zero
one_power zero = pow-zero 1
one_power (suc n) =
    let e = one_power n in
    let k : 1 * 1 ^ n ≡ 1 ^ n = omega arith in
    pow-succ' 1 n ∙ k ∙ e

no_variables : (d : Domains) → length d ≡ 0 → value_count d ≡ 0
no_variables [] e = refl
no_variables (vs ∷ d) e = absurd (omega (arith, e))

-- turns that begin with no decision are bounded
pub weighs_bounded : (s : SearchState) (turns : List Turn) (t : SearchState) → Weighs s turns t → s.decisions ≡ []
    → length turns < most_turns (length s.engine.initial) (value_count s.engine.initial)
weighs_bounded s turns t weighs none =
    let n = length s.engine.initial in
    let top = value_count s.engine.initial in
    let bound = (top + 1) ^ (n + 1) in
    let below = measure_below t weighs.searching.valid weighs.searching.declared in
    let same : (value_count t.engine.initial + 1) ^ (length t.engine.initial + 1) ≡ bound = ap (λ (d : Domains). (value_count d + 1) ^ (length d + 1)) weighs.initial in
    let rises = weighs.rises in
    let undone : undoes_in turns < bound = omega (arith, below, same, rises) in
    let few = decisions_few t weighs.searching in
    let len : length t.engine.initial ≡ n = ap length weighs.initial in
    let start : length s.decisions ≡ 0 = ap length none in
    let moved = weighs.decisions in
    let decided : decides_in turns ≤ n + undoes_in turns = omega (arith, few, len, start, moved) in
    let zero_case : n ≡ 0 → undoes_in turns ≡ 0 = λ e.
    let z = no_variables s.engine.initial e in
    let one : bound ≡ 1 = ap (λ (m : ℕ). (m + 1) ^ (n + 1)) z ∙ one_power (n + 1) in
    omega (arith, undone, one) in
    let total = turns_few n bound (undoes_in turns) (decides_in turns) undone decided zero_case in
    let count = turns_counted turns in
    omega (arith, total, count)

pub turns_bounded : ReasonsAreRight → (guided ordered : Bool) (s : SearchState) (turns : List Turn) (t : SearchState) → Turns guided ordered s turns t → IsSearching s → s.decisions ≡ []
    → length turns < most_turns (length s.engine.initial) (value_count s.engine.initial)
turns_bounded right guided ordered s turns t run searching none = weighs_bounded s turns t (turns_weigh right guided ordered s turns t run searching) none

-- ---- whole searches

pub run_bounded : ReasonsAreRight → (guided ordered : Bool) (budget : ℕ) (s : EngineState) (turns : List Turn) (end : SearchEnd) (t : SearchState) → IsValid s → HasOnlyUsers s → SearchRun guided ordered budget s turns end t
    → length turns < most_turns (length s.initial) (value_count s.initial)
run_bounded right guided ordered budget s turns end t valid users run =
    let searching = settles_keep right ordered (begun s) run.start run.settles (begins s valid users) in
    let filters = settling_filters None s run.settles.revisions run.start.engine run.settles.settles in
    let few = turns_bounded right guided ordered run.start turns t run.taken searching run.settles.decisions in
    subst (λ (d : Domains). length turns < most_turns (length d) (value_count d)) filters.initial few

pub run_spent : ReasonsAreRight → (guided ordered : Bool) (budget k : ℕ) (s : EngineState) (turns : List Turn) (t : SearchState) → IsValid s → HasOnlyUsers s → SearchRun guided ordered budget s turns (Spent k) t
    → (k ≡ budget) × (k < most_turns (length s.initial) (value_count s.initial))
run_spent right guided ordered budget k s turns t valid users run =
    let e = run.ends in
    let count = e.0 in
    let few = run_bounded right guided ordered budget s turns (Spent k) t valid users run in
    (count ∙ e.1, omega (arith, count, few))
