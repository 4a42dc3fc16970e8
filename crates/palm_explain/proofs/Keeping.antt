-- What stays when an id goes: of the log, of the lost pairs, and of the pairs that a store lacks.
use Rattle.std.proofs.Common.{◌≡◌, ℕ, ℤ, ◌<◌, Bool, true, false, not, cond, List, [], ◌∷◌, length, filter, get_or, Contains, All, inl, inr, refl, sym, ap, ◌∙◌, subst, arith}
use Rattle.std.proofs.lemmas.Bool.{cases_Bool}
use Rattle.std.proofs.lemmas.List.{same_lists, get_or_default, length-map}
use Rattle.palm_base.specs.Tells.{Tells}
use Rattle.palm_base.specs.declared.terms.Pair.{Pair}
use Rattle.palm_base.specs.declared.terms.Cid.{Cid}
use Rattle.palm_base.proofs.cited.Members.{member_here, member_there, member_same, member_single, member_map, member_unmap, filter_member, member_filter}
use Rattle.palm_domain.specs.Rows.{Row, Ascends, IsDeclared, IsPresent, initial_of, present_of}
use Rattle.palm_domain.proofs.cited.Ascending.{same_ascending}
use Rattle.palm_model.specs.Domains.{Domains, Has, without}
use Rattle.palm_model.specs.Event.{lost_pairs, vars_of}
use Rattle.palm_model.specs.Log.{Removal, Names, NamesSome, Loses, log_pairs}
use Rattle.palm_model.specs.Log.Loses.{none_left, is_lost, is_kept}
use Rattle.palm_model.proofs.cited.Without.{pair_of, without_has, has_without, length_without, ascend_without}
use Rattle.palm_events.proofs.cited.Agreeing.{pair_known}
use Rattle.palm_events.proofs.cited.Logs.{logged, left_member}
use Rattle.palm_explain.specs.Explanations.{IsLinked, LacksExactly}
use Rattle.palm_explain.specs.declared.entry.Entry.{Entry}
use Rattle.palm_explain.specs.declared.rows.Row.{Row as NumberRow}
use Rattle.palm_explain.specs.Entries.{log_of, removal_of}
use Rattle.palm_explain.specs.Losing.{HasBack, kept_of, marked_pairs}
use Rattle.palm_explain.proofs.Linked.{left_linked, pairs_more}
use Rattle.palm_explain.proofs.cited.Withdrawn.{lost_logged, lost_or_left, lost_cids, cids_lost}

-- ---- marks

-- it is told of each of the removals by its mark whether it names the constraint
abbrev pub AreTold : List NumberRow → List Entry → Cid → Type 0
AreTold rows es cid = (e : Entry) → Contains es e → Tells e.mark (Names (log_of rows es) cid (removal_of rows e))

-- the pair of a removal with a mark
pub marked_entry : (es : List Entry) (p : Pair) → Contains (marked_pairs es) p → (e : Entry) × Contains es e × (e.pair ≡ p) × (e.mark ≡ true)
marked_entry es p m =
    let e = member_unmap (λ (z : Entry). z.pair) (filter (λ (z : Entry). z.mark) es) p m in
    let k = filter_member (λ (z : Entry). z.mark) es e.0 e.1 in
    (e.0, k.0, e.2, k.1)

pub entry_marked : (es : List Entry) (e : Entry) → Contains es e → e.mark ≡ true → Contains (marked_pairs es) e.pair
entry_marked es e m is = member_map (λ (z : Entry). z.pair) (filter (λ (z : Entry). z.mark) es) e (member_filter (λ (z : Entry). z.mark) es e m is)

pub entry_logged : (rows : List NumberRow) (es : List Entry) (e : Entry) → Contains es e → Contains (log_of rows es) (removal_of rows e)
entry_logged rows es e m = member_map (removal_of rows) es e m

-- ---- the log

kept_lost : (k : Entry) (es : List Entry) → k.mark ≡ true → kept_of (k ∷ es) ≡ kept_of es
kept_lost k es is = ap (λ b. cond (not b) (k ∷ kept_of es) (kept_of es)) is

kept_first : (k : Entry) (es : List Entry) → k.mark ≡ false → kept_of (k ∷ es) ≡ k ∷ kept_of es
kept_first k es is = ap (λ b. cond (not b) (k ∷ kept_of es) (kept_of es)) is

pub told_true : (b : Bool) (P : Type 0) → Tells b P → b ≡ true → P
told_true true P p e = p
told_true false P p e = cc

pub told_false : (b : Bool) (P : Type 0) → Tells b P → b ≡ false → P → ⊥
told_false true P p e = cc
told_false false P p e = p

pub true_told : (b : Bool) (P : Type 0) → Tells b P → P → b ≡ true
true_told true P t p = refl
true_told false P t p = absurd (t p)

loses_kept_from : (rows : List NumberRow) (log : List Removal) (cid : Cid) (es : List Entry) → ((k : Entry) → Contains es k → Tells k.mark (Names log cid (removal_of rows k)))
    → Loses log (cid ∷ []) (log_of rows es) (log_of rows (kept_of es))
loses_kept_from rows log cid [] told = none_left
loses_kept_from rows log cid (k ∷ es) told =
    let tells = told k (member_here k es) in
    let rest = loses_kept_from rows log cid es (λ j m. told j (member_there k es j m)) in
    elim (cases_Bool k.mark) [
      | inl t ↦ subst (λ l. Loses log (cid ∷ []) (log_of rows (k ∷ es)) (log_of rows l)) (sym (kept_lost k es t))
          (is_lost (removal_of rows k) (log_of rows es) (log_of rows (kept_of es)) (record { cid = cid; among = member_here cid []; names = told_true k.mark _ tells t }) rest)
      | inr f ↦ subst (λ l. Loses log (cid ∷ []) (log_of rows (k ∷ es)) (log_of rows l)) (sym (kept_first k es f))
          (is_kept (removal_of rows k) (log_of rows es) (log_of rows (kept_of es))
          (λ some. told_false k.mark _ tells f (subst (λ c. Names log c (removal_of rows k)) (sym (member_single cid some.cid some.among)) some.names)) rest)
    ]

-- the log loses what the keys lose
pub loses_kept : (rows : List NumberRow) (cid : Cid) (es : List Entry) → AreTold rows es cid → Loses (log_of rows es) (cid ∷ []) (log_of rows es) (log_of rows (kept_of es))
loses_kept rows cid es told = loses_kept_from rows (log_of rows es) cid es told

pub kept_linked : (rows : List NumberRow) (cid : Cid) (es : List Entry) → IsLinked (log_of rows es) → AreTold rows es cid → IsLinked (log_of rows (kept_of es))
kept_linked rows cid es linked told = left_linked (log_of rows es) (cid ∷ []) (log_of rows (kept_of es)) linked (loses_kept rows cid es told)

-- ---- the lost pairs

pub lost_of_log : (rows : List NumberRow) (cid : Cid) (es : List Entry) → IsLinked (log_of rows es) → AreTold rows es cid → (p : Pair) → Contains (marked_pairs es) p → Contains (lost_pairs (log_of rows es) (log_of rows (kept_of es))) p
lost_of_log rows cid es linked told p m =
    let e = marked_entry es p m in
    let gone = cids_lost (log_of rows es) (cid ∷ []) (log_of rows (kept_of es)) linked (loses_kept rows cid es told) (removal_of rows e.0) (entry_logged rows es e.0 e.1)
    (record { cid = cid; among = member_here cid []; names = told_true e.0.mark _ (told e.0 e.1) e.3 }) in
    member_same (lost_pairs (log_of rows es) (log_of rows (kept_of es))) (removal_of rows e.0).pair p e.2 gone

-- the pair of a removal that names what goes
named_lost : (rows : List NumberRow) (cid : Cid) (es : List Entry) → AreTold rows es cid → (r : Removal) → Contains (log_of rows es) r → NamesSome (log_of rows es) (cid ∷ []) r → Contains (marked_pairs es) r.pair
named_lost rows cid es told r m some =
    let e = member_unmap (removal_of rows) es r m in
    let cids = subst (λ c. Names (log_of rows es) c r) (sym (member_single cid some.cid some.among)) some.names in
    let is = true_told e.0.mark _ (told e.0 e.1) (subst (λ z. Names (log_of rows es) cid z) (sym e.2) cids) in
    member_same (marked_pairs es) (removal_of rows e.0).pair r.pair (ap (λ (z : Removal). z.pair) e.2) (entry_marked es e.0 e.1 is)

pub log_lost_of : (rows : List NumberRow) (cid : Cid) (es : List Entry) → AreTold rows es cid → (p : Pair) → Contains (lost_pairs (log_of rows es) (log_of rows (kept_of es))) p → Contains (marked_pairs es) p
log_lost_of rows cid es told p m =
    let r = lost_cids (log_of rows es) (cid ∷ []) (log_of rows (kept_of es)) (loses_kept rows cid es told) p m in
    member_same (marked_pairs es) r.0.pair p r.2 (named_lost rows cid es told r.0 r.1 r.3)

pub vars_more : (ps qs : List Pair) → ((p : Pair) → Contains ps p → Contains qs p) → (x : ℕ) → Contains (vars_of ps) x → Contains (vars_of qs) x
vars_more ps qs sub x m =
    let p = member_unmap (λ (z : Pair). z.var) ps x m in member_same (vars_of qs) p.0.var x p.2 (member_map (λ (z : Pair). z.var) qs p.0 (sub p.0 p.1))

-- the variables that are noted are those of the lost pairs
pub noted_vars : (rows : List NumberRow) (cid : Cid) (es : List Entry) (keys : List ℕ) → IsLinked (log_of rows es) → AreTold rows es cid → (x : ℕ)
    → (Contains keys x → Contains (vars_of (marked_pairs es)) x) × (Contains (vars_of (marked_pairs es)) x → Contains keys x)
    → (Contains keys x → Contains (vars_of (lost_pairs (log_of rows es) (log_of rows (kept_of es)))) x) × (Contains (vars_of (lost_pairs (log_of rows es) (log_of rows (kept_of es)))) x → Contains keys x)
noted_vars rows cid es keys linked told x noted =
    let gone = lost_pairs (log_of rows es) (log_of rows (kept_of es)) in (
      λ m. vars_more (marked_pairs es) gone (lost_of_log rows cid es linked told) x (noted.0 m),
      λ m. noted.1 (vars_more gone (marked_pairs es) (log_lost_of rows cid es told) x m),
    )

-- ---- the store

-- ascending domains with the same values are the same
pub same_domains : (d e : Domains) → length d ≡ length e → All Ascends d → All Ascends e → ((x : ℕ) (v : ℤ) → Has d x v → Has e x v) → ((x : ℕ) (v : ℤ) → Has e x v → Has d x v) → d ≡ e
same_domains d e long a b to back =
    same_lists d e long (λ k vs lt.
    let lt' : k < length e = omega (arith, long, lt) in
    let here : get_or d k vs ≡ get_or d k [] = get_or_default d k vs [] lt in
    let there : get_or e k vs ≡ get_or e k [] = get_or_default e k vs [] lt' in
    here ∙ same_ascending (get_or d k []) (get_or e k []) (a k [] lt) (b k [] lt') (to k) (back k) ∙ sym there)

-- where exactly the lost pairs have come back, the store lacks exactly the pairs that stay
pub lacks_kept : (rows : List NumberRow) (cid : Cid) (es : List Entry) (before after : List Row) → IsLinked (log_of rows es) → AreTold rows es cid → LacksExactly before (log_pairs (log_of rows es)) → HasBack before after (marked_pairs es)
    → All Ascends (initial_of after) → All Ascends (present_of after) → LacksExactly after (log_pairs (log_of rows (kept_of es)))
lacks_kept rows cid es before after linked told lacks back ascend present =
    let log = log_of rows es in
    let left = log_of rows (kept_of es) in
    let initial = initial_of after in
    let loses = loses_kept rows cid es told in
    let fewer : (p : Pair) → Contains (log_pairs left) p → Contains (log_pairs log) p = pairs_more left log (left_member log (cid ∷ []) log left loses) in
    let declared : (p : Pair) → Contains (log_pairs log) p → IsDeclared after p.var p.value = λ p m. subst (λ d. Has d p.var p.value) (sym back.initial) (lacks.declared p m) in
    let was : present_of before ≡ without initial (log_pairs log) = lacks.present ∙ ap (λ d. without d (log_pairs log)) (sym back.initial) in
    let long : length (present_of after) ≡ length (without initial (log_pairs left)) =
    length-map after (λ (r : Row). r.present) ∙ sym (length-map after (λ (r : Row). r.initial)) ∙ sym (length_without initial (log_pairs left)) in
    let to : (x : ℕ) (v : ℤ) → IsPresent after x v → Has (without initial (log_pairs left)) x v = λ x v h. elim (back.sound x v h) [
      | inl k ↦ let r = without_has initial (log_pairs log) x v (subst (λ d. Has d x v) was k) in
          has_without initial (log_pairs left) x v r.0 (λ m. r.1 (fewer (pair_of x v) m))
      | inr k ↦ let gone = lost_logged log left (pair_of x v) (lost_of_log rows cid es linked told (pair_of x v) k) in
          has_without initial (log_pairs left) x v (declared (pair_of x v) gone.0) gone.1
    ] in
    let from : (x : ℕ) (v : ℤ) → Has (without initial (log_pairs left)) x v → IsPresent after x v = λ x v h.
    let r = without_has initial (log_pairs left) x v h in
    elim (pair_known (log_pairs log) (pair_of x v)) [
      | inr n ↦ back.others x v (subst (λ d. Has d x v) (sym was) (has_without initial (log_pairs log) x v r.0 n))
      | inl m ↦ let s = logged log (pair_of x v) m in
          elim (lost_or_left log (cid ∷ []) log left loses s.0 s.1) [
            | inl some ↦ back.back (pair_of x v) (member_same (marked_pairs es) s.0.pair (pair_of x v) s.2 (named_lost rows cid es told s.0 s.1 some))
            | inr k ↦ absurd (r.1 (member_same (log_pairs left) s.0.pair (pair_of x v) s.2 (member_map (λ (z : Removal). z.pair) left s.0 k)))
          ]
    ] in record {
      declared = λ p m. declared p (fewer p m);
      present = same_domains (present_of after) (without initial (log_pairs left)) long present (ascend_without initial (log_pairs left) ascend) to from;
    }
