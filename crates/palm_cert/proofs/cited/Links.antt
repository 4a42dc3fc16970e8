-- Linked logs: no pair has two places, and the reasons of what a claim needs are needed.
use Rattle.std.proofs.Common.{◌≡◌, ℕ, zero, suc, Bool, true, false, cond, Some, List, [], ◌∷◌, ◌++◌, filter, Contains, inl, inr, ◌⊎◌, append_assoc, refl, sym, ap, subst}
use Rattle.std.specs.Prelude.{slice_get}
use Rattle.std.proofs.lemmas.Bool.{false≢true}
use Rattle.std.proofs.lemmas.List.Elements.{Contains-append_left, Contains-append_right, Contains-append_cases}
use Rattle.std.proofs.lemmas.Option.{none-some, same_Some}
use Rattle.palm_base.specs.declared.terms.Pair.{Pair}
use Rattle.palm_base.proofs.cited.Members.{member_nil, member_here, member_cases, member_same, member_get, member_filter, filter_member}
use Rattle.palm_model.specs.Log.{Removal, log_pairs}
use Rattle.palm_model.proofs.cited.Without.{among_member, member_among}
use Rattle.palm_explain.specs.Explanations.{AreLinked, IsLinked}
use Rattle.palm_cert.specs.Certificate.{asked, is_asked, steps_of}
pub use Rattle.palm_events.proofs.cited.Logs.{logged as pair_removal, pair_logged}

-- ---- pairs of logs

pairs_left : (log more : List Removal) (p : Pair) → Contains (log_pairs log) p → Contains (log_pairs (log ++ more)) p
pairs_left log more p m =
    let r = pair_removal log p m in
    member_same (log_pairs (log ++ more)) r.0.pair p r.2 (pair_logged (log ++ more) r.0 (Contains-append_left log more r.0 r.1))

pairs_last : (log : List Removal) (r : Removal) → Contains (log_pairs (log ++ r ∷ [])) r.pair
pairs_last log r = pair_logged (log ++ r ∷ []) r (Contains-append_right log (r ∷ []) r (member_here r []))

-- ---- no pair twice

-- no pair is one of the later ones
abbrev pub Apart : List Pair → Type 0
Apart [] = Unit {0}
Apart (p ∷ ps) = (Contains ps p → ⊥) × Apart ps

pub fresh_later : (earlier later : List Removal) → AreLinked earlier later → (p : Pair) → Contains (log_pairs earlier) p → Contains (log_pairs later) p → ⊥
fresh_later earlier [] linked p m k = member_nil p k
fresh_later earlier (r ∷ later) linked p m k = elim (member_cases r.pair (log_pairs later) p k) [
  | inl e ↦ linked.0.fresh (member_same (log_pairs earlier) p r.pair (sym e) m)
  | inr n ↦ fresh_later (earlier ++ r ∷ []) later linked.1 p (pairs_left earlier (r ∷ []) p m) n
]

apart_from : (earlier later : List Removal) → AreLinked earlier later → Apart (log_pairs later)
apart_from earlier [] linked = tt
apart_from earlier (r ∷ later) linked = (fresh_later (earlier ++ r ∷ []) later linked.1 r.pair (pairs_last earlier r), apart_from (earlier ++ r ∷ []) later linked.1)

pub linked_apart : (log : List Removal) → IsLinked log → Apart (log_pairs log)
linked_apart log linked = apart_from [] log linked

pub same_place : (ps : List Pair) → Apart ps → (j k : ℕ) (p : Pair) → slice_get ps j ≡ Some p → slice_get ps k ≡ Some p → j ≡ k
same_place [] apart j k p e f = absurd (none-some p e)
same_place (q ∷ ps) apart zero zero p e f = refl
same_place (q ∷ ps) apart zero (suc k) p e f = absurd (apart.0 (member_same ps p q (sym (same_Some q p e)) (member_get ps k p f)))
same_place (q ∷ ps) apart (suc j) zero p e f = absurd (apart.0 (member_same ps p q (sym (same_Some q p f)) (member_get ps j p e)))
same_place (q ∷ ps) apart (suc j) (suc k) p e f = ap suc (same_place ps apart.1 j k p e f)

-- of the removals that pass a test too
pub passed_pair : (t : Removal → Bool) (log : List Removal) (p : Pair) → Contains (log_pairs (filter t log)) p → Contains (log_pairs log) p
passed_pair t log p m =
    let r = pair_removal (filter t log) p m in
    member_same (log_pairs log) r.0.pair p r.2 (pair_logged log r.0 (filter_member t log r.0 r.1).0)

apart_cond : (b : Bool) (r : Removal) (log : List Removal) → (Contains (log_pairs log) r.pair → ⊥) → Apart (log_pairs log) → Apart (log_pairs (cond b (r ∷ log) log))
apart_cond true r log fresh apart = (fresh, apart)
apart_cond false r log fresh apart = apart

pub apart_passed : (t : Removal → Bool) (log : List Removal) → Apart (log_pairs log) → Apart (log_pairs (filter t log))
apart_passed t [] apart = tt
apart_passed t (r ∷ log) apart = apart_cond (t r) r (filter t log) (λ m. apart.0 (passed_pair t log r.pair m)) (apart_passed t log apart.1)

-- ---- what is asked for

pub asked_member : (pairs : List Pair) (p : Pair) → is_asked pairs p ≡ true → Contains pairs p
asked_member pairs p t = among_member pairs p.var p.value t

pub member_asked : (pairs : List Pair) (p : Pair) → Contains pairs p → is_asked pairs p ≡ true
member_asked pairs p m = member_among pairs p.var p.value m

pub asked_cases : (b : Bool) (pairs more : List Pair) (p : Pair) → Contains (cond b (pairs ++ more) pairs) p → Contains pairs p ⊎ ((b ≡ true) × Contains more p)
asked_cases true pairs more p m = elim (Contains-append_cases pairs more p m) [ inl k ↦ inl k | inr k ↦ inr (refl, k) ]
asked_cases false pairs more p m = inl m

asked_keeps : (b : Bool) (pairs more : List Pair) (p : Pair) → Contains pairs p → Contains (cond b (pairs ++ more) pairs) p
asked_keeps true pairs more p m = Contains-append_left pairs more p m
asked_keeps false pairs more p m = m

asked_gains : (b : Bool) (pairs more : List Pair) (p : Pair) → b ≡ true → Contains more p → Contains (cond b (pairs ++ more) pairs) p
asked_gains true pairs more p e m = Contains-append_right pairs more p m
asked_gains false pairs more p e m = absurd (false≢true e)

-- the claimed pairs are asked for
pub claimed_asked : (log : List Removal) (pairs : List Pair) (p : Pair) → Contains pairs p → Contains (asked log pairs) p
claimed_asked [] pairs p m = m
claimed_asked (r ∷ later) pairs p m = asked_keeps (is_asked (asked later pairs) r.pair) (asked later pairs) r.reasons p (claimed_asked later pairs p m)

-- the reasons of what is asked for are asked for
reasons_from : (earlier later : List Removal) (pairs : List Pair) → AreLinked earlier later → (r : Removal) (p : Pair) → Contains later r → Contains (asked later pairs) r.pair → Contains r.reasons p → Contains (asked later pairs) p
reasons_from earlier [] pairs linked r p m a k = absurd (member_nil r m)
reasons_from earlier (s ∷ later) pairs linked r p m a k =
    let next = asked later pairs in
    elim (member_cases s later r m) [
      | inl e ↦
          let asks : Contains next s.pair = elim (asked_cases (is_asked next s.pair) next s.reasons r.pair a) [
            | inl n ↦ member_same next r.pair s.pair (ap (λ (z : Removal). z.pair) (sym e)) n
            | inr n ↦ asked_member next s.pair n.0
          ] in
          asked_gains (is_asked next s.pair) next s.reasons p (member_asked next s.pair asks) (subst (λ (z : Removal). Contains z.reasons p) (sym e) k)
      | inr n ↦
          let asks : Contains next r.pair = elim (asked_cases (is_asked next s.pair) next s.reasons r.pair a) [
            | inl i ↦ i
            | inr i ↦ absurd (fresh_later (earlier ++ s ∷ []) later linked.1 r.pair (pairs_left earlier (s ∷ []) r.pair (linked.0.reasons r.pair i.1)) (pair_logged later r n))
          ] in
          asked_keeps (is_asked next s.pair) next s.reasons p (reasons_from (earlier ++ s ∷ []) later pairs linked.1 r p n asks k)
    ]

pub reasons_asked : (log : List Removal) (pairs : List Pair) → IsLinked log → (r : Removal) (p : Pair) → Contains log r → Contains (asked log pairs) r.pair → Contains r.reasons p → Contains (asked log pairs) p
reasons_asked log pairs linked r p m a k = reasons_from [] log pairs linked r p m a k

-- the reasons of a removal of the log are in the log
reasons_earlier : (earlier later : List Removal) → AreLinked earlier later → (r : Removal) (p : Pair) → Contains later r → Contains r.reasons p → Contains (log_pairs (earlier ++ later)) p
reasons_earlier earlier [] linked r p m k = absurd (member_nil r m)
reasons_earlier earlier (s ∷ later) linked r p m k = elim (member_cases s later r m) [
  | inl e ↦ pairs_left earlier (s ∷ later) p (linked.0.reasons p (subst (λ (z : Removal). Contains z.reasons p) (sym e) k))
  | inr n ↦ subst (λ (l : List Removal). Contains (log_pairs l) p) (append_assoc earlier (s ∷ []) later) (reasons_earlier (earlier ++ s ∷ []) later linked.1 r p n k)
]

pub reasons_in : (log : List Removal) → IsLinked log → (r : Removal) (p : Pair) → Contains log r → Contains r.reasons p → Contains (log_pairs log) p
reasons_in log linked r p m k = reasons_earlier [] log linked r p m k

-- the reasons of the steps are pairs of steps
pub reasons_steps : (log : List Removal) (pairs : List Pair) → IsLinked log → (r : Removal) (p : Pair) → Contains (steps_of log pairs) r → Contains r.reasons p → Contains (log_pairs (steps_of log pairs)) p
reasons_steps log pairs linked r p m k =
    let t = λ (s : Removal). is_asked (asked log pairs) s.pair in
    let of_log = filter_member t log r m in
    let a = reasons_asked log pairs linked r p of_log.0 (asked_member (asked log pairs) r.pair of_log.1) k in
    let s = pair_removal log p (reasons_in log linked r p of_log.0 k) in
    member_same (log_pairs (steps_of log pairs)) s.0.pair p s.2
    (pair_logged (steps_of log pairs) s.0 (member_filter t log s.0 s.1 (member_asked (asked log pairs) s.0.pair (member_same (asked log pairs) p s.0.pair (sym s.2) a))))
