-- Withdrawals one after another, and the pairs that they lose.
use Rattle.std.proofs.Common.{◌≡◌, not, List, [], ◌∷◌, ◌++◌, Contains, ◌⊎◌, inl, inr, refl, sym, ◌∙◌, subst}
use Rattle.std.proofs.lemmas.List.Elements.{Contains-append_left, Contains-append_right, Contains-append_cases}
use Rattle.std.proofs.lemmas.Bool.{not-true, false≢true}
use Rattle.palm_base.specs.declared.terms.Pair.{Pair}
use Rattle.palm_base.specs.declared.terms.Cid.{Cid}
use Rattle.palm_base.proofs.cited.Members.{member_nil, member_here, member_there, member_cases, member_same, filter_member, member_filter}
use Rattle.palm_model.specs.Domains.{is_among}
use Rattle.palm_model.specs.Event.{lost_pairs}
use Rattle.palm_model.specs.Log.{Removal, NamesSome, Loses, log_pairs}
use Rattle.palm_model.specs.Log.Loses.{none_left, is_lost, is_kept}
use Rattle.palm_model.proofs.cited.Without.{among_member, member_among}
use Rattle.palm_events.proofs.cited.Agreeing.{pair_known}
use Rattle.palm_events.proofs.cited.Logs.{logged, pair_logged, left_member, left_keeps}
use Rattle.palm_model.proofs.cited.Supports.{not_true}
use Rattle.palm_explain.specs.Explanations.{IsLinked}
use Rattle.palm_explain.proofs.Linked.{once, pairs_more}
use Rattle.palm_explain.proofs.NamedSome.{cids_left, left_cids}

-- ---- two withdrawals

-- the first removal is lost, or it stays
data FirstOf (log : List Removal) (gone : List Cid) (r : Removal) (rest left : List Removal) : Type 0 where
  goes : NamesSome log gone r → Loses log gone rest left → FirstOf log gone r rest left
  remains : (NamesSome log gone r → ⊥) → (others : List Removal) → left ≡ r ∷ others → Loses log gone rest others → FirstOf log gone r rest left

loses_first : (log : List Removal) (gone : List Cid) (r : Removal) (rest left : List Removal) → Loses log gone (r ∷ rest) left → FirstOf log gone r rest left
loses_first log gone _ _ _ (is_lost r rest left cids loses) = goes cids loses
loses_first log gone _ _ _ (is_kept r rest left keeps loses) = remains keeps left refl loses

loses_nothing : (log : List Removal) (gone : List Cid) (left : List Removal) → Loses log gone [] left → left ≡ []
loses_nothing log gone _ none_left = refl

some_first : (log : List Removal) (first then : List Cid) (r : Removal) → NamesSome log first r → NamesSome log (first ++ then) r
some_first log first then r some = record { cid = some.cid; among = Contains-append_left first then some.cid some.among; names = some.names }

some_then : (log : List Removal) (first : List Cid) (middle : List Removal) (then : List Cid) → Loses log first log middle → (r : Removal) → NamesSome middle then r → NamesSome log (first ++ then) r
some_then log first middle then loses r some = record {
  cid = some.cid;
  among = Contains-append_right first then some.cid some.among;
  names = left_cids log first middle loses some.cid r some.names;
}

names_neither : (log : List Removal) (first : List Cid) (middle : List Removal) (then : List Cid) → Loses log first log middle → (r : Removal) → Contains middle r
    → (NamesSome log first r → ⊥) → (NamesSome middle then r → ⊥) → NamesSome log (first ++ then) r → ⊥
names_neither log first middle then loses r m a b some = elim (Contains-append_cases first then some.cid some.among) [
  | inl k ↦ a (record { cid = some.cid; among = k; names = some.names })
  | inr k ↦ b (record { cid = some.cid; among = k; names = cids_left log first middle loses some.cid r m some.names })
]

adds_up_from : (log : List Removal) (first : List Cid) (middle : List Removal) (then : List Cid) → Loses log first log middle
    → (rest mid left : List Removal) → ((r : Removal) → Contains mid r → Contains middle r) → Loses log first rest mid → Loses middle then mid left → Loses log (first ++ then) rest left
adds_up_from log first middle then loses _ _ left sub none_left two =
    subst (λ l. Loses log (first ++ then) [] l) (sym (loses_nothing middle then left two)) none_left
adds_up_from log first middle then loses _ _ left sub (is_lost r rest mid cids one) two =
    is_lost r rest left (some_first log first then r cids) (adds_up_from log first middle then loses rest mid left sub one two)
adds_up_from log first middle then loses _ _ left sub (is_kept r rest mid keeps one) two =
    let after : (s : Removal) → Contains mid s → Contains middle s = λ s m. sub s (member_there r mid s m) in
    elim (loses_first middle then r mid left two) [
      | goes cids l ↦ is_lost r rest left (some_then log first middle then loses r cids) (adds_up_from log first middle then loses rest mid left after one l)
      | remains k others e l ↦ subst (λ z. Loses log (first ++ then) (r ∷ rest) z) (sym e)
          (is_kept r rest others (names_neither log first middle then loses r (sub r (member_here r mid)) keeps k) (adds_up_from log first middle then loses rest mid others after one l))
    ]

pub adds_up : (log middle left : List Removal) (first then : List Cid) → Loses log first log middle → Loses middle then middle left → Loses log (first ++ then) log left
adds_up log middle left first then one two = adds_up_from log first middle then one log middle left (λ r m. m) one two

-- ---- lost pairs

pub lost_logged : (log left : List Removal) (p : Pair) → Contains (lost_pairs log left) p → Contains (log_pairs log) p × (Contains (log_pairs left) p → ⊥)
lost_logged log left p m =
    let r = filter_member (λ (q : Pair). not (is_among (log_pairs left) q.var q.value)) (log_pairs log) p m in
    (r.0, λ k. false≢true (sym (not-true (is_among (log_pairs left) p.var p.value) r.1) ∙ member_among (log_pairs left) p.var p.value k))

pub logged_lost : (log left : List Removal) (p : Pair) → Contains (log_pairs log) p → (Contains (log_pairs left) p → ⊥) → Contains (lost_pairs log left) p
logged_lost log left p m n =
    member_filter (λ (q : Pair). not (is_among (log_pairs left) q.var q.value)) (log_pairs log) p m
    (not_true (is_among (log_pairs left) p.var p.value) (λ h. n (among_member (log_pairs left) p.var p.value h)))

-- what two withdrawals lose
pub lost_in_two : (log middle left : List Removal) (first then : List Cid) → Loses log first log middle → Loses middle then middle left
    → (p : Pair) → Contains (lost_pairs log left) p → Contains (lost_pairs log middle) p ⊎ Contains (lost_pairs middle left) p
lost_in_two log middle left first then one two p m =
    let r = lost_logged log left p m in
    elim (pair_known (log_pairs middle) p) [
      | inl k ↦ inr (logged_lost middle left p k r.1)
      | inr n ↦ inl (logged_lost log middle p r.0 n)
    ]

pub two_lost : (log middle left : List Removal) (first then : List Cid) → Loses log first log middle → Loses middle then middle left
    → (p : Pair) → Contains (lost_pairs log middle) p ⊎ Contains (lost_pairs middle left) p → Contains (lost_pairs log left) p
two_lost log middle left first then one two p m = elim m [
  | inl k ↦ let r = lost_logged log middle p k in
      logged_lost log left p r.0 (λ j. r.1 (pairs_more left middle (left_member middle then middle left two) p j))
  | inr k ↦ let r = lost_logged middle left p k in
      logged_lost log left p (pairs_more middle log (left_member log first log middle one) p r.0) r.1
]

-- a removal is lost or stays
pub lost_or_left : (log : List Removal) (gone : List Cid) (rest left : List Removal) → Loses log gone rest left → (r : Removal) → Contains rest r → NamesSome log gone r ⊎ Contains left r
lost_or_left log gone _ _ none_left r m = absurd (member_nil r m)
lost_or_left log gone _ _ (is_lost s rest left cids loses) r m = elim (member_cases s rest r m) [
  | inl e ↦ inl (subst (λ z. NamesSome log gone z) e cids)
  | inr k ↦ lost_or_left log gone rest left loses r k
]
lost_or_left log gone _ _ (is_kept s rest left keeps loses) r m = elim (member_cases s rest r m) [
  | inl e ↦ inr (member_same (s ∷ left) s r e (member_here s left))
  | inr k ↦ elim (lost_or_left log gone rest left loses r k) [ inl n ↦ inl n | inr j ↦ inr (member_there s left r j) ]
]

-- the lost pairs are those of the removals that name one of what goes
pub lost_cids : (log : List Removal) (gone : List Cid) (left : List Removal) → Loses log gone log left → (p : Pair) → Contains (lost_pairs log left) p
    → (r : Removal) × Contains log r × (r.pair ≡ p) × NamesSome log gone r
lost_cids log gone left loses p m =
    let out = lost_logged log left p m in
    let r = logged log p out.0 in
    elim (lost_or_left log gone log left loses r.0 r.1) [
      | inl cids ↦ (r.0, r.1, r.2, cids)
      | inr k ↦ absurd (out.1 (member_same (log_pairs left) r.0.pair p r.2 (pair_logged left r.0 k)))
    ]

pub cids_lost : (log : List Removal) (gone : List Cid) (left : List Removal) → IsLinked log → Loses log gone log left → (r : Removal) → Contains log r → NamesSome log gone r → Contains (lost_pairs log left) r.pair
cids_lost log gone left linked loses r m cids =
    logged_lost log left r.pair (pair_logged log r m) (λ k.
    let s = logged left r.pair k in
    let same = once log linked s.0 r (left_member log gone log left loses s.0 s.1) m s.2 in
    left_keeps log gone log left loses s.0 s.1 (subst (λ z. NamesSome log gone z) (sym same) cids))
