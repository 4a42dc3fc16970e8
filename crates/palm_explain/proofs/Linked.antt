-- Linked logs: each pair once, each reason the pair of an earlier removal.
use Rattle.std.proofs.Common.{◌≡◌, List, [], ◌∷◌, ◌++◌, Contains, inl, inr, refl, sym, ap, ◌∙◌, subst}
use Rattle.std.proofs.lemmas.List.{append_assoc}
use Rattle.std.proofs.lemmas.List.Elements.{Contains-append_left, Contains-push, Contains-push_cases}
use Rattle.palm_base.specs.declared.terms.Pair.{Pair}
use Rattle.palm_base.specs.declared.terms.Cid.{Cid}
use Rattle.palm_base.proofs.cited.Members.{member_nil, member_here, member_there, member_cases, member_same}
use Rattle.palm_model.specs.Domains.{Domains}
use Rattle.palm_model.specs.Log.{Active, Removal, AreRight, Loses, NamesSome, log_pairs}
use Rattle.palm_model.specs.Log.Loses.{none_left, is_lost, is_kept}
use Rattle.palm_events.proofs.cited.Logs.{logged, pair_logged, some_by_reason}
use Rattle.palm_explain.specs.Explanations.{IsLink, AreLinked, IsLinked}

-- a well founded log is linked
pub right_linked : (initial : Domains) (active : List Active) (earlier rest : List Removal) → AreRight initial active earlier rest → AreLinked earlier rest
right_linked initial active earlier [] right = tt
right_linked initial active earlier (r ∷ rest) right = (record { fresh = right.0.fresh; reasons = right.0.reasons }, right_linked initial active (earlier ++ r ∷ []) rest right.1)

-- ---- one more removal

append_nil : (l : List Removal) → l ++ [] ≡ l
append_nil [] = refl
append_nil (q ∷ l) = ap (λ k. q ∷ k) (append_nil l)

linked_push_from : (earlier rest : List Removal) (r : Removal) → AreLinked earlier rest → IsLink (earlier ++ rest) r → AreLinked earlier (rest ++ r ∷ [])
linked_push_from earlier [] r linked last = (subst (λ l. IsLink l r) (append_nil earlier) last, tt)
linked_push_from earlier (s ∷ rest) r linked last =
    (linked.0, linked_push_from (earlier ++ s ∷ []) rest r linked.1 (subst (λ l. IsLink l r) (sym (append_assoc earlier (s ∷ []) rest)) last))

pub linked_push : (log : List Removal) (r : Removal) → IsLinked log → IsLink log r → IsLinked (log ++ r ∷ [])
linked_push log r linked last = linked_push_from [] log r linked last

-- the later ones of the removals
pub linked_later : (earlier some rest : List Removal) → AreLinked earlier (some ++ rest) → AreLinked (earlier ++ some) rest
linked_later earlier [] rest linked = subst (λ l. AreLinked l rest) (sym (append_nil earlier)) linked
linked_later earlier (s ∷ some) rest linked =
    subst (λ l. AreLinked l rest) (append_assoc earlier (s ∷ []) some) (linked_later (earlier ++ s ∷ []) some rest linked.1)

-- ---- pairs

-- the pairs of more removals
pub pairs_more : (log more : List Removal) → ((r : Removal) → Contains log r → Contains more r) → (p : Pair) → Contains (log_pairs log) p → Contains (log_pairs more) p
pairs_more log more sub p m =
    let r = logged log p m in member_same (log_pairs more) r.0.pair p r.2 (pair_logged more r.0 (sub r.0 r.1))

-- the later removals have other pairs than the earlier ones
pub later_fresh : (earlier rest : List Removal) → AreLinked earlier rest → (r : Removal) → Contains rest r → Contains (log_pairs earlier) r.pair → ⊥
later_fresh earlier [] linked r m k = member_nil r m
later_fresh earlier (s ∷ rest) linked r m k = elim (member_cases s rest r m) [
  | inl e ↦ linked.0.fresh (subst (λ (q : Removal). Contains (log_pairs earlier) q.pair) (sym e) k)
  | inr n ↦ later_fresh (earlier ++ s ∷ []) rest linked.1 r n (pairs_more earlier (earlier ++ s ∷ []) (λ q. Contains-append_left earlier (s ∷ []) q) r.pair k)
]

-- the first of the removals has another pair than those after it
first_apart : (earlier : List Removal) (s : Removal) (rest : List Removal) → AreLinked earlier (s ∷ rest) → (r : Removal) → Contains rest r → s.pair ≡ r.pair → ⊥
first_apart earlier s rest linked r m e =
    later_fresh (earlier ++ s ∷ []) rest linked.1 r m (member_same (log_pairs (earlier ++ s ∷ [])) s.pair r.pair e (pair_logged (earlier ++ s ∷ []) s (Contains-push earlier s)))

once_from : (earlier rest : List Removal) → AreLinked earlier rest → (q r : Removal) → Contains rest q → Contains rest r → q.pair ≡ r.pair → q ≡ r
once_from earlier [] linked q r m n e = absurd (member_nil q m)
once_from earlier (s ∷ rest) linked q r m n e = elim (member_cases s rest q m) [
  | inl f ↦ elim (member_cases s rest r n) [
    | inl g ↦ sym f ∙ g
    | inr k ↦ absurd (first_apart earlier s rest linked r k (ap (λ (z : Removal). z.pair) f ∙ e))
  ]
  | inr j ↦ elim (member_cases s rest r n) [
    | inl g ↦ absurd (first_apart earlier s rest linked q j (ap (λ (z : Removal). z.pair) g ∙ sym e))
    | inr k ↦ once_from (earlier ++ s ∷ []) rest linked.1 q r j k e
  ]
]

-- a pair has one removal
pub once : (log : List Removal) → IsLinked log → (q r : Removal) → Contains log q → Contains log r → q.pair ≡ r.pair → q ≡ r
once log linked q r m n e = once_from [] log linked q r m n e

reasons_from : (log earlier rest : List Removal) → ((s : Removal) → Contains earlier s → Contains log s) → ((s : Removal) → Contains rest s → Contains log s)
    → AreLinked earlier rest → (r : Removal) → Contains rest r → (p : Pair) → Contains r.reasons p → Contains (log_pairs log) p
reasons_from log earlier [] old new linked r m p k = absurd (member_nil r m)
reasons_from log earlier (s ∷ rest) old new linked r m p k = elim (member_cases s rest r m) [
  | inl e ↦ pairs_more earlier log old p (linked.0.reasons p (subst (λ (z : Removal). Contains z.reasons p) (sym e) k))
  | inr n ↦ reasons_from log (earlier ++ s ∷ []) rest
      (λ q j. elim (Contains-push_cases earlier s q j) [ inl o ↦ old q o | inr e ↦ member_same log s q e (new s (member_here s rest)) ])
      (λ q j. new q (member_there s rest q j)) linked.1 r n p k
]

-- ---- what a withdrawal leaves

-- the removals that are left of the earlier ones
record AreLeft (log : List Removal) (gone : List Cid) (earlier kept : List Removal) : Type 0 where
  logged : (r : Removal) → Contains earlier r → Contains log r
  were : (r : Removal) → Contains kept r → Contains earlier r
  stay : (r : Removal) → Contains earlier r → (NamesSome log gone r → ⊥) → Contains kept r

left_lost : (log : List Removal) (gone : List Cid) (earlier kept : List Removal) (r : Removal) → Contains log r → NamesSome log gone r → AreLeft log gone earlier kept → AreLeft log gone (earlier ++ r ∷ []) kept
left_lost log gone earlier kept r m cids are = record {
  logged = λ s n. elim (Contains-push_cases earlier r s n) [ inl o ↦ are.logged s o | inr e ↦ member_same log r s e m ];
  were = λ s n. Contains-append_left earlier (r ∷ []) s (are.were s n);
  stay = λ s n keeps. elim (Contains-push_cases earlier r s n) [ inl o ↦ are.stay s o keeps | inr e ↦ absurd (keeps (subst (λ q. NamesSome log gone q) e cids)) ];
}

left_kept : (log : List Removal) (gone : List Cid) (earlier kept : List Removal) (r : Removal) → Contains log r → AreLeft log gone earlier kept → AreLeft log gone (earlier ++ r ∷ []) (kept ++ r ∷ [])
left_kept log gone earlier kept r m are = record {
  logged = λ s n. elim (Contains-push_cases earlier r s n) [ inl o ↦ are.logged s o | inr e ↦ member_same log r s e m ];
  were = λ s n. elim (Contains-push_cases kept r s n) [
    | inl o ↦ Contains-append_left earlier (r ∷ []) s (are.were s o)
    | inr e ↦ member_same (earlier ++ r ∷ []) r s e (Contains-push earlier r)
  ];
  stay = λ s n keeps. elim (Contains-push_cases earlier r s n) [
    | inl o ↦ Contains-append_left kept (r ∷ []) s (are.stay s o keeps)
    | inr e ↦ member_same (kept ++ r ∷ []) r s e (Contains-push kept r)
  ];
}

kept_link : (log : List Removal) (gone : List Cid) (earlier kept : List Removal) (r : Removal) → AreLeft log gone earlier kept → (NamesSome log gone r → ⊥) → IsLink earlier r → IsLink kept r
kept_link log gone earlier kept r are keeps link = record {
  fresh = λ m. link.fresh (pairs_more kept earlier are.were r.pair m);
  reasons = λ p m.
      let s = logged earlier p (link.reasons p m) in
      let stays = are.stay s.0 s.1 (λ some. keeps (some_by_reason log gone r s.0 (are.logged s.0 s.1) (member_same r.reasons p s.0.pair (sym s.2) m) some)) in
      member_same (log_pairs kept) s.0.pair p s.2 (pair_logged kept s.0 stays);
}

left_links : (log : List Removal) (gone : List Cid) (earlier kept rest left : List Removal)
    → AreLeft log gone earlier kept → ((r : Removal) → Contains rest r → Contains log r)
    → AreLinked earlier rest → Loses log gone rest left → AreLinked kept left
left_links log gone earlier kept _ _ are sub linked none_left = tt
left_links log gone earlier kept _ _ are sub linked (is_lost r rest left cids loses) =
    left_links log gone (earlier ++ r ∷ []) kept rest left (left_lost log gone earlier kept r (sub r (member_here r rest)) cids are)
    (λ s m. sub s (member_there r rest s m)) linked.1 loses
left_links log gone earlier kept _ _ are sub linked (is_kept r rest left keeps loses) = (
  kept_link log gone earlier kept r are keeps linked.0,
  left_links log gone (earlier ++ r ∷ []) (kept ++ r ∷ []) rest left (left_kept log gone earlier kept r (sub r (member_here r rest)) are)
      (λ s m. sub s (member_there r rest s m)) linked.1 loses,
)

-- a withdrawal keeps the log linked
pub left_linked : (log : List Removal) (gone : List Cid) (left : List Removal) → IsLinked log → Loses log gone log left → IsLinked left
left_linked log gone left linked loses =
    left_links log gone [] [] log left (record { logged = λ r m. absurd (member_nil r m); were = λ r m. m; stay = λ r m keeps. m }) (λ r m. m) linked loses
