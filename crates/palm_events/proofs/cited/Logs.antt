-- Logs: what a removal names explains it, and what a withdrawal leaves is well founded.
use Rattle.std.proofs.Common.{◌≡◌, not, List, [], ◌∷◌, ◌++◌, Contains, inl, inr, refl, sym, ap, subst}
use Rattle.std.proofs.lemmas.List.{append_assoc}
use Rattle.std.proofs.lemmas.List.Elements.{Contains-append_left, Contains-push, Contains-push_cases}
use Rattle.palm_base.specs.declared.terms.Pair.{Pair}
use Rattle.palm_base.specs.declared.terms.Cid.{Cid}
use Rattle.palm_base.proofs.cited.Members.{member_nil, member_here, member_there, member_cases, member_same, member_map, member_unmap, member_filter}
use Rattle.palm_model.specs.Domains.{Domains, Has, IsInside, without}
use Rattle.palm_model.specs.Closure.{IsClosed, Explains}
use Rattle.palm_model.specs.Log.{Active, Named, Removal, IsRight, AreRight, IsWellFounded, Names, NamesSome, Loses, log_pairs, is_named}
use Rattle.palm_model.specs.Log.Names.{by_itself, by_reason}
use Rattle.palm_model.specs.Log.Loses.{none_left, is_lost, is_kept}
use Rattle.palm_model.specs.Event.{without_cids}
use Rattle.palm_model.proofs.cited.Trials.{support_grows}
use Rattle.palm_model.proofs.cited.Without.{has_without, pair_of}
use Rattle.palm_events.proofs.cited.Names.{member_not_named}

-- ---- membership

-- the removal of a pair of a log
pub logged : (log : List Removal) (p : Pair) → Contains (log_pairs log) p → (r : Removal) × Contains log r × (r.pair ≡ p)
logged log p m = member_unmap (λ (r : Removal). r.pair) log p m

pub pair_logged : (log : List Removal) (r : Removal) → Contains log r → Contains (log_pairs log) r.pair
pair_logged log r m = member_map (λ (s : Removal). s.pair) log r m

-- ---- removals are explained by what they name

-- the constraints that a removal names have only domains without its pair
abbrev pub IsExplained : Domains → List Active → List Removal → Removal → Type 0
IsExplained initial active log r = Explains initial (Named active (λ c. Names log c r)) r.pair.var r.pair.value

-- what explains a reason explains the removal too
reason_explained : (initial : Domains) (active : List Active) (log : List Removal) (r s : Removal) (d : Domains)
    → Contains log s → Contains r.reasons s.pair → IsExplained initial active log s → IsInside d initial
    → IsClosed (Named active (λ c. Names log c r)) d → Has d s.pair.var s.pair.value → ⊥
reason_explained initial active log r s d m reason explained inside closed has =
    explained d inside (λ c p named k. closed c p (record {
      owner = named.owner;
      posted = named.posted;
      is = named.is;
      named = by_reason r s m reason named.named;
    }) k) has

right_explained : (initial : Domains) (active : List Active) (log earlier : List Removal) (r : Removal)
    → ((s : Removal) → Contains earlier s → Contains log s × IsExplained initial active log s)
    → IsRight initial active earlier r → IsExplained initial active log r
right_explained initial active log earlier r known right d inside closed has =
    let inside_reasons : IsInside d (without initial r.reasons) = λ x v h. has_without initial r.reasons x v (inside x v h) (λ m.
    let s = logged earlier (pair_of x v) (right.reasons (pair_of x v) m) in
    let k = known s.0 s.1 in
    reason_explained initial active log r s.0 d k.0 (member_same r.reasons (pair_of x v) s.0.pair (sym s.2) m) k.1 inside closed
    (subst (λ (p : Pair). Has d p.var p.value) (sym s.2) h)) in
    right.lacks.lacks (support_grows d (without initial r.reasons) right.lacks.part r.pair.var r.pair.value inside_reasons
    (closed right.owner.con right.lacks.part
    (record { owner = right.owner; posted = right.posted; is = refl; named = by_itself r (sym right.named) })
    right.lacks.is_part r.pair.var r.pair.value right.lacks.over has))

all_explained : (initial : Domains) (active : List Active) (log earlier rest : List Removal)
    → ((s : Removal) → Contains earlier s → Contains log s × IsExplained initial active log s)
    → ((s : Removal) → Contains rest s → Contains log s)
    → AreRight initial active earlier rest → (r : Removal) → Contains rest r → IsExplained initial active log r
all_explained initial active log earlier [] known sub right r m = absurd (member_nil r m)
all_explained initial active log earlier (s ∷ rest) known sub right r m =
    let first : IsExplained initial active log s = right_explained initial active log earlier s known right.0 in
    elim (member_cases s rest r m) [
      | inl e ↦ subst (λ q. IsExplained initial active log q) e first
      | inr k ↦ all_explained initial active log (earlier ++ s ∷ []) rest (λ q n. elim (Contains-push_cases earlier s q n) [
        | inl o ↦ known q o
        | inr e ↦ subst (λ z. Contains log z × IsExplained initial active log z) e (sub s (member_here s rest), first)
      ]) (λ q n. sub q (member_there s rest q n)) right.1 r k
    ]

pub removal_explained : (initial : Domains) (active : List Active) (log : List Removal) (r : Removal) → IsWellFounded initial active log → Contains log r → IsExplained initial active log r
removal_explained initial active log r founded m =
    all_explained initial active log [] log (λ s n. absurd (member_nil s n)) (λ s n. n) founded r m

-- ---- one more removal, and logs in two parts

pub right_push : (initial : Domains) (active : List Active) (earlier rest : List Removal) (r : Removal) → AreRight initial active earlier rest → IsRight initial active (earlier ++ rest) r → AreRight initial active earlier (rest ++ r ∷ [])
right_push initial active earlier [] r right last = (subst (λ l. IsRight initial active l r) (append_nil earlier) last, tt)
  where
    append_nil : (l : List Removal) → l ++ [] ≡ l
    append_nil [] = refl
    append_nil (q ∷ l) = ap (λ k. q ∷ k) (append_nil l)
right_push initial active earlier (s ∷ rest) r right last =
    (right.0, right_push initial active (earlier ++ s ∷ []) rest r right.1 (subst (λ l. IsRight initial active l r) (sym (append_assoc earlier (s ∷ []) rest)) last))

-- more active constraints keep a log well founded
pub right_more : (initial : Domains) (active more : List Active) → ((a : Active) → Contains active a → Contains more a) → (earlier rest : List Removal) → AreRight initial active earlier rest → AreRight initial more earlier rest
right_more initial active more sub earlier [] right = tt
right_more initial active more sub earlier (r ∷ rest) right = (
  record {
    owner = right.0.owner;
    posted = sub right.0.owner right.0.posted;
    named = right.0.named;
    declared = right.0.declared;
    fresh = right.0.fresh;
    reasons = right.0.reasons;
    lacks = right.0.lacks;
  },
  right_more initial active more sub (earlier ++ r ∷ []) rest right.1,
)

-- ---- what a withdrawal leaves

-- what is left was there
pub left_member : (log : List Removal) (gone : List Cid) (rest left : List Removal) → Loses log gone rest left → (r : Removal) → Contains left r → Contains rest r
left_member log gone _ _ none_left r m = m
left_member log gone _ _ (is_lost s rest left cids loses) r m = member_there s rest r (left_member log gone rest left loses r m)
left_member log gone _ _ (is_kept s rest left keeps loses) r m = elim (member_cases s left r m) [
  | inl e ↦ member_same (s ∷ rest) s r e (member_here s rest)
  | inr k ↦ member_there s rest r (left_member log gone rest left loses r k)
]

-- and does not name what went
pub left_keeps : (log : List Removal) (gone : List Cid) (rest left : List Removal) → Loses log gone rest left → (r : Removal) → Contains left r → NamesSome log gone r → ⊥
left_keeps log gone _ _ none_left r m = absurd (member_nil r m)
left_keeps log gone _ _ (is_lost s rest left cids loses) r m = left_keeps log gone rest left loses r m
left_keeps log gone _ _ (is_kept s rest left keeps loses) r m = elim (member_cases s left r m) [
  | inl e ↦ subst (λ q. NamesSome log gone q → ⊥) e keeps
  | inr k ↦ left_keeps log gone rest left loses r k
]

-- a removal that does not name it stays
pub kept_member : (log : List Removal) (gone : List Cid) (rest left : List Removal) → Loses log gone rest left → (r : Removal) → Contains rest r → (NamesSome log gone r → ⊥) → Contains left r
kept_member log gone _ _ none_left r m n = m
kept_member log gone _ _ (is_lost s rest left cids loses) r m n = elim (member_cases s rest r m) [
  | inl e ↦ absurd (n (subst (λ q. NamesSome log gone q) e cids))
  | inr k ↦ kept_member log gone rest left loses r k n
]
kept_member log gone _ _ (is_kept s rest left keeps loses) r m n = elim (member_cases s rest r m) [
  | inl e ↦ member_same (s ∷ left) s r e (member_here s left)
  | inr k ↦ member_there s left r (kept_member log gone rest left loses r k n)
]

-- an id of a reason is an id of the removal
pub some_by_reason : (log : List Removal) (gone : List Cid) (r s : Removal) → Contains log s → Contains r.reasons s.pair → NamesSome log gone s → NamesSome log gone r
some_by_reason log gone r s m reason some = record { cid = some.cid; among = some.among; names = by_reason r s m reason some.names }

-- the removals that are left of the earlier ones
record AreLeft (log : List Removal) (gone : List Cid) (earlier kept : List Removal) : Type 0 where
  logged : (r : Removal) → Contains earlier r → Contains log r
  were : (r : Removal) → Contains kept r → Contains earlier r
  stay : (r : Removal) → Contains earlier r → (NamesSome log gone r → ⊥) → Contains kept r

left_lost : (log : List Removal) (gone : List Cid) (earlier kept : List Removal) (r : Removal) → Contains log r → NamesSome log gone r → AreLeft log gone earlier kept → AreLeft log gone (earlier ++ r ∷ []) kept
left_lost log gone earlier kept r m cids are = record {
  logged = λ s n. elim (Contains-push_cases earlier r s n) [ inl o ↦ are.logged s o | inr e ↦ member_same log r s e m ];
  were = λ s n. Contains-append_left earlier (r ∷ []) s (are.were s n);
  stay = λ s n keeps. elim (Contains-push_cases earlier r s n) [ inl o ↦ are.stay s o keeps | inr e ↦ absurd (keeps (subst (λ q. NamesSome log gone q) e cids)) ];
}

left_kept : (log : List Removal) (gone : List Cid) (earlier kept : List Removal) (r : Removal) → Contains log r → AreLeft log gone earlier kept → AreLeft log gone (earlier ++ r ∷ []) (kept ++ r ∷ [])
left_kept log gone earlier kept r m are = record {
  logged = λ s n. elim (Contains-push_cases earlier r s n) [ inl o ↦ are.logged s o | inr e ↦ member_same log r s e m ];
  were = λ s n. elim (Contains-push_cases kept r s n) [
    | inl o ↦ Contains-append_left earlier (r ∷ []) s (are.were s o)
    | inr e ↦ member_same (earlier ++ r ∷ []) r s e (Contains-push earlier r)
  ];
  stay = λ s n keeps. elim (Contains-push_cases earlier r s n) [
    | inl o ↦ Contains-append_left kept (r ∷ []) s (are.stay s o keeps)
    | inr e ↦ member_same (kept ++ r ∷ []) r s e (Contains-push kept r)
  ];
}

-- the owner of a removal that is kept does not go
owner_stays : (active : List Active) (log : List Removal) (gone : List Cid) (r : Removal) (a : Active) → Contains active a → a.cid ≡ r.by → (NamesSome log gone r → ⊥) → Contains (without_cids gone active) a
owner_stays active log gone r a m e keeps =
    member_filter (λ (b : Active). not (is_named gone b.cid)) active a m (member_not_named gone a.cid (λ among.
    keeps (record { cid = a.cid; among = among; names = by_itself r (sym e) })))

kept_right : (initial : Domains) (active : List Active) (log : List Removal) (gone : List Cid) (earlier kept : List Removal) (r : Removal)
    → AreLeft log gone earlier kept → (NamesSome log gone r → ⊥) → IsRight initial active earlier r → IsRight initial (without_cids gone active) kept r
kept_right initial active log gone earlier kept r are keeps right = record {
  owner = right.owner;
  posted = owner_stays active log gone r right.owner right.posted right.named keeps;
  named = right.named;
  declared = right.declared;
  fresh = λ m. let s = logged kept r.pair m in right.fresh (member_same (log_pairs earlier) s.0.pair r.pair s.2 (pair_logged earlier s.0 (are.were s.0 s.1)));
  reasons = λ p m.
      let s = logged earlier p (right.reasons p m) in
      let stays = are.stay s.0 s.1 (λ some. keeps (some_by_reason log gone r s.0 (are.logged s.0 s.1) (member_same r.reasons p s.0.pair (sym s.2) m) some)) in
      member_same (log_pairs kept) s.0.pair p s.2 (pair_logged kept s.0 stays);
  lacks = right.lacks;
}

left_right : (initial : Domains) (active : List Active) (log : List Removal) (gone : List Cid) (earlier kept rest left : List Removal)
    → AreLeft log gone earlier kept → ((r : Removal) → Contains rest r → Contains log r)
    → AreRight initial active earlier rest → Loses log gone rest left → AreRight initial (without_cids gone active) kept left
left_right initial active log gone earlier kept _ _ are sub right none_left = tt
left_right initial active log gone earlier kept _ _ are sub right (is_lost r rest left cids loses) =
    left_right initial active log gone (earlier ++ r ∷ []) kept rest left (left_lost log gone earlier kept r (sub r (member_here r rest)) cids are)
    (λ s m. sub s (member_there r rest s m)) right.1 loses
left_right initial active log gone earlier kept _ _ are sub right (is_kept r rest left keeps loses) = (
  kept_right initial active log gone earlier kept r are keeps right.0,
  left_right initial active log gone (earlier ++ r ∷ []) (kept ++ r ∷ []) rest left (left_kept log gone earlier kept r (sub r (member_here r rest)) are)
      (λ s m. sub s (member_there r rest s m)) right.1 loses,
)

-- a withdrawal keeps the log well founded
pub left_founded : (initial : Domains) (active : List Active) (log : List Removal) (gone : List Cid) (left : List Removal)
    → IsWellFounded initial active log → Loses log gone log left → IsWellFounded initial (without_cids gone active) left
left_founded initial active log gone left founded loses =
    left_right initial active log gone [] [] log left
    (record { logged = λ r m. absurd (member_nil r m); were = λ r m. m; stay = λ r m keeps. m }) (λ r m. m) founded loses
