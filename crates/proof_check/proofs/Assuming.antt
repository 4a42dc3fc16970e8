-- What is assumed, by variables.
use Rattle.std.proofs.Common.{◌≡◌, ℕ, zero, suc, ℤ, ◌+◌, ◌-◌, ◌<◌, Bool, Option, Some, None, option_map, replicate, List, [], ◌∷◌, ◌++◌, length, get_or, take, take_all, drop, append-nil, map, Contains, inl, inr, refl, sym, ap, ◌∙◌, subst, arith, slice_get}
use Rattle.palm_base.specs.Tells.{Tells}
use Rattle.palm_base.proofs.cited.Telling.{tells_same}
use Rattle.std.proofs.lemmas.Bool.{cases_eq}
use Rattle.std.proofs.lemmas.List.{drop_all, take_more}
use Rattle.std.proofs.lemmas.List.Elements.{Contains-append_left, Contains-push, Contains-push_cases}
use Rattle.std.proofs.lemmas.Option.{none-some, same_Some, slice_get-map}
use Rattle.palm_base.specs.declared.terms.Pair.{Pair}
use Rattle.palm_base.proofs.cited.Members.{member_nil}
use Rattle.palm_claim.specs.Step.{IsAssumed, IsOfLemma}
use Rattle.proof_text.specs.declared.lemma.Lemma.{Lemma}
use Rattle.proof_check.specs.Kept.{AreAssumed, IsByOthers, IsOther, Puts, assumed_at}

-- ---- one variable

at_push : (xs : List (Option ℤ)) (x : ℕ) → assumed_at (xs ++ None ∷ []) x ≡ assumed_at xs x
at_push [] zero = refl
at_push [] (suc x) = refl
at_push (o ∷ xs) zero = refl
at_push (o ∷ xs) (suc x) = at_push xs x

-- ---- all that is assumed

pub still_assumed : (pairs : List Pair) (xs : List (Option ℤ)) → AreAssumed pairs xs → AreAssumed pairs (xs ++ None ∷ [])
still_assumed pairs xs a = record {
  each = λ p m. at_push xs p.var ∙ a.each p m;
  only = λ x v e. a.only x v (sym (at_push xs x) ∙ e);
}

pub assumed_more : (pairs : List Pair) (before after : List (Option ℤ)) (p : Pair) → AreAssumed pairs before → assumed_at before p.var ≡ None → Puts before after p.var (Some p.value)
    → AreAssumed (pairs ++ p ∷ []) after
assumed_more pairs before after p a none puts = record { each = each; only = only }
  where
    each : (q : Pair) → Contains (pairs ++ p ∷ []) q → assumed_at after q.var ≡ Some q.value
    each q m = elim (Contains-push_cases pairs p q m) [
      | inl l ↦ elim (cases_eq q.var p.var) [
        | inl e ↦ absurd (none-some q.value (sym none ∙ ap (assumed_at before) (sym e) ∙ a.each q l))
        | inr ne ↦ puts.others q.var ne ∙ a.each q l
      ]
      | inr e ↦ subst (λ (r : Pair). assumed_at after r.var ≡ Some r.value) e puts.here
    ]

    only : (x : ℕ) (v : ℤ) → assumed_at after x ≡ Some v → Contains (pairs ++ p ∷ []) (record { var = x; value = v })
    only x v e = elim (cases_eq x p.var) [
      | inl same ↦
          let value : p.value ≡ v = same_Some p.value v (sym puts.here ∙ ap (assumed_at after) (sym same) ∙ e) in
          subst (λ (w : ℤ). Contains (pairs ++ p ∷ []) (record { var = x; value = w })) value
          (subst (λ (y : ℕ). Contains (pairs ++ p ∷ []) (record { var = y; value = p.value })) (sym same) (Contains-push pairs p))
      | inr ne ↦ Contains-append_left pairs (p ∷ []) (record { var = x; value = v }) (a.only x v (sym (puts.others x ne) ∙ e))
    ]

-- ---- nothing any more

at_none : (n x : ℕ) → assumed_at (replicate n None) x ≡ None
at_none zero x = refl
at_none (suc n) zero = refl
at_none (suc n) (suc x) = at_none n x

pub none_assumed : (n : ℕ) → AreAssumed [] (replicate n None)
none_assumed n = record { each = λ p m. absurd (member_nil p m); only = λ x v e. absurd (none-some v (sym (at_none n x) ∙ e)) }

-- ---- steps by what is assumed

pub other_assumed : (pairs : List Pair) (xs : List (Option ℤ)) (p : Pair) → AreAssumed pairs xs → IsOther xs p → IsAssumed pairs p
other_assumed pairs xs p a o = record { other = record { var = p.var; value = o.other }; given = a.only p.var o.other o.given; var = refl; value = o.differs }

pub assumed_other : (pairs : List Pair) (xs : List (Option ℤ)) (p : Pair) → AreAssumed pairs xs → IsAssumed pairs p → IsOther xs p
assumed_other pairs xs p a s = record { other = s.other.value; given = ap (assumed_at xs) (sym s.var) ∙ a.each s.other s.given; differs = s.value }

module _ (given : List Pair) (lemmas : List Lemma) (xs : List (Option ℤ)) (assumes : AreAssumed given xs) (number : ℕ) (lemma : Lemma) (at : slice_get lemmas (number - 1) ≡ Some lemma) (p : Pair) where
  by_others_of_lemma : IsByOthers xs lemma.pairs p → IsOfLemma (record { pairs = given; lemmas = map (λ l. l.pairs) lemmas }) number p
  by_others_of_lemma b = record {
    pairs = lemma.pairs;
    stands = slice_get-map (λ (l : Lemma). l.pairs) lemmas (number - 1) ∙ ap (λ (o : Option Lemma). option_map (λ (l : Lemma). l.pairs) o) at;
    among = b.among;
    others = λ q m ne. assumes.only q.var q.value (b.others q m ne);
  }

  of_lemma_by_others : IsOfLemma (record { pairs = given; lemmas = map (λ l. l.pairs) lemmas }) number p → IsByOthers xs lemma.pairs p
  of_lemma_by_others o =
      let same : o.pairs ≡ lemma.pairs = same_Some o.pairs lemma.pairs (sym o.stands ∙ slice_get-map (λ (l : Lemma). l.pairs) lemmas (number - 1) ∙ ap (λ (r : Option Lemma). option_map (λ (l : Lemma). l.pairs) r) at) in
      record {
        among = subst (λ (ps : List Pair). Contains ps p) same o.among;
        others = λ q m ne. assumes.each q (o.others q (subst (λ (ps : List Pair). Contains ps q) (sym same) m) ne);
      }

  pub tells_of_lemma : (result : Bool) → Tells result (IsByOthers xs lemma.pairs p) → Tells result (IsOfLemma (record { pairs = given; lemmas = map (λ l. l.pairs) lemmas }) number p)
  tells_of_lemma result tells = tells_same (IsByOthers xs lemma.pairs p) (IsOfLemma (record { pairs = given; lemmas = map (λ l. l.pairs) lemmas }) number p) result by_others_of_lemma of_lemma_by_others tells

-- ---- going over a list

-- one more of the first members
pub take_next : {X : Type 0} (xs : List X) (i : ℕ) (x : X) → i < length xs → x ≡ get_or xs i x → take i xs ++ x ∷ [] ≡ take (i + 1) xs
take_next {X = X} xs i x lt is = ap (λ (y : X). take i xs ++ y ∷ []) is ∙ sym (take_more xs i x lt)

-- ---- what is written through a borrow

written : {X : Type 0} (xs ys : List X) (n : ℕ) → length xs ≡ length ys → n ≡ length ys → xs ≡ take n (xs ++ drop (length xs) ys)
written {X = X} xs ys n long same =
    sym (take_all n xs (omega (arith, long, same))) ∙ ap (λ (zs : List X). take n zs) (sym (append-nil xs)) ∙ ap (λ (zs : List X). take n (xs ++ zs)) (sym (drop_all (length xs) ys (omega (arith, long))))

pub puts_written : (before now after : List (Option ℤ)) (len x : ℕ) (value : Option ℤ) → now ≡ before → len ≡ length before → Puts now after x value
    → Puts before (take len (after ++ drop (length after) before)) x value
puts_written before now after len x value same whole p =
    let q : Puts before after x value = subst (λ (xs : List (Option ℤ)). Puts xs after x value) same p in
    subst (λ (xs : List (Option ℤ)). Puts before xs x value) (written after before len q.long whole) q
