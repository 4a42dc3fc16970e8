-- What a store lacks before any pair is taken out of it, and after one more is.
use Rattle.std.proofs.Common.{◌≡◌, ℕ, ℤ, ◌+◌, List, [], ◌∷◌, ◌++◌, length, filter, true, set, Contains, All, inl, inr, refl, sym, ap, ◌∙◌, subst}
use Rattle.std.proofs.lemmas.List.{length-map}
use Rattle.std.proofs.lemmas.List.Elements.{All-set, Contains-append_left, Contains-push, Contains-push_cases}
use Rattle.palm_base.specs.declared.terms.Pair.{Pair}
use Rattle.palm_base.proofs.cited.Members.{member_nil, member_same}
use Rattle.palm_domain.specs.Rows.{Row, Ascends, IsDeclared, IsPresent, LosesPair, initial_of, present_of, present_values, values_without}
use Rattle.palm_domain.proofs.cited.Ascending.{Ascends-at}
use Rattle.palm_domain.proofs.cited.StoreRows.{exists_from_member, loses_pair}
use Rattle.palm_domain.proofs.cited.Values.{Ascends-without}
use Rattle.palm_model.specs.Domains.{Domains, Has, without, without_from}
use Rattle.palm_model.proofs.cited.Without.{pair_of, without_has, has_without, length_without, ascend_without}
use Rattle.palm_explain.specs.Explanations.{LacksExactly}
use Rattle.palm_explain.proofs.Keeping.{same_domains}

all_stay : (vs : List ℤ) → filter (λ v. true) vs ≡ vs
all_stay [] = refl
all_stay (v ∷ vs) = ap (λ l. v ∷ l) (all_stay vs)

without_nothing : (n : ℕ) (d : Domains) → without_from n d [] ≡ d
without_nothing n [] = refl
without_nothing n (vs ∷ d) = let first = all_stay vs in let rest = without_nothing (n + 1) d in λ i. first i ∷ rest i

pub lacks_nothing : (rows : List Row) → present_of rows ≡ initial_of rows → LacksExactly rows []
lacks_nothing rows all = record { declared = λ p m. absurd (member_nil p m); present = all ∙ sym (without_nothing 0 (initial_of rows)) }

-- after one more pair was taken out
pub lacks_one_more : (before after : List Row) (pairs : List Pair) (p : Pair) → LacksExactly before pairs → All Ascends (initial_of before) → IsPresent before p.var p.value → initial_of after ≡ initial_of before
    → present_of after ≡ set (present_of before) p.var (values_without p.value (present_values before p.var)) → LacksExactly after (pairs ++ p ∷ [])
lacks_one_more before after pairs p lacks ascend present same is =
    let initial = initial_of after in
    let more = pairs ++ p ∷ [] in
    let was : present_of before ≡ without initial pairs = lacks.present ∙ ap (λ d. without d pairs) (sym same) in
    let ascend' : All Ascends initial = subst (All Ascends) (sym same) ascend in
    let ascend_before : All Ascends (present_of before) = subst (All Ascends) (sym was) (ascend_without initial pairs ascend') in
    let ascend_after : All Ascends (present_of after) =
    subst (All Ascends) (sym is) (All-set Ascends (present_of before) p.var (values_without p.value (present_values before p.var))
    (Ascends-without p.value (present_values before p.var) (Ascends-at (present_of before) p.var ascend_before)) ascend_before) in
    let loses : LosesPair before after p.var p.value = loses_pair before after p.var p.value (exists_from_member (present_of before) p.var p.value present) is in
    let long : length (present_of after) ≡ length (without initial more) =
    length-map after (λ (r : Row). r.present) ∙ sym (length-map after (λ (r : Row). r.initial)) ∙ sym (length_without initial more) in
    let declared : (q : Pair) → Contains more q → IsDeclared after q.var q.value = λ q m. elim (Contains-push_cases pairs p q m) [
      | inl k ↦ subst (λ d. Has d q.var q.value) (sym same) (lacks.declared q k)
      | inr e ↦ subst (λ (z : Pair). IsDeclared after z.var z.value) e (without_has initial pairs p.var p.value (subst (λ d. Has d p.var p.value) was present)).0
    ] in
    let to : (x : ℕ) (v : ℤ) → IsPresent after x v → Has (without initial more) x v = λ x v h.
    let r = without_has initial pairs x v (subst (λ d. Has d x v) was (loses.inside x v h)) in
    has_without initial more x v r.0 (λ m. elim (Contains-push_cases pairs p (pair_of x v) m) [
      | inl k ↦ r.1 k
      | inr e ↦ loses.gone (subst (λ (z : Pair). IsPresent after z.var z.value) (sym e) h)
    ]) in
    let from : (x : ℕ) (v : ℤ) → Has (without initial more) x v → IsPresent after x v = λ x v h.
    let r = without_has initial more x v h in
    loses.others x v (λ e f. r.1 (member_same more p (pair_of x v) (λ i. record { var = sym e i; value = sym f i }) (Contains-push pairs p)))
    (subst (λ d. Has d x v) (sym was) (has_without initial pairs x v r.0 (λ k. r.1 (Contains-append_left pairs (p ∷ []) (pair_of x v) k)))) in record {
      declared = declared;
      present = same_domains (present_of after) (without initial more) long ascend_after (ascend_without initial more ascend') to from;
    }
