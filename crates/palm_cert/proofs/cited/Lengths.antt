-- How long the lines of steps are: a step has at most as many reasons as its constraint's variables have values.
use Rattle.std.proofs.Common.{◌≡◌, ℕ, zero, suc, ℤ, ◌+◌, ◌*◌, ◌-◌, ◌<◌, ◌≤◌, Bool, true, false, cond, List, [], ◌∷◌, length, filter, flat_map, All, Contains, refl, sym, arith, length-append}
use Rattle.std.specs.List.{range_with_len, remove}
use Rattle.std.proofs.lemmas.List.{length-map}
use Rattle.std.proofs.lemmas.List.Edits.{length-remove}
use Rattle.std.proofs.lemmas.List.Elements.{All-head, All-tail}
use Rattle.std.proofs.lemmas.List.FromFn.{length-range_with_len}
use Rattle.std.proofs.lemmas.Option.{slice_get_within}
use Rattle.palm_base.specs.declared.terms.Pair.{Pair}
use Rattle.palm_base.proofs.cited.Members.{all_members, filter_member, member_flat_map, member_here, member_map, member_nil, member_place, member_remove, member_same, member_there}
use Rattle.palm_book.specs.Book.{AreValues, BookVar, values_at}
use Rattle.palm_book.specs.declared.limits.TheConstants.{MOST_VARIABLES}
use Rattle.palm_claim.specs.Statement.{IsStepNumber}
use Rattle.palm_model.specs.Log.{Removal, log_pairs}
use Rattle.palm_explain.specs.Needed.{pairs_with}
use Rattle.palm_cert.specs.Certificate.{is_asked, numbers_from, numbers_of}
use Rattle.palm_cert.proofs.cited.Links.{Apart, apart_passed, asked_member, pair_removal, passed_pair}
use Rattle.palm_cert.proofs.cited.Numbers.{numbers_member}
use Rattle.palm_cert.proofs.cited.Before.{range_has}

-- ---- pairs that are apart and among others are not more than these

pub apart_short : (ps qs : List Pair) → Apart ps → ((p : Pair) → Contains ps p → Contains qs p) → length ps ≤ length qs
apart_short [] qs apart inside = omega arith
apart_short (p ∷ ps) qs apart inside =
    let at = member_place qs p (inside p (member_here p ps)) in
    let later : (q : Pair) → Contains ps q → Contains (remove qs at.0) q = λ q m. member_remove qs at.0 p q at.1 (λ e. apart.0 (member_same ps q p (sym e) m)) (inside q (member_there p ps q m)) in
    let fewer = length-remove qs at.0 (slice_get_within qs at.0 p at.1) in
    omega (arith, fewer, apart_short ps (remove qs at.0) apart.1 later)

-- ---- the pairs of some variables

abbrev pub pairs_over : List BookVar → List ℕ → List Pair
pairs_over variables xs = flat_map (λ x. pairs_with x (values_at variables x)) xs

pub over_member : (variables : List BookVar) (xs : List ℕ) (p : Pair) → Contains xs p.var → Contains (values_at variables p.var) p.value → Contains (pairs_over variables xs) p
over_member variables xs p among value =
    let pair = λ (v : ℤ). let q : Pair = record { var = p.var; value = v } in q in
    member_flat_map (λ x. pairs_with x (values_at variables x)) xs p.var p among (member_map pair (values_at variables p.var) p.value value)

few_values : (variables : List BookVar) (x : ℕ) → All (λ e. AreValues e.values) variables → length (values_at variables x) ≤ 256
few_values [] x h = omega arith
few_values (e ∷ es) zero h = let are = All-head (λ (f : BookVar). AreValues f.values) e es h in omega (arith, are.few)
few_values (e ∷ es) (suc x) h = few_values es x (All-tail (λ (f : BookVar). AreValues f.values) e es h)

pub over_few : (variables : List BookVar) (xs : List ℕ) → All (λ e. AreValues e.values) variables → length (pairs_over variables xs) ≤ length xs * 256
over_few variables [] h = omega arith
over_few variables (x ∷ xs) h =
    let here = pairs_with x (values_at variables x) in
    let pair = λ (v : ℤ). let q : Pair = record { var = x; value = v } in q in
    omega (arith, length-append here (pairs_over variables xs), length-map (values_at variables x) pair, few_values variables x h, over_few variables xs h)

-- the variable of a value is declared
pub within_book : (variables : List BookVar) (x : ℕ) (v : ℤ) → Contains (values_at variables x) v → x < length variables
within_book [] x v m = absurd (member_nil v m)
within_book (e ∷ es) zero v m = omega arith
within_book (e ∷ es) (suc x) v m = let lt = within_book es x v m in omega (arith, lt)

-- each variable of the book
abbrev all_of : List BookVar → List ℕ
all_of variables = range_with_len 0 (length variables)

-- ---- numbers of steps

count_cond : (b : Bool) (n : ℕ) (ns : List ℕ) (r : Removal) (rs : List Removal) → length ns ≡ length rs → length (cond b (n ∷ ns) ns) ≡ length (cond b (r ∷ rs) rs)
count_cond true n ns r rs e = omega (arith, e)
count_cond false n ns r rs e = e

numbers_length : (n : ℕ) (steps : List Removal) (pairs : List Pair) → length (numbers_from n steps pairs) ≡ length (filter (λ r. is_asked pairs r.pair) steps)
numbers_length n [] pairs = refl
numbers_length n (r ∷ steps) pairs =
    count_cond (is_asked pairs r.pair) n (numbers_from (n + 1) steps pairs) r (filter (λ (s : Removal). is_asked pairs s.pair) steps) (numbers_length (n + 1) steps pairs)

-- no more of them than pairs among which the reasons are
pub numbers_few : (steps : List Removal) (reasons qs : List Pair) → Apart (log_pairs steps) → ((p : Pair) → Contains (log_pairs steps) p → Contains reasons p → Contains qs p) → length (numbers_of steps reasons) ≤ length qs
numbers_few steps reasons qs apart inside =
    let t = λ (r : Removal). is_asked reasons r.pair in
    let short = apart_short (log_pairs (filter t steps)) qs (apart_passed t steps apart) (λ p m.
    let r = pair_removal (filter t steps) p m in
    inside p (passed_pair t steps p m) (member_same reasons r.0.pair p r.2 (asked_member reasons r.0.pair (filter_member t steps r.0 r.1).1))) in
    omega (arith, numbers_length 1 steps reasons, short, length-map (filter t steps) (λ (r : Removal). r.pair))

-- steps over the variables of a book have step numbers
pub are_step_numbers : (variables : List BookVar) (steps : List Removal) (reasons : List Pair) → length variables ≤ MOST_VARIABLES → All (λ e. AreValues e.values) variables → Apart (log_pairs steps)
    → ((p : Pair) → Contains (log_pairs steps) p → Contains (values_at variables p.var) p.value) → All IsStepNumber (numbers_of steps reasons)
are_step_numbers variables steps reasons few values apart declared =
    let whole = pairs_over variables (all_of variables) in
    let short = apart_short (log_pairs steps) whole apart (λ p m. over_member variables (all_of variables) p (range_has (length variables) p.var (within_book variables p.var p.value (declared p m))) (declared p m)) in
    let many = over_few variables (all_of variables) values in
    all_members IsStepNumber (numbers_of steps reasons) (λ k m.
    let q = numbers_member 1 steps reasons k m in
    let lt = slice_get_within (log_pairs steps) (k - 1) q.pair q.at in
    (omega (arith, q.from), omega (arith, q.from, lt, short, many, few, length-range_with_len 0 (length variables))))
