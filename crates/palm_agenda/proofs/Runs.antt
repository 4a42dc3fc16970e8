-- Users' constraints whose numbers leave none out.
use Rattle.std.proofs.Common.{◌≡◌, ℕ, zero, suc, ◌+◌, ◌-◌, ◌%◌, ◌^◌, ◌<◌, ◌≤◌, true, List, [], ◌∷◌, ◌++◌, length, get_or, slice_get, map, Option, None, Some, ltb-true, inl, inr, refl, sym, ap, ◌∙◌, subst, arith}
use Rattle.std.proofs.lemmas.Bool.{cases_lt, false≢true}
use Rattle.std.proofs.lemmas.List.{get_or_append_left, get_or-append_right, get_or-map, length-append, length-map, map-append}
use Rattle.std.proofs.lemmas.Option.{get_or_from_slice_get, slice_get-get_or, slice_get_within}
use Rattle.palm_base.specs.declared.terms.Cid.{Cid}
use Rattle.palm_base.specs.declared.terms.Cid.TheVariants.{Decide, Not, User}
use Rattle.std.specs.Prelude.{IfSome, IsSomeAnd}
use Rattle.palm_base.specs.Order.{IsPartedAt, Rises, StandsAt, cid_before}
use Rattle.palm_base.proofs.cited.RisingLists.{parted_there}
use Rattle.palm_agenda.specs.Agenda.{Connected, IsConnected, IsRun, connected_cids}
use Rattle.palm_agenda.proofs.cited.Connecting.{cid_of, named_stands, stands_named}
use Rattle.palm_agenda.proofs.cited.Keeping.{KeepsScopes, cids_kept}

number_of : Cid → ℕ
number_of (Decide x) = 0
number_of (Not p) = 0
number_of (User n) = n

same_number : (m n : ℕ) → User m ≡ User n → m ≡ n
unfolding number_of
same_number m n e = ap number_of e

-- what comes after a user is one, of a greater number
after_user : (m : ℕ) (c : Cid) → cid_before (User m) c ≡ true → (n : ℕ) × (c ≡ User n) × (m < n)
after_user m (Decide x) h = absurd (false≢true h)
after_user m (Not p) h = absurd (false≢true h)
after_user m (User n) h = (n, refl, ltb-true m n h)

-- the last number is at least as many more as there are behind the first
last_above : (g l : ℕ) (cids : List Cid) (d : Cid) → Rises (User g ∷ cids) → get_or (User g ∷ cids) (length cids) d ≡ User l → g + length cids ≤ l
last_above g l [] d rises last = let e = same_number g l last in omega (arith, e)
last_above g l (c ∷ cids) d rises last =
    let n = after_user g c (rises.0 0 c (omega arith)) in
    let more = last_above n.0 l cids d (subst (λ e. Rises (e ∷ cids)) n.1 rises.1) (subst (λ e. get_or (e ∷ cids) (length cids) d ≡ User l) n.1 last) in
    omega (arith, n.2, more)

-- where it is just as many more, none is left out
none_left_out : (g l : ℕ) (cids : List Cid) (d : Cid) → Rises (User g ∷ cids) → get_or (User g ∷ cids) (length cids) d ≡ User l → l ≡ g + length cids → (k : ℕ) → k ≤ length cids → get_or (User g ∷ cids) k d ≡ User (g + k)
none_left_out g l cids d rises last is zero le = ap User (plus_none g)
  where
    plus_none : (n : ℕ) → n ≡ n + 0
    plus_none n = omega arith
none_left_out g l [] d rises last is (suc k) le = absurd (omega (arith, le))
none_left_out g l (c ∷ cids) d rises last is (suc k) le =
    let n = after_user g c (rises.0 0 c (omega arith)) in
    let rest = subst (λ e. Rises (e ∷ cids)) n.1 rises.1 in
    let ends = subst (λ e. get_or (e ∷ cids) (length cids) d ≡ User l) n.1 last in
    let more = last_above n.0 l cids d rest ends in
    let next : n.0 ≡ g + 1 = omega (arith, n.2, more, is) in
    let there : n.0 + k ≡ g + suc k = omega (arith, next) in
    ap (λ e. get_or (e ∷ cids) k d) n.1 ∙ none_left_out n.0 l cids d rest ends (omega (arith, next, is)) k (omega (arith, le)) ∙ ap User there

pub run_numbers : (cids : List Cid) (first last : ℕ) → Rises cids → slice_get cids 0 ≡ Some (User first) → slice_get cids (length cids - 1) ≡ Some (User last) → last ≡ first + (length cids - 1)
    → (k n : ℕ) → slice_get cids k ≡ Some (User n) → n ≡ first + k
run_numbers [] first last rises begins ends is k n at = let lt = slice_get_within [] k (User n) at in absurd (omega (arith, lt))
run_numbers (c ∷ cids) first last rises begins ends is k n at =
    let head : c ≡ User first = get_or_from_slice_get (c ∷ cids) 0 (User first) c begins in
    let lt = slice_get_within (c ∷ cids) k (User n) at in
    let long : length (c ∷ cids) - 1 ≡ length cids = omega arith in
    let tail : get_or (c ∷ cids) (length cids) c ≡ User last = ap (λ j. get_or (c ∷ cids) j c) (sym long) ∙ get_or_from_slice_get (c ∷ cids) (length (c ∷ cids) - 1) (User last) c ends in
    let here = none_left_out first last cids c (subst (λ e. Rises (e ∷ cids)) head rises) (subst (λ e. get_or (e ∷ cids) (length cids) c ≡ User last) head tail) (omega (arith, is)) k (omega (arith, lt)) in
    same_number n (first + k) (sym (get_or_from_slice_get (c ∷ cids) k (User n) c at) ∙ ap (λ e. get_or (e ∷ cids) k c) head ∙ here)

-- a longer list ends alike
ends_there : (c : Cid) (cids : List Cid) (d : Cid) → 0 < length cids → ((n : ℕ) → get_or (c ∷ cids) (length (c ∷ cids) - 1) d ≡ User n → ⊥) → (n : ℕ) → get_or cids (length cids - 1) d ≡ User n → ⊥
ends_there c cids d some ends n is =
    let last : length (c ∷ cids) - 1 ≡ suc (length cids - 1) = omega (arith, some) in
    ends n (ap (λ j. get_or (c ∷ cids) j d) last ∙ is)

-- where the last one is no user, none is
pub none_before : (cids : List Cid) (d : Cid) → Rises cids → ((n : ℕ) → get_or cids (length cids - 1) d ≡ User n → ⊥) → (k n : ℕ) → slice_get cids k ≡ Some (User n) → ⊥
none_before [] d rises ends k n at = let lt = slice_get_within [] k (User n) at in absurd (omega (arith, lt))
none_before (c ∷ []) d rises ends zero n at = ends n (get_or_from_slice_get (c ∷ []) 0 (User n) d at)
none_before (c ∷ []) d rises ends (suc k) n at = let lt = slice_get_within (c ∷ []) (suc k) (User n) at in absurd (omega (arith, lt))
none_before (c ∷ e ∷ cids) d rises ends zero n at =
    let head : c ≡ User n = get_or_from_slice_get (c ∷ e ∷ cids) 0 (User n) d at in
    let next = after_user n e (subst (λ f. cid_before f e ≡ true) head (rises.0 0 e (omega arith))) in
    none_before (e ∷ cids) d rises.1 (ends_there c (e ∷ cids) d (omega arith) ends) 0 next.0 (ap Some next.1)
none_before (c ∷ e ∷ cids) d rises ends (suc k) n at = none_before (e ∷ cids) d rises.1 (ends_there c (e ∷ cids) d (omega arith) ends) k n at

pub no_user_in : (front : List Connected) (e : Connected) → Rises (connected_cids front) → slice_get front (length front - 1) ≡ Some e → ((n : ℕ) → e.cid ≡ User n → ⊥) → (k n : ℕ) → slice_get (connected_cids front) k ≡ Some (User n) → ⊥
no_user_in front e rises at apart =
    let last : get_or (connected_cids front) (length (connected_cids front) - 1) e.cid ≡ e.cid =
    ap (λ m. get_or (connected_cids front) (m - 1) e.cid) (length-map front cid_of)
    ∙ get_or-map cid_of front (length front - 1) e e.cid (slice_get_within front (length front - 1) e at) ∙ ap cid_of (get_or_from_slice_get front (length front - 1) e e at) in
    none_before (connected_cids front) e.cid rises (λ n is. apart n (sym last ∙ is))

-- so each stands as far behind its number as the first does
pub run_told : (front users seen : List Connected) → front ++ users ≡ seen → ((k n : ℕ) → slice_get (connected_cids front) k ≡ Some (User n) → ⊥)
    → (first lag : ℕ) → first < 2 ^ 32 → length front < 2 ^ 63 → length users < 2 ^ 63 → lag ≡ (length front + (2 ^ 64 - first)) % 2 ^ 64 → ((k n : ℕ) → slice_get (connected_cids users) k ≡ Some (User n) → n ≡ first + k) → IsRun seen lag
run_told front users seen is none first lag small short few behind each n place stands =
    let before = connected_cids front in
    let after = connected_cids users in
    let whole : connected_cids seen ≡ before ++ after = ap connected_cids (sym is) ∙ map-append cid_of front users in
    let at : slice_get (before ++ after) place ≡ Some (User n) = subst (λ cids. slice_get cids place ≡ Some (User n)) whole (stands_named cid_of seen place (User n) stands) in
    let within = slice_get_within (before ++ after) place (User n) at in
    let item = get_or_from_slice_get (before ++ after) place (User n) (User n) at in
    let long = length-map front cid_of in
    let wide = length-map users cid_of in
    elim (cases_lt place (length before)) [
      | inl lt ↦ absurd (none place n (slice_get-get_or before place (User n) lt ∙ ap Some (sym (get_or_append_left before after (User n) place lt) ∙ item)))
      | inr ge ↦
          let rest : place - length before < length after = omega (arith, within, ge, length-append before after) in
          let number = each (place - length before) n (slice_get-get_or after (place - length before) (User n) rest ∙ ap Some (sym (get_or-append_right before after (length before) place (User n) refl ge) ∙ item)) in
          omega (arith, number, behind, long, wide, ge, rest)
    ]

-- and belongs there
pub run_parted : (connected : List Connected) → Rises (connected_cids connected) → (lag n : ℕ) → IsRun connected lag → (cid : Cid) → cid ≡ User n → IsConnected connected cid → IsPartedAt (λ d. cid_before d.cid cid) connected ((lag + n) % 2 ^ 64)
run_parted connected rises lag n run cid is there =
    let place = there.listed.0 in
    let stands : StandsAt cid_of connected place cid =
    subst (λ o. IsSomeAnd o (λ d. d.cid ≡ cid)) (sym (slice_get-get_or connected place there.owner there.listed.1 ∙ ap Some there.listed.2)) there.named in
    subst (IsPartedAt (λ d. cid_before d.cid cid) connected) (sym (run n place (subst (StandsAt cid_of connected place) is stands))) (parted_there cid_of connected rises cid place stands)

-- a change of marks leaves it so
pub run_kept : (f : Connected → Connected) → KeepsScopes f → (first after : List Connected) → after ≡ map f first → (run : Option ℕ) → IfSome run (IsRun first) → IfSome run (IsRun after)
run_kept f keeps first after is None run = tt
run_kept f keeps first after is (Some lag) run = λ n place stands.
    let same : connected_cids after ≡ connected_cids first = ap connected_cids is ∙ cids_kept f keeps first in
    run n place (named_stands cid_of first place (User n) (subst (λ cids. slice_get cids place ≡ Some (User n)) same (stands_named cid_of after place (User n) stands)))
