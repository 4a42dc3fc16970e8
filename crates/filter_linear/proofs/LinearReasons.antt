-- Reasons of sums, as they are written: one term after another.
use Rattle.std.proofs.Common.{◌≡◌, ℕ, ◌+◌, ◌<◌, ◌++◌, List, [], ◌∷◌, length, take, get_or, filter, flat_map, append_assoc, append-nil, All, ℤ, ◌≤ℤ◌, Bool, Option, Some, None, Result, Ok, Err, true, false, cond, sym, ap, ◌∙◌}
use Rattle.std.specs.Prelude.{IfOk, IfSome}
use Rattle.std.proofs.lemmas.Grind.{flat_map-append}
use Rattle.std.proofs.lemmas.List.Elements.{All-contains, filter_more}
use Rattle.palm_base.proofs.cited.Members.{member_map, all_members}
use Rattle.palm_base.specs.declared.terms.Pair.{Pair}
use Rattle.palm_filter.specs.Rules.{FitsRule, written}
use Rattle.palm_filter.specs.declared.rule.Interval.{Interval}
use Rattle.palm_filter.specs.declared.rule.Known.{Known}
use Rattle.palm_model.specs.Domains.{Domains, values_of}
use Rattle.palm_model.specs.Linear.{term_vars, linear_reason}
use Rattle.palm_model.specs.Reason.{reason, AreFilled}
use Rattle.palm_model.specs.declared.constraint.Con.{Con}
use Rattle.palm_model.specs.declared.constraint.Con.TheVariants.{Linear}
use Rattle.palm_model.specs.declared.constraint.Op.{Op}
use Rattle.palm_model.specs.declared.constraint.Term.{Term}
use Rattle.filter_linear.specs.Linear.{IsFilledBeside}

pub filled_beside : (d : Domains) (terms : List Term) (x : ℕ) → AreFilled d (term_vars terms) → All (IsFilledBeside d x) terms
filled_beside d terms x filled =
    all_members (IsFilledBeside d x) terms (λ t m n. All-contains (λ y. 0 < length (values_of d y)) (term_vars terms) t.var filled (member_map (λ (u : Term). u.var) terms t m))

-- ---- a filter's answers, for its meaning m

pub gives_reason : (initial present : Domains) (terms : List Term) (op : Op) (bound : ℤ) (x : ℕ) (v : ℤ) (m : Con) (out : List Pair) → Linear terms op bound ≡ m → out ≡ linear_reason initial present terms op bound x v → out ≡ reason initial present m x v
gives_reason initial present terms op bound x v m out is e = e ∙ ap (λ k. reason initial present k x v) is

-- what is told of a sum holds of the filter's meaning
pub told_rule : {E : Type 0} (initial present : Domains) (terms : List Term) (op : Op) (bound : ℤ) (x : ℕ) (value : ℤ) (m : Con) (intervals : List Interval) (result : Result (Option Known) E) → Linear terms op bound ≡ m
    → IfOk result (λ told. IfSome told (λ known. (c : Con) (v : ℤ) → value ≤ℤ v → v ≤ℤ known.last → written initial c known.rule intervals x v ≡ linear_reason initial present terms op bound x v))
    → IfOk result (λ told. IfSome told (λ known. FitsRule initial present m x value known intervals))
told_rule initial present terms op bound x value m intervals (Ok (Some known)) is told = λ v low high wants. gives_reason initial present terms op bound x v m (written initial m known.rule intervals x v) is (told m v low high)
told_rule initial present terms op bound x value m intervals (Ok None) is told = tt
told_rule initial present terms op bound x value m intervals (Err e) is told = tt

-- ---- what a walk appends

-- the pairs of one more member that passes the test
pub kept_more : {X : Type 0} (f : X → List Pair) (test : X → Bool) (xs : List X) (i : ℕ) (x : X) (before out now : List Pair) → i < length xs → x ≡ get_or xs i x → test x ≡ true → out ≡ before ++ flat_map f (filter test (take i xs)) → now ≡ out ++ f x → now ≡ before ++ flat_map f (filter test (take (i + 1) xs))
kept_more f test xs i x before out now lt at t e g =
    let kept : filter test (take (i + 1) xs) ≡ filter test (take i xs) ++ x ∷ [] =
    filter_more test xs i x lt ∙ ap (λ y. filter test (take i xs) ++ cond (test y) (y ∷ []) []) (sym at) ∙ ap (λ b. filter test (take i xs) ++ cond b (x ∷ []) []) t in
    let parts : flat_map f (filter test (take (i + 1) xs)) ≡ flat_map f (filter test (take i xs)) ++ f x =
    ap (flat_map f) kept ∙ flat_map-append f (filter test (take i xs)) (x ∷ []) ∙ ap (λ ps. flat_map f (filter test (take i xs)) ++ ps) (append-nil (f x)) in
    g ∙ ap (λ ps. ps ++ f x) e ∙ append_assoc before (flat_map f (filter test (take i xs))) (f x) ∙ ap (λ ps. before ++ ps) (sym parts)

-- a member that fails the test adds none
pub kept_same : {X : Type 0} (f : X → List Pair) (test : X → Bool) (xs : List X) (i : ℕ) (x : X) (before out now : List Pair) → i < length xs → x ≡ get_or xs i x → test x ≡ false → out ≡ before ++ flat_map f (filter test (take i xs)) → now ≡ out → now ≡ before ++ flat_map f (filter test (take (i + 1) xs))
kept_same f test xs i x before out now lt at t e g =
    let kept : filter test (take (i + 1) xs) ≡ filter test (take i xs) ++ [] =
    filter_more test xs i x lt ∙ ap (λ y. filter test (take i xs) ++ cond (test y) (y ∷ []) []) (sym at) ∙ ap (λ b. filter test (take i xs) ++ cond b (x ∷ []) []) t in
    g ∙ e ∙ ap (λ ys. before ++ flat_map f ys) (sym (kept ∙ append-nil (filter test (take i xs))))
