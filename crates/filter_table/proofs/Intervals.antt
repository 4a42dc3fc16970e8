-- Runs of declared values that pass a test, as intervals of places.
use Rattle.std.proofs.Common.{◌≡◌, ℕ, ℤ, ◌+◌, ◌<◌, ◌≤◌, ◌++◌, Bool, true, false, Some, List, [], ◌∷◌, length, take, drop, get_or, slice_get, filter, refl, sym, ap, ◌∙◌, arith, append-nil, append_assoc, length-take}
use Rattle.std.proofs.lemmas.List.{drop-append-le, drop_all, length-take-le, map-append, take_all, take_more}
use Rattle.std.proofs.lemmas.Option.{get_or_from_slice_get, slice_get-get_or, slice_get_within}
use Rattle.palm_base.specs.Tells.{Tells}
use Rattle.palm_base.specs.declared.terms.Pair.{Pair}
use Rattle.palm_filter.specs.Rules.{interval_pairs}
use Rattle.palm_model.specs.Domains.{Domains, values_of}
use Rattle.palm_model.specs.Removed.{pairs_of}
use Rattle.palm_model.proofs.cited.Reasons.{pairs_more, pairs_same}

-- two tests of one fact answer the same
pub told_alike : (P : Type 0) (b c : Bool) → Tells b P → Tells c P → b ≡ c
told_alike P true true one other = refl
told_alike P true false one other = absurd (other one)
told_alike P false true one other = absurd (one other)
told_alike P false false one other = refl

module _ (d : Domains) (x : ℕ) where
  abbrev pub run : ℕ → ℕ → List Pair
  run first end = interval_pairs d (record { var = x; first = first; end = end })

  -- an interval without a place has no pairs
  run_none : (place : ℕ) → run place place ≡ []
  run_none place = ap (pairs_of x) (drop_all place (take place (values_of d x)) (omega (arith, length-take place (values_of d x))))

  -- an interval with one place more has one pair more
  run_more : (first place : ℕ) (v : ℤ) → first ≤ place → slice_get (values_of d x) place ≡ Some v → run first (place + 1) ≡ run first place ++ record { var = x; value = v } ∷ []
  run_more first place v le e =
      let vs = values_of d x in
      let pair : ℤ → Pair = λ w. record { var = x; value = w } in
      let lt : place < length vs = slice_get_within vs place v e in
      let long : first ≤ length (take place vs) = omega (arith, le, length-take-le place vs (omega (arith, lt))) in
      ap (λ ws. pairs_of x (drop first ws)) (take_more vs place v lt ∙ ap (λ w. take place vs ++ w ∷ []) (get_or_from_slice_get vs place v v e))
      ∙ ap (pairs_of x) (drop-append-le first (take place vs) (v ∷ []) long)
      ∙ map-append pair (drop first (take place vs)) (v ∷ [])

  -- what was listed, with the run that is not, are the pairs of the values so far that pass
  abbrev pub AreListed : (ℤ → Bool) → List ℤ → List Pair → List Pair → ℕ → ℕ → Type 0
  AreListed test vs before listed first place = listed ++ run first place ≡ before ++ pairs_of x (filter test (take place vs))

  module _ (test : ℤ → Bool) (vs : List ℤ) (is : values_of d x ≡ vs) (before : List Pair) where
    module _ (listed : List Pair) (first place : ℕ) (v : ℤ) (lt : place < length vs) (at : v ≡ get_or vs place v) (so_far : AreListed test vs before listed first place) where
      -- a value that passes goes on with the run
      pub run_goes_on : first ≤ place → test v ≡ true → AreListed test vs before listed first (place + 1)
      run_goes_on le passes =
          let here : slice_get (values_of d x) place ≡ Some v = ap (λ ws. slice_get ws place) is ∙ slice_get-get_or vs place v lt ∙ ap Some (sym at) in
          pairs_more test x vs place v before (listed ++ run first place) (listed ++ run first (place + 1)) lt at passes so_far
          (ap (λ ps. listed ++ ps) (run_more first place v le here) ∙ sym (append_assoc listed (run first place) (record { var = x; value = v } ∷ [])))

      -- one that fails ends it
      pub run_ends : (now : List Pair) → test v ≡ false → now ≡ listed ++ run first place → AreListed test vs before now (place + 1) (place + 1)
      run_ends now fails grown =
          pairs_same test x vs place v before (listed ++ run first place) (now ++ run (place + 1) (place + 1)) lt at fails so_far
          (ap (λ ps. now ++ ps) (run_none (place + 1)) ∙ append-nil now ∙ grown)

    -- at the end all are listed
    pub all_listed : (listed now : List Pair) (first place end : ℕ) → place ≡ end → length vs ≤ place → AreListed test vs before listed first place → now ≡ listed ++ run first end → now ≡ before ++ pairs_of x (filter test vs)
    all_listed listed now first place end same whole so_far grown =
        grown ∙ ap (λ k. listed ++ run first k) (sym same) ∙ so_far ∙ ap (λ ws. before ++ pairs_of x (filter test ws)) (take_all place vs whole)
