use Rattle.std.proofs.Common.{◌≡◌, ◌++◌, length, take, drop, Contains, All, vec_len, sym, ap, ◌∙◌, subst}
use Rattle.std.proofs.Math.Seq.{take-append_seam}
use Rattle.palm_model.specs.Closure.{IsGreatest}
use Rattle.palm_model.specs.Trial.{IsTriable}
use Rattle.palm_model.proofs.cited.Formed.{all_triable}
use Rattle.palm_model.proofs.cited.Narrowing.{greatest_closed}
use Rattle.palm_model.proofs.greatest.scratch.Goals as goal

pub close-requires-clause-triable : goal.close-requires-clause-triable
close-requires-clause-triable c =
    let initial = c.args.initial.now in
    let long : vec_len c.in_ok-domains.domains ≡ length initial =
    sym c.as_mut_slice.ensures.len ∙ ap length (c.as_mut_slice.ensures.value ∙ c.in_ok-domains.ensures ∙ c.as_slice.ensures) in
    let n : length c.as_mut_slice-2.result.now ≡ length initial =
    c.as_mut_slice-2.ensures.len ∙ c.in_ok-values.ensures.len ∙ c.len.ensures ∙ long in
    let is = c.as_slice-2.ensures ∙ c.in_ok-parts.ensures in
    subst (λ m. All (IsTriable m) c.as_slice-2.result.now) (sym n)
    (subst (λ ps. All (IsTriable (length initial)) ps) (sym is) (all_triable (length initial) c.args.constraints.now c.requires.formed))

pub returns : goal.returns
returns c =
    let initial = c.args.initial.now in
    let cs = c.args.constraints.now in
    let new = c.close.new.domains in
    let greatest = greatest_closed initial cs c.as_slice-2.result.now c.as_mut_slice.result.now new c.requires.ascend
    (c.as_slice-2.ensures ∙ c.in_ok-parts.ensures) (c.as_mut_slice.ensures.value ∙ c.in_ok-domains.ensures ∙ c.as_slice.ensures)
    c.in_ok-close.ensures.step c.in_ok-close.ensures.closed in
    let long : c.in_ok-domains.domains.len ≡ length new = sym (c.in_ok-close.ensures.step.variables ∙ c.as_mut_slice.ensures.len) in
    let rest = drop (length new) c.in_ok-domains.domains.items in
    let front = ap (λ n. take n (new ++ rest)) long ∙ take-append_seam new rest in
    subst (λ d. IsGreatest initial (Contains cs) d) (sym (c.from_vec.ensures ∙ front)) greatest
