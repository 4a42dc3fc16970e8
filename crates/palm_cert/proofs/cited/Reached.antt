-- The claim is reached behind the steps.
use Rattle.std.proofs.Common.{◌≡◌, ℕ, ℤ, zero, suc, List, [], ◌∷◌, Contains, refl, sym, subst}
use Rattle.palm_base.specs.declared.terms.Pair.{Pair}
use Rattle.palm_base.proofs.cited.Members.{member_here, member_map, member_nil, member_same}
use Rattle.palm_book.specs.Book.{Contents, BookVar, initial_of, values_at}
use Rattle.palm_claim.specs.Step.{IsReached}
use Rattle.palm_claim.specs.declared.verdict.Claim.{Claim}
use Rattle.palm_claim.specs.declared.verdict.Claim.TheVariants.{Gone, Conflict}
use Rattle.palm_events.proofs.cited.Agreeing.{gone_member}
use Rattle.palm_explain.specs.Explanations.{IsLinked}
use Rattle.palm_model.specs.Domains.{Domains, Has, values_of}
use Rattle.palm_model.specs.Log.{Removal, log_pairs}
use Rattle.palm_model.specs.State.{EngineState, IsValid}
use Rattle.palm_cert.specs.Certificate.{claimed, steps_of}
use Rattle.palm_explain.specs.Needed.IsNeeded.{is_claimed}
use Rattle.palm_cert.specs.Needs.{CanClaim}
use Rattle.palm_cert.proofs.cited.Links.{pair_logged, pair_removal}
use Rattle.palm_cert.proofs.cited.Needed.{needed_step, right_linked}

pub values_same : (variables : List BookVar) (x : ℕ) → values_of (initial_of (record { variables = variables; constraints = [] })) x ≡ values_at variables x
values_same [] x = refl
values_same (e ∷ variables) zero = refl
values_same (e ∷ variables) (suc x) = values_same variables x

-- a claimed pair of the log is that of a step
claimed_step : (log : List Removal) (pairs : List Pair) → IsLinked log → (p : Pair) → Contains pairs p → Contains (log_pairs log) p → Contains (log_pairs (steps_of log pairs)) p
claimed_step log pairs linked p m k =
    let r = pair_removal log p k in
    member_same (log_pairs (steps_of log pairs)) r.0.pair p r.2
    (pair_logged (steps_of log pairs) r.0 (needed_step log pairs linked r.0 r.1 (is_claimed r.0.pair (member_same pairs p r.0.pair (sym r.2) m))))

pub claim_reached : (s : EngineState) (book : Contents) (claim : Claim) → IsValid s → s.initial ≡ initial_of book → CanClaim s claim → IsReached book (log_pairs (steps_of s.log (claimed book claim))) claim
claim_reached s book (Gone pair) valid initial can =
    claimed_step s.log (claimed book (Gone pair)) (right_linked s.initial s.active [] s.log valid.founded) pair (member_here pair []) can
claim_reached s book (Conflict x) valid initial can = λ v has.
    let p : Pair = record { var = x; value = v } in
    let declared : Has s.initial x v = subst (λ (d : Domains). Has d x v) (sym initial) has in
    let gone = gone_member s.initial (log_pairs s.log) x v declared (λ h. member_nil v (subst (λ (vs : List ℤ). Contains vs v) can.empty h)) in
    let pair = λ (w : ℤ). let q : Pair = record { var = x; value = w } in q in
    let among = subst (λ (vs : List ℤ). Contains vs v) (values_same book.variables x) has in
    claimed_step s.log (claimed book (Conflict x)) (right_linked s.initial s.active [] s.log valid.founded) p (member_map pair (values_at book.variables x) v among) gone
