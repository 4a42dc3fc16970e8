use Rattle.std.proofs.Common.{ℕ, [], ◌∷◌, ◌∙◌, refl, sym, ap}
use Rattle.palm_engine.specs.declared.filtering.Filtering.{Filtering}
use Rattle.palm_engine.specs.Posted.{active_of}
use Rattle.palm_engine.proofs.Revised.{owner_in_form}
use Rattle.palm_engine.specs.Work.{users_removals}
use Rattle.palm_engine.proofs.Progress.{passed_walked, checks_walked, counted_one, revising_checks, on_ok, on_either, on_err, on_err_of}
use Rattle.palm_engine.proofs.Quiet.{walked_quiet}
use Rattle.palm_engine.proofs.values.examine.Goals as goal

pub is_supported-requires-clause-formed : goal.is_supported-requires-clause-formed
is_supported-requires-clause-formed g c = let r = c.requires.revising in owner_in_form c.args.filtering.now r.0 (active_of g.F.Filter.meaning c.args.constraint.now) r.1

pub returns-then-is_supported-clause-walked : goal.returns-then-is_supported-clause-walked
returns-then-is_supported-clause-walked g c = λ active r.
    passed_walked active (active_of g.F.Filter.meaning c.args.constraint.now) c.args.pair c.args.filtering.now c.is_supported.new.checks r (c.is_supported.ensures.supported c.if-is_supported.true)

pub returns-then-is_supported-clause-revising : goal.returns-then-is_supported-clause-revising
returns-then-is_supported-clause-revising g c = λ active r. revising_checks active (active_of g.F.Filter.meaning c.args.constraint.now) c.args.filtering.now c.is_supported.new.checks r

pub returns-then-is_supported-clause-counted : goal.returns-then-is_supported-clause-counted
returns-then-is_supported-clause-counted g c =
    let f = c.args.filtering.now in
    counted_one (active_of g.F.Filter.meaning c.args.constraint.now) f (record f { checks = c.is_supported.new.checks }) c.args.steps.now c.is_supported.new.steps c.is_supported.ensures.counted c.is_supported.ensures.checks (λ other. refl)

pub take_out-requires-clause-revising : goal.take_out-requires-clause-revising
take_out-requires-clause-revising g c = let r = c.requires.revising in (r.0, revising_checks r.0 (active_of g.F.Filter.meaning c.args.constraint.now) c.args.filtering.now c.is_supported.new.checks r.1)

pub take_out-requires-clause-lacking : goal.take_out-requires-clause-lacking
take_out-requires-clause-lacking g c = c.is_supported.ensures.lacking c.if-is_supported.false

pub returns-clause-walked : goal.returns-clause-walked
returns-clause-walked g c = λ active r.
    let owner = active_of g.F.Filter.meaning c.args.constraint.now in
    let f = c.args.filtering.now in
    on_ok c.take_out.result (λ w. checks_walked active owner (c.args.pair ∷ []) f c.take_out.new.filtering c.is_supported.new.checks w)
    (c.take_out.ensures.walked active (revising_checks active owner f c.is_supported.new.checks r))

pub returns-clause-revising : goal.returns-clause-revising
returns-clause-revising g c = λ active r.
    c.take_out.ensures.revising active (revising_checks active (active_of g.F.Filter.meaning c.args.constraint.now) c.args.filtering.now c.is_supported.new.checks r)

pub returns-clause-supported : goal.returns-clause-supported
returns-clause-supported g c = on_ok c.take_out.result (λ loses. λ has. absurd (loses.gone has)) c.take_out.ensures.gone

pub returns-clause-err : goal.returns-clause-err
returns-clause-err g c =
    on_err c.take_out.result (λ same. same ∙ ap (λ (n : ℕ). record c.args.filtering.now { checks = n }) (sym (ap (λ (f : Filtering). f.checks) same))) c.take_out.ensures.err

pub returns-clause-due : goal.returns-clause-due
returns-clause-due g c = on_err_of c.take_out.result (record { filled = c.requires.filled; has = c.requires.present; lacks = c.is_supported.ensures.lacking c.if-is_supported.false })

pub returns-clause-counted : goal.returns-clause-counted
returns-clause-counted g c =
    let owner = active_of g.F.Filter.meaning c.args.constraint.now in
    let f = c.args.filtering.now in
    let asked : Filtering = record f { checks = c.is_supported.new.checks } in
    let r = c.requires.revising in
    counted_one owner f c.take_out.new.filtering c.args.steps.now c.is_supported.new.steps c.is_supported.ensures.counted (c.take_out.ensures.checks ∙ c.is_supported.ensures.checks)
    (on_either c.take_out.result (walked_quiet r.0 owner (c.args.pair ∷ []) asked c.take_out.new.filtering) (λ same other. ap (λ (z : Filtering). users_removals z.log.log) same)
    (c.take_out.ensures.walked r.0 (revising_checks r.0 owner f c.is_supported.new.checks r.1)) c.take_out.ensures.err)
