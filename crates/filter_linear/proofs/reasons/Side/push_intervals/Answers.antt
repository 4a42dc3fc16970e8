use Rattle.std.proofs.Common.{◌++◌, ◌<◌, List, length, get_or, ap, ◌∙◌}
use Rattle.std.proofs.lemmas.List.{take_all}
use Rattle.palm_domain.specs.Rows.{initial_of, present_of}
use Rattle.palm_filter.specs.Rules.{listed_pairs}
use Rattle.palm_model.specs.declared.constraint.Term.{Term}
use Rattle.palm_model.proofs.cited.Sums.{term_declared}
use Rattle.filter_linear.specs.Linear.{values_beyond}
use Rattle.palm_reason.proofs.cited.LinearReason.{pairs_by}
use Rattle.filter_linear.proofs.Walks.{beyond_by, term_filled}
use Rattle.filter_linear.proofs.reasons.Side.push_intervals.Goals as goal

pub interval_beyond-requires-clause-declared : goal.interval_beyond-requires-clause-declared
interval_beyond-requires-clause-declared c =
    let terms = c.args.rule.now.terms in
    let e = c.as_slice-term-items.ensures in
    let lt : c.loop-term.term-index < length terms = rw e at c.loop-term-test.true in
    term_declared (length c.args.store.now) terms c.loop-term.term-index c.term-item.result c.requires.formed.declared lt
    (c.term-item.is ∙ ap (λ (ts : List Term). get_or ts c.loop-term.term-index c.term-item.result) e)

pub interval_beyond-requires-clause-filled : goal.interval_beyond-requires-clause-filled
interval_beyond-requires-clause-filled c =
    let terms = c.args.rule.now.terms in
    let e = c.as_slice-term-items.ensures in
    let lt : c.loop-term.term-index < length terms = rw e at c.loop-term-test.true in
    term_filled (present_of c.args.store.now) terms c.loop-term.term-index c.term-item.result c.requires.filled lt
    (c.term-item.is ∙ ap (λ (ts : List Term). get_or ts c.loop-term.term-index c.term-item.result) e)

pub returns : goal.returns
returns c =
    c.loop-term.invariant
    ∙ ap (λ ps. listed_pairs (initial_of c.args.store.now) c.args.out.now.items ++ ps)
    (ap (λ (ts : List Term). pairs_by (λ t. values_beyond c.args.self (initial_of c.args.store.now) (present_of c.args.store.now) t) ts c.args.pair.now.var) (take_all c.loop-term.term-index c.as_slice-term-items.result.now c.loop-term-test.false ∙ c.as_slice-term-items.ensures)
    ∙ beyond_by c.args.self (initial_of c.args.store.now) (present_of c.args.store.now) c.args.rule.now.terms c.args.pair.now.var)
