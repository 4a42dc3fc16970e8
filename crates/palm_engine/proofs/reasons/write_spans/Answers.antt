use Rattle.std.proofs.Common.{sym, ap, subst}
use Rattle.palm_domain.specs.Rows.{initial_of}
use Rattle.palm_explain.specs.Moving.{spans_at}
use Rattle.palm_filter.specs.Rules.{written}
use Rattle.palm_filter.specs.declared.rule.Rule.{Rule}
use Rattle.palm_filter.specs.declared.rule.Rule.TheVariants.{Above, At, Below, Other}
use Rattle.palm_engine.specs.Reasons.{IsToldBy}
use Rattle.palm_engine.proofs.Telling.{alone_told, nothing_told}
use Rattle.palm_engine.proofs.reasons.write_spans.Goals as goal

pub returns-in-Empty-clause-told : goal.returns-in-Empty-clause-told
returns-in-Empty-clause-told c = λ con x v yes.
    let d = initial_of c.args.store.now in
    subst (λ (r : Rule). IsToldBy d (written d con r c.args.intervals.now x v) (spans_at c.clear.new.self.items v)) (sym c.in-Empty.is) (nothing_told d c.clear.new.self.items v c.clear.ensures.items)

pub returns-in-Above-clause-told : goal.returns-in-Above-clause-told
returns-in-Above-clause-told c = λ con x v.
    let d = initial_of c.args.store.now in
    let s = c.in-Above.shift in
    alone_told d c.clear.new.self.items c.push_above.new.out.items (λ u. written d con (Above s) c.args.intervals.now x u) v (written d con c.args.rule.now c.args.intervals.now x v) c.push_above.result c.clear.ensures.items
    (sym (ap (λ (r : Rule). written d con r c.args.intervals.now x v) c.in-Above.is)) c.push_above.ensures.told

pub returns-in-Below-clause-told : goal.returns-in-Below-clause-told
returns-in-Below-clause-told c = λ con x v.
    let d = initial_of c.args.store.now in
    let s = c.in-Below.shift in
    alone_told d c.clear.new.self.items c.push_below.new.out.items (λ u. written d con (Below s) c.args.intervals.now x u) v (written d con c.args.rule.now c.args.intervals.now x v) c.push_below.result c.clear.ensures.items
    (sym (ap (λ (r : Rule). written d con r c.args.intervals.now x v) c.in-Below.is)) c.push_below.ensures.told

pub returns-in-At-clause-told : goal.returns-in-At-clause-told
returns-in-At-clause-told c = λ con x v.
    let d = initial_of c.args.store.now in
    let s = c.in-At.shift in
    alone_told d c.clear.new.self.items c.push_at.new.out.items (λ u. written d con (At s) c.args.intervals.now x u) v (written d con c.args.rule.now c.args.intervals.now x v) c.push_at.result c.clear.ensures.items
    (sym (ap (λ (r : Rule). written d con r c.args.intervals.now x v) c.in-At.is)) c.push_at.ensures.told

pub returns-in-Other-clause-told : goal.returns-in-Other-clause-told
returns-in-Other-clause-told c = λ con x v.
    let d = initial_of c.args.store.now in
    let s = c.in-Other.shift in
    alone_told d c.clear.new.self.items c.push_others.new.out.items (λ u. written d con (Other s) c.args.intervals.now x u) v (written d con c.args.rule.now c.args.intervals.now x v) c.push_others.result c.clear.ensures.items
    (sym (ap (λ (r : Rule). written d con r c.args.intervals.now x v) c.in-Other.is)) c.push_others.ensures.told

pub returns-in_ok-list_spans-in-Listed-clause-told : goal.returns-in_ok-list_spans-in-Listed-clause-told
returns-in_ok-list_spans-in-Listed-clause-told c = λ con x v yes.
    let d = initial_of c.args.store.now in
    subst (λ (r : Rule). IsToldBy d (written d con r c.args.intervals.now x v) (spans_at c.list_spans.new.out.items v)) (sym c.in-Listed.is) (c.in_ok-list_spans-in-Listed.ensures.told v)
