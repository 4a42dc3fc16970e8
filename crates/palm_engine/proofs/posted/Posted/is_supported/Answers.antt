use Rattle.palm_domain.specs.Rows.{present_of}
use Rattle.palm_model.specs.declared.constraint.Op.TheVariants.{Eq, Ne}
use Rattle.palm_engine.proofs.Comparing.{value_supported, value_lacks, equal_stands, equal_fails, differ_stands, differ_fails}
use Rattle.palm_engine.proofs.posted.Posted.is_supported.Goals as goal

pub returns-in-Decision-clause-supported : goal.returns-in-Decision-clause-supported
returns-in-Decision-clause-supported g c t =
    let own = c.in-Decision.decided in
    let p = c.args.pair in
    rw c.in-Decision.is (value_supported (present_of c.args.store.now) own.var Eq own.value p.var p.value (rw c.in-Decision.is at c.requires.over) c.requires.present
    (equal_stands c.eq.result own.value p.value c.eq.ensures t))

pub returns-in-Decision-clause-lacking : goal.returns-in-Decision-clause-lacking
returns-in-Decision-clause-lacking g c t =
    let own = c.in-Decision.decided in
    let p = c.args.pair in
    rw c.in-Decision.is (value_lacks (present_of c.args.store.now) own.var Eq own.value p.var p.value (rw c.in-Decision.is at c.requires.over)
    (equal_fails c.eq.result own.value p.value c.eq.ensures t))

pub returns-in-Negation-clause-supported : goal.returns-in-Negation-clause-supported
returns-in-Negation-clause-supported g c t =
    let own = c.in-Negation.negated in
    let p = c.args.pair in
    rw c.in-Negation.is (value_supported (present_of c.args.store.now) own.var Ne own.value p.var p.value (rw c.in-Negation.is at c.requires.over) c.requires.present
    (differ_stands c.ne.result own.value p.value c.ne.ensures t))

pub returns-in-Negation-clause-lacking : goal.returns-in-Negation-clause-lacking
returns-in-Negation-clause-lacking g c t =
    let own = c.in-Negation.negated in
    let p = c.args.pair in
    rw c.in-Negation.is (value_lacks (present_of c.args.store.now) own.var Ne own.value p.var p.value (rw c.in-Negation.is at c.requires.over)
    (differ_fails c.ne.result own.value p.value c.ne.ensures t))
