use Rattle.std.proofs.Common.{◌<◌, All, length, sym, subst, arith}
use Rattle.palm_model.specs.Constraint.{scope}
use Rattle.palm_model.specs.declared.constraint.Con.{Con}
use Rattle.tests_reduce.proofs.Lending.{all_lend, first_none, first_posted, not_yet}
use Rattle.tests_reduce.proofs.lender.post_all.Goals as goal

pub loop-place-init : goal.loop-place-init
loop-place-init c =
    first_none c.args.book.now.constraints (length c.args.book.now.variables) c.args.engine.now.state c.requires.variables c.requires.active

pub from_con-requires : goal.from_con-requires
from_con-requires c = (length c.args.book.now.variables, c.constraint-entry.ensures.formed)

pub post-requires-clause-inactive : goal.post-requires-clause-inactive
post-requires-clause-inactive c =
    not_yet c.args.book.now.constraints (length c.args.book.now.variables) c.loop-place.place c.constraint-entry.result.now c.constraint-entry.ensures.at
    c.loop-place.engine.state c.loop-place.invariant c.constraints-place-end.ensures.valid.rising

pub post-requires-clause-declared : goal.post-requires-clause-declared
post-requires-clause-declared c =
    subst (λ (d : Con). All (λ x. x < length c.loop-place.engine.state.initial) (scope d)) (sym c.in_ok-from_con.ensures)
    (subst (λ n. All (λ x. x < n) (scope c.constraint-entry.result.now.con)) (sym c.loop-place.invariant.count) c.constraint-entry.ensures.formed.declared)

pub loop-place-preserved : goal.loop-place-preserved
loop-place-preserved c =
    first_posted c.args.book.now.constraints (length c.args.book.now.variables) c.loop-place.place c.constraint-entry.result.now c.constraint-entry.ensures.at
    c.loop-place.engine.state c.loop-place.invariant c.constraints-place-end.ensures.valid.rising _ c.in_ok-from_con.ensures c.post.new.self.state c.in_ok-post.ensures.ok

pub returns : goal.returns
returns c =
    all_lend c.args.book.now (length c.args.book.now.variables) c.loop-place.place c.loop-place.engine.state
    (omega (arith, c.loop-place-test.false, c.constraints-place-end.ensures.count)) c.loop-place.invariant
