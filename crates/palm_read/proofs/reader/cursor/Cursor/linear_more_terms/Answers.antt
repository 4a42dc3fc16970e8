use Rattle.std.proofs.lemmas.Result.{err_from_is_err_and}
use Rattle.palm_read.specs.Reader.Held.{held_term}
use Rattle.palm_read.specs.Linear.{term_of}
use Rattle.palm_read.specs.Reader.Shapes.{linear_next_term}
use Rattle.palm_read.proofs.Items.{term_item}
use Rattle.palm_read.proofs.cited.Many.{item_shortens, running_start, running_more, running_shorter, running_over, running_fails}
use Rattle.palm_read.proofs.reader.cursor.Cursor.linear_more_terms.Goals as goal

pub loop-terms-init : goal.loop-terms-init
loop-terms-init c = running_start linear_next_term (λ t. term_of (held_term t)) c.args.self.now c.args.terms

pub returns-in_err-term : goal.returns-in_err-term
returns-in_err-term c =
    let p = err_from_is_err_and c.from_residual.result c.from_residual.ensures.1 in
    rw (p.1, p.2) (running_fails linear_next_term (λ t. term_of (held_term t)) c.args.self.now c.loop-terms.self c.linear_next_term.new.self c.args.terms c.loop-terms.terms c.in_err-term.field-0.0 c.loop-terms.invariant c.in_err-term.ensures)

pub loop-terms-smaller : goal.loop-terms-smaller
loop-terms-smaller c =
    running_shorter linear_next_term (item_shortens term_item) (λ t. term_of (held_term t)) c.loop-terms.self c.linear_next_term.new.self c.in-Some.term (rw c.in-Some.is at c.in_ok-term.ensures)

pub loop-terms-preserved : goal.loop-terms-preserved
loop-terms-preserved c =
    rw c.in_ok-push.ensures.ok (running_more linear_next_term (item_shortens term_item) (λ t. term_of (held_term t)) c.args.self.now c.loop-terms.self c.linear_next_term.new.self c.args.terms c.loop-terms.terms c.in-Some.term c.loop-terms.invariant (rw c.in-Some.is at c.in_ok-term.ensures))

pub returns : goal.returns
returns c =
    running_over linear_next_term (λ t. term_of (held_term t)) c.args.self.now c.loop-terms.self c.linear_next_term.new.self c.args.terms c.loop-terms.terms c.loop-terms.invariant (rw c.in_default.is at c.in_ok-term.ensures)
