use Rattle.std.proofs.Common.{length}
use Rattle.palm_read.specs.Reader.Held.{held_term}
use Rattle.palm_read.specs.Linear.{term_of}
use Rattle.palm_read.specs.Reader.Shapes.{linear_next_term}
use Rattle.palm_read.proofs.cited.Many.{Running}
use Rattle.palm_read.proofs.reader.cursor.Cursor.linear_more_terms.Given as goal

abbrev pub invariant-loop-terms : goal.invariant-loop-terms
invariant-loop-terms l = Running linear_next_term (λ t. term_of (held_term t)) l.initial.self l.self l.initial.terms l.terms

abbrev pub decreases-loop-terms : goal.decreases-loop-terms
decreases-loop-terms l = length l.self
