use Rattle.std.proofs.Common.{List, OnOk, sym, subst}
use Rattle.palm_base.specs.declared.terms.Cid.{Cid}
use Rattle.palm_model.proofs.cited.Narrowing.{has_declared}
use Rattle.palm_model.specs.Event.{Posts}
use Rattle.palm_model.specs.State.{AreJustifiers, negation_of}
use Rattle.palm_engine.proofs.Keeping.{one_declared}
use Rattle.palm_engine.proofs.engine.Engine.forbid.Goals as goal

pub activate-requires-clause-inactive : goal.activate-requires-clause-inactive
activate-requires-clause-inactive g c = c.requires.inactive

pub activate-requires-clause-declared : goal.activate-requires-clause-declared
activate-requires-clause-declared g c = one_declared _ c.args.pair.var (has_declared c.args.self.now.state.initial c.args.pair.var c.args.pair.value c.requires.declared)

pub activate-requires-clause-justifiers : goal.activate-requires-clause-justifiers
activate-requires-clause-justifiers g c = subst (AreJustifiers c.args.self.now.state.active) (sym c.in_ok-justification.ensures) c.requires.justifiers

pub returns-clause-ok : goal.returns-clause-ok
returns-clause-ok g c = subst (λ (l : List Cid). OnOk c.activate.result (Posts c.args.self.now.state (negation_of c.args.pair l) c.activate.new.self.state)) c.in_ok-justification.ensures c.activate.ensures.ok
