use Rattle.palm_session.specs.Effects.{DeclaresNext}
use Rattle.palm_session.proofs.cited.LawsOfChanges.{adds_behind, declares_keep}
use Rattle.palm_session.proofs.desk.Desk.obey_declare_in.Goals as goal

pub add-requires-clause-held : goal.add-requires-clause-held
add-requires-clause-held g c =
    let declares : DeclaresNext c.args.self.now.state c.args.name c.args.universe c.declare.new.self.state
    = rw (c.in_ok-copy.ensures, c.in_ok-values.ensures.values) at c.in_ok-declare.ensures.ok in
    declares_keep c.args.self.now.state c.declare.new.self.state c.args.name c.args.universe c.requires.held c.requires.can.declare declares

pub add-requires-clause-can : goal.add-requires-clause-can
add-requires-clause-can g c =
    let declares : DeclaresNext c.args.self.now.state c.args.name c.args.universe c.declare.new.self.state
    = rw (c.in_ok-copy.ensures, c.in_ok-values.ensures.values) at c.in_ok-declare.ensures.ok in
    rw (c.in_ok-values_in.ensures.values, c.variables.ensures.count, c.book.ensures)
    (adds_behind c.args.self.now.state c.declare.new.self.state c.args.name c.args.universe c.args.domain c.requires.can declares)
