use Rattle.std.proofs.Common.{◌∙◌, List, ap, sym, subst}
use Rattle.palm_book.specs.Book.{Contents}
use Rattle.palm_model.specs.Log.{Removal}
use Rattle.palm_model.specs.State.{EngineState}
use Rattle.palm_session.specs.Logged.{AreLogged}
use Rattle.palm_session.proofs.Users.{are_logged}
use Rattle.palm_session.proofs.deliver.write_log.Goals as goal

pub write_removals-requires : goal.write_removals-requires
write_removals-requires g c =
    let s = c.args.desk.now.state in
    let log = c.log.ensures ∙ ap (λ (e : EngineState). e.log) c.engine.ensures.state in
    subst (λ (b : Contents). AreLogged b c.log.result.now.log) (sym c.book.ensures) (subst (λ (rs : List Removal). AreLogged s.book rs) (sym log) (are_logged s c.requires))
