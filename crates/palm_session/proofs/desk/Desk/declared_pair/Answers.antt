use Rattle.std.proofs.Common.{◌≡◌, ◌<◌, ◌∙◌, length, refl, ap, subst}
use Rattle.palm_base.specs.Tells.{Tells}
use Rattle.palm_base.proofs.cited.Telling.{tells_true}
use Rattle.palm_book.specs.Book.{Contents, name_of}
use Rattle.palm_model.specs.Domains.{Domains, Has}
use Rattle.palm_model.specs.State.{EngineState}
use Rattle.palm_session.proofs.Declaring.{declared_asked}
use Rattle.palm_session.proofs.desk.Desk.declared_pair.Goals as goal

pub returns : goal.returns
returns g c =
    let s = c.args.self.now.state in
    let name = c.args.name.now in
    let x = c.in-Some.var in
    let found = subst (λ (b : Contents). (x < length b.variables) × (name_of b.variables x ≡ name)) c.book.ensures c.in-Some.ensures.found in
    let kept = c.store.ensures.initial ∙ ap (λ (e : EngineState). e.initial) c.engine.ensures.state in
    let tells = subst (λ (k : Domains). Tells c.declared.result (Has k x c.args.value)) kept c.declared.ensures.tells in
    let has = tells_true _ c.declared.result tells c.if-not-declared.false in (
      record { variable = record { declared = found.0; named = found.1 }; gives = refl },
      declared_asked s c.requires name x found.0 found.1 c.args.value has,
    )
