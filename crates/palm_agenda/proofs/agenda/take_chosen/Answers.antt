use Rattle.std.proofs.Common.{◌≡◌, ◌∙◌, ◌<◌, Some, ap, length, subst, sym}
use Rattle.std.proofs.lemmas.Option.{get_or_from_slice_get, slice_get-get_or}
use Rattle.palm_agenda.specs.Agenda.{index_within}
use Rattle.palm_agenda.proofs.Flagged.{removed_from}
use Rattle.palm_agenda.proofs.cited.Keeping.{index_lower}
use Rattle.palm_agenda.proofs.agenda.take_chosen.Goals as goal

pub returns-clause-left : goal.returns-clause-left
returns-clause-left c =
    let same : c.index_of-index.result ≡ index_within c.args.answer (length c.args.shown.now.items) =
    c.index_of-index.ensures ∙ ap (λ cs. index_within c.args.answer (length cs)) c.deref.ensures.value in
    let within : c.index_of-index.result < length c.args.shown.now.items =
    subst (λ k. k < length c.args.shown.now.items) (sym same) (index_lower c.args.shown.now.items c.args.answer c.requires.some) in
    c.remove.ensures.items
    ∙ removed_from c.remove.result c.args.shown.now.items c.index_of-index.result c.requires.rising within
    (λ d. get_or_from_slice_get c.args.shown.now.items c.index_of-index.result c.remove.result d
    (slice_get-get_or c.args.shown.now.items c.index_of-index.result c.remove.result within ∙ ap Some (sym c.remove.ensures.value)))
