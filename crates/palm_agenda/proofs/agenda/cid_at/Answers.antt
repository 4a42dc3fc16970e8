use Rattle.std.proofs.Common.{◌∙◌, Some, ap, arith, sym}
use Rattle.std.proofs.lemmas.List.{get_or-map, length-map}
use Rattle.std.proofs.lemmas.Option.{slice_get-get_or}
use Rattle.palm_agenda.specs.Agenda.{connected_cids}
use Rattle.palm_agenda.proofs.cited.Connecting.{cid_of}
use Rattle.palm_agenda.proofs.agenda.cid_at.Goals as goal

pub returns : goal.returns
returns c =
    let many = length-map c.args.connections.now cid_of in
    let within = c.requires in
    slice_get-get_or (connected_cids c.args.connections.now) c.args.place c.cid.result (omega arith)
    ∙ ap Some (get_or-map cid_of c.args.connections.now c.args.place c.at.result.now c.cid.result c.requires ∙ ap cid_of (sym c.at.ensures) ∙ sym c.cid.ensures)
