use Rattle.std.proofs.Common.{◌≡◌, ◌∙◌, Some, sym, ap}
use Rattle.std.specs.Prelude.{bytes_eq, slice_get}
use Rattle.std.proofs.lemmas.Bool.Decides.{not_from_Decides}
use Rattle.std.proofs.lemmas.Option.{same_Some, slice_get-get_or}
use Rattle.std.proofs.lemmas.Slice.Eq.{bytes_eq-Decides}
use Rattle.palm_base.proofs.cited.Telling.{tells_both}
use Rattle.proof_check.proofs.users.is_at.Goals as goal

pub returns : goal.returns
returns c =
    let names = c.args.names.now in
    let name = c.args.name.now in
    let item = c.index-names-place.result in
    let at : slice_get names c.args.place ≡ Some item = slice_get-get_or names c.args.place item c.if-place-names.false ∙ ap Some (sym c.index-names-place.is) in
    let decides = bytes_eq-Decides item name in
    tells_both (slice_get names c.args.place ≡ Some name) c.eq.result
    (λ e. at ∙ ap Some (decides.0 (sym c.eq.ensures ∙ e)))
    (λ e here. not_from_Decides (bytes_eq item name) decides (sym c.eq.ensures ∙ e) (same_Some item name (sym at ∙ here)))
