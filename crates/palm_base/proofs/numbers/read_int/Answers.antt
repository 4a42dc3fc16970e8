use Rattle.std.proofs.Common.{sym}
use Rattle.std.proofs.lemmas.Str.{IsUtf8-from_ascii}
use Rattle.palm_base.proofs.cited.Numerals.{ascii, found, none, text_reads}
use Rattle.palm_base.proofs.numbers.read_int.Goals as goal

pub returns-in_default-clause-none : goal.returns-in_default-clause-none
returns-in_default-clause-none c = λ z t f. c.in_default.ensures.cases.0 (IsUtf8-from_ascii _ (ascii _ z t))

pub returns-clause-found : goal.returns-clause-found
returns-clause-found c =
    found c.args.bytes.now c.parse.result _ c.ok.ensures.value (text_reads c.args.bytes.now c.in-Ok.text.now _ c.in-Ok.ensures.cases.0 (sym c.if-starts_with.ensures.value) c.parse.ensures.value.0)

pub returns-clause-none : goal.returns-clause-none
returns-clause-none c =
    none c.args.bytes.now c.parse.result _ c.ok.ensures.value (text_reads c.args.bytes.now c.in-Ok.text.now _ c.in-Ok.ensures.cases.0 (sym c.if-starts_with.ensures.value) c.parse.ensures.value.0)
