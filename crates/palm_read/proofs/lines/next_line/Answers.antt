use Rattle.std.proofs.Common.{◌≡◌, ℕ, ◌-◌, List, length, drop, ap, ◌∙◌, sym, subst, arith}
use Rattle.std.specs.Prelude.{slice_range}
use Rattle.std.proofs.lemmas.List.{length-drop, take_all}
use Rattle.palm_read.specs.Lines.{IsNextLine, without_return}
use Rattle.palm_read.proofs.cited.Cutting.{line_to_end, line_to_feed}
use Rattle.palm_read.proofs.lines.next_line.Goals as goal

pub returns-in-Some-clause-some : goal.returns-in-Some-clause-some
returns-in-Some-clause-some c = rw c.without_return.ensures (line_to_feed c.args.text.now c.args.from c.in-Some.end c.in-Some.ensures.found)

pub returns-in-None-clause-some : goal.returns-in-None-clause-some
returns-in-None-clause-some c =
    let text : List ℕ = c.args.text.now in
    let from : ℕ = c.args.from in
    let whole : slice_range text from (length text) ≡ drop from text = take_all (length text - from) (drop from text) (omega (arith, length-drop from text)) in
    subst (λ (line : List ℕ). IsNextLine text from line (length text)) (sym (c.without_return-in-None.ensures ∙ ap without_return whole))
    (line_to_end text from (omega (arith, c.requires, c.if-from-text.false)) c.in-None.ensures.none)
