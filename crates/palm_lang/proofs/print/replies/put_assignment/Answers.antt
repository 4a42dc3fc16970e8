use Rattle.std.proofs.Common.{◌≡◌, ◌<◌, ◌≤◌, ◌++◌, ℕ, ℤ, List, length, map, take, zip, codes, sym, ap, ◌∙◌, subst, append_assoc, arith}
use Rattle.std.specs.Fmt.{signed_decimal}
use Rattle.std.proofs.lemmas.List.{take_all}
use Rattle.std.proofs.lemmas.Slice.Zip.{length-zip}
use Rattle.palm_book.specs.Book.{BookVar, name_of}
use Rattle.palm_lang.specs.Reply.{assigned_text}
use Rattle.palm_read.specs.Words.{after_spaces}
use Rattle.palm_lang.proofs.PrintLemmas.{Puts-failed, assigned_more}
use Rattle.palm_lang.proofs.print.replies.put_assignment.Goals as goal

pub loop-var-preserved : goal.loop-var-preserved
loop-var-preserved c =
    let variables = c.args.book.now.variables in
    let values = c.as_slice-values.result.now in
    let i = c.loop-var.var in
    let value = c.index-values-var.result in
    let before = c.args.out.now.items in
    let same : length values ≡ length variables = ap length c.as_slice-values.ensures ∙ c.requires in
    let end = c.variables-var-end.ensures.count in
    let within : i < length values = omega arith in
    let more = assigned_more variables values i value within same c.index-values-var.is in
    let piece : List ℕ = codes " " ++ (name_of variables i ++ codes "=" ++ signed_decimal value) in
    let put : c.put_assigned.new.out.items ≡ c.loop-var.out.items ++ piece = subst (λ (name : List ℕ). c.put_assigned.new.out.items ≡ c.loop-var.out.items ++ (codes " " ++ (name ++ codes "=" ++ signed_decimal value))) c.variable_name.ensures c.in_ok-put_assigned.ensures in
    put ∙ ap (λ (m : List ℕ). m ++ piece) c.loop-var.invariant ∙ append_assoc before (after_spaces (map assigned_text (take i (zip variables values)))) piece ∙ ap (λ (t : List ℕ). before ++ t) (sym more)

pub returns : goal.returns
returns c =
    let variables = c.args.book.now.variables in
    let values = c.as_slice-values.result.now in
    let i = c.loop-var.var in
    let all : length (zip variables values) ≤ i = let end = c.variables-var-end.ensures.count in omega (arith, length-zip variables values) in
    c.loop-var.invariant ∙ ap (λ (ps : List (BookVar × ℤ)). c.args.out.now.items ++ after_spaces (map assigned_text ps)) (take_all i (zip variables values) all) ∙ ap (λ (vs : List ℤ). c.args.out.now.items ++ after_spaces (map assigned_text (zip variables vs))) c.as_slice-values.ensures

pub returns-in_err-put_assigned : goal.returns-in_err-put_assigned
returns-in_err-put_assigned c =
    Puts-failed c.args.out.now.items c.loop-var.out.items c.put_assigned.new.out.items _ _ c.from_residual.result c.from_residual.ensures.0 c.loop-var.invariant c.in_err-put_assigned.ensures
