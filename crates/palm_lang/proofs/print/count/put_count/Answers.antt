use Rattle.std.proofs.Common.{◌∷◌, ◌++◌, codes, refl}
use Rattle.std.specs.Fmt.{signed_decimal}
use Rattle.palm_read.specs.Piece.{op_text}
use Rattle.palm_read.specs.Count.{target_words}
use Rattle.palm_read.specs.Words.{after_spaces}
use Rattle.palm_lang.proofs.PrintLemmas.{Keeps-more, Puts-kept, Puts-more, after_spaces-append}
use Rattle.palm_lang.proofs.print.count.put_count.Goals as goal

pub returns : goal.returns
returns c =
    let value = codes " " ++ signed_decimal c.args.value.now in
    let vars = c.args.vars.now in
    let op = op_text c.args.op in
    let target = target_words c.args.target.now in
    let r = c.put_target.result in
    let end = c.put_target.new.out.items in
    Puts-more c.args.out.now.items c.put_text.new.out.items end (codes "count") (value ++ after_spaces (vars ++ op ∷ target)) _ r c.in_ok-put_text.ensures refl
    (Puts-more c.put_text.new.out.items c.put_spaced_value.new.out.items end value (after_spaces (vars ++ op ∷ target)) _ r c.in_ok-put_spaced_value.ensures refl
    (Puts-more c.put_spaced_value.new.out.items c.put_names.new.out.items end (after_spaces vars) (codes " " ++ (op ++ after_spaces target)) _ r c.in_ok-put_names.ensures (after_spaces-append vars op target)
    (Puts-more c.put_names.new.out.items c.put_spaced_op.new.out.items end (codes " " ++ op) (after_spaces target) _ r c.in_ok-put_spaced_op.ensures refl c.put_target.ensures)))

pub returns-in_err-put_spaced_value : goal.returns-in_err-put_spaced_value
returns-in_err-put_spaced_value c =
    Puts-kept c.args.out.now.items _ _ c.from_residual-in_err-put_spaced_value.result c.from_residual-in_err-put_spaced_value.ensures.0 (Keeps-more _ _ _ _ c.in_ok-put_text.ensures c.in_err-put_spaced_value.ensures)

pub returns-in_err-put_names : goal.returns-in_err-put_names
returns-in_err-put_names c =
    Puts-kept c.args.out.now.items _ _ c.from_residual-in_err-put_names.result c.from_residual-in_err-put_names.ensures.0 (Keeps-more _ _ _ _ c.in_ok-put_text.ensures (Keeps-more _ _ _ _ c.in_ok-put_spaced_value.ensures c.in_err-put_names.ensures))

pub returns-in_err-put_spaced_op : goal.returns-in_err-put_spaced_op
returns-in_err-put_spaced_op c =
    Puts-kept c.args.out.now.items _ _ c.from_residual-in_err-put_spaced_op.result c.from_residual-in_err-put_spaced_op.ensures.0 (Keeps-more _ _ _ _ c.in_ok-put_text.ensures (Keeps-more _ _ _ _ c.in_ok-put_spaced_value.ensures (Keeps-more _ _ _ _ c.in_ok-put_names.ensures c.in_err-put_spaced_op.ensures)))
