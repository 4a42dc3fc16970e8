use Rattle.std.proofs.Common.{List, ℕ, map, ◌∷◌, ◌++◌, codes, refl}
use Rattle.std.specs.Fmt.{signed_decimal}
use Rattle.palm_read.specs.Piece.{op_text}
use Rattle.palm_book.specs.Book.{name_of}
use Rattle.palm_book.specs.Named.{named_target}
use Rattle.palm_read.specs.Count.{target_words}
use Rattle.palm_read.specs.Words.{after_spaces}
use Rattle.palm_lang.proofs.PrintLemmas.{Keeps-more, Puts-kept, Puts-more, after_spaces-append}
use Rattle.palm_lang.proofs.print.count.put_count_con.Goals as goal

pub returns : goal.returns
returns c =
    let value = codes " " ++ signed_decimal c.args.value.now in
    let vars : List (List ℕ) = map (name_of c.args.book.now.variables) c.args.vars.now in
    let op = op_text c.args.op in
    let target = target_words (named_target c.args.book.now.variables c.args.target.now) in
    let r = c.put_target_con.result in
    let end = c.put_target_con.new.out.items in
    Puts-more c.args.out.now.items c.put_text.new.out.items end (codes "count") (value ++ after_spaces (vars ++ op ∷ target)) _ r c.in_ok-put_text.ensures refl
    (Puts-more c.put_text.new.out.items c.put_spaced_value.new.out.items end value (after_spaces (vars ++ op ∷ target)) _ r c.in_ok-put_spaced_value.ensures refl
    (Puts-more c.put_spaced_value.new.out.items c.put_vars.new.out.items end (after_spaces vars) (codes " " ++ (op ++ after_spaces target)) _ r c.in_ok-put_vars.ensures (after_spaces-append vars op target)
    (Puts-more c.put_vars.new.out.items c.put_spaced_op.new.out.items end (codes " " ++ op) (after_spaces target) _ r c.in_ok-put_spaced_op.ensures refl c.put_target_con.ensures)))

pub returns-in_err-put_spaced_value : goal.returns-in_err-put_spaced_value
returns-in_err-put_spaced_value c =
    Puts-kept c.args.out.now.items _ _ c.from_residual-in_err-put_spaced_value.result c.from_residual-in_err-put_spaced_value.ensures.0 (Keeps-more _ _ _ _ c.in_ok-put_text.ensures c.in_err-put_spaced_value.ensures)

pub returns-in_err-put_vars : goal.returns-in_err-put_vars
returns-in_err-put_vars c =
    Puts-kept c.args.out.now.items _ _ c.from_residual-in_err-put_vars.result c.from_residual-in_err-put_vars.ensures.0 (Keeps-more _ _ _ _ c.in_ok-put_text.ensures (Keeps-more _ _ _ _ c.in_ok-put_spaced_value.ensures c.in_err-put_vars.ensures))

pub returns-in_err-put_spaced_op : goal.returns-in_err-put_spaced_op
returns-in_err-put_spaced_op c =
    Puts-kept c.args.out.now.items _ _ c.from_residual-in_err-put_spaced_op.result c.from_residual-in_err-put_spaced_op.ensures.0 (Keeps-more _ _ _ _ c.in_ok-put_text.ensures (Keeps-more _ _ _ _ c.in_ok-put_spaced_value.ensures (Keeps-more _ _ _ _ c.in_ok-put_vars.ensures c.in_err-put_spaced_op.ensures)))
