use Rattle.std.proofs.Common.{List, ℕ, ◌∷◌, ◌++◌, codes, map, refl}
use Rattle.palm_read.specs.Words.{after_spaces, row_text}
use Rattle.palm_lang.proofs.PrintLemmas.{Keeps-more, Puts-kept, Puts-more, after_spaces-append}
use Rattle.palm_lang.proofs.print.table.put_table.Goals as goal

pub returns : goal.returns
returns c =
    let vars = c.args.vars.now in
    let rows : List (List ℕ) = map row_text c.args.rows.now in
    let r = c.put_rows.result in
    let end = c.put_rows.new.out.items in
    Puts-more c.args.out.now.items c.put_text.new.out.items end (codes "table") (after_spaces (vars ++ codes ":" ∷ rows)) _ r c.in_ok-put_text.ensures refl
    (Puts-more c.put_text.new.out.items c.put_names.new.out.items end (after_spaces vars) (codes " :" ++ after_spaces rows) (after_spaces (vars ++ codes ":" ∷ rows)) r c.in_ok-put_names.ensures (after_spaces-append vars (codes ":") rows)
    (Puts-more c.put_names.new.out.items c.put_text-2.new.out.items end (codes " :") (after_spaces rows) (codes " :" ++ after_spaces rows) r c.in_ok-put_text-2.ensures refl c.put_rows.ensures))

pub returns-in_err-put_names : goal.returns-in_err-put_names
returns-in_err-put_names c =
    Puts-kept c.args.out.now.items _ _ c.from_residual-in_err-put_names.result c.from_residual-in_err-put_names.ensures.0 (Keeps-more _ _ _ _ c.in_ok-put_text.ensures c.in_err-put_names.ensures)

pub returns-in_err-put_text-2 : goal.returns-in_err-put_text-2
returns-in_err-put_text-2 c =
    Puts-kept c.args.out.now.items _ _ c.from_residual-in_err-put_text-2.result c.from_residual-in_err-put_text-2.ensures.0 (Keeps-more _ _ _ _ c.in_ok-put_text.ensures (Keeps-more _ _ _ _ c.in_ok-put_names.ensures c.in_err-put_text-2.ensures))
