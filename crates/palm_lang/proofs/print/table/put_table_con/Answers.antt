use Rattle.std.proofs.Common.{List, ℕ, ◌∷◌, ◌++◌, codes, map, refl}
use Rattle.palm_book.specs.Book.{name_of}
use Rattle.palm_read.specs.Words.{after_spaces, row_text}
use Rattle.palm_lang.proofs.PrintLemmas.{Keeps-more, Puts-kept, Puts-more, after_spaces-append}
use Rattle.palm_lang.proofs.print.table.put_table_con.Goals as goal

pub returns : goal.returns
returns c =
    let vars : List (List ℕ) = map (name_of c.args.book.now.variables) c.args.vars.now in
    let rows : List (List ℕ) = map row_text c.args.rows.now in
    let r = c.put_rows.result in
    let end = c.put_rows.new.out.items in
    Puts-more c.args.out.now.items c.put_text.new.out.items end (codes "table") (after_spaces (vars ++ codes ":" ∷ rows)) _ r c.in_ok-put_text.ensures refl
    (Puts-more c.put_text.new.out.items c.put_vars.new.out.items end (after_spaces vars) (codes " :" ++ after_spaces rows) (after_spaces (vars ++ codes ":" ∷ rows)) r c.in_ok-put_vars.ensures (after_spaces-append vars (codes ":") rows)
    (Puts-more c.put_vars.new.out.items c.put_text-2.new.out.items end (codes " :") (after_spaces rows) (codes " :" ++ after_spaces rows) r c.in_ok-put_text-2.ensures refl c.put_rows.ensures))

pub returns-in_err-put_vars : goal.returns-in_err-put_vars
returns-in_err-put_vars c =
    Puts-kept c.args.out.now.items _ _ c.from_residual-in_err-put_vars.result c.from_residual-in_err-put_vars.ensures.0 (Keeps-more _ _ _ _ c.in_ok-put_text.ensures c.in_err-put_vars.ensures)

pub returns-in_err-put_text-2 : goal.returns-in_err-put_text-2
returns-in_err-put_text-2 c =
    Puts-kept c.args.out.now.items _ _ c.from_residual-in_err-put_text-2.result c.from_residual-in_err-put_text-2.ensures.0 (Keeps-more _ _ _ _ c.in_ok-put_text.ensures (Keeps-more _ _ _ _ c.in_ok-put_vars.ensures c.in_err-put_text-2.ensures))
