use Rattle.std.proofs.Common.{◌++◌, ◌∙◌, append_assoc, codes, map, ap, refl}
use Rattle.palm_book.specs.Book.{number_name, user_name}
use Rattle.palm_read.specs.Words.{after_spaces}
use Rattle.palm_lang.proofs.PrintLemmas.{Keeps-more, Puts-kept, Puts-more}
use Rattle.palm_lang.proofs.print.replies.put_leave.Goals as goal

pub returns-in_err-put_name : goal.returns-in_err-put_name
returns-in_err-put_name c =
    Puts-kept c.args.out.now.items _ _ c.from_residual-in_err-put_name.result c.from_residual-in_err-put_name.ensures.0 (Keeps-more _ _ _ _ c.in_ok-put_text.ensures c.in_err-put_name.ensures)

pub returns-in_err-put_text-2 : goal.returns-in_err-put_text-2
returns-in_err-put_text-2 c =
    Puts-kept c.args.out.now.items _ _ c.from_residual-in_err-put_text-2.result c.from_residual-in_err-put_text-2.ensures.0 (Keeps-more _ _ _ _ c.in_ok-put_text.ensures (Keeps-more _ _ _ _ c.in_ok-put_name.ensures c.in_err-put_text-2.ensures))

pub returns-in_err-put_users : goal.returns-in_err-put_users
returns-in_err-put_users c =
    Puts-kept c.args.out.now.items _ _ c.from_residual-in_err-put_users.result c.from_residual-in_err-put_users.ensures.0 (Keeps-more _ _ _ _ c.in_ok-put_text.ensures (Keeps-more _ _ _ _ c.in_ok-put_name.ensures (Keeps-more _ _ _ _ c.in_ok-put_text-2.ensures c.in_err-put_users.ensures)))

pub returns : goal.returns
returns c =
    let constraints = c.args.book.now.constraints in
    let users = after_spaces (map (user_name constraints) c.args.users.now) in
    let named = c.in_ok-put_name.ensures ∙ ap (λ name. c.put_text.new.out.items ++ name) c.constraint_name.ensures in
    let apart = append_assoc (number_name constraints c.args.number) (codes " conflict" ++ users) (codes "\n") in
    Puts-more c.args.out.now.items c.put_text.new.out.items c.put_text-3.new.out.items _ _ _ c.put_text-3.result c.in_ok-put_text.ensures refl
    (Puts-more c.put_text.new.out.items c.put_name.new.out.items c.put_text-3.new.out.items _ _ _ c.put_text-3.result named apart
    (Puts-more c.put_name.new.out.items c.put_text-2.new.out.items c.put_text-3.new.out.items _ _ _ c.put_text-3.result c.in_ok-put_text-2.ensures refl
    (Puts-more c.put_text-2.new.out.items c.put_users.new.out.items c.put_text-3.new.out.items _ _ _ c.put_text-3.result c.in_ok-put_users.ensures refl c.put_text-3.ensures)))
