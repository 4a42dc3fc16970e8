use Rattle.std.proofs.Common.{◌≡◌, ◌∙◌, cond, is_ok, ap}
use Rattle.std.specs.List.{insert}
use Rattle.palm_explain.specs.declared.rows.TheConstants.{NO_NUMBER}
use Rattle.palm_explain.specs.Rows.{IsFormedRow}
use Rattle.palm_explain.proofs.RowNumbers.{between_in, inserted_ascends, inserted_length, inserted_only, inserted_others, inserted_stay}
use Rattle.palm_explain.proofs.rows.Row.place_for.Goals as goal

pub returns-in_ok-insert-in-Err-clause-formed : goal.returns-in_ok-insert-in-Err-clause-formed
returns-in_ok-insert-in-Err-clause-formed c =
    let r = c.args.self.now in
    let v = c.args.value in
    let i = c.in-Err.place in
    let formed : IsFormedRow r = record { ascends = c.requires.ascends; numbers = c.requires.numbers } in
    let b = between_in r.values.items v c.binary_search.result i c.in-Err.is formed.ascends (rw c.deref.ensures.value at c.binary_search.ensures.bound) (rw c.deref.ensures.value at c.binary_search.ensures.position) in
    let longer : c.insert.new.self.items ≡ insert r.values.items i v = c.in_ok-insert-in-Err.ensures.items in
    let more : c.insert-in-Err.new.self.items ≡ insert r.numbers.items i NO_NUMBER =
    c.insert-in-Err.ensures.items ∙ ap (λ q. cond (is_ok q) (insert c.reserve.new.self.items i NO_NUMBER) c.reserve.new.self.items) c.unwrap.ensures ∙ ap (λ l. insert l i NO_NUMBER) c.reserve.ensures.items in
    record { ascends = inserted_ascends r v i c.insert.new.self.items c.insert-in-Err.new.self.items formed b longer more; numbers = inserted_length r v i c.insert.new.self.items c.insert-in-Err.new.self.items formed b longer more }

pub returns-in_ok-insert-in-Err-clause-stay : goal.returns-in_ok-insert-in-Err-clause-stay
returns-in_ok-insert-in-Err-clause-stay c =
    let r = c.args.self.now in
    let v = c.args.value in
    let i = c.in-Err.place in
    let formed : IsFormedRow r = record { ascends = c.requires.ascends; numbers = c.requires.numbers } in
    let b = between_in r.values.items v c.binary_search.result i c.in-Err.is formed.ascends (rw c.deref.ensures.value at c.binary_search.ensures.bound) (rw c.deref.ensures.value at c.binary_search.ensures.position) in
    let longer : c.insert.new.self.items ≡ insert r.values.items i v = c.in_ok-insert-in-Err.ensures.items in
    let more : c.insert-in-Err.new.self.items ≡ insert r.numbers.items i NO_NUMBER =
    c.insert-in-Err.ensures.items ∙ ap (λ q. cond (is_ok q) (insert c.reserve.new.self.items i NO_NUMBER) c.reserve.new.self.items) c.unwrap.ensures ∙ ap (λ l. insert l i NO_NUMBER) c.reserve.ensures.items in
    inserted_stay r v i c.insert.new.self.items c.insert-in-Err.new.self.items formed b longer more

pub returns-in_ok-insert-in-Err-clause-only : goal.returns-in_ok-insert-in-Err-clause-only
returns-in_ok-insert-in-Err-clause-only c =
    let r = c.args.self.now in
    let v = c.args.value in
    let i = c.in-Err.place in
    let formed : IsFormedRow r = record { ascends = c.requires.ascends; numbers = c.requires.numbers } in
    let b = between_in r.values.items v c.binary_search.result i c.in-Err.is formed.ascends (rw c.deref.ensures.value at c.binary_search.ensures.bound) (rw c.deref.ensures.value at c.binary_search.ensures.position) in
    let longer : c.insert.new.self.items ≡ insert r.values.items i v = c.in_ok-insert-in-Err.ensures.items in
    let more : c.insert-in-Err.new.self.items ≡ insert r.numbers.items i NO_NUMBER =
    c.insert-in-Err.ensures.items ∙ ap (λ q. cond (is_ok q) (insert c.reserve.new.self.items i NO_NUMBER) c.reserve.new.self.items) c.unwrap.ensures ∙ ap (λ l. insert l i NO_NUMBER) c.reserve.ensures.items in
    inserted_only r v i c.insert.new.self.items c.insert-in-Err.new.self.items formed b longer more

pub returns-in_ok-insert-in-Err-clause-others : goal.returns-in_ok-insert-in-Err-clause-others
returns-in_ok-insert-in-Err-clause-others c =
    let r = c.args.self.now in
    let v = c.args.value in
    let i = c.in-Err.place in
    let formed : IsFormedRow r = record { ascends = c.requires.ascends; numbers = c.requires.numbers } in
    let b = between_in r.values.items v c.binary_search.result i c.in-Err.is formed.ascends (rw c.deref.ensures.value at c.binary_search.ensures.bound) (rw c.deref.ensures.value at c.binary_search.ensures.position) in
    let longer : c.insert.new.self.items ≡ insert r.values.items i v = c.in_ok-insert-in-Err.ensures.items in
    let more : c.insert-in-Err.new.self.items ≡ insert r.numbers.items i NO_NUMBER =
    c.insert-in-Err.ensures.items ∙ ap (λ q. cond (is_ok q) (insert c.reserve.new.self.items i NO_NUMBER) c.reserve.new.self.items) c.unwrap.ensures ∙ ap (λ l. insert l i NO_NUMBER) c.reserve.ensures.items in
    inserted_others r v i c.insert.new.self.items c.insert-in-Err.new.self.items formed b longer more
