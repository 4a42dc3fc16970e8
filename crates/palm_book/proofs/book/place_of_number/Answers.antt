use Rattle.std.proofs.Common.{rules}
use Rattle.std.proofs.lemmas.List.Sorted.{answers_always}
use Rattle.palm_book.proofs.NumberLemmas.{found_number, no_number}
use Rattle.palm_book.proofs.book.place_of_number.Goals as goal

pub returns-clause-found : goal.returns-clause-found
returns-clause-found c =
    rw c.ok.ensures.value (found_number (λ x. x.number) c.args.number c.args.constraints.now c.binary_search_by_key.result c.binary_search_by_key.ensures.bound (c.binary_search_by_key.ensures.position (λ x. x.number) (answers_always _ _ _ (λ f a r g h. search rules))))

pub returns-clause-none : goal.returns-clause-none
returns-clause-none c =
    rw c.ok.ensures.value (no_number (λ x. x.number) c.args.number c.args.constraints.now c.binary_search_by_key.result c.requires (c.binary_search_by_key.ensures.position (λ x. x.number) (answers_always _ _ _ (λ f a r g h. search rules))))
