use Rattle.std.proofs.Common.{◌≡◌, ◌≢◌, ℕ, ℤ, List, [], ◌∷◌, ◌++◌, map, All, sym, ap, ◌∙◌, subst, arith}
use Rattle.std.proofs.lemmas.List.{map_push, get_or-map, length-map}
use Rattle.palm_book.specs.Book.{BookVar, Contents}
use Rattle.palm_book.proofs.cited.BookLemmas.{IsBook-with_variable}
use Rattle.palm_book.proofs.book.Book.add_variable.Goals as goal

pub push_name-requires : goal.push_name-requires
push_name-requires c = λ k d lt e.
    let entry : List ℕ × List ℤ → BookVar = λ e. record { name = e.0; values = e.1 } in
    let es = c.self.inside.variables.entries in
    let fresh : All (λ e. e.name ≢ c.args.name) (map entry es) = subst (λ (b : Contents). All (λ e. e.name ≢ c.args.name) b.variables) (sym c.self.view_is) c.requires.fresh in
    fresh k (entry d) (omega (arith, length-map es entry)) (ap (λ (x : BookVar). x.name) (get_or-map entry es k d (entry d) lt) ∙ e)

pub invariant_of-self-2 : goal.invariant_of-self-2
invariant_of-self-2 c =
    let entry : List ℕ × List ℤ → BookVar = λ e. record { name = e.0; values = e.1 } in
    let added : map entry c.push_name.new.entries.entries ≡ map entry c.self.inside.variables.entries ++ record { name = c.args.name; values = c.args.values } ∷ [] = ap (map entry) c.in_ok-push_name.ensures.ok ∙ map_push entry c.self.inside.variables.entries (c.args.name, c.args.values) in (
      IsBook-with_variable _ _ c.self.view_is c.self.invariant.0 (record { name = c.args.name; values = c.args.values }) _ c.requires.text c.requires.fresh c.requires.values c.requires.room added,
      c.self.invariant.1,
    )
