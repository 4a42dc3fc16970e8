use Rattle.std.proofs.Common.{◌≡◌, ◌≢◌, ℕ, List, [], ◌∷◌, ◌++◌, map, All, sym, ap, ◌∙◌, subst}
use Rattle.std.proofs.lemmas.List.{map_push}
use Rattle.palm_book.specs.Book.{Contents}
use Rattle.palm_book.specs.declared.book.BookCon.{BookCon}
use Rattle.palm_book.proofs.cited.BookLemmas.{IsBook-with_constraint, AreKeyed-push, keys_fresh}
use Rattle.palm_book.proofs.book.Book.add_constraint.Goals as goal

pub push_name-requires : goal.push_name-requires
push_name-requires c =
    keys_fresh c.self.inside.constraints.entries c.args.entry.name c.in_ok-name.name c.self.invariant.1 c.in_ok-name.ensures (subst (λ (b : Contents). All (λ x. x.name ≢ c.args.entry.name) b.constraints) (sym c.self.view_is) c.requires.fresh)

pub invariant_of-self-2 : goal.invariant_of-self-2
invariant_of-self-2 c =
    let es = c.self.inside.constraints.entries in
    let second : List ℕ × BookCon → BookCon = λ e. e.1 in
    let added : map second c.push_name.new.entries.entries ≡ map second es ++ c.args.entry ∷ [] = ap (map second) c.in_ok-push_name.ensures.ok ∙ map_push second es (c.in_ok-name.name, c.args.entry) in (
      IsBook-with_constraint _ _ c.self.view_is c.self.invariant.0 c.args.entry _ c.requires.text c.requires.fresh c.requires.rising c.requires.formed c.requires.room added,
      AreKeyed-push es _ c.in_ok-name.name c.args.entry c.self.invariant.1 c.in_ok-name.ensures c.in_ok-push_name.ensures.ok,
    )
