use Rattle.std.proofs.Common.{◌≡◌, ◌∙◌, Any, length, subst}
use Rattle.palm_domain.specs.Rows.{present_of}
use Rattle.palm_kind.specs.Kind.{con_of}
use Rattle.palm_listed.proofs.Outside.{absent_lacks, outside_supported}
use Rattle.palm_listed.proofs.without.lacks_support.Goals as goal

pub returns-then-not-is_among : goal.returns-then-not-is_among
returns-then-not-is_among c =
    outside_supported (present_of c.args.store.now) (con_of c.args.filter.now) c.args.pair.now.var c.args.pair.now.value
    (subst (λ xs. Any (λ x. x ≡ c.args.pair.now.var) xs → ⊥) (c.as_slice.ensures ∙ c.scope.ensures.scope) c.if-not-is_among.ensures)

pub returns-then-not-contains : goal.returns-then-not-contains
returns-then-not-contains c =
    absent_lacks (length c.args.store.now) (present_of c.args.store.now) (con_of c.args.filter.now) c.args.pair.now.var c.args.pair.now.value c.requires.formed
    (subst (λ xs. Any (λ x. x ≡ c.args.pair.now.var) xs) (c.as_slice.ensures ∙ c.scope.ensures.scope) c.if-not-is_among.ensures) c.if-not-contains.ensures
