use Rattle.std.proofs.Common.{ap, sym, ◌∙◌, cond, [], ◌∷◌}
use Rattle.palm_base.proofs.cited.Telling.{tells_true, tells_false}
use Rattle.palm_domain.specs.Rows.{initial_of, present_of}
use Rattle.filter_occur.proofs.Written.{declared_high, undeclared_high}
use Rattle.filter_occur.proofs.rule.is_removed.Goals as goal

pub returns-then-declared : goal.returns-then-declared
returns-then-declared c =
    declared_high (initial_of c.args.store.now) (present_of c.args.store.now) c.args.pair.now.value c.args.pair.now.var
    c.declared.ensures.ascend (tells_true _ c.declared.result c.declared.ensures.tells c.if-declared.true) c.is_missing.result c.is_missing.ensures

pub returns-else-declared : goal.returns-else-declared
returns-else-declared c =
    undeclared_high (initial_of c.args.store.now) (present_of c.args.store.now) c.args.pair.now.value c.args.pair.now.var
    (tells_false _ c.declared.result c.declared.ensures.tells c.if-declared.false) ∙ sym (ap (λ b. cond b (c.args.pair.now ∷ []) []) c.if-declared.false)
