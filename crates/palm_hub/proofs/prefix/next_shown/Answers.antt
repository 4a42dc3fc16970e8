use Rattle.std.proofs.Common.{ap, cond, length, sym, ◌∙◌}
use Rattle.palm_hub.proofs.Marks.{ends_with_feed}
use Rattle.palm_hub.proofs.prefix.next_shown.Goals as goal

pub returns-then-ends_with : goal.returns-then-ends_with
returns-then-ends_with c =
    let begins = sym (ends_with_feed c.args.bytes.now) ∙ sym c.ends_with.ensures.value ∙ c.if-ends_with.true in
    ap (λ s. cond s 0 (length c.args.prefix.now)) (sym begins)

pub returns-else-ends_with : goal.returns-else-ends_with
returns-else-ends_with c =
    let begins = sym (ends_with_feed c.args.bytes.now) ∙ sym c.ends_with.ensures.value ∙ c.if-ends_with.false in
    ap (λ s. cond s 0 (length c.args.prefix.now)) (sym begins)
