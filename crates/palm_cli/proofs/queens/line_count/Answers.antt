use Rattle.std.proofs.Common.{◌≡◌, ◌+◌, ◌*◌, ℕ, sym, ap, ◌∙◌}
use Rattle.palm_cli.proofs.QueenLines.{line_count_is}
use Rattle.palm_cli.proofs.queens.line_count.Goals as goal

pub returns-else-size-eq1 : goal.returns-else-size-eq1
returns-else-size-eq1 c =
    let same : c.from-size.result ≡ c.args.size = c.from-size.ensures in
    ap (λ (n : ℕ). n * n + 4) same ∙ sym (line_count_is c.args.size c.requires.some (λ e. c.if-size-eq1.false (same ∙ e)))
