use Rattle.std.proofs.Common.{◌-◌, length, sym, ◌∙◌}
use Rattle.std.proofs.lemmas.Bool.{false≢true}
use Rattle.std.proofs.lemmas.Bool.Decides.{Decides-eqb}
use Rattle.palm_base.proofs.cited.Telling.{tells_both}
use Rattle.palm_domain.specs.Rows.{IsGapless}
use Rattle.palm_domain.proofs.Runs.{gap_runs, run_gap}
use Rattle.palm_domain.proofs.places.is_gapless.Goals as goal

pub returns : goal.returns
returns c =
    let xs = c.args.values.now in
    let low = c.index-values-0.result in
    let high = c.index-values-last.result in
    let decides = Decides-eqb c.gap.result (length xs - 1) in
    tells_both (IsGapless xs) _
    (λ e. (low, gap_runs xs c.requires.ascend c.requires.filled low high c.index-values-0.is c.index-values-last.is (sym c.gap.ensures ∙ decides.0 e)))
    (λ e g. false≢true (sym e ∙ decides.1 (c.gap.ensures ∙ run_gap xs c.requires.ascend c.requires.filled low high c.index-values-0.is c.index-values-last.is g)))
