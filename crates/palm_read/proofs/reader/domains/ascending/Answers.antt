use Rattle.std.proofs.Common.{ap, ◌∙◌}
use Rattle.palm_read.specs.Domain.{set_of}
use Rattle.palm_read.proofs.cited.Sets.{set_from_sort}
use Rattle.palm_read.proofs.reader.domains.ascending.Goals as goal

pub returns : goal.returns
returns c =
    c.from_vec.ensures ∙ set_from_sort _ _ _ c.sort_unstable.ensures.permutation c.sort_unstable.ensures.sorted c.dedup.ensures.filtered ∙ ap set_of c.into_vec-values.ensures
