use Rattle.std.proofs.Common.{◌+◌, ◌%◌}
use Rattle.palm_explain.proofs.Reasons.{parted_number}
use Rattle.palm_explain.proofs.entry.place_near.Goals as goal

pub returns-else-not-has_number : goal.returns-else-not-has_number
returns-else-not-has_number c = parted_number c.args.log.now c.requires ((c.args.near.now + 18446744073709551615) % 18446744073709551616) c.args.number (c.has_number.ensures c.if-not-has_number.false)
