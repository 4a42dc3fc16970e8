use Rattle.std.proofs.Common.{◌≡◌, ◌∙◌, ◌-◌, ℕ, ap, length, min, rules}
use Rattle.palm_session.specs.declared.limits.TheConstants.{MOST_KEPT_BYTES}
use Rattle.palm_session.proofs.cited.Keeping.{keeps_first}
use Rattle.palm_session.proofs.session.keep.Goals as goal

pub returns-clause-ok : goal.returns-clause-ok
returns-clause-ok c =
    let len : c.len-room.result ≡ length c.args.bytes.now.items = search rules in
    keeps_first c.args.bytes.now.items c.args.more.now c.extend_from_slice.new.self.items c.min.result c.requires.kept.few
    (c.min.ensures ∙ ap (λ (n : ℕ). min (length c.args.more.now) (MOST_KEPT_BYTES - n)) len) c.in_ok-extend_from_slice.ensures.items
