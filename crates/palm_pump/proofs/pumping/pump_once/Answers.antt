use Rattle.std.proofs.Common.{◌≤◌, arith, refl}
use Rattle.std.proofs.lemmas.Result.{err_from_is_err_and}
use Rattle.palm_pump.proofs.OneRead.{pumps_end, pumps_end_until, pumps_enough, pumps_fault, pumps_more, pumps_until}
use Rattle.palm_pump.specs.Streams.{first_bytes}
use Rattle.palm_pump.specs.declared.limits.TheConstants.{PIECE}
use Rattle.palm_pump.proofs.pumping.pump_once.Goals as goal

pub returns-in_default-clause-pumps : goal.returns-in_default-clause-pumps
returns-in_default-clause-pumps g c = λ first before s.
    pumps_fault _ _ _ _ _ _ _ s c.requires.room c.in_default.ensures.bytes c.in_default.ensures.cause.failed refl refl

pub finish-requires : goal.finish-requires
finish-requires g c =
    let p = c.requires.pumped in
    (p.0, first_bytes p.2.pumps.text, p.1.sink, p.2.pumps.does)

pub returns-in_err-finish-clause-pumps : goal.returns-in_err-finish-clause-pumps
returns-in_err-finish-clause-pumps g c = λ first before s.
    let p = err_from_is_err_and c.from_residual.result c.from_residual.ensures.1 in
    let r = c.in-Ok.ensures in
    let e = c.in_err-finish.ensures in
    rw (p.1, p.2) (pumps_end_until _ _ _ _ _ _ _ s c.requires.room c.read.new.buffer _ c.if-count-eq0.true r.bytes.1 r.bytes.2 r.cause.ok
    c.in_err-finish.field-0.0 e.counted (e.takes first _ _ s.pumps.does))

pub returns-then-count-eq0-clause-pumps : goal.returns-then-count-eq0-clause-pumps
returns-then-count-eq0-clause-pumps g c = λ first before s.
    let r = c.in-Ok.ensures in
    let e = c.in_ok-finish.ensures in
    pumps_end _ _ _ _ _ _ _ s c.requires.room c.read.new.buffer _ c.if-count-eq0.true r.bytes.1 r.bytes.2 r.cause.ok
    e.counted (e.takes first _ _ s.pumps.does)

pub take-requires : goal.take-requires
take-requires g c =
    let p = c.requires.pumped in
    (p.0, first_bytes p.2.pumps.text, p.1.sink, p.2.pumps.does)

pub returns-in_err-take-clause-pumps : goal.returns-in_err-take-clause-pumps
returns-in_err-take-clause-pumps g c = λ first before s.
    let p = err_from_is_err_and c.from_residual-in_err-take.result c.from_residual-in_err-take.ensures.1 in
    let r = c.in-Ok.ensures in
    let small : c.in-Ok.count ≤ PIECE = omega arith in
    let e = c.in_err-take.ensures in
    rw (p.1, p.2) (pumps_until _ _ _ _ _ _ _ s c.requires.room c.read.new.buffer _ _ small r.bytes.0 c.min.ensures r.bytes.1 r.cause.ok
    c.in_err-take.field-0.0 e.counted (e.takes first _ _ s.pumps.does))

pub returns-then-branch-clause-pumps : goal.returns-then-branch-clause-pumps
returns-then-branch-clause-pumps g c = λ first before s.
    let r = c.in-Ok.ensures in
    let small : c.in-Ok.count ≤ PIECE = omega arith in
    let e = c.in_ok-take.ensures in
    pumps_more _ _ _ _ _ _ _ s c.requires.room c.read.new.buffer _ _ small r.bytes.0 c.min.ensures r.bytes.1 r.cause.ok
    _ c.if-branch.true e.counted (e.takes first _ _ s.pumps.does)

pub returns-else-branch-clause-pumps : goal.returns-else-branch-clause-pumps
returns-else-branch-clause-pumps g c = λ first before s.
    let r = c.in-Ok.ensures in
    let small : c.in-Ok.count ≤ PIECE = omega arith in
    let e = c.in_ok-take.ensures in
    pumps_enough _ _ _ _ _ _ _ s c.requires.room c.read.new.buffer _ _ small r.bytes.0 c.min.ensures r.bytes.1 r.cause.ok
    _ c.if-branch.false e.counted (e.takes first _ _ s.pumps.does)
