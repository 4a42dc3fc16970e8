use Rattle.palm_cert.proofs.cited.Stepped.{at_member, found_by_halves, number_found, step_at}
use Rattle.palm_cert.proofs.cited.Links.{pair_logged, pair_removal}
use Rattle.palm_base.proofs.cited.Members.{member_get, member_same}
use Rattle.palm_model.specs.Log.{log_pairs}
use Rattle.palm_cert.specs.Needs.{removals_at}
use Rattle.palm_cert.proofs.needs.number_at.Goals as goal

pub unreachable-requires : goal.unreachable-requires
unreachable-requires c =
    let log = c.args.log.now.log in
    let r = pair_removal (removals_at log c.args.steps.now) c.args.pair c.requires.proved in
    let q = at_member log c.args.steps.now r.0 r.1 in
    c.in_default.ensures (member_same (log_pairs log) r.0.pair c.args.pair r.2 (pair_logged log r.0 (member_get log q.0 r.0 q.2)))

pub unreachable-requires-in-Err : goal.unreachable-requires-in-Err
unreachable-requires-in-Err c =
    let found = found_by_halves c.args.steps.now c.in-Some.place c.binary_search.result c.requires.steps.needed.climbs c.binary_search.ensures.position in
    (rw c.in-Err.is at found) (step_at c.args.log.now.log c.args.steps.now c.requires.steps c.in-Some.place c.args.pair c.in-Some.ensures c.requires.proved)

pub returns : goal.returns
returns c =
    let found = found_by_halves c.args.steps.now c.in-Some.place c.binary_search.result c.requires.steps.needed.climbs c.binary_search.ensures.position in
    let step = step_at c.args.log.now.log c.args.steps.now c.requires.steps c.in-Some.place c.args.pair c.in-Some.ensures c.requires.proved in
    number_found c.args.log.now.log c.args.steps.now c.requires.steps c.in-Some.place c.in-Ok.index c.args.pair c.in-Some.ensures step (rw c.in-Ok.is at found)
