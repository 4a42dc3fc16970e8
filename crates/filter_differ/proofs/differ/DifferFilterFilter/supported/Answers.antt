use Rattle.std.proofs.Common.{length, All, subst}
use Rattle.palm_domain.specs.Rows.{present_of}
use Rattle.filter_differ.specs.Differ.{LeavesRoom, TakesRoom}
use Rattle.filter_differ.proofs.Differing.{answers_supported, answers_lacking}
use Rattle.filter_differ.proofs.differ.DifferFilterFilter.supported.Goals as goal

pub returns-clause-supported : goal.returns-clause-supported
returns-clause-supported c t =
    let present = present_of c.args.store.now in
    answers_supported c.self.inside.vars c.args.self.now c.self.view_is (length c.args.store.now) c.requires.formed c.args.pair.var c.args.pair.value present c.requires.present
    (subst (All (LeavesRoom present c.args.pair.var c.args.pair.value)) c.as_slice.ensures (c.leave_room.ensures.room t))

pub returns-clause-lacking : goal.returns-clause-lacking
returns-clause-lacking c t =
    let present = present_of c.args.store.now in
    answers_lacking c.self.inside.vars c.args.self.now c.self.view_is (length c.args.store.now) c.requires.formed c.args.pair.var c.args.pair.value present c.requires.over
    (subst (λ vars. TakesRoom present vars c.args.pair.var c.args.pair.value) c.as_slice.ensures (c.leave_room.ensures.none t))
