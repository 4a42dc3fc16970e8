use Rattle.std.proofs.Common.{w64, rules, sym, subst}
use Rattle.std.proofs.lemmas.Int.{to_z-of_z}
use Rattle.palm_base.proofs.cited.Telling.{tells_same}
use Rattle.palm_domain.specs.Rows.{present_of}
use Rattle.filter_occur.specs.Count.{CanReach, IsCountReached, IsEnough, target_values}
use Rattle.filter_occur.proofs.CountSupport.{reach_from_counted, counted_from_reach}
use Rattle.filter_occur.proofs.rule.CountRule.is_reachable.Goals as goal

pub returns-in-Some : goal.returns-in-Some
returns-in-Some c =
    let o = c.args.self.now in
    let d = present_of c.args.store.now in
    let x = c.args.pair.now.var in
    let v = c.args.pair.now.value in
    let counts = c.in-Some.counts in
    tells_same (IsCountReached counts o.op (target_values d x v o.target)) (CanReach d x v o) c.is_count_reached.result
    (reach_from_counted d x v o _ counts c.requires.few c.in-Some.ensures.counts)
    (counted_from_reach d x v o _ counts c.requires.few c.in-Some.ensures.counts
    (subst (λ enough. IsEnough o.op (target_values d x v o.target) enough) (sym (to_z-of_z w64 c.enough.result (search rules))) c.enough.ensures))
    c.is_count_reached.ensures
