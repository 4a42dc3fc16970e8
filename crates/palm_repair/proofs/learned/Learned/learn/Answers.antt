use Rattle.std.proofs.Common.{[], ◌∷◌, ◌++◌, sym, ap, subst}
use Rattle.std.proofs.lemmas.Result.{on_ok_weaker, on_err_weaker}
use Rattle.palm_search.proofs.cited.Results.{on_err}
use Rattle.palm_repair.specs.Learned.{LearnedView, repair_state}
use Rattle.palm_repair.specs.Posting.{PostsAll, PostsSome}
use Rattle.palm_repair.specs.Repair.{MakesRoom}
use Rattle.palm_repair.specs.Kept.{IsRepairing}
use Rattle.palm_repair.specs.Turning.{filtered}
use Rattle.palm_repair.proofs.Refuting.{nogood_kept}
use Rattle.palm_repair.proofs.Repairing.{appended_repairing, room_keeps, room_users}
use Rattle.palm_repair.proofs.Learning.{posts_none}
use Rattle.palm_repair.proofs.Stepping.{room_sum}
use Rattle.palm_repair.proofs.learned.Learned.learn.Goals as goal

pub returns-in_err-append-clause-err : goal.returns-in_err-append-clause-err
returns-in_err-append-clause-err g c =
    let e = c.args.engine.now.state in
    let d = c.args.search.now.decisions in
    let roomy = repair_state c.make_room.new.engine.state d c.make_room.new.self in
    let room = subst (λ (v : LearnedView). MakesRoom c.args.tabu (repair_state e d v) roomy) c.keep_active.ensures (c.make_room.ensures.ok d) in
    on_err _ c.from_residual.result (record {
      roomy = roomy;
      makes_room = room;
      posts = posts_none (record roomy { nogoods = roomy.nogoods ++ c.args.nogood ∷ [] });
    })

pub returns-in_err-append-clause-decisions : goal.returns-in_err-append-clause-decisions
returns-in_err-append-clause-decisions g c =
    let e = c.args.engine.now.state in
    let m = c.make_room.new.engine.state in
    let d = c.args.search.now.decisions in
    let roomy = repair_state m d c.make_room.new.self in
    let room = subst (λ (v : LearnedView). MakesRoom c.args.tabu (repair_state e d v) roomy) c.keep_active.ensures (c.make_room.ensures.ok d) in
    (room_keeps c.args.tabu (filtered (repair_state e d c.args.self.now)) roomy room c.requires.repairing).searching.decisions

pub post-requires-clause-repairing : goal.post-requires-clause-repairing
post-requires-clause-repairing g c =
    let e = c.args.engine.now.state in
    let m = c.make_room.new.engine.state in
    let d = c.args.search.now.decisions in
    let before = filtered (repair_state e d c.args.self.now) in
    let roomy = repair_state m d c.make_room.new.self in
    let room = subst (λ (v : LearnedView). MakesRoom c.args.tabu (repair_state e d v) roomy) c.keep_active.ensures (c.make_room.ensures.ok d) in
    subst (λ (v : LearnedView). IsRepairing (repair_state m d v)) (sym c.in_ok-append.ensures.ok)
    (appended_repairing roomy c.args.nogood (nogood_kept e m c.args.nogood (room_users c.args.tabu before roomy room) c.requires.nogood) (room_keeps c.args.tabu before roomy room c.requires.repairing))

pub post-requires-clause-few : goal.post-requires-clause-few
post-requires-clause-few g c =
    let e = c.args.engine.now.state in
    let m = c.make_room.new.engine.state in
    let d = c.args.search.now.decisions in
    let before = filtered (repair_state e d c.args.self.now) in
    let roomy = repair_state m d c.make_room.new.self in
    let room = subst (λ (v : LearnedView). MakesRoom c.args.tabu (repair_state e d v) roomy) c.keep_active.ensures (c.make_room.ensures.ok d) in
    room_sum c.args.tabu before roomy c.args.nogood _ c.append.new.self room (ap (repair_state m d) c.in_ok-append.ensures.ok) c.requires.small

pub returns-clause-ok : goal.returns-clause-ok
returns-clause-ok g c =
    let e = c.args.engine.now.state in
    let m = c.make_room.new.engine.state in
    let d = c.args.search.now.decisions in
    let roomy = repair_state m d c.make_room.new.self in
    let room = subst (λ (v : LearnedView). MakesRoom c.args.tabu (repair_state e d v) roomy) c.keep_active.ensures (c.make_room.ensures.ok d) in
    on_ok_weaker c.post.result (λ posts. record {
      roomy = roomy;
      makes_room = room;
      posts = subst (λ (v : LearnedView). PostsAll (repair_state m d v) (repair_state c.post.new.engine.state d c.post.new.self)) c.in_ok-append.ensures.ok posts;
    }) c.post.ensures.ok

pub returns-clause-err : goal.returns-clause-err
returns-clause-err g c =
    let e = c.args.engine.now.state in
    let m = c.make_room.new.engine.state in
    let d = c.args.search.now.decisions in
    let roomy = repair_state m d c.make_room.new.self in
    let room = subst (λ (v : LearnedView). MakesRoom c.args.tabu (repair_state e d v) roomy) c.keep_active.ensures (c.make_room.ensures.ok d) in
    on_err_weaker c.post.result (λ some. record {
      roomy = roomy;
      makes_room = room;
      posts = subst (λ (v : LearnedView). PostsSome (repair_state m d v) c.post.new.engine.state) c.in_ok-append.ensures.ok some;
    }) c.post.ensures.err
