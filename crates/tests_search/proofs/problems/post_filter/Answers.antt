use Rattle.std.proofs.Common.{◌≡◌, ap, refl}
use Rattle.palm_engine.specs.Engine.{View}
use Rattle.palm_model.specs.State.{user_of}
use Rattle.palm_kind.specs.Kind.{con_of}
use Rattle.palm_model.specs.Event.{Posts}
use Rattle.palm_search.specs.Kept.{HasOnlyUsers}
use Rattle.tests_search.proofs.Users.{either_way, posted_users, same_users}
use Rattle.tests_search.proofs.problems.post_filter.Goals as goal

pub returns : goal.returns
returns c =
    let s = c.args.engine.now.state in
    let t = c.post.new.self.state in
    let a = user_of c.args.number (con_of c.args.filter) in
    either_way (Posts s a t) (c.post.new.self ≡ c.args.engine.now) (HasOnlyUsers t) c.post.result c.post.ensures.ok c.post.ensures.err
    (λ posts. posted_users s t a refl posts c.requires) (λ e. same_users s t (ap (λ (v : View). v.state.active) e) c.requires)
