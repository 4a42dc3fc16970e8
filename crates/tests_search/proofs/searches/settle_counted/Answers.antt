use Rattle.tests_search.proofs.Users.{settled_users}
use Rattle.tests_search.proofs.searches.settle_counted.Goals as goal

pub returns : goal.returns
returns g c = settled_users _ _ _ c.settle.result c.args.engine.now c.settle.new.self c.settle.ensures.ok c.requires.users
