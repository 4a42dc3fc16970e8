use Rattle.palm_kind.specs.Kind.{con_of}
use Rattle.palm_reduce.proofs.Filling.{posts_at, scope_declared}
use Rattle.palm_reduce.proofs.Keeping.{same_con}
use Rattle.palm_reduce.proofs.posting.post.Goals as goal

pub post-requires-clause-inactive : goal.post-requires-clause-inactive
post-requires-clause-inactive c = c.requires.inactive c.constraint-entry.result.now c.constraint-entry.ensures.at

pub lend-requires : goal.lend-requires
lend-requires c = (c.constraint-entry.result.now.con, c.requires.kept c.constraint-entry.result.now c.constraint-entry.ensures.at)

pub post-requires-clause-declared : goal.post-requires-clause-declared
post-requires-clause-declared c =
    let entry = c.constraint-entry.result.now in
    let lent = same_con _ (con_of c.lend.result.kind.now) entry.con c.lend.ensures (c.requires.kept entry c.constraint-entry.ensures.at) in
    scope_declared c.args.book.now entry c.constraint-entry.ensures.formed c.args.engine.now.state.initial c.requires.initial (con_of c.lend.result.kind.now) lent

pub returns : goal.returns
returns c d too =
    let entry = c.constraint-entry.result.now in
    let lent = same_con _ (con_of c.lend.result.kind.now) entry.con c.lend.ensures (c.requires.kept entry c.constraint-entry.ensures.at) in
    posts_at c.args.engine.now.state c.post.new.self.state c.args.book.now.constraints c.args.place entry d (con_of c.lend.result.kind.now) c.constraint-entry.ensures.at lent c.in_ok-post.ensures.ok too
