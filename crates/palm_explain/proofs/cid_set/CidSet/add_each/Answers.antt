use Rattle.std.proofs.Common.{◌≡◌, Contains, take, sym}
use Rattle.palm_base.proofs.cited.Members.{member_same, member_take}
use Rattle.palm_explain.specs.CidSets.{IsMember}
use Rattle.palm_explain.proofs.CidSets.{joined_next, some_both, some_of}
use Rattle.palm_explain.proofs.Stores.{on_err}
use Rattle.palm_explain.proofs.cid_set.CidSet.add_each.Goals as goal

pub loop-cid-preserved : goal.loop-cid-preserved
loop-cid-preserved c =
    joined_next (IsMember c.args.self.now) (IsMember c.loop-cid.self) (IsMember c.add.new.self) c.args.cids.now c.loop-cid.cid-index c.cid-item.result c.loop-cid-test.true c.cid-item.is c.loop-cid.invariant c.in_ok-add.ensures.ok

pub returns-in_err-add-clause-err : goal.returns-in_err-add-clause-err
returns-in_err-add-clause-err c =
    let cids = c.args.cids.now in
    let i = c.loop-cid.cid-index in
    on_err c.from_residual.result _
    (some_both c.args.self.now c.loop-cid.self c.add.new.self (Contains (take i cids)) (λ d. d ≡ c.cid-item.result) (Contains cids)
    (λ d m. member_take i cids d m) (λ d e. member_same cids c.cid-item.result d (sym e) (i, c.loop-cid-test.true, sym c.cid-item.is))
    (some_of c.args.self.now (Contains (take i cids)) c.loop-cid.self c.loop-cid.invariant) c.in_err-add.ensures.err)
