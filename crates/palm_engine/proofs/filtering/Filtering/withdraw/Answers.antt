use Rattle.palm_engine.proofs.Restoring.{away_formed, put_back}
use Rattle.palm_engine.proofs.filtering.Filtering.withdraw.Goals as goal

pub wake_restored-requires : goal.wake_restored-requires
wake_restored-requires c = away_formed c.args.self.now.agenda c.disconnect.new.self c.args.cid.now c.disconnect.ensures.connected c.disconnect.ensures.pending c.requires.formed

pub returns : goal.returns
returns c =
    put_back c.args.self.now c.args.cid.now c.withdraw.new.store c.withdraw.new.self c.disconnect.new.self c.wake_restored.new.agenda c.restored.result.now c.after_gain-self.result
    c.disconnect.ensures.connected c.disconnect.ensures.pending c.withdraw.ensures.initial c.withdraw.ensures.loses c.withdraw.ensures.lacks c.withdraw.ensures.restored c.withdraw.ensures.within c.restored.ensures
    c.wake_restored.ensures.formed c.wake_restored.ensures.connected c.wake_restored.ensures.pending c.after_gain-self.ensures
