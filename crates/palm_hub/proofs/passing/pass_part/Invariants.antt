use Rattle.palm_hub.proofs.passing.pass_part.Given as goal

abbrev pub ghosts-feed_marked : goal.ghosts-feed_marked
ghosts-feed_marked g a =
    let sink = g.K.Sink.state a.sink.now in
    record { written = sink.written; faults = sink.faults; prefix = a.prefix.now }
