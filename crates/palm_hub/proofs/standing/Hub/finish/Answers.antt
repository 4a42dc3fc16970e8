-- Where no byte of a line was taken, none was seen, and no last line is there; elsewhere the last line is ended.
use Rattle.std.proofs.Common.{◌≡◌, ◌∙◌, sym}
use Rattle.std.proofs.lemmas.Bool.{false≢true}
use Rattle.palm_base.specs.Streams.{Rose}
use Rattle.palm_lang.specs.declared.stop.WriteStop.TheVariants.{NoMemory}
use Rattle.palm_hub.proofs.Feeding.{last_answered, last_none, last_stopped, none_seen}
use Rattle.palm_hub.proofs.standing.Hub.finish.Goals as goal

pub returns-then-is_at_start-clause-answers : goal.returns-then-is_at_start-clause-answers
returns-then-is_at_start-clause-answers g c = λ sessions seen free stands.
    last_none sessions seen _ (none_seen stands (c.is_at_start.ensures.0 c.if-is_at_start.true))

pub returns-clause-answers : goal.returns-clause-answers
returns-clause-answers g c =
    let was = g.K.Sink.state c.args.sink.now in
    let now = g.K.Sink.state c.end_line.new.sink in
    last_answered c.args.self.now (λ start. false≢true (sym c.if-is_at_start.false ∙ c.is_at_start.ensures.1 start)) was.written
    now.written c.end_line.result c.end_line.new.self c.end_line.ensures.answers

pub returns-clause-stopped : goal.returns-clause-stopped
returns-clause-stopped g c =
    let was = g.K.Sink.state c.args.sink.now in
    let now = g.K.Sink.state c.end_line.new.sink in
    last_stopped c.args.self.now (λ start. false≢true (sym c.if-is_at_start.false ∙ c.is_at_start.ensures.1 start)) was.written
    now.written (λ stop. stop ≡ NoMemory → Rose was.faults now.faults → ⊥) c.end_line.result c.end_line.ensures.stopped
