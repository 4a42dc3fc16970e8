use Rattle.std.proofs.Common.{ℕ, List, map, string_bytes, vec_len, ap, subst, sym, ◌∙◌}
use Rattle.palm_session.specs.Objects.{numbered}
use Rattle.palm_pump.specs.Streams.{streams}
use Rattle.palm_cli.specs.Commands.{Runs}
use Rattle.palm_cli.specs.Words.{IsGen}
use Rattle.palm_cli.proofs.Hosting.{leads_stock}
use Rattle.palm_cli.proofs.TopLemmas.{wants_gen, wants_judge, wants_run, wants_usage}
use Rattle.palm_cli.proofs.host.program.Goals as goal

pub returns-in_default-clause-runs : goal.returns-in_default-clause-runs
returns-in_default-clause-runs g c = λ run. wants_run _ _ _

pub returns-in_default-clause-judges : goal.returns-in_default-clause-judges
returns-in_default-clause-judges g c = λ evidence judge. wants_judge evidence _

pub returns-in_default-clause-generates : goal.returns-in_default-clause-generates
returns-in_default-clause-generates g c = λ size gen. wants_gen size _

pub returns-in_default-clause-refuses : goal.returns-in_default-clause-refuses
returns-in_default-clause-refuses g c = λ none. wants_usage _

pub returns-in_default-stock_guides-clause-runs : goal.returns-in_default-stock_guides-clause-runs
returns-in_default-stock_guides-clause-runs g c = λ run. wants_run _ _ _

pub returns-in_default-stock_guides-clause-judges : goal.returns-in_default-stock_guides-clause-judges
returns-in_default-stock_guides-clause-judges g c = λ evidence judge. wants_judge evidence _

pub returns-in_default-stock_guides-clause-generates : goal.returns-in_default-stock_guides-clause-generates
returns-in_default-stock_guides-clause-generates g c = λ size gen. wants_gen size _

pub returns-in_default-stock_guides-clause-refuses : goal.returns-in_default-stock_guides-clause-refuses
returns-in_default-stock_guides-clause-refuses g c = λ none. wants_usage _

pub returns-in_default-stock_orders-clause-runs : goal.returns-in_default-stock_orders-clause-runs
returns-in_default-stock_orders-clause-runs g c = λ run. wants_run _ _ _

pub returns-in_default-stock_orders-clause-judges : goal.returns-in_default-stock_orders-clause-judges
returns-in_default-stock_orders-clause-judges g c = λ evidence judge. wants_judge evidence _

pub returns-in_default-stock_orders-clause-generates : goal.returns-in_default-stock_orders-clause-generates
returns-in_default-stock_orders-clause-generates g c = λ size gen. wants_gen size _

pub returns-in_default-stock_orders-clause-refuses : goal.returns-in_default-stock_orders-clause-refuses
returns-in_default-stock_orders-clause-refuses g c = λ none. wants_usage _

pub returns-clause-led : goal.returns-clause-led
returns-clause-led g c = λ run.
    let before = streams (g.S.Source.state c.args.source.now) (g.K.Sink.state c.args.sink.now) in
    let after = streams (g.S.Source.state c.top.new.source) (g.K.Sink.state c.top.new.sink) in
    let guides = c.in-Ok-stock_guides.guides in
    let orders = c.in-Ok-stock_orders.orders in
    leads_stock guides.items orders.items before after (vec_len guides) (vec_len orders) c.top.result
    c.in-Ok-stock_guides.ensures.stock c.in-Ok-stock_orders.ensures.stock c.in-Ok-stock_guides.ensures.three c.in-Ok-stock_orders.ensures.two
    (c.top.ensures.led (ap (map string_bytes) c.deref.ensures.value ∙ c.in-Ok.ensures.told ∙ run))

pub returns-clause-runs : goal.returns-clause-runs
returns-clause-runs g c = λ run.
    let before = streams (g.S.Source.state c.args.source.now) (g.K.Sink.state c.args.sink.now) in
    let after = streams (g.S.Source.state c.top.new.source) (g.K.Sink.state c.top.new.sink) in
    subst (λ (n : ℕ). Runs (numbered 3) (numbered n) before after c.top.result) c.in-Ok-stock_orders.ensures.two
    (subst (λ (n : ℕ). Runs (numbered n) (numbered (vec_len c.in-Ok-stock_orders.orders)) before after c.top.result) c.in-Ok-stock_guides.ensures.three
    (c.top.ensures.runs (ap (map string_bytes) c.deref.ensures.value ∙ c.in-Ok.ensures.told ∙ run)))

pub returns-clause-generates : goal.returns-clause-generates
returns-clause-generates g c = λ size gen.
    c.top.ensures.generates size (subst (λ (words : List (List ℕ)). IsGen words size) (sym (ap (map string_bytes) c.deref.ensures.value ∙ c.in-Ok.ensures.told)) gen)
