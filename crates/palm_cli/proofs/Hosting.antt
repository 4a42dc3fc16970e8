-- `run` leads the stock guides and orders.
use Rattle.std.proofs.Common.{◌≡◌, ℕ, List, subst}
use Rattle.palm_engine.specs.Following.{OrderFollows}
use Rattle.palm_search.specs.Following.{GuideFollows}
use Rattle.palm_session.specs.Objects.{numbered}
use Rattle.palm_pump.specs.Streams.{Streams}
use Rattle.palm_cli.specs.Led.{RunsLead, handed_in}
use Rattle.palm_cli.specs.Stock.{AreStockGuides, AreStockOrders, RunsStock, guide_answers, guide_hears, guide_state, order_answers, order_hears, order_state}
use Rattle.palm_cli.specs.declared.status.Status.{Status}
use Rattle.palm_cli.specs.declared.status.Status.TheVariants.{Done, Refused, Usage, ReadFault, WriteFault, NoMemory, TooLong}
use Rattle.palm_cli.specs.declared.stock.StockGuide.{StockGuide}
use Rattle.palm_cli.specs.declared.stock.StockOrder.{StockOrder}

-- so many objects were handed in, and led
module _ (guides : List StockGuide) (orders : List StockOrder) (before after : Streams) where
  abbrev Leads : ℕ → ℕ → Status → Type 0
  Leads three two status =
      RunsLead (GuideFollows guide_answers guide_hears guide_state) (OrderFollows order_answers order_hears order_state)
      (numbered three) (numbered two) (handed_in guides orders) before after status

  pub leads_stock : (three two : ℕ) (status : Status) → AreStockGuides guides → AreStockOrders orders → three ≡ 3 → two ≡ 2
      → RunsLead (GuideFollows guide_answers guide_hears guide_state) (OrderFollows order_answers order_hears order_state)
      (numbered three) (numbered two) (handed_in guides orders) before after status → RunsStock before after status
  leads_stock three two Done are_guides are_orders is_three is_two leads = record {
    guides = guides;
    orders = orders;
    are_guides = are_guides;
    are_orders = are_orders;
    leads = subst (λ (n : ℕ). Leads 3 n Done) is_two (subst (λ (n : ℕ). Leads n two Done) is_three leads);
  }
  leads_stock three two Refused are_guides are_orders is_three is_two leads = tt
  leads_stock three two Usage are_guides are_orders is_three is_two leads = tt
  leads_stock three two ReadFault are_guides are_orders is_three is_two leads = tt
  leads_stock three two WriteFault are_guides are_orders is_three is_two leads = tt
  leads_stock three two NoMemory are_guides are_orders is_three is_two leads = tt
  leads_stock three two TooLong are_guides are_orders is_three is_two leads = tt
