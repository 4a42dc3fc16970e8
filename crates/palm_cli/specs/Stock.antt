-- The stock guides and orders under their numbers, and how `run` leads them.
use Rattle.std.specs.Prelude.{◌≡◌, ℕ, List, [], ◌∷◌, Option, ⊤, filter, length, replicate}
use Rattle.palm_agenda.specs.Orders.{last_index, next_turn, turned_index}
use Rattle.palm_base.specs.declared.terms.Cid.{Cid}
use Rattle.palm_base.specs.declared.terms.Pair.{Pair}
use Rattle.palm_book.specs.declared.limits.TheConstants.{MOST_VARIABLES}
use Rattle.palm_engine.specs.Following.{OrderFollows}
use Rattle.palm_guide.specs.Picks.{IsPick, Raises, first_pick, has_fewer, has_more, is_counted, is_open}
use Rattle.palm_guide.specs.declared.guide.ViewRow.{ViewRow}
use Rattle.palm_search.specs.Following.{GuideFollows}
use Rattle.palm_session.specs.Objects.{numbered}
use Rattle.palm_pump.specs.Streams.{Streams}
use Rattle.palm_cli.specs.Led.{RunsLead, handed_in}
use Rattle.palm_cli.specs.declared.status.Status.{Status}
use Rattle.palm_cli.specs.declared.status.Status.TheVariants.{Done}
use Rattle.palm_cli.specs.declared.stock.StockGuide.{StockGuide}
use Rattle.palm_cli.specs.declared.stock.StockGuide.TheVariants.{First, Smallest, Most}
use Rattle.palm_cli.specs.declared.stock.StockOrder.{StockOrder}
use Rattle.palm_cli.specs.declared.stock.StockOrder.TheVariants.{Last, Rotate}

-- ---- guides

abbrev pub guide_state : StockGuide → List ℕ
guide_state (First guide) = []
guide_state (Smallest guide) = []
guide_state (Most numbers) = numbers

abbrev pub guide_answers : StockGuide → List ViewRow → Option Pair → List ℕ → Type 0
guide_answers (First guide) view answer after = (answer ≡ first_pick view) × (after ≡ [])
guide_answers (Smallest guide) view answer after = IsPick has_fewer (filter is_open view) answer × (after ≡ [])
guide_answers (Most numbers) view answer after = IsPick (has_more numbers) (filter (is_counted numbers) view) answer × (after ≡ numbers)

abbrev pub guide_hears : StockGuide → List ℕ → List ℕ → Type 0
guide_hears (First guide) conflict after = after ≡ []
guide_hears (Smallest guide) conflict after = after ≡ []
guide_hears (Most numbers) conflict after = Raises numbers conflict after

-- guide 1 picks the first variable, guide 2 one with the fewest values, and guide 3 one of the most conflicts, of which none
-- is counted yet
abbrev pub AreStockGuides : List StockGuide → Type 0
AreStockGuides (First a ∷ Smallest b ∷ Most numbers ∷ []) = numbers ≡ replicate MOST_VARIABLES 0
AreStockGuides _ = ⊥

-- ---- orders

abbrev pub order_state : StockOrder → List ℕ
order_state (Last order) = []
order_state (Rotate turn) = turn ∷ []

abbrev pub order_answers : StockOrder → List Cid → ℕ → List ℕ → Type 0
order_answers (Last order) pending index after = (index ≡ last_index (length pending)) × (after ≡ [])
order_answers (Rotate turn) pending index after = (index ≡ turned_index turn (length pending)) × (after ≡ turn ∷ [])

abbrev pub order_hears : StockOrder → Cid → ℕ → List ℕ → Type 0
order_hears (Last order) cid removed after = after ≡ []
order_hears (Rotate turn) cid removed after = after ≡ next_turn turn ∷ []

-- order 1 answers the last constraint, and order 2 goes round them, from turn 0 on
abbrev pub AreStockOrders : List StockOrder → Type 0
AreStockOrders (Last a ∷ Rotate turn ∷ []) = turn ≡ 0
AreStockOrders _ = ⊥

-- ---- `run`

-- the lines led the stock guides and orders under these numbers
pub record LeadsStock (before after : Streams) (status : Status) : Type 0 where
  pub guides : List StockGuide
  pub orders : List StockOrder
  pub are_guides : AreStockGuides guides
  pub are_orders : AreStockOrders orders
  pub leads : RunsLead (GuideFollows guide_answers guide_hears guide_state) (OrderFollows order_answers order_hears order_state)
      (numbered 3) (numbered 2) (handed_in guides orders) before after status

-- where `run` ends with `Done`
abbrev pub RunsStock : Streams → Streams → Status → Type 0
RunsStock before after Done = LeadsStock before after Done
RunsStock before after _ = ⊤
