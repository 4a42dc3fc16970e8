-- The greatest closed domains are unique, and fall with more constraints. The constraints are any set.
use Rattle.std.proofs.Common.{◌≡◌, sym, ◌∙◌}
use Rattle.palm_model.specs.Domains.{Domains, IsInside}
use Rattle.palm_model.specs.Closure.{IsGreatest}
use Rattle.palm_model.specs.declared.constraint.Con.{Con}
use Rattle.palm_model.proofs.cited.Ascending.{domains_same}

-- ---- the greatest closed domains

-- more constraints give domains inside those of fewer
pub greatest_falls : (initial : Domains) (E F : Con → Type 0) (d e : Domains) → ((c : Con) → E c → F c) → IsGreatest initial E d → IsGreatest initial F e → IsInside e d
greatest_falls initial E F d e more fewer_greatest more_greatest =
    fewer_greatest.includes e more_greatest.inside (λ c p m k. more_greatest.closed c p (more c m) k)

pub greatest_unique : (initial : Domains) (E : Con → Type 0) (d e : Domains) → IsGreatest initial E d → IsGreatest initial E e → d ≡ e
greatest_unique initial E d e one other =
    domains_same d e one.ascend other.ascend (one.variables ∙ sym other.variables)
    (greatest_falls initial E E e d (λ c m. m) other one) (greatest_falls initial E E d e (λ c m. m) one other)
