-- Noting which losses may mark something more.
use Rattle.std.proofs.Common.{◌≡◌, false}
use Rattle.palm_filter.specs.declared.heed.Heed.{Heed}
use Rattle.palm_agenda.specs.declared.connection.Places.{Places}
use Rattle.palm_agenda.specs.declared.connection.Places.TheVariants.{Own, Others}
use Rattle.palm_agenda.specs.declared.loss.Loss.{Loss}
use Rattle.palm_agenda.specs.declared.open.Open.{Open}
use Rattle.palm_agenda.specs.Open.{Covers, is_open}

-- where more losses may, what was covered is
pub covers_more : (old new : Open) → ((l : Loss) → is_open new l ≡ false → is_open old l ≡ false) → (places : Places) (heed : Heed) → Covers old places heed → Covers new places heed
covers_more old new more (Own low high) heed covers = tt
covers_more old new more (Others loss) heed covers = λ l mark shut. covers l mark (more l shut)
