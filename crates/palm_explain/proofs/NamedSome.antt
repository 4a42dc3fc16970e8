-- What removals name, in a log and in another one that has more or fewer removals.
use Rattle.std.proofs.Common.{List, Contains}
use Rattle.palm_base.specs.declared.terms.Cid.{Cid}
use Rattle.palm_model.specs.Log.{Removal, Names, Loses, IsListOf}
use Rattle.palm_model.specs.Log.Names.{by_itself, by_reason}
use Rattle.palm_events.proofs.cited.Logs.{left_member, left_keeps, kept_member, some_by_reason}

-- ---- more and fewer removals

-- with more removals a removal names what it named
pub names_more : (log more : List Removal) → ((r : Removal) → Contains log r → Contains more r) → (c : Cid) (r : Removal) → Names log c r → Names more c r
names_more log more sub c _ (by_itself r e) = by_itself r e
names_more log more sub c _ (by_reason r s m reason cids) = by_reason r s (sub s m) reason (names_more log more sub c s cids)

-- and nothing else, where the reasons of these removals are theirs
pub names_fewer : (log more : List Removal) → ((r s : Removal) → Contains log r → Contains more s → Contains r.reasons s.pair → Contains log s)
    → (c : Cid) (r : Removal) → Contains log r → Names more c r → Names log c r
names_fewer log more closed c _ m (by_itself r e) = by_itself r e
names_fewer log more closed c _ m (by_reason r s k reason cids) =
    let l = closed r s m k reason in by_reason r s l reason (names_fewer log more closed c s l cids)

-- ---- what a withdrawal leaves

-- what stays has no reason among what is lost
left_reasons : (log : List Removal) (gone : List Cid) (left : List Removal) → Loses log gone log left → (r s : Removal) → Contains left r → Contains log s → Contains r.reasons s.pair → Contains left s
left_reasons log gone left loses r s m k reason =
    kept_member log gone log left loses s k (λ some. left_keeps log gone log left loses r m (some_by_reason log gone r s k reason some))

-- so it names in the log that is left what it named
pub cids_left : (log : List Removal) (gone : List Cid) (left : List Removal) → Loses log gone log left → (c : Cid) (r : Removal) → Contains left r → Names log c r → Names left c r
cids_left log gone left loses c r m cids = names_fewer left log (left_reasons log gone left loses) c r m cids

pub left_cids : (log : List Removal) (gone : List Cid) (left : List Removal) → Loses log gone log left → (c : Cid) (r : Removal) → Names left c r → Names log c r
left_cids log gone left loses c r cids = names_more left log (left_member log gone log left loses) c r cids

-- ---- lists of ids

-- a list of the ids with a property is one of those with another, where each has both or none
pub listed_like : (P Q : Cid → Type 0) (cids : List Cid) → ((c : Cid) → P c → Q c) → ((c : Cid) → Q c → P c) → IsListOf P cids → IsListOf Q cids
listed_like P Q cids to back list = record { rising = list.rising; sound = λ c m. to c (list.sound c m); whole = λ c q. list.whole c (back c q) }
