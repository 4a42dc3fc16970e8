-- More bytes of a line are taken.
use Rattle.std.proofs.Common.{◌≡◌, ℕ, zero, suc, ◌+◌, ◌-◌, ◌<◌, ◌≤◌, Bool, true, false, cond, eqb, ltb, List, [], ◌∷◌, ◌++◌, length, take, drop, get_or, set, refl, sym, ap, ◌∙◌, subst, arith, append_assoc, length-drop, length-take, take_all}
use Rattle.std.proofs.lemmas.Bool.{eqb-true, le-ltb, lt-ltb}
use Rattle.std.proofs.lemmas.List.{take-append-drop, take_more}
use Rattle.palm_read.specs.Lines.{without_return}
use Rattle.palm_session.specs.declared.limits.TheConstants.{MOST_KEPT_BYTES}
use Rattle.palm_hub.specs.Addressing.{Addresses}
use Rattle.palm_hub.specs.Hub.{Admits, Opened}
use Rattle.palm_hub.specs.Standing.{Holds, HubView, IsAtLine, IsInLine, KeepsPart, Member, Stands, StandsBehind, hub_view, opened_of, sessions_of}
use Rattle.palm_hub.specs.Stepping.{IsEnough, StandsIn, TakesIn}
use Rattle.palm_hub.specs.declared.limits.TheConstants.{MOST_HEAD_BYTES}
use Rattle.palm_hub.specs.declared.part.Part.{Part}
use Rattle.palm_hub.specs.declared.part.Part.TheVariants.{Head}
use Rattle.palm_hub.proofs.Addressing.{addresses_on, holds_on}
use Rattle.palm_hub.proofs.Beginning.{at_seam, kept_same, same_sessions, set_seam}

-- ---- a line for a session

-- the first bytes of a line whose first ones were kept already
kept_more : (n : ℕ) (xs ys : List ℕ) → take n (take n xs ++ ys) ≡ take n (xs ++ ys)
kept_more zero xs ys = refl
kept_more (suc n) [] ys = refl
kept_more (suc n) (x ∷ xs) ys = ap (λ (z : List ℕ). x ∷ z) (kept_more n xs ys)

-- more bytes of the line were passed to the session
pub line_longer : {G O : Type 0} (hub : List Opened) (content : List ℕ) (place : ℕ) (members : List (Member G O))
    (old new : Member G O) (piece : List ℕ)
    → IsInLine hub content place members → old ≡ get_or members place old → KeepsPart old.session piece new.session
    → new.name ≡ old.name
    → IsInLine hub (content ++ piece) place (set members place new)
line_longer {G} {O} hub content place members old new piece i read keeps named =
    let same : old ≡ i.at = read ∙ at_seam members i.front i.back i.at place i.whole i.placed old in
    let called : new.name ≡ i.at.name = named ∙ ap (λ (m : Member G O). m.name) same in
    let going : old.session.over ≡ false = ap (λ (m : Member G O). m.session.over) same ∙ i.going in
    let was : old.session.unfinished ≡ take MOST_KEPT_BYTES i.line =
    ap (λ (m : Member G O). m.session.unfinished) same ∙ i.kept in
    let stays : sessions_of (set members place new) ≡ sessions_of members =
    same_sessions members i.front i.back i.at place i.whole i.placed new
    (kept_same old new piece keeps named going ∙ ap opened_of same) in
    record {
      line = i.line ++ piece;
      front = i.front;
      at = new;
      back = i.back;
      addresses = subst (λ (n : List ℕ). Addresses (content ++ piece) n (i.line ++ piece)) (sym called)
          (addresses_on piece i.addresses);
      whole = set_seam members i.front i.back i.at place i.whole i.placed new;
      placed = i.placed;
      going = keeps.going;
      kept = keeps.kept ∙ ap (λ (z : List ℕ). take MOST_KEPT_BYTES (z ++ piece)) was ∙ kept_more MOST_KEPT_BYTES i.line piece;
      admits = subst (λ (n : List ℕ). Admits hub n (sessions_of (set members place new))) (sym called)
          (subst (Admits hub i.at.name) (sym stays) i.admits);
      idle_front = i.idle_front;
      idle_back = i.idle_back;
    }

-- ---- the first bytes

-- all bytes from a place on
pub bytes_behind : (k : ℕ) (xs : List ℕ) → take (length xs - k) (drop k xs) ≡ drop k xs
bytes_behind k xs = take_all (length xs - k) (drop k xs) (omega (arith, length-drop k xs))

stands_head : {G O : Type 0} (hub : List Opened) (content : List ℕ) (v : HubView G O) → v.part ≡ Head → StandsIn hub content v
    → (content ≡ v.head) × (length v.head < MOST_HEAD_BYTES) × IsAtLine hub v.members
stands_head hub content v begun stands = subst (λ (p : Part). Stands true hub content v.head p v.members) begun stands

-- they tell where the line goes, and what is behind them is taken
pub head_taken : {G O : Type 0} (before mid after : HubView G O) (bytes : List ℕ) (used : ℕ) → before.part ≡ Head
    → mid.head ≡ before.head ++ take used bytes
    → MOST_HEAD_BYTES ≤ length mid.head
    → ((hub : List Opened) (more : Bool) → IsEnough more mid.head → IsAtLine hub before.members
    → Stands more hub mid.head mid.head mid.part mid.members)
    → TakesIn mid (drop used bytes) after → TakesIn before bytes after
head_taken before mid after bytes used begun grown enough decides takes = λ hub content stands.
    let head = stands_head hub content before begun stands in
    let decided : StandsIn hub mid.head mid = decides hub true enough head.2 in
    let whole : mid.head ++ drop used bytes ≡ content ++ bytes =
    ap (λ (z : List ℕ). z ++ drop used bytes) grown ∙ append_assoc before.head (take used bytes) (drop used bytes)
    ∙ ap (λ (z : List ℕ). before.head ++ z) (take-append-drop used bytes) ∙ ap (λ (z : List ℕ). z ++ bytes) (sym head.0) in
    subst (λ (z : List ℕ). StandsIn hub z after) whole (takes hub mid.head decided)

-- ---- a carriage return that waits

-- the last of some bytes waits, if it is one
holds_piece : (bytes : List ℕ) → 0 < length bytes → Holds bytes (without_return bytes)
    (ltb (length (without_return bytes)) (length bytes))
holds_piece bytes some = record { shown = refl; whole = go (eqb (get_or bytes (length bytes - 1) 0) 13) refl }
  where
    shorter : List ℕ
    shorter = take (length bytes - 1) bytes

    short : length (take (length bytes - 1) bytes) < length bytes
    short = omega (arith, length-take (length bytes - 1) bytes, some)

    again : get_or bytes (length bytes - 1) 0 ≡ 13 → bytes ≡ take (length bytes - 1) bytes ++ 13 ∷ []
    again e =
        let all : length bytes - 1 + 1 ≡ length bytes = omega (arith, some) in
        let inside : length bytes - 1 < length bytes = omega (arith, some) in
        sym (ap (λ (n : ℕ). take n bytes) all ∙ take_all (length bytes) bytes (omega arith))
        ∙ take_more bytes (length bytes - 1) 0 inside ∙ ap (λ (b : ℕ). take (length bytes - 1) bytes ++ b ∷ []) e

    go : (t : Bool) → eqb (get_or bytes (length bytes - 1) 0) 13 ≡ t
        → bytes ≡ cond (ltb (length (cond t (take (length bytes - 1) bytes) bytes)) (length bytes))
        (cond t (take (length bytes - 1) bytes) bytes ++ 13 ∷ []) (cond t (take (length bytes - 1) bytes) bytes)
    go true e =
        again (eqb-true (get_or bytes (length bytes - 1) 0) 13 e)
        ∙ ap (λ (b : Bool). cond b (take (length bytes - 1) bytes ++ 13 ∷ []) (take (length bytes - 1) bytes))
        (sym (lt-ltb (length (take (length bytes - 1) bytes)) (length bytes) short))
    go false e = ap (λ (b : Bool). cond b (bytes ++ 13 ∷ []) bytes) (sym (le-ltb (length bytes) (length bytes) (omega arith)))

-- bytes of a line were taken behind all that stand before them, but for a carriage return at their end
pub part_taken : {G O : Type 0} (before after : HubView G O) (members : List (Member G O)) (head bytes content : List ℕ)
    (part : Part) (held : Bool)
    → 0 < length bytes → content ≡ without_return bytes → held ≡ ltb (length content) (length bytes) → after.held ≡ held
    → ((hub : List Opened) (seen : List ℕ) → StandsBehind hub seen before → Stands true hub seen head part members)
    → TakesIn (hub_view members head part held) content after
    → (hub : List Opened) (seen : List ℕ) → StandsBehind hub seen before → StandsBehind hub (seen ++ bytes) after
part_taken before after members head bytes content part held some shown waits same releases takes = λ hub seen behind.
    let of_piece : Holds bytes content held =
    subst (λ (b : Bool). Holds bytes content b) (sym waits)
    (subst (λ (z : List ℕ). Holds bytes z (ltb (length z) (length bytes))) (sym shown) (holds_piece bytes some)) in
    record {
      content = seen ++ content;
      holds = subst (λ (b : Bool). Holds (seen ++ bytes) (seen ++ content) b) (sym same) (holds_on seen some of_piece);
      stands = takes hub seen (releases hub seen behind);
    }
