-- Pending constraints that are taken because they have no mark.
use Rattle.std.proofs.Common.{◌≡◌, ℕ, zero, suc, ◌+◌, ◌<◌, Bool, true, false, List, [], ◌∷◌, ◌++◌, length, get_or, set, Contains, All, Some, inl, inr, refl, sym, ap, ◌∙◌, subst, arith}
use Rattle.std.proofs.lemmas.Bool.{false≢true}
use Rattle.std.proofs.lemmas.List.{append_assoc, get_or-map, length-append, length-map}
use Rattle.std.proofs.lemmas.List.Elements.{Contains-append_cases}
use Rattle.std.proofs.lemmas.Option.{get_or_from_slice_get, slice_get-get_or, slice_get_within}
use Rattle.palm_base.specs.declared.terms.Cid.{Cid}
use Rattle.palm_base.specs.Order.{IsPartedAt, cid_before}
use Rattle.palm_base.proofs.cited.Members.{member_single}
use Rattle.palm_agenda.specs.Agenda.{Connected, TakesClear, Waiting, connected_cids}
use Rattle.palm_agenda.specs.Cids.{Roomy}
use Rattle.palm_agenda.specs.Flags.{IsFirst, flagged}
use Rattle.palm_agenda.specs.Kept.{IsAgenda}
use Rattle.palm_agenda.specs.declared.mark.Mark.TheVariants.{Clear}
use Rattle.palm_agenda.proofs.Flagged.{AreLowered}
use Rattle.palm_agenda.proofs.cited.Connecting.{cid_of, named_stands, standing_parted}
use Rattle.palm_agenda.proofs.cited.Keeping.{marks_here}

-- the first id that is pending, and the others
first_split : (cid : Cid) (cids : List Cid) (flags : List Bool) (i : ℕ) → i < length cids → i < length flags → ((d : Cid) → get_or cids i d ≡ cid) → ((d : Bool) → get_or flags i d ≡ true) → AreLowered flags i
    → flagged cids flags ≡ cid ∷ flagged cids (set flags i false)
first_split cid [] flags i lt within at raised lowered = absurd (omega arith)
first_split cid (n ∷ cids) [] i lt within at raised lowered = absurd (omega arith)
first_split cid (n ∷ cids) (true ∷ flags) zero lt within at raised lowered = ap (λ c. c ∷ flagged cids flags) (at n)
first_split cid (n ∷ cids) (false ∷ flags) zero lt within at raised lowered = absurd (false≢true (raised false))
first_split cid (n ∷ cids) (true ∷ flags) (suc i) lt within at raised lowered = absurd (false≢true (sym (lowered 0 true (omega arith) (omega arith))))
first_split cid (n ∷ cids) (false ∷ flags) (suc i) lt within at raised lowered =
    first_split cid cids flags i (omega arith) (omega arith) at raised (λ k d ge l. lowered (suc k) d (omega arith) (omega arith))

-- the first one is taken, where it is clear
pub first_cleared : (connected : List Connected) (over : List Roomy) (flags now : List Bool) (shown : ℕ) → IsAgenda connected over flags shown → (place : ℕ) → IsFirst flags place → now ≡ set flags place false
    → (d : Connected) → d ≡ get_or connected place d → All (λ mark. mark ≡ Clear) d.marks
    → TakesClear (record { connected = connected; pending = flagged (connected_cids connected) flags }) (record { connected = connected; pending = flagged (connected_cids connected) now }) 1 1
first_cleared connected over flags now shown kept place first is d item clear =
    let within : place < length flags = slice_get_within flags place true first.raised in
    let same = kept.flag_each in
    let long = length-map connected cid_of in
    let named : (c : Cid) → get_or (connected_cids connected) place c ≡ d.cid = λ c. get_or-map cid_of connected place d c (omega arith) ∙ ap cid_of (sym item) in
    let stands = named_stands cid_of connected place d.cid (slice_get-get_or (connected_cids connected) place d.cid (omega arith) ∙ ap Some (named d.cid)) in
    let at : IsPartedAt (λ e. cid_before e.cid d.cid) connected place = standing_parted connected kept.formed.rising (record { cid = d.cid; at = place }) stands in
    record {
      taken = d.cid ∷ [];
      order =
          first_split d.cid (connected_cids connected) flags place (omega arith) within named (λ b. get_or_from_slice_get flags place true b first.raised) first.before
          ∙ ap (λ bs. d.cid ∷ flagged (connected_cids connected) bs) (sym is);
      many = refl;
      within = omega arith;
      connected = refl;
      clear = λ e listed among.
          subst (λ (f : Connected). All (λ mark. mark ≡ Clear) f.marks) (marks_here connected d.cid place kept.formed.rising at d item e listed (sym (member_single d.cid e.cid among))) clear;
    }

-- one more is taken
pub one_more_cleared : (first now after : Waiting) (count : ℕ) → TakesClear first now count count → TakesClear now after 1 1 → TakesClear first after (count + 1) (count + 1)
one_more_cleared first now after count before one = record {
  taken = before.taken ++ one.taken;
  order = before.order ∙ ap (λ cids. before.taken ++ cids) one.order ∙ sym (append_assoc before.taken one.taken after.pending);
  many = omega (arith, length-append before.taken one.taken, before.many, one.many);
  within = omega arith;
  connected = one.connected ∙ before.connected;
  clear = λ d listed among. elim (Contains-append_cases before.taken one.taken d.cid among) [
    | inl m ↦ before.clear d listed m
    | inr m ↦ one.clear d (subst (λ ds. Contains ds d) (sym before.connected) listed) m
  ];
}
