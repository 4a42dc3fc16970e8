-- Waking a variable again changes nothing.
use Rattle.std.proofs.Common.{◌≡◌, ℕ, false, List, map, Contains, Option, Some, ◌↔◌, ◌⊎◌, inl, inr, refl, sym, ◌∙◌, subst}
use Rattle.palm_base.specs.declared.terms.Cid.{Cid}
use Rattle.palm_base.proofs.cited.Members.{map_agree}
use Rattle.palm_agenda.specs.declared.agenda.Woken.{Woken}
use Rattle.palm_agenda.specs.declared.loss.Loss.{Loss}
use Rattle.palm_agenda.specs.declared.open.Open.{Open}
use Rattle.palm_agenda.specs.Agenda.{Connected, IsOver, mark_others}
use Rattle.palm_agenda.specs.Kept.{IsWoken}
use Rattle.palm_agenda.specs.Losses.{heed_of}
use Rattle.palm_agenda.specs.Open.{Covers, is_open}
use Rattle.palm_agenda.specs.declared.connection.Places.TheVariants.{Others}
use Rattle.palm_agenda.proofs.cited.Keeping.{keeps_places, map_twice, others_again, over_kept, told_over}

-- a loss that may not marks nothing more at the other places of the constraints over the variable
again : (still : Open) (x : ℕ) (loss more : Loss) (connected : List Connected) → is_open still more ≡ false
    → ((d : Connected) → Contains connected d → Contains d.scope x → Covers still (Others loss) (heed_of x d.scope d.heeds))
    → map (mark_others x more) (map (mark_others x loss) connected) ≡ map (mark_others x loss) connected
again still x loss more connected shut covers =
    map_twice (mark_others x more) (mark_others x loss) connected
    ∙ map_agree (λ d. mark_others x more (mark_others x loss d)) (mark_others x loss) connected
    (λ d m. others_again x loss more d (λ t mark. covers d m (told_over x d t) more mark shut))

-- what is noted after a waking
pub woken_noted : (still : Open) (x : ℕ) (loss : Loss) (cids : List Cid) (connected after : List Connected) (pending now : List Cid)
    → after ≡ map (mark_others x loss) connected → ((c : Cid) → Contains now c ↔ (Contains pending c ⊎ IsOver connected x c)) → ((c : Cid) → Contains cids c ↔ IsOver connected x c)
    → ((d : Connected) → Contains connected d → Contains cids d.cid → Covers still (Others loss) (heed_of x d.scope d.heeds)) → IsWoken (Some (record { var = x; still = still })) after now
woken_noted still x loss cids connected after pending now becomes each over covers = (
  λ more shut. subst (λ ds. map (mark_others x more) ds ≡ ds) (sym becomes)
      (again still x loss more connected shut (λ d m o. covers d m ((over d.cid).1 (record { owner = d; listed = m; named = refl; over = o })))),
  λ c h. (each c).1 (inr ((over_kept (mark_others x loss) (keeps_places (Others loss) x) connected x c).0 (subst (λ ds. IsOver ds x c) becomes h))),
)

-- which shows where it is noted
pub woken_already : (noted : Option Woken) (x : ℕ) (loss : Loss) (connected : List Connected) (pending : List Cid) → IsWoken noted connected pending
    → (w : Woken) × (noted ≡ Some w) × (w.var ≡ x) × (is_open w.still loss ≡ false)
    → (connected ≡ map (mark_others x loss) connected) × ((c : Cid) → Contains pending c ↔ (Contains pending c ⊎ IsOver connected x c))
woken_already noted x loss connected pending kept is =
    let woken : IsWoken (Some is.0) connected pending = subst (λ n. IsWoken n connected pending) is.1 kept in (
      subst (λ y. connected ≡ map (mark_others y loss) connected) is.2 (sym (woken.0 loss is.3)),
      λ c. (λ m. inl m, λ h. elim h [ inl m ↦ m | inr over ↦ woken.1 c (subst (λ y. IsOver connected y c) (sym is.2) over) ]),
    )
