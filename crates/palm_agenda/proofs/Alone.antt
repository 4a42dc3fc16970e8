-- Constraints that heed losses where one value is left alone.
use Rattle.std.proofs.Common.{◌≡◌, ℕ, suc, ◌≤◌, Bool, true, false, not, if◌then◌else◌, List, [], ◌∷◌, length, get_or, map, Contains, All, ◌⊎◌, ◌↔◌, Some, inl, inr, refl, sym, ap, ◌∙◌, subst, arith, nat_eq, eq-eqb}
use Rattle.std.proofs.lemmas.Bool.{cases_Bool, false≢true}
use Rattle.palm_base.specs.declared.terms.Cid.{Cid}
use Rattle.palm_base.proofs.cited.Members.{map_agree, member_cases, member_nil, member_unmap}
use Rattle.palm_filter.specs.declared.heed.Heed.{Heed}
use Rattle.palm_filter.specs.declared.heed.Heed.TheVariants.{Alone}
use Rattle.palm_agenda.specs.declared.connection.Places.TheVariants.{Others}
use Rattle.palm_agenda.specs.declared.loss.Loss.{Loss}
use Rattle.palm_agenda.specs.declared.mark.Mark.{Mark}
use Rattle.palm_agenda.specs.declared.mark.Mark.TheVariants.{Whole}
use Rattle.palm_agenda.specs.declared.open.Open.{Open}
use Rattle.palm_agenda.specs.Agenda.{Connected, HeedsAlone, IsOver, is_over, mark_others, with_connected, without_connected}
use Rattle.palm_agenda.specs.Kept.{IsHeedful, IsWoken}
use Rattle.palm_agenda.specs.Losses.{heed_of, mark_after}
use Rattle.palm_agenda.specs.Open.{is_open}
use Rattle.palm_agenda.proofs.cited.Connecting.{with_connected_cases, without_connected_member}
use Rattle.palm_agenda.proofs.cited.Keeping.{KeepsScopes, if_false, others_after, others_none, places_alone, told_over}

-- ---- how it shows

-- where each is heeded so, those of a variable of the scope are
pub alone_at : (scope : List ℕ) (heeds : List Heed) (x : ℕ) → length scope ≤ length heeds → All (λ heed. heed ≡ Alone) heeds → Contains scope x → heed_of x scope heeds ≡ Alone
alone_at [] heeds x le all m = absurd (member_nil x m)
alone_at (y ∷ scope) [] x le all m = absurd (omega (arith, le))
alone_at (y ∷ scope) (heed ∷ heeds) x le all m = elim (cases_Bool (nat_eq y x)) [
  | inl t ↦ ap (λ b. if b then heed else heed_of x scope heeds) t ∙ all 0 heed (omega arith)
  | inr f ↦
      ap (λ b. if b then heed else heed_of x scope heeds) f
      ∙ alone_at scope heeds x (omega (arith, le)) (λ k d lt. all (suc k) d (omega (arith, lt))) (elim (member_cases y scope x m) [
        | inl e ↦ absurd (apart f e)
        | inr k ↦ k
      ])
]
  where
    apart : nat_eq y x ≡ false → y ≡ x → ⊥
    apart f e = absurd (false≢true (sym f ∙ eq-eqb y x e))

-- ---- a loss that leaves several values

alone_stays : (loss : Loss) → loss.several ≡ true → (heed : Heed) → heed ≡ Alone → (mark : Mark) → mark_after heed loss mark ≡ mark
alone_stays loss several heed is mark = ap (λ h. mark_after h loss mark) is ∙ ap (λ b. if not b then Whole else mark) several

-- marks nothing of such a constraint
pub several_same : (x : ℕ) (loss : Loss) (d : Connected) → loss.several ≡ true → (Contains d.scope x → HeedsAlone d) → mark_others x loss d ≡ d
several_same x loss d several alone = elim (cases_Bool (is_over x d)) [
  | inl t ↦
      let over = told_over x d t in
      elim (alone over x over) [
        | inl is ↦ sym (places_alone (Others loss) x d over (alone_stays loss several (heed_of x d.scope d.heeds) is))
        | inr one ↦ others_none x loss d one
      ]
  | inr f ↦ if_false (is_over x d) (others_after x loss d) d f
]

module _ (heedful : List Bool) (connected : List Connected) (kept : IsHeedful heedful connected) (x : ℕ) (rests : get_or heedful x false ≡ false) where
  -- nor of any over the variable
  pub several_marks : (loss : Loss) → loss.several ≡ true → map (mark_others x loss) connected ≡ connected
  several_marks loss several =
      map_agree (mark_others x loss) (λ d. d) connected (λ d m. several_same x loss d several (kept x d rests m))
      ∙ map_same connected
    where
      map_same : (ds : List Connected) → map (λ d. d) ds ≡ ds
      map_same [] = refl
      map_same (d ∷ ds) = ap (λ es. d ∷ es) (map_same ds)

  -- which is noted
  pub several_noted : (still : Open) (pending now : List Cid) → ((l : Loss) → is_open still l ≡ not l.several) → ((c : Cid) → Contains now c ↔ (Contains pending c ⊎ IsOver connected x c))
      → IsWoken (Some (record { var = x; still = still })) connected now
  several_noted still pending now alone each = (
    λ l shut. several_marks l (told l.several (sym (alone l) ∙ shut)),
    λ c over. (each c).1 (inr over),
  )
    where
      told : (b : Bool) → not b ≡ false → b ≡ true
      told true e = refl
      told false e = absurd (false≢true (sym e))

-- ---- what stays noted

pub heedful_less : (before heedful : List Bool) (connected : List Connected) → ((x : ℕ) → get_or heedful x false ≡ false → get_or before x false ≡ false) → IsHeedful before connected → IsHeedful heedful connected
heedful_less before heedful connected stay kept = λ x d rests. kept x d (stay x rests)

alone_kept : (f : Connected → Connected) → KeepsScopes f → (d : Connected) → HeedsAlone d → HeedsAlone (f d)
alone_kept f keeps d alone = subst (λ scope. HeedsAlone (record (f d) { scope = scope })) (sym (keeps.scope d)) (subst (λ heeds. HeedsAlone (record d { heeds = heeds })) (sym (keeps.heeds d)) alone)

pub heedful_kept : (f : Connected → Connected) → KeepsScopes f → (heedful : List Bool) (connected after : List Connected) → after ≡ map f connected → IsHeedful heedful connected → IsHeedful heedful after
heedful_kept f keeps heedful connected after is kept = subst (IsHeedful heedful) (sym is) (λ x e rests m over.
    let r = member_unmap f connected e m in
    subst HeedsAlone r.2 (alone_kept f keeps r.0 (kept x r.0 rests r.1 (subst (λ xs. Contains xs x) (keeps.scope r.0) (subst (λ (d : Connected). Contains d.scope x) (sym r.2) over)))))

pub heedful_with : (d : Connected) (heedful : List Bool) (connected after : List Connected) → after ≡ with_connected d connected → IsHeedful heedful connected
    → ((x : ℕ) → get_or heedful x false ≡ false → Contains d.scope x → HeedsAlone d) → IsHeedful heedful after
heedful_with d heedful connected after is kept alone = subst (IsHeedful heedful) (sym is) (λ x e rests m over. elim (with_connected_cases d connected e m) [
  | inl s ↦ subst HeedsAlone s (alone x rests (subst (λ (f : Connected). Contains f.scope x) (sym s) over))
  | inr k ↦ kept x e rests k over
])

pub heedful_without : (cid : Cid) (heedful : List Bool) (connected after : List Connected) → after ≡ without_connected cid connected → IsHeedful heedful connected → IsHeedful heedful after
heedful_without cid heedful connected after is kept = subst (IsHeedful heedful) (sym is) (λ x e rests m over. kept x e rests (without_connected_member cid connected e m).0 over)
