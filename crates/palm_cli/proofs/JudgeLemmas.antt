-- How `check` and `proof` end.
use Rattle.std.proofs.Common.{◌≡◌, ℕ, ◌+◌, ◌⊎◌, List, [], ◌++◌, length, refl, sym, ap, ◌∙◌, subst, arith, append-nil, length-append, inl, inr}
use Rattle.palm_base.specs.Streams.{SourceState, SinkState, Appended, AppendedProperFront, Rose}
use Rattle.palm_base.proofs.cited.StreamLemmas.{consumes_nothing}
use Rattle.palm_claim.proofs.cited.Unique.{one_verdict}
use Rattle.palm_pump.proofs.cited.TakenBytes.{told_once}
use Rattle.palm_pump.specs.Collected.{Keeps}
use Rattle.palm_pump.specs.Pumping.{Begins, Pumps, StopsInTime}
use Rattle.palm_pump.specs.Streams.{HasNoFault, Streams, TakesOver}
use Rattle.palm_pump.specs.Taking.{Progress, Taking}
use Rattle.palm_pump.specs.declared.ending.PumpEnd.{PumpEnd}
use Rattle.palm_pump.specs.declared.ending.PumpEnd.TheVariants as ends
use Rattle.proof_text.proofs.cited.Unique.{one_verdict as one_proof_verdict}
use Rattle.palm_cli.specs.Judging.{WritesVerdict}
use Rattle.palm_cli.specs.Commands.{EndsWith, IsCut, IsInTime, JudgesSource, JudgesAll, TakesJudged, TakesText}
use Rattle.palm_cli.specs.Numbers.{status_at}
use Rattle.palm_cli.specs.Verdicts.{IsTold, proof_status, verdict_status}
use Rattle.palm_cli.specs.declared.words.Evidence.{Evidence}
use Rattle.palm_cli.specs.declared.words.Evidence.TheVariants.{Certificate, Proof}
use Rattle.palm_cli.specs.declared.status.Status.{Status}
use Rattle.palm_cli.specs.declared.status.Status.TheVariants.{Done, Refused, Usage, ReadFault, WriteFault, NoMemory, TooLong}

-- ---- the line of the verdict

pub tells : (evidence : Evidence) (text line bytes : List ℕ) (before after : SinkState) (status : Status) → (status ≡ Done) ⊎ (status ≡ Refused) → IsTold evidence text line status → bytes ≡ line
    → after.faults ≡ before.faults → Appended before.written after.written bytes → WritesVerdict evidence text before after status
tells evidence text line bytes before after status ends is e calm w =
    let told : Appended before.written after.written line = subst (λ (z : List ℕ). Appended before.written after.written z) e w in
    elim ends [
      | inl done ↦ subst (WritesVerdict evidence text before after) (sym done) (calm, line, subst (IsTold evidence text line) done is, told)
      | inr refused ↦ subst (WritesVerdict evidence text before after) (sym refused) (calm, line, subst (IsTold evidence text line) refused is, told)
    ]

pub tells_front : (evidence : Evidence) (text line bytes : List ℕ) (before after : SinkState) (status : Status) → IsTold evidence text line status → bytes ≡ line
    → Rose before.faults after.faults → AppendedProperFront before.written after.written bytes → WritesVerdict evidence text before after WriteFault
tells_front evidence text line bytes before after status is e rose w = (rose, line, status, is, subst (λ (z : List ℕ). AppendedProperFront before.written after.written z) e w)

-- ---- the ends of the commands

pub judges_nothing : (evidence : Evidence) (before : Streams) → JudgesSource evidence before before NoMemory
judges_nothing evidence before =
    (record { read = refl; write = refl }, [], record { takes = consumes_nothing before.source.left; unwritten = refl }, omega arith)

-- nothing is kept yet
pub begins : (sink : SinkState) (kept : List ℕ) → Begins (Keeps kept) sink kept
begins sink kept = record { going = (sym (append-nil kept), refl); wanting = refl }

-- the last piece came while the text was within the limit
in_time : {T : Type 0} (takes : Taking T) (before : SinkState) (text : List ℕ) → StopsInTime takes before text → IsInTime text
in_time takes before text i = omega (arith, ap length i.whole, length-append i.front i.piece, i.small, i.within)

module _ {T : Type 0} (kept : T) (items : T → List ℕ) (first : List ℕ) (evidence : Evidence) (before : Streams) where
  abbrev Kept : Progress → List ℕ → SinkState → SinkState → T → Type 0
  Kept progress text b a now = Keeps first progress text b a (items now)

  -- no text came of the source
  pub stops : (after : Streams) (end : PumpEnd) (status : Status) → status ≡ status_at end → (end ≡ ends.Done → ⊥)
      → Pumps Kept before after kept end → JudgesSource evidence before after status
  stops after end status is some pumps = subst (JudgesSource evidence before after) (sym is) (by_end end some pumps)
    where
      by_end : (e : PumpEnd) → (e ≡ ends.Done → ⊥) → Pumps Kept before after kept e → JudgesSource evidence before after (status_at e)
      by_end ends.Done some p = absurd (some refl)
      by_end ends.ReadFault some (fails, p, short) = (fails, p.text, record { takes = p.taken; unwritten = p.does.1 }, short)
      by_end ends.WriteFault some (fails, inl p) = absurd p.does
      by_end ends.WriteFault some (fails, inr p) = absurd p.does
      by_end ends.NoMemory some (calm, inl p) = (calm, p.text, record { takes = p.taken; unwritten = p.does }, in_time Kept before.sink p.text p.in_time)
      by_end ends.NoMemory some (calm, inr p) = absurd p.does
      by_end ends.TooLong some (calm, p, long) =
          (calm, p.text, record { takes = p.taken; unwritten = p.does.1 }, long, in_time Kept before.sink p.text p.in_time)

  module _ (source : SourceState) (sink after : SinkState) where
    abbrev read : Streams
    read = record { source = source; sink = sink }

    abbrev now : Streams
    now = record { source = source; sink = after }

    -- the line of the verdict on the whole text was written, or a front of it
    told : (text : List ℕ) (status : Status) → source.faults ≡ before.source.faults → TakesText before.source source text
        → WritesVerdict evidence text before.sink after status → JudgesSource evidence before now status
    told text Done calm t w = (record { read = calm; write = w.0 }, record { text = text; line = w.1; takes = t; is = w.2; written = w.3 })
    told text Refused calm t w = (record { read = calm; write = w.0 }, record { text = text; line = w.1; takes = t; is = w.2; written = w.3 })
    told text WriteFault calm t w =
        (record { read = calm; write = w.0 }, record { text = text; line = w.1; told = w.2; takes = t; is = w.3; written = w.4 })
    told text NoMemory calm t w = (
      record { read = calm; write = ap (λ (k : SinkState). k.faults) w },
      text,
      record { takes = t.takes; unwritten = w },
      omega (arith, t.short),
    )
    told text Usage calm t w = absurd w
    told text ReadFault calm t w = absurd w
    told text TooLong calm t w = absurd w

    -- the bytes that were judged are those that were read
    pub judges : (bytes : List ℕ) (end : PumpEnd) (status : Status) → end ≡ ends.Done → first ≡ [] → bytes ≡ items kept
        → Pumps Kept before read kept end → WritesVerdict evidence bytes sink after status → JudgesSource evidence before now status
    judges bytes end status done none same pumps w = by_end (subst (Pumps Kept before read kept) done pumps)
      where
        by_end : Pumps Kept before read kept ends.Done → JudgesSource evidence before now status
        by_end (calm, inr p) = absurd p.does
        by_end (calm, inl p) =
            told p.text status calm.read (record { takes = p.taken; short = p.short; whole = p.all })
            (subst (λ (z : List ℕ). WritesVerdict evidence z before.sink after status) (same ∙ p.does.0 ∙ ap (λ (z : List ℕ). z ++ p.text) none)
            (subst (λ (k : SinkState). WritesVerdict evidence bytes k after status) p.does.1 w))

-- ---- complete

-- a text is told by one status
told_alike : (evidence : Evidence) (text l m : List ℕ) (s t : Status) → IsTold evidence text l s → IsTold evidence text m t → s ≡ t
told_alike Certificate text l m s t a b = a.status_is ∙ ap verdict_status (one_verdict text a.told b.told a.is b.is) ∙ sym b.status_is
told_alike Proof text l m s t a b = a.status_is ∙ ap proof_status (one_proof_verdict text a.told b.told a.is b.is) ∙ sym b.status_is

-- where the whole text was judged, it was the one that was taken
judged_alike : (evidence : Evidence) (before after : Streams) (s status : Status) → JudgesAll evidence before after s → TakesJudged evidence before after status → s ≡ status
judged_alike evidence before after s status c t =
    let same : c.text ≡ t.text = told_once before.source.left after.source.left t.left c.text t.text t.tells c.takes.takes t.takes in
    told_alike evidence t.text c.line t.line s status (subst (λ (z : List ℕ). IsTold evidence z c.line s) same c.is) t.is

pub judged_status : (evidence : Evidence) (before after : Streams) (told status : Status) → JudgesSource evidence before after status → HasNoFault before after → TakesJudged evidence before after told → EndsWith told status
judged_status evidence before after told Done c none t = inl (judged_alike evidence before after Done told c.1 t)
judged_status evidence before after told Refused c none t = inl (judged_alike evidence before after Refused told c.1 t)
judged_status evidence before after told Usage c none t = absurd c
judged_status evidence before after told ReadFault c none t = absurd (none.read c.0.read)
judged_status evidence before after told WriteFault c none t = absurd (none.write c.0.write)
judged_status evidence before after told NoMemory c none t = inr refl
judged_status evidence before after told TooLong c none t =
    let same : c.1 ≡ t.text = told_once before.source.left after.source.left t.left c.1 t.text t.tells c.2.takes t.takes in
    absurd (omega (arith, ap length same, c.3, t.short))

pub over_status : (evidence : Evidence) (before after : Streams) (status : Status) → JudgesSource evidence before after status → TakesOver before after → IsCut status
over_status evidence before after Done c t =
    absurd (omega (arith, ap length (told_once before.source.left after.source.left t.left c.1.text t.text t.tells c.1.takes.takes t.takes), c.1.takes.short, t.long))
over_status evidence before after Refused c t =
    absurd (omega (arith, ap length (told_once before.source.left after.source.left t.left c.1.text t.text t.tells c.1.takes.takes t.takes), c.1.takes.short, t.long))
over_status evidence before after Usage c t = c
over_status evidence before after ReadFault c t =
    absurd (omega (arith, ap length (told_once before.source.left after.source.left t.left c.1 t.text t.tells c.2.takes t.takes), c.3, t.long))
over_status evidence before after WriteFault c t =
    absurd (omega (arith, ap length (told_once before.source.left after.source.left t.left c.1.text t.text t.tells c.1.takes.takes t.takes), c.1.takes.short, t.long))
over_status evidence before after NoMemory c t = tt
over_status evidence before after TooLong c t = tt
