-- What was asked for, and what was done.
use Rattle.std.proofs.Common.{ℕ, List, Option, Some, None, refl, subst}
use Rattle.palm_cli.proofs.JudgeLemmas.{judges_nothing}
use Rattle.palm_cli.proofs.RunLemmas.{want_at_once}
use Rattle.palm_cli.proofs.SummaryLemmas.{wants}
use Rattle.palm_cli.proofs.WordLemmas.{judge_no_gen, one_evidence, one_size, run_no_gen, run_no_judge}
use Rattle.palm_pump.specs.Streams.{Streams, HasNoFault}
use Rattle.palm_cli.specs.Commands.{Runs, JudgesSource, Generates, Refuses, Obeys, WritesSummary, IsWhole}
use Rattle.palm_cli.specs.Words.{Asks, IsFit, IsGen, IsJudge, IsNoCommand, IsRun}
use Rattle.palm_cli.specs.declared.status.Status.{Status}
use Rattle.palm_cli.specs.declared.status.Status.TheVariants.{Done, Refused, Usage, ReadFault, WriteFault, NoMemory, TooLong}
use Rattle.palm_cli.specs.declared.words.Evidence.{Evidence}
use Rattle.palm_cli.specs.declared.words.Request.{Request}
use Rattle.palm_cli.specs.declared.words.Request.TheVariants.{Run, Judge, Gen}

pub fits : (words : List (List ℕ)) (request : Option Request) → Asks words request → IsFit request
fits words None a = tt
fits words (Some Run) a = tt
fits words (Some (Judge evidence)) a = tt
fits words (Some (Gen size)) a = (a.tells.some, a.tells.few)

module _ (words : List (List ℕ)) (guides orders : List ℕ) (before after : Streams) (status : Status) where
  pub runs_by : (request : Option Request) → Asks words request → Obeys guides orders request before after status → IsRun words → Runs guides orders before after status
  runs_by None a o r = absurd (a.no_run r)
  runs_by (Some Run) a o r = o
  runs_by (Some (Judge evidence)) a o r = absurd (run_no_judge words evidence r a)
  runs_by (Some (Gen size)) a o r = absurd (run_no_gen words size r a)

  pub judges_by : (request : Option Request) → Asks words request → Obeys guides orders request before after status → (evidence : Evidence) → IsJudge words evidence → JudgesSource evidence before after status
  judges_by None a o evidence j = absurd (a.no_judge evidence j)
  judges_by (Some Run) a o evidence j = absurd (run_no_judge words evidence a j)
  judges_by (Some (Judge other)) a o evidence j = subst (λ (e : Evidence). JudgesSource e before after status) (one_evidence words other evidence a j) o
  judges_by (Some (Gen size)) a o evidence j = absurd (judge_no_gen words evidence size j a)

  pub generates_by : (request : Option Request) → Asks words request → Obeys guides orders request before after status → (size : ℕ) → IsGen words size → Generates size before after status
  generates_by None a o size g = absurd (a.no_gen size g)
  generates_by (Some Run) a o size g = absurd (run_no_gen words size a g)
  generates_by (Some (Judge evidence)) a o size g = absurd (judge_no_gen words evidence size a g)
  generates_by (Some (Gen n)) a o size g = subst (λ (k : ℕ). Generates k before after status) (one_size words n size a g) o

  pub refuses_by : (request : Option Request) → Asks words request → Obeys guides orders request before after status → IsNoCommand words → Refuses before after status
  refuses_by None a o n = o
  refuses_by (Some Run) a o n = absurd (n.no_run a)
  refuses_by (Some (Judge evidence)) a o n = absurd (n.no_judge evidence a)
  refuses_by (Some (Gen size)) a o n = absurd (n.no_gen size a)

  pub summed_whole : (size : ℕ) → Generates size before after status → HasNoFault before after → IsWhole status
  summed_whole size g none = go status g.summary none
    where
      go : (end : Status) → WritesSummary size before.sink after.sink end → HasNoFault before after → IsWhole end
      go Done w none = tt
      go NoMemory w none = tt
      go WriteFault w none = absurd (none.write w.0)
      go Refused w none = absurd w
      go Usage w none = absurd w
      go ReadFault w none = absurd w
      go TooLong w none = absurd w

-- ---- at once

pub wants_run : (guides orders : List ℕ) (before : Streams) → Runs guides orders before before NoMemory
wants_run guides orders before = want_at_once guides orders before

pub wants_judge : (evidence : Evidence) (before : Streams) → JudgesSource evidence before before NoMemory
wants_judge evidence before = judges_nothing evidence before

pub wants_gen : (size : ℕ) (before : Streams) → Generates size before before NoMemory
wants_gen size before = record { unread = refl; summary = wants size before.sink }

pub wants_usage : (before : Streams) → Refuses before before NoMemory
wants_usage before = record { unread = refl; usage = refl }
