-- Summaries: there is one for each number of queens, and no other.
use Rattle.std.proofs.Common.{◌≡◌, ℕ, ◌≤◌, false, List, [], ◌∷◌, ◌++◌, map, flat_map, Option, Result, Ok, Err, refl, sym, ap, ◌∙◌, subst, append_assoc, append-nil}
use Rattle.std.proofs.lemmas.List.Elements.{All-nil}
use Rattle.palm_base.proofs.cited.Members.{member_nil}
use Rattle.palm_base.proofs.cited.StreamLemmas.{appended_both}
use Rattle.palm_base.specs.Streams.{SinkState, Appended, AppendedProperFront, Rose}
use Rattle.palm_lang.proofs.cited.Writes.{stopped_at_fault, stopped_at_once, stopped_in_first, stopped_in_second}
use Rattle.palm_lang.specs.Reply.{ended}
use Rattle.palm_lang.specs.Writing.{AppendedUntil}
use Rattle.palm_session.specs.Answers.{Answers}
use Rattle.palm_read.specs.Lines.{without_return}
use Rattle.palm_session.specs.Replies.{Run, Replies, ChoosesObject, chooses_guide, chooses_order, all}
use Rattle.palm_session.specs.State.{SessionState, IsState, fresh}
use Rattle.palm_session.proofs.cited.FeedLemmas.{run_then}
use Rattle.palm_session.proofs.cited.LawsOfAnswers.{has_answer, answers_keep, answers_without, answers_once}
use Rattle.palm_session.proofs.cited.LawsOfChanges.{IsWithout}
use Rattle.palm_session.proofs.cited.LawsOfStates.{fresh_is}
use Rattle.palm_session.proofs.cited.LawsOfTexts.{has_run, run_keeps}
use Rattle.palm_cli.proofs.InnerLines.{all_generated}
use Rattle.palm_pump.proofs.cited.TakenBytes.{rose_after}
use Rattle.palm_cli.proofs.SolveLemmas.{all_bare, all_unbroken, all_go_on}
use Rattle.palm_cli.specs.Commands.{WritesSummary, status_of}
use Rattle.palm_cli.specs.Generator.{IsSummary, heading, posing_lines, easing_lines, solve_line, generated_lines, generated_text}
use Rattle.palm_cli.specs.Solving.{Solves, SolvesPart, SolvesAfter}
use Rattle.palm_cli.specs.declared.limits.TheConstants.{MOST_QUEENS}
use Rattle.palm_cli.specs.declared.status.Status.TheVariants.{WriteFault, NoMemory}
use Rattle.palm_lang.specs.declared.stop.WriteStop.{WriteStop as Stop}
use Rattle.palm_lang.specs.declared.stop.WriteStop.TheVariants as stops
use Rattle.palm_session.specs.Objects.{HeldObjects}
use Rattle.palm_session.specs.Feeding.{View}

abbrev start : SessionState
start = fresh [] []

started : IsState start
started = fresh_is [] []

-- what is held after a step is again a state that a session can hold
pub keeps_state : (s t : SessionState) (lines : List (List ℕ)) (was now : Option (List ℕ)) → IsState s → Solves s lines was now t → IsState t
keeps_state s t lines was now is one = answers_keep one.between solve_line one.reply t (run_keeps s lines one.replies one.between is one.run) one.answers

pub fresh_state : {G O : Type 0} (session : View G O) → session ≡ record { state = start; checks = 0; objects = session.objects; unfinished = []; over = false } → IsState session.state
fresh_state {G = G} {O = O} session e = subst (λ (v : View G O). IsState v.state) (sym e) started

module _ {G O : Type 0} (objects : HeldObjects G O) (session : View G O) (made : session ≡ record { state = start; checks = 0; objects = objects; unfinished = []; over = false }) where
  pub starts : session.state ≡ start
  starts = ap (λ (v : View G O). v.state) made

  pub starts_whole : session.unfinished ≡ []
  starts_whole = ap (λ (v : View G O). v.unfinished) made

  pub starts_open : session.over ≡ false
  starts_open = ap (λ (v : View G O). v.over) made

  -- whatever its objects are
  pub own_objects : session ≡ record { state = start; checks = 0; objects = session.objects; unfinished = []; over = false }
  own_objects = subst (λ (v : View G O). v ≡ record { state = start; checks = 0; objects = v.objects; unfinished = []; over = false }) (sym made) refl

-- ---- there is a summary, however far it was told

-- what is left behind the first `solve` line
record Behind (size : ℕ) (first : List ℕ) : Type 0 where
  second : List ℕ
  is : IsSummary size (heading size ++ first ++ second)

behind : (size : ℕ) (posed solved : SessionState) (posing first : List ℕ) → Run start (posing_lines size) posing posed → Answers posed solve_line first solved → Behind size first
behind size posed solved posing first poses solves =
    let here = answers_keep posed solve_line first solved (run_keeps start (posing_lines size) posing posed started poses) solves in
    let eases = has_run solved (easing_lines size) here in
    let again = has_answer eases.1 (run_keeps solved (easing_lines size) eases.0 eases.1 here eases.2) solve_line in
    record {
      second = again.0;
      is = record {
        posed = posed;
        solved = solved;
        eased = eases.1;
        last = again.1;
        posing = posing;
        first = first;
        easing = eases.0;
        second = again.0;
        poses = poses;
        solves = solves;
        eases = eases.2;
        solves_again = again.2;
        whole = refl;
      };
    }

record HasSummary (size : ℕ) : Type 0 where
  first : List ℕ
  second : List ℕ
  is : IsSummary size (heading size ++ first ++ second)

has_summary : (size : ℕ) → HasSummary size
has_summary size =
    let poses = has_run start (posing_lines size) started in
    let solves = has_answer poses.1 (run_keeps start (posing_lines size) poses.0 poses.1 started poses.2) solve_line in
    let more = behind size poses.1 solves.1 poses.0 solves.0 poses.2 solves.2 in
    record { first = solves.0; second = more.second; is = more.is }

-- the summary was written until the stop
pub record TellsPart (stop : Stop) (size : ℕ) (was now : Option (List ℕ)) : Type 0 where
  pub summary : List ℕ
  pub is : IsSummary size summary
  pub written : AppendedUntil stop was now summary

pub told_nothing : (size : ℕ) (was : Option (List ℕ)) → TellsPart stops.NoMemory size was was
told_nothing size was =
    let h = has_summary size in
    record {
      summary = heading size ++ h.first ++ h.second;
      is = h.is;
      written = stopped_at_once was (heading size ++ h.first ++ h.second);
    }

pub told_heading : (size : ℕ) (was now : Option (List ℕ)) → AppendedProperFront was now (heading size) → TellsPart stops.WriteFault size was now
told_heading size was now f =
    let h = has_summary size in
    record {
      summary = heading size ++ h.first ++ h.second;
      is = h.is;
      written = stopped_in_first was now (heading size ++ h.first) h.second (stopped_in_first was now (heading size) h.first (stopped_at_fault was now (heading size) f));
    }

pub told_first : {stop : Stop} (size : ℕ) (was mid now : Option (List ℕ)) → Appended was mid (heading size) → SolvesPart stop start (posing_lines size) mid now → TellsPart stop size was now
told_first size was mid now h p =
    let more = behind size p.between p.after p.replies p.reply p.run p.answers in
    record {
      summary = heading size ++ p.reply ++ more.second;
      is = more.is;
      written = stopped_in_first was now (heading size ++ p.reply) more.second (stopped_in_second was mid now (heading size) p.reply h p.written);
    }

-- the summary by its two steps
summed : (size : ℕ) (s t : SessionState) (a b : Option (List ℕ)) (one : Solves start (posing_lines size) a b s) (between : SessionState) (replies reply : List ℕ)
    → Run s (easing_lines size) replies between → Answers between solve_line reply t → IsSummary size (heading size ++ one.reply ++ reply)
summed size s t a b one between replies reply run answers = record {
  posed = one.between;
  solved = s;
  eased = between;
  last = t;
  posing = one.replies;
  first = one.reply;
  easing = replies;
  second = reply;
  poses = one.run;
  solves = one.answers;
  eases = run;
  solves_again = answers;
  whole = refl;
}

pub told_second : {stop : Stop} (size : ℕ) (s : SessionState) (was then mid now : Option (List ℕ)) → Appended was then (heading size) → Solves start (posing_lines size) then mid s
    → SolvesPart stop s (easing_lines size) mid now → TellsPart stop size was now
told_second size s was then mid now h one p =
    record {
      summary = heading size ++ one.reply ++ p.reply;
      is = summed size s p.after then mid one p.between p.replies p.reply p.run p.answers;
      written = stopped_in_second was mid now (heading size ++ one.reply) p.reply (appended_both was then mid (heading size) one.reply h one.written) p.written;
    }

-- the whole summary was written
pub record TellsAll (size : ℕ) (was now : Option (List ℕ)) : Type 0 where
  pub summary : List ℕ
  pub is : IsSummary size summary
  pub written : Appended was now summary

pub told_all : (size : ℕ) (s t : SessionState) (was then mid now : Option (List ℕ)) → Appended was then (heading size) → Solves start (posing_lines size) then mid s
    → Solves s (easing_lines size) mid now t → TellsAll size was now
told_all size s t was then mid now h one two = record {
  summary = heading size ++ one.reply ++ two.reply;
  is = summed size s t then mid one two.between two.replies two.reply two.run two.answers;
  written = appended_both was mid now (heading size ++ one.reply) two.reply (appended_both was then mid (heading size) one.reply h one.written) two.written;
}

-- ---- the same by status

pub wants : (size : ℕ) (before : SinkState) → WritesSummary size before before NoMemory
wants size before = let t = told_nothing size before.written in (refl, t.summary, t.is, t.written)

pub fails_heading : (size : ℕ) (before after : SinkState) → Rose before.faults after.faults → AppendedProperFront before.written after.written (heading size) → WritesSummary size before after WriteFault
fails_heading size before after rose f = let t = told_heading size before.written after.written f in (rose, t.summary, t.is, t.written)

pub stops_heading : (size : ℕ) (before after : SinkState) (text : List ℕ) → text ≡ heading size → Rose before.faults after.faults → AppendedProperFront before.written after.written text → WritesSummary size before after WriteFault
stops_heading size before after text is rose f = fails_heading size before after rose (subst (λ (z : List ℕ). AppendedProperFront before.written after.written z) is f)

-- the first step stopped
pub first_stops : {G O : Type 0} (T U : Type 0) (size : ℕ) (before mid after : SinkState) (session later : View G O) (e : Stop) → session.state ≡ start → mid.faults ≡ before.faults
    → Appended before.written mid.written (heading size) → SolvesAfter {T = T} session (posing_lines size) mid after later (Err e) → WritesSummary size before after (status_of {T = U} (Err e))
first_stops T U size before mid after session later stops.WriteFault is calm h p =
    let t = told_first size before.written mid.written after.written h (subst (λ (s : SessionState). SolvesPart stops.WriteFault s (posing_lines size) mid.written after.written) is p.1) in
    (rose_after before.faults mid.faults after.faults calm p.0, t.summary, t.is, t.written)
first_stops T U size before mid after session later stops.NoMemory is calm h p =
    let t = told_first size before.written mid.written after.written h (subst (λ (s : SessionState). SolvesPart stops.NoMemory s (posing_lines size) mid.written after.written) is p.1) in
    (p.0 ∙ calm, t.summary, t.is, t.written)

-- the second step stopped, or did not
pub second_ends : {G O : Type 0} {T U : Type 0} (x : T) (size : ℕ) (before mid then after : SinkState) (session first last : View G O) (r : Result U Stop) → session.state ≡ start → mid.faults ≡ before.faults
    → Appended before.written mid.written (heading size) → SolvesAfter {T = T} session (posing_lines size) mid then first (Ok x)
    → SolvesAfter {T = U} first (easing_lines size) then after last r → WritesSummary size before after (status_of r)
second_ends x size before mid then after session first last (Ok y) is calm h one two =
    let begun : Solves start (posing_lines size) mid.written then.written first.state = subst (λ (s : SessionState). Solves s (posing_lines size) mid.written then.written first.state) is one.1 in
    let t = told_all size first.state last.state before.written mid.written then.written after.written h begun two.1 in
    (two.0 ∙ one.0 ∙ calm, t.summary, t.is, t.written)
second_ends x size before mid then after session first last (Err stops.WriteFault) is calm h one two =
    let begun : Solves start (posing_lines size) mid.written then.written first.state = subst (λ (s : SessionState). Solves s (posing_lines size) mid.written then.written first.state) is one.1 in
    let t = told_second size first.state before.written mid.written then.written after.written h begun two.1 in
    (rose_after before.faults then.faults after.faults (one.0 ∙ calm) two.0, t.summary, t.is, t.written)
second_ends x size before mid then after session first last (Err stops.NoMemory) is calm h one two =
    let begun : Solves start (posing_lines size) mid.written then.written first.state = subst (λ (s : SessionState). Solves s (posing_lines size) mid.written then.written first.state) is one.1 in
    let t = told_second size first.state before.written mid.written then.written after.written h begun two.1 in
    (two.0 ∙ one.0 ∙ calm, t.summary, t.is, t.written)

-- ---- no other

chooses_none : (line : List ℕ) → ChoosesObject [] [] line → ⊥
chooses_none line (chooses_guide number c r) = member_nil number c
chooses_none line (chooses_order number c r) = member_nil number c

-- two runs of the same lines without guides and orders
record Same (t u : SessionState) (a b : List ℕ) : Type 0 where
  states : t ≡ u
  replies : a ≡ b
  free : IsWithout [] [] t
  is : IsState t

one_answer : (s t u : SessionState) (line a b : List ℕ) → IsWithout [] [] s → IsState s → Answers s line a t → Answers s line b u → Same t u a b
one_answer s t u line a b free is x y =
    let one = answers_once s line a b t u free.unguided free.free is x y in
    record { states = one.1; replies = one.0; free = answers_without [] [] s line a t (chooses_none line) x free; is = answers_keep s line a t is x }

one_run : (s t u : SessionState) (lines : List (List ℕ)) (a b : List ℕ) → IsWithout [] [] s → IsState s → Run s lines a t → Run s lines b u → Same t u a b
one_run s t u [] a b free is x y = record {
  states = x.1 ∙ sym y.1;
  replies = x.0 ∙ sym y.0;
  free = subst (λ (z : SessionState). IsWithout [] [] z) (sym x.1) free;
  is = subst IsState (sym x.1) is;
}
one_run s t u (l ∷ ls) a b free is x y =
    let one = one_answer s x.2 y.2 l x.0 y.0 free is x.3 y.3 in
    let there : Run x.2 ls y.1 u = subst (λ (z : SessionState). Run z ls y.1 u) (sym one.states) y.5 in
    let rest = one_run x.2 t u ls x.1 y.1 one.free one.is x.5 there in
    record {
      states = rest.states;
      replies = x.4 ∙ ap (λ (z : List ℕ). z ++ x.1) one.replies ∙ ap (λ (z : List ℕ). y.0 ++ z) rest.replies ∙ sym y.4;
      free = rest.free;
      is = rest.is;
    }

none_chosen : IsWithout [] [] start
none_chosen = record { unguided = refl; free = refl; guides_within = λ n c. c; orders_within = λ n c. c }

pub one_summary : (size : ℕ) (a b : List ℕ) → IsSummary size a → IsSummary size b → a ≡ b
one_summary size a b x y =
    let posed = one_run start x.posed y.posed (posing_lines size) x.posing y.posing none_chosen started x.poses y.poses in
    let solved = one_answer x.posed x.solved y.solved solve_line x.first y.first posed.free posed.is x.solves
    (subst (λ (z : SessionState). Answers z solve_line y.first y.solved) (sym posed.states) y.solves) in
    let eased = one_run x.solved x.eased y.eased (easing_lines size) x.easing y.easing solved.free solved.is x.eases
    (subst (λ (z : SessionState). Run z (easing_lines size) y.easing y.eased) (sym solved.states) y.eases) in
    let again = one_answer x.eased x.last y.last solve_line x.second y.second eased.free eased.is x.solves_again
    (subst (λ (z : SessionState). Answers z solve_line y.second y.last) (sym eased.states) y.solves_again) in
    x.whole ∙ ap (λ (z : List ℕ). heading size ++ z ++ x.second) solved.replies ∙ ap (λ (z : List ℕ). heading size ++ y.first ++ z) again.replies ∙ sym y.whole

-- ---- the replies are those to the text

one_line : (s t : SessionState) (line reply : List ℕ) → Answers s line reply t → Run s (line ∷ []) reply t
one_line s t line reply a = (reply, [], t, a, sym (append-nil reply), (refl, refl))

pub of_replies : (size : ℕ) (summary : List ℕ) (s : IsSummary size summary) → size ≤ MOST_QUEENS → Replies [] [] (generated_text size) (s.posing ++ s.first ++ s.easing ++ s.second)
of_replies size summary s few =
    let lines : List (List ℕ) = generated_lines size in
    let inner = all_generated size few in
    let front : List (List ℕ) = posing_lines size ++ (solve_line ∷ easing_lines size) in
    let one = run_then s.posed s.solved s.eased (solve_line ∷ []) (easing_lines size) s.first s.easing (one_line s.posed s.solved solve_line s.first s.solves) s.eases in
    let two = run_then start s.posed s.eased (posing_lines size) (solve_line ∷ easing_lines size) s.posing (s.first ++ s.easing) s.poses one in
    let three = run_then start s.eased s.last front (solve_line ∷ []) (s.posing ++ (s.first ++ s.easing)) s.second two (one_line s.eased s.last solve_line s.second s.solves_again) in
    record {
      lines = lines;
      answered = lines;
      state = s.last;
      are_lines = record {
        ended_lines = lines;
        rest = [];
        cuts = record { whole = sym (append-nil (flat_map ended lines)); unbroken = all_unbroken lines inner; unfinished = All-nil (λ b. b ≡ 10 → ⊥) };
        all = sym (append-nil (map without_return lines) ∙ all_bare lines inner);
      };
      are_answered = all (all_go_on lines inner);
      run = subst (λ (z : List ℕ). Run start lines z s.last) (ap (λ (z : List ℕ). z ++ s.second) (sym (append_assoc s.posing s.first s.easing))) three;
    }
