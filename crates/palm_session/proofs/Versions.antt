-- The mode of a session is set once, and a text that does not begin version 2 has version 1's replies.
use Rattle.std.proofs.Common.{◌≡◌, ℕ, ◌⊎◌, inl, inr, List, [], ◌∷◌, ◌++◌, refl, sym, ap, ◌∙◌, subst}
use Rattle.std.specs.Prelude.{◌↔◌}
use Rattle.palm_base.specs.First.{IsFirst}
use Rattle.palm_base.proofs.cited.FirstCauses.{first_not_none}
use Rattle.palm_lang.specs.Reply.{refusal_text}
use Rattle.palm_lang.specs.declared.reply.Refusal.{Refusal}
use Rattle.palm_read.specs.Lines.{AreLines}
use Rattle.palm_read.specs.Reading.{IsRead, a_comment, a_form}
use Rattle.palm_read.specs.declared.line.Line.{Line}
use Rattle.palm_read.specs.declared.line.Line.TheVariants.{Comment, Header}
use Rattle.palm_read.specs.declared.mode.Mode.{Mode}
use Rattle.palm_read.specs.declared.mode.Mode.TheVariants.{First, One, Two}
use Rattle.palm_read.specs.Modes.{Allows}
use Rattle.palm_read.proofs.cited.Modes.{read_everywhere, read_in_one, refused_in_first, refused_in_one}
use Rattle.palm_session.specs.Answers.{Accepts, waits, contradicts, says, Answers, misread, refused, accepted}
use Rattle.palm_session.specs.Effects.{Changes, Effect, Nothing, Settled, Searched, Next, Rests, Filters, Searches, Follows, Does, next}
use Rattle.palm_session.specs.Modes.{begun, heard, in_mode, mode_after}
use Rattle.palm_session.specs.Refusals.{Meets, in_order}
use Rattle.palm_session.specs.Requests.{IsAdmitted}
use Rattle.palm_session.specs.Replies.{AreAnswered, BeginsVersion2, Replies, RepliesFrom, Run}
use Rattle.palm_session.specs.State.{SessionState, fresh}
use Rattle.palm_session.specs.declared.request.Request.{Request}
use Rattle.palm_session.specs.declared.request.Request.TheVariants.{Nothing as NothingAsked, Header as HeaderAsked, Declare, DeclareIn, Add, Relax, Enforce, Retract, Ask, Pause, Resume, Step, Solve, ChooseGuide, DropGuide, ChooseOrder, DropOrder, Prefer, Quit}
use Rattle.palm_session.proofs.Admitting.{free_of_refusals}
use Rattle.palm_session.proofs.cited.LawsOfTexts.{front_of}

-- ---- no request changes the mode

same_mode : (s z : SessionState) → z ≡ s → z.mode ≡ s.mode
same_mode s z h = ap (λ (x : SessionState). x.mode) h

changes_mode : (s m : SessionState) (request : Request) → Changes s request m → m.mode ≡ s.mode
changes_mode s m NothingAsked h = same_mode s m h
changes_mode s m HeaderAsked h = same_mode s m h
changes_mode s m (Declare name domain) h = same_mode _ m h.2
changes_mode s m (DeclareIn name universe domain) h = same_mode _ m h.2.2 ∙ same_mode _ h.0 h.1.2
changes_mode s m (Add name con) h = same_mode _ m h.2
changes_mode s m (Relax place) h = same_mode _ m h.4
changes_mode s m (Enforce place) h = same_mode _ m h.4
changes_mode s m (Retract place) h = same_mode _ m h.4
changes_mode s m (Ask question) h = same_mode s m h
changes_mode s m Pause h = same_mode _ m h
changes_mode s m Resume h = same_mode _ m h
changes_mode s m (Step count) h = same_mode s m h
changes_mode s m (Solve by) h = same_mode s m h
changes_mode s m (ChooseGuide chosen) h = same_mode _ m h
changes_mode s m (DropGuide number) h = same_mode _ m h
changes_mode s m (ChooseOrder chosen) h = same_mode _ m h
changes_mode s m (DropOrder number) h = same_mode _ m h
changes_mode s m (Prefer place weight) h = same_mode _ m h.2
changes_mode s m Quit h = same_mode s m h

follows_mode : (m : SessionState) (n : Next) (effect : Effect) (t : SessionState) → Follows m n effect t → t.mode ≡ m.mode
follows_mode m Rests Nothing t f = same_mode m t f
follows_mode m (Filters limit) (Settled count) t f = same_mode _ t f.2
follows_mode m (Searches by) (Searched end telling) t f = same_mode _ t f.3
follows_mode m _ _ t f = absurd f

does_mode : (s : SessionState) (request : Request) (effect : Effect) (t : SessionState) → Does s request effect t → t.mode ≡ s.mode
does_mode s request effect t d = follows_mode d.0 (next d.0 request) effect t d.2 ∙ changes_mode s d.0 request d.1

accepts_mode : (s : SessionState) (request : Request) (reply : List ℕ) (t : SessionState) → Accepts s request reply t → t.mode ≡ s.mode
accepts_mode s request reply t (waits w) = refl
accepts_mode s request reply t (contradicts effect goes does c) = does_mode s request effect t does
accepts_mode s request reply t (says effect goes does n x) = does_mode s request effect t does

-- ---- a line sets it where none did

read_allowed : (mode : Mode) (bytes : List ℕ) (line : Line) → IsRead mode bytes line → Allows mode line
read_allowed mode bytes line (a_comment c) = tt
read_allowed mode bytes line (a_form form p f allowed r none once e) = subst (Allows mode) (sym e) allowed

-- behind a comment the mode is the one before, behind the header version 2's, and behind every other line it has begun
data Leaves (mode : Mode) (line : Line) : Type 0 where
  by_comment : line ≡ Comment → Leaves mode line
  by_header : line ≡ Header → Leaves mode line
  by_another : mode_after mode line ≡ begun mode → (line ≡ Comment → ⊥) → (line ≡ Header → ⊥) → Leaves mode line

leaves : (mode : Mode) (line : Line) → Leaves mode line
leaves mode Comment = by_comment refl
leaves mode Header = by_header refl
leaves mode _ = by_another refl (λ e. cc) (λ e. cc)

begun_once : (mode : Mode) → (mode ≡ First → ⊥) → begun mode ≡ mode
begun_once First set = absurd (set refl)
begun_once One set = refl
begun_once Two set = refl

heard_once : (mode : Mode) (bytes : List ℕ) (line : Line) → (mode ≡ First → ⊥) → IsRead mode bytes line → mode_after mode line ≡ mode
heard_once mode bytes line set read = by (leaves mode line)
  where
    by : Leaves mode line → mode_after mode line ≡ mode
    by (by_comment e) = ap (mode_after mode) e
    by (by_header e) = absurd (set (subst (Allows mode) e (read_allowed mode bytes line read)))
    by (by_another e no_comment no_header) = e ∙ begun_once mode set

pub mode_stays : (s : SessionState) (bytes reply : List ℕ) (t : SessionState) → (s.mode ≡ First → ⊥) → Answers s bytes reply t → t.mode ≡ s.mode
mode_stays s bytes reply t set (misread error refusal q some) = begun_once s.mode set
mode_stays s bytes reply t set (refused line refusal read first) = heard_once s.mode bytes line set read
mode_stays s bytes reply t set (accepted line request read a h) = accepts_mode (heard s line) request reply t h ∙ heard_once s.mode bytes line set read

-- ---- comments

nothing_accepted : (s : SessionState) → Accepts s NothingAsked [] s
nothing_accepted s = says Nothing (λ w. w.pausable) (s, refl, refl) (λ c. c.contradictable) refl

nothing_follows : (m : SessionState) (effect : Effect) (t : SessionState) → Follows m Rests effect t → t ≡ m
nothing_follows m Nothing t f = f
nothing_follows m (Settled count) t f = absurd f
nothing_follows m (Searched end telling) t f = absurd f

nothing_once : (s : SessionState) (reply : List ℕ) (t : SessionState) → Accepts s NothingAsked reply t → (reply ≡ []) × (t ≡ s)
nothing_once s reply t (waits w) = absurd w.pausable
nothing_once s reply t (contradicts effect goes does c) = absurd c.contradictable
nothing_once s reply t (says effect goes does n x) = (x, nothing_follows does.0 effect t does.2 ∙ does.1)

comment_answers : (s : SessionState) (bytes : List ℕ) → IsRead s.mode bytes Comment → Answers s bytes [] s
comment_answers s bytes read =
    accepted Comment NothingAsked read (record { none = free_of_refusals s Comment (λ h. h) (λ h. h) (λ h. h) (λ h. h) (λ h. h) (λ h. h) (λ h. h) (λ h. h); requests = refl }) (nothing_accepted s)

-- a comment or the header meets no refusal
unrefused : (s : SessionState) (line : Line) (refusal : Refusal) → IsFirst (Meets s line) in_order refusal → (line ≡ Comment) ⊎ (line ≡ Header) → ⊥
unrefused s line refusal first (inl e) =
    first_not_none (Meets s Comment) in_order refusal (subst (λ (l : Line). IsFirst (Meets s l) in_order refusal) e first)
    (free_of_refusals s Comment (λ h. h) (λ h. h) (λ h. h) (λ h. h) (λ h. h) (λ h. h) (λ h. h) (λ h. h))
unrefused s line refusal first (inr e) =
    first_not_none (Meets s Header) in_order refusal (subst (λ (l : Line). IsFirst (Meets s l) in_order refusal) e first)
    (free_of_refusals s Header (λ h. h) (λ h. h) (λ h. h) (λ h. h) (λ h. h) (λ h. h) (λ h. h) (λ h. h))

-- ---- a line that does not begin version 2, before any mode is set and in version 1

-- the line is a comment, which changes nothing, or has this answer in version 1 too
abbrev InVersion1 : SessionState → List ℕ → List ℕ → SessionState → Type 0
InVersion1 s bytes reply t =
    (IsRead First bytes Comment × (reply ≡ []) × (t ≡ in_mode First s)) ⊎ Answers (in_mode One s) bytes reply t

-- the line is a comment, which changes nothing, or has this answer before any mode is set too
abbrev BeforeModes : SessionState → List ℕ → List ℕ → SessionState → Type 0
BeforeModes s bytes reply t = (IsRead One bytes Comment × (reply ≡ []) × (t ≡ in_mode One s)) ⊎ Answers (in_mode First s) bytes reply t

-- what was heard in one of the two modes is what was heard in the other
heard_alike : (s : SessionState) (line : Line) → (line ≡ Comment → ⊥) → (line ≡ Header → ⊥) → heard (in_mode First s) line ≡ heard (in_mode One s) line
heard_alike s line no_comment no_header = by (leaves First line) (leaves One line)
  where
    by : Leaves First line → Leaves One line → heard (in_mode First s) line ≡ heard (in_mode One s) line
    by (by_comment e) k = absurd (no_comment e)
    by (by_header e) k = absurd (no_header e)
    by (by_another e c h) (by_comment f) = absurd (no_comment f)
    by (by_another e c h) (by_header f) = absurd (no_header f)
    by (by_another e c h) (by_another f d k) = ap (λ (mode : Mode). in_mode mode s) (e ∙ sym f)

-- a comment that is accepted
comment_once : (s : SessionState) (line : Line) (request : Request) (reply : List ℕ) (t : SessionState) → line ≡ Comment → IsAdmitted (heard s line) line request → Accepts (heard s line) request reply t
    → (reply ≡ []) × (t ≡ heard s Comment)
comment_once s line request reply t e a h =
    let asked : request ≡ NothingAsked = (subst (λ (l : Line). IsAdmitted (heard s l) l request) e a).requests in
    nothing_once (heard s Comment) reply t (subst (λ (l : Line). Accepts (heard s l) NothingAsked reply t) e (subst (λ (r : Request). Accepts (heard s line) r reply t) asked h))

module _ (s : SessionState) (bytes : List ℕ) (headless : IsRead First bytes Header → ⊥) where
  in_version_1 : (reply : List ℕ) (t : SessionState) → Answers (in_mode First s) bytes reply t → InVersion1 s bytes reply t
  in_version_1 _ _ (misread error refusal q some) = inr (misread error refusal (refused_in_one bytes error q) some)
  in_version_1 _ _ (refused line refusal read first) =
      let alike = heard_alike s line (λ e. unrefused (heard (in_mode First s) line) line refusal first (inl e)) (λ e. unrefused (heard (in_mode First s) line) line refusal first (inr e)) in
      let here = refused line refusal (read_in_one bytes line read (λ e. unrefused (heard (in_mode First s) line) line refusal first (inr e))) (subst (λ (z : SessionState). IsFirst (Meets z line) in_order refusal) alike first) in
      inr (subst (λ (z : SessionState). Answers (in_mode One s) bytes (refusal_text refusal) z) (sym alike) here)
  in_version_1 reply t (accepted line request read a h) = by (leaves First line)
    where
      by : Leaves First line → InVersion1 s bytes reply t
      by (by_comment e) = let once = comment_once (in_mode First s) line request reply t e a h in inl (subst (IsRead First bytes) e read, once.0, once.1)
      by (by_header e) = absurd (headless (subst (IsRead First bytes) e read))
      by (by_another e no_comment no_header) =
          let alike = heard_alike s line no_comment no_header in
          inr (accepted line request (read_in_one bytes line read no_header) (subst (λ (z : SessionState). IsAdmitted z line request) alike a) (subst (λ (z : SessionState). Accepts z request reply t) alike h))

  before_modes : (reply : List ℕ) (t : SessionState) → Answers (in_mode One s) bytes reply t → BeforeModes s bytes reply t
  before_modes _ _ (misread error refusal q some) = inr (misread error refusal (refused_in_first bytes error headless q) some)
  before_modes _ _ (refused line refusal read first) =
      let alike = heard_alike s line (λ e. unrefused (heard (in_mode One s) line) line refusal first (inl e)) (λ e. unrefused (heard (in_mode One s) line) line refusal first (inr e)) in
      let here = refused line refusal (read_everywhere First bytes line read) (subst (λ (z : SessionState). IsFirst (Meets z line) in_order refusal) (sym alike) first) in
      inr (subst (λ (z : SessionState). Answers (in_mode First s) bytes (refusal_text refusal) z) alike here)
  before_modes reply t (accepted line request read a h) = by (leaves One line)
    where
      by : Leaves One line → BeforeModes s bytes reply t
      by (by_comment e) = let once = comment_once (in_mode One s) line request reply t e a h in inl (subst (IsRead One bytes) e read, once.0, once.1)
      by (by_header e) = absurd (headless (subst (IsRead First bytes) e (read_everywhere First bytes line read)))
      by (by_another e no_comment no_header) =
          let alike = heard_alike s line no_comment no_header in
          inr (accepted line request (read_everywhere First bytes line read) (subst (λ (z : SessionState). IsAdmitted z line request) (sym alike) a) (subst (λ (z : SessionState). Accepts z request reply t) (sym alike) h))

-- ---- texts

run_in_version_1 : (s : SessionState) (lines : List (List ℕ)) (replies : List ℕ) (t : SessionState) → (BeginsVersion2 lines → ⊥) → Run (in_mode First s) lines replies t
    → (u : SessionState) × Run (in_mode One s) lines replies u
run_in_version_1 s [] replies t old run = (in_mode One s, (run.0, refl))
run_in_version_1 s (l ∷ ls) replies t old run = elim (in_version_1 s l (λ h. old (inl h)) run.0 run.2 run.3) [
  | inl c ↦
      let others : Run (in_mode First s) ls run.1 t = subst (λ (z : SessionState). Run z ls run.1 t) c.2 run.5 in
      let r = run_in_version_1 s ls run.1 t (λ b. old (inr (c.0, b))) others in
      (r.0, ([], run.1, in_mode One s, comment_answers (in_mode One s) l (read_in_one l Comment c.0 (λ e. cc)), run.4 ∙ ap (λ (z : List ℕ). z ++ run.1) c.1, r.1))
  | inr a ↦ (t, (run.0, run.1, run.2, a, run.4, run.5))
]

run_before_modes : (s : SessionState) (lines : List (List ℕ)) (replies : List ℕ) (t : SessionState) → (BeginsVersion2 lines → ⊥) → Run (in_mode One s) lines replies t
    → (u : SessionState) × Run (in_mode First s) lines replies u
run_before_modes s [] replies t old run = (in_mode First s, (run.0, refl))
run_before_modes s (l ∷ ls) replies t old run = elim (before_modes s l (λ h. old (inl h)) run.0 run.2 run.3) [
  | inl c ↦
      let here : IsRead First l Comment = read_everywhere First l Comment c.0 in
      let others : Run (in_mode One s) ls run.1 t = subst (λ (z : SessionState). Run z ls run.1 t) c.2 run.5 in
      let r = run_before_modes s ls run.1 t (λ b. old (inr (here, b))) others in
      (r.0, ([], run.1, in_mode First s, comment_answers (in_mode First s) l here, run.4 ∙ ap (λ (z : List ℕ). z ++ run.1) c.1, r.1))
  | inr a ↦ (t, (run.0, run.1, run.2, a, run.4, run.5))
]

begins_more : (front others : List (List ℕ)) → BeginsVersion2 front → BeginsVersion2 (front ++ others)
begins_more [] others b = absurd b
begins_more (l ∷ ls) others (inl h) = inl h
begins_more (l ∷ ls) others (inr c) = inr (c.0, begins_more ls others c.1)

pub version_1_texts : (guides orders text output : List ℕ) → ((lines : List (List ℕ)) → AreLines text lines → BeginsVersion2 lines → ⊥)
    → Replies guides orders text output ↔ RepliesFrom (in_mode One (fresh guides orders)) text output
version_1_texts guides orders text output old = (
  λ x.
      let r = run_in_version_1 (fresh guides orders) x.answered output x.state (unbegun x.lines x.answered x.are_lines x.are_answered) x.run in
      record { lines = x.lines; answered = x.answered; state = r.0; are_lines = x.are_lines; are_answered = x.are_answered; run = r.1 },
  λ x.
      let r = run_before_modes (fresh guides orders) x.answered output x.state (unbegun x.lines x.answered x.are_lines x.are_answered) x.run in
      record { lines = x.lines; answered = x.answered; state = r.0; are_lines = x.are_lines; are_answered = x.are_answered; run = r.1 },
)
  where
    unbegun : (lines answered : List (List ℕ)) → AreLines text lines → AreAnswered lines answered → BeginsVersion2 answered → ⊥
    unbegun lines answered are_lines are_answered b =
        let front = front_of lines answered are_answered in
        old lines are_lines (subst BeginsVersion2 (sym front.whole) (begins_more answered front.others b))
