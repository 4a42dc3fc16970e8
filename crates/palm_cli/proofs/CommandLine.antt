-- What clap makes of words without a leading `-`, for a command with the subcommands `run`, `check`, `proof` and `gen`.
use Rattle.std.proofs.Common.{◌≡◌, ℕ, ◌++◌, Bool, true, false, List, [], ◌∷◌, fold, All, Option, Some, None, option_map, codes, refl, sym, ap, ap₂, ◌∙◌, subst, ◌||◌, ◌&&◌, inl, inr, option_and_then, if◌then◌else◌}
use Rattle.std.specs.Option.{option_map_or}
use Rattle.std.specs.Str.{bytes_eq}
use Rattle.std.proofs.lemmas.Slice.Eq.{bytes_eq-Decides}
use Rattle.std.proofs.lemmas.List.{append_assoc, append-nil}
use Rattle.std.proofs.lemmas.List.Elements.{All-head, All-tail}
use Rattle.clap.specs.Faults.{fault_of, is_simple_and_free, built_fault, turn_fault, step_fault, walk_fault, entered_fault, level_fault, settle_fault, defaults_fault, check_fault, other_fault, flag_word_fault, bundle_fault}
use Rattle.clap.specs.Lexer.{strip_byte, long_of, long_of_rest, short_of, short_of_rest}
use Rattle.std.specs.Prelude.{Box}
use Rattle.std.specs.Box.{box_value}
use Rattle.clap.specs.Built.{AddsArg, AddsSubcommand}
use Rattle.clap.specs.Kinds.{Kinds, HasKind, IsAmong, or_else}
use Rattle.clap.specs.Matches.{first_value, found_of, subcommand_name_of}
use Rattle.clap.specs.Values.{kind_of}
use Rattle.clap.specs.declared.builder.arg.Arg.{Arg}
use Rattle.clap.specs.declared.builder.command.Command.{Command}
use Rattle.clap.specs.declared.builder.command.Command.TheViews.{out-Command}
use Rattle.clap.specs.declared.error.Error.{Error}
use Rattle.clap.specs.declared.parser.matches.ArgMatches.{ArgMatches}
use Rattle.clap.specs.declared.parser.matches.ArgMatches.TheViews.{out-ArgMatches, out-SubCommand}
use Rattle.clap.specs.declared.parser.matches.SubCommand.{SubCommand}
use Rattle.clap.proofs.WalkLemmas.{first_value-rows}
use Rattle.clap.specs.Simple.{App, Shape, new_app, new_rule, new_shape, with_rule, with_subcommand, built, names_of, subcommand_of, subcommand_rows, subcommand_rows_of, is_simple, filled_from, entered, app_of, app_of_fields, on_top, HasMatchesOf}
use Rattle.clap.specs.Walk.{Held, Names, Row, Rule, Text, Walk, Step, idle, value, trailing, after_step, finished, first_of, long_or_other, settled, short_or_plain, subcommand_or_other, nothing_held, rows_of, rule_of, stop_after, subcommand_met, walk_from, walked}
use Rattle.clap.specs.declared.error.kind.ErrorKind.{ErrorKind}
use Rattle.clap.specs.declared.error.kind.ErrorKind.TheVariants as kind
use Rattle.clap.proofs.OnLiterals.{clap_on_literals}
use Rattle.palm_cli.specs.Words.{IsRun, IsJudge, IsNoCommand}
use Rattle.palm_cli.specs.declared.words.Evidence.{Evidence}
use Rattle.palm_cli.specs.declared.words.Evidence.TheVariants.{Certificate, Proof}
use Rattle.palm_cli.proofs.WordLemmas.{IsBare, HasSize}

-- ---- the command, and the same as it is built

abbrev pub run_text : Text
run_text = codes "run"

abbrev pub check_text : Text
check_text = codes "check"

abbrev pub proof_text : Text
proof_text = codes "proof"

abbrev pub gen_text : Text
gen_text = codes "gen"

abbrev pub size_text : Text
size_text = codes "N"

abbrev pub size_rule : Rule
size_rule = record (new_rule size_text) { required = true }

abbrev pub gen_app : App
gen_app = with_rule (new_app gen_text) size_rule

abbrev plain_shape : Text → Shape
plain_shape name = record (new_shape name) { no_binary_name = true; disable_help_flag = true; disable_help_subcommand = true; disable_version_flag = true }

abbrev pub bare_app : App
bare_app = record { top = plain_shape (codes "palm"); subs = [] }

abbrev pub palm_app : App
palm_app = with_subcommand (with_subcommand (with_subcommand (with_subcommand bare_app (new_app run_text).top) (new_app check_text).top) (new_app proof_text).top) gen_app.top

pub is_free : is_simple_and_free palm_app ≡ true
unfolding clap_on_literals
is_free = refl

pub is_plain : is_simple palm_app ≡ true
unfolding clap_on_literals
is_plain = refl

-- the shape of a subcommand that takes no word
abbrev alone_shape : Text → Shape
alone_shape name = record (plain_shape name) { is_built = true }

abbrev gen_shape : Shape
gen_shape = record (plain_shape gen_text) { is_built = true; rules = filled_from 1 (size_rule ∷ []) }

abbrev top_shape : Shape
top_shape = record (plain_shape (codes "palm")) { is_built = true; is_leaf = false }

abbrev built_app : App
built_app = record { top = top_shape; subs = alone_shape run_text ∷ alone_shape check_text ∷ alone_shape proof_text ∷ gen_shape ∷ [] }

abbrev names : Names
names = (run_text, []) ∷ (check_text, []) ∷ (proof_text, []) ∷ (gen_text, []) ∷ []

is_built : built palm_app ≡ built_app
is_built = refl

fault_is : (words : List Text) → fault_of palm_app words ≡ built_fault built_app nothing_held words
fault_is words = ap (λ (a : App). built_fault a nothing_held words) is_built

met_is : (words : List Text) → subcommand_of palm_app words ≡ entered built_app (stop_after [] names words)
met_is words = ap (λ (a : App). entered a (stop_after a.top.rules (names_of a) words)) is_built

-- what is seen of the subcommand: its name, and the size
abbrev pub seen : Option (Text × List Row) → Option (Text × Option Text)
seen = option_map (λ p. (p.0, first_of size_text p.1))

-- ---- a fault in one of the steps

no_kinds : (a : Kinds) (k : ErrorKind) (ks : Kinds) → a ≡ k ∷ ks → a ≡ [] → ⊥
no_kinds a k ks e n = let f : k ∷ ks ≡ [] = sym e ∙ n in cc

fails_first : (a b : Kinds) → (a ≡ [] → ⊥) → or_else a b ≡ [] → ⊥
fails_first [] b n e = n refl
fails_first (k ∷ ks) b n e = cc

fails_second : (a b c : Kinds) → (b ≡ [] → ⊥) → or_else a (or_else b c) ≡ [] → ⊥
fails_second [] [] c n e = n refl
fails_second [] (k ∷ ks) c n e = cc
fails_second (k ∷ ks) b c n e = cc

-- ---- one word

-- where a walk stands at a place, with nothing waiting
abbrev at : Held → ℕ → Walk
at h place = record { held = h; waiting = idle; position = place; is_trailing = false; stopped = None }

-- a word that is no flag
record IsPlain (w : Text) : Type 0 where
  dash : bytes_eq w (45 ∷ 45 ∷ []) ≡ false
  long : long_of w ≡ None
  short : short_of w ≡ None

plain : (w : Text) → IsBare w → IsPlain w
plain [] bare = record { dash = refl; long = refl; short = refl }
plain (b ∷ bytes) bare =
    let none : strip_byte 45 (b ∷ bytes) ≡ None = ap (λ (t : Bool). if t then Some bytes else None) bare in
    record {
      dash = ap (λ (t : Bool). t && bytes_eq bytes (45 ∷ [])) bare;
      long = ap (λ (o : Option Text). option_and_then long_of_rest (option_and_then (strip_byte 45) o)) none;
      short = ap (λ (o : Option Text). option_and_then short_of_rest o) none;
    }

-- it is no fault
no_fault : (s : Shape) (w : Text) (h : Held) → IsPlain w → other_fault s None w h ≡ []
no_fault s w h p =
    ap (λ (t : Bool). if t then [] else flag_word_fault s.rules s.args_override_self (long_of w) w h) p.dash
    ∙ ap (λ (o : Option (Text × Option Text)). flag_word_fault s.rules s.args_override_self o w h) p.long
    ∙ ap (λ (o : Option Text). option_map_or (λ flags. bundle_fault s.rules s.args_override_self flags h) o []) p.short

-- and a value
is_value : (rules : List Rule) (w : Text) (place : ℕ) (h : Held) → IsPlain w → subcommand_or_other rules None idle place w h ≡ (h, value)
is_value rules w place h p =
    ap (λ (t : Bool). if t then (h, trailing place) else long_or_other rules idle w (long_of w) h) p.dash
    ∙ ap (λ (o : Option (Text × Option Text)). long_or_other rules idle w o h) p.long
    ∙ ap (λ (o : Option Text). short_or_plain rules idle w o h) p.short

-- a bare word that names no subcommand goes to the positional of its place
plain_turn : (s : Shape) (subs : Names) (h : Held) (place : ℕ) (w : Text) → IsBare w → subcommand_met subs idle w ≡ None → turn_fault s subs (at h place) w ≡ step_fault s place h value
plain_turn s subs h place w bare met =
    let p = plain w bare in
    ap (λ (m : Option Text). or_else (other_fault s m w h) (step_fault s place (subcommand_or_other s.rules m idle place w h).0 (subcommand_or_other s.rules m idle place w h).1)) met
    ∙ ap₂ (λ (k : Kinds) (q : Held × Step). or_else k (step_fault s place q.0 q.1)) (no_fault s w h p) (is_value s.rules w place h p)

no_name : (w : Text) → bytes_eq run_text w ≡ false → bytes_eq check_text w ≡ false → bytes_eq proof_text w ≡ false → bytes_eq gen_text w ≡ false → subcommand_met names idle w ≡ None
no_name w r c p g = rw (r, c, p, g) refl

-- ---- the fault of the subcommand that was met

stopped : (rules : List Rule) (subs : Names) (w : Walk) (name : Text) (words more : List Text) → w.stopped ≡ Some (name, words)
    → (fold (walked rules subs) w more).stopped ≡ Some (name, words ++ more)
unfolding walked
stopped rules subs w name words [] e = e ∙ ap (λ (z : List Text). Some (name, z)) (sym (append-nil words))
stopped rules subs w name words (x ∷ xs) e =
    let next : (walked rules subs w x).stopped ≡ Some (name, words ++ x ∷ []) = rw e refl in
    stopped rules subs (walked rules subs w x) name (words ++ x ∷ []) xs next ∙ ap (λ (z : List Text). Some (name, z)) (append_assoc words (x ∷ []) xs)

meets_run : (ws : List Text) → stop_after [] names (run_text ∷ ws) ≡ Some (run_text, ws)
unfolding walked
meets_run ws = stopped [] names (walked [] names (walk_from nothing_held) run_text) run_text [] ws refl

meets_check : (ws : List Text) → stop_after [] names (check_text ∷ ws) ≡ Some (check_text, ws)
unfolding walked
meets_check ws = stopped [] names (walked [] names (walk_from nothing_held) check_text) check_text [] ws refl

meets_proof : (ws : List Text) → stop_after [] names (proof_text ∷ ws) ≡ Some (proof_text, ws)
unfolding walked
meets_proof ws = stopped [] names (walked [] names (walk_from nothing_held) proof_text) proof_text [] ws refl

meets_gen : (ws : List Text) → stop_after [] names (gen_text ∷ ws) ≡ Some (gen_text, ws)
unfolding walked
meets_gen ws = stopped [] names (walked [] names (walk_from nothing_held) gen_text) gen_text [] ws refl

-- the words of a subcommand fail
fails_below : (words : List Text) (name : Text) (behind : List Text) → stop_after [] names words ≡ Some (name, behind)
    → (entered_fault built_app (Some (name, behind)) ≡ [] → ⊥) → built_fault built_app nothing_held words ≡ [] → ⊥
fails_below words name behind is n e =
    fails_second (walk_fault top_shape names (walk_from nothing_held) words) (entered_fault built_app (stop_after [] names words)) _
    (λ z. n (ap (λ (o : Option (Text × List Text)). entered_fault built_app o) (sym is) ∙ z)) e

-- a level fails where the first of its words does
fails_here : (s : Shape) (subs : Names) (w : Text) (ws : List Text) (has : Bool) (below : Kinds) → (turn_fault s subs (walk_from nothing_held) w ≡ [] → ⊥)
    → level_fault s subs nothing_held (w ∷ ws) has below ≡ [] → ⊥
unfolding walk_fault
fails_here s subs w ws has below n e =
    fails_first (walk_fault s subs (walk_from nothing_held) (w ∷ ws)) _ (λ z. fails_first (turn_fault s subs (walk_from nothing_held) w) (walk_fault s subs (walked s.rules subs (walk_from nothing_held) w) ws) n z) e

-- a first word that names no subcommand
stray : (w : Text) (ws : List Text) → IsBare w → bytes_eq run_text w ≡ false → bytes_eq check_text w ≡ false → bytes_eq proof_text w ≡ false → bytes_eq gen_text w ≡ false
    → built_fault built_app nothing_held (w ∷ ws) ≡ [] → ⊥
stray w ws bare r c p g e =
    fails_here top_shape names w ws _ _ (no_kinds _ kind.UnknownArgument (kind.InvalidSubcommand ∷ []) (plain_turn top_shape names nothing_held 1 w bare (no_name w r c p g))) e

-- `run` takes no further word
run_more : (x : Text) (xs : List Text) → IsBare x → entered_fault built_app (Some (run_text, x ∷ xs)) ≡ [] → ⊥
run_more x xs bare e = fails_here (alone_shape run_text) [] x xs false [] (no_kinds _ kind.UnknownArgument [] (plain_turn (alone_shape run_text) [] nothing_held 1 x bare refl)) e

-- nor does `check`
check_more : (x : Text) (xs : List Text) → IsBare x → entered_fault built_app (Some (check_text, x ∷ xs)) ≡ [] → ⊥
check_more x xs bare e = fails_here (alone_shape check_text) [] x xs false [] (no_kinds _ kind.UnknownArgument [] (plain_turn (alone_shape check_text) [] nothing_held 1 x bare refl)) e

-- nor does `proof`
proof_more : (x : Text) (xs : List Text) → IsBare x → entered_fault built_app (Some (proof_text, x ∷ xs)) ≡ [] → ⊥
proof_more x xs bare e = fails_here (alone_shape proof_text) [] x xs false [] (no_kinds _ kind.UnknownArgument [] (plain_turn (alone_shape proof_text) [] nothing_held 1 x bare refl)) e

-- ---- `gen` takes one, and no more

-- what is held behind the first
abbrev with_size : Text → Held
with_size x = record nothing_held { pending = Some (size_text, x ∷ []) }

size_walked : (x : Text) → IsBare x → walked gen_shape.rules [] (walk_from nothing_held) x ≡ at (with_size x) 2
unfolding walked
size_walked x bare = ap (λ (q : Held × Step). after_step gen_shape.rules x (walk_from nothing_held) q.0 q.1) (is_value gen_shape.rules x 1 nothing_held (plain x bare))

gen_more : (x y : Text) (ys : List Text) → IsBare x → IsBare y → entered_fault built_app (Some (gen_text, x ∷ y ∷ ys)) ≡ [] → ⊥
unfolding walk_fault
gen_more x y ys bare plain e =
    let after : Walk = walked gen_shape.rules [] (walk_from nothing_held) x in
    let second : turn_fault gen_shape [] after y ≡ kind.UnknownArgument ∷ [] =
    ap (λ (w : Walk). turn_fault gen_shape [] w y) (size_walked x bare) ∙ plain_turn gen_shape [] (with_size x) 2 y plain refl in
    fails_first (walk_fault gen_shape [] (walk_from nothing_held) (x ∷ y ∷ ys)) _
    (λ z. fails_second (turn_fault gen_shape [] (walk_from nothing_held) x) (turn_fault gen_shape [] after y) (walk_fault gen_shape [] (walked gen_shape.rules [] after y) ys) (no_kinds _ kind.UnknownArgument [] second) z) e

gen_none : built_fault built_app nothing_held (gen_text ∷ []) ≡ [] → ⊥
unfolding clap_on_literals
gen_none e = no_kinds _ kind.MissingRequiredArgument [] refl e

run_taken : built_fault built_app nothing_held (run_text ∷ []) ≡ []
unfolding clap_on_literals
run_taken = refl

run_seen : seen (entered built_app (stop_after [] names (run_text ∷ []))) ≡ Some (run_text, None)
unfolding clap_on_literals
run_seen = refl

check_taken : built_fault built_app nothing_held (check_text ∷ []) ≡ []
unfolding clap_on_literals
check_taken = refl

check_seen : seen (entered built_app (stop_after [] names (check_text ∷ []))) ≡ Some (check_text, None)
unfolding clap_on_literals
check_seen = refl

proof_taken : built_fault built_app nothing_held (proof_text ∷ []) ≡ []
unfolding clap_on_literals
proof_taken = refl

proof_seen : seen (entered built_app (stop_after [] names (proof_text ∷ []))) ≡ Some (proof_text, None)
unfolding clap_on_literals
proof_seen = refl

no_words : seen (entered built_app (stop_after [] names [])) ≡ None
no_words = refl

-- what is left to check at the end of its words
abbrev at_end : Held → Kinds
at_end h =
    or_else (settle_fault gen_shape.rules false h) (or_else (defaults_fault (settled gen_shape.rules h).rows gen_shape.rules) (check_fault gen_shape (finished gen_shape.rules h) false))

size_taken : (x : Text) → IsBare x → entered_fault built_app (Some (gen_text, x ∷ [])) ≡ []
unfolding clap_on_literals
size_taken x bare =
    let first : turn_fault gen_shape [] (walk_from nothing_held) x ≡ [] = plain_turn gen_shape [] nothing_held 1 x bare refl in
    ap₂ (λ (k : Kinds) (w : Walk). or_else (or_else k []) (at_end w.held)) first (size_walked x bare)

gen_taken : (x : Text) → IsBare x → built_fault built_app nothing_held (gen_text ∷ x ∷ []) ≡ []
unfolding clap_on_literals
gen_taken x bare = ap (λ (k : Kinds). or_else k []) (size_taken x bare)

gen_seen : (x : Text) → IsBare x → seen (entered built_app (stop_after [] names (gen_text ∷ x ∷ []))) ≡ Some (gen_text, Some x)
unfolding clap_on_literals
gen_seen x bare = ap (λ (w : Walk). Some (gen_text, first_of size_text (finished gen_shape.rules w.held))) (size_walked x bare)

-- ---- what the words come to

-- they are not `run`, not `check` or `proof`, and not `gen` and another word
pub record IsNeither (words : List Text) : Type 0 where
  pub no_run : IsRun words → ⊥
  pub no_judge : (evidence : Evidence) → IsJudge words evidence → ⊥
  pub no_gen : (word : Text) → HasSize words word → ⊥

no_command : (words : List Text) → IsNeither words → IsNoCommand words
no_command words n = record { no_run = n.no_run; no_judge = n.no_judge; no_gen = λ size g. n.no_gen g.word g.whole }

-- neither of the two words that judge a text
no_judge_by : (words : List Text) → (words ≡ check_text ∷ [] → ⊥) → (words ≡ proof_text ∷ [] → ⊥) → (evidence : Evidence) → IsJudge words evidence → ⊥
no_judge_by words c p Certificate e = c e
no_judge_by words c p Proof e = p e

-- the words are this one alone
abbrev pub IsAlone : List Text → Text → Type 0
IsAlone words name = words ≡ name ∷ []

-- by the faults that clap finds, and by what is seen of the subcommand that it meets
pub data Outcome (words : List Text) : Type 0 where
  refused : (fault_of palm_app words ≡ [] → ⊥) → IsNeither words → Outcome words
  nothing : IsNeither words → seen (subcommand_of palm_app words) ≡ None → Outcome words
  is_alone : (name : Text) → IsAlone words name → fault_of palm_app words ≡ [] → seen (subcommand_of palm_app words) ≡ Some (name, None) → Outcome words
  is_gen : (word : Text) → HasSize words word → fault_of palm_app words ≡ [] → seen (subcommand_of palm_app words) ≡ Some (gen_text, Some word) → Outcome words

refused_by : (words : List Text) → (built_fault built_app nothing_held words ≡ [] → ⊥) → IsNeither words → Outcome words
refused_by words n none = refused (λ e. n (sym (fault_is words) ∙ e)) none

sees : (words : List Text) (s : Option (Text × Option Text)) → seen (entered built_app (stop_after [] names words)) ≡ s → seen (subcommand_of palm_app words) ≡ s
sees words s e = ap seen (met_is words) ∙ e

longer : (a x b : Text) (xs : List Text) → a ∷ x ∷ xs ≡ b ∷ [] → ⊥
longer a x b xs e = cc

shorter : (a b c : Text) → a ∷ [] ≡ b ∷ c ∷ [] → ⊥
shorter a b c e = cc

much_longer : (a x y b c : Text) (ys : List Text) → a ∷ x ∷ y ∷ ys ≡ b ∷ c ∷ [] → ⊥
much_longer a x y b c ys e = cc

heads : (a b : Text) (xs ys : List Text) → a ∷ xs ≡ b ∷ ys → a ≡ b
heads a b xs ys e = cc

not_equal : (a b : Text) → bytes_eq a b ≡ false → a ≡ b → ⊥
not_equal a b f e = let t : bytes_eq a b ≡ true = (bytes_eq-Decides a b).1 e in cc

run_is_not_gen : run_text ≡ gen_text → ⊥
run_is_not_gen = not_equal run_text gen_text refl

run_is_not_check : run_text ≡ check_text → ⊥
run_is_not_check = not_equal run_text check_text refl

check_is_not_gen : check_text ≡ gen_text → ⊥
check_is_not_gen = not_equal check_text gen_text refl

proof_is_not_gen : proof_text ≡ gen_text → ⊥
proof_is_not_gen = not_equal proof_text gen_text refl

other_words : (w : Text) (ws : List Text) → (run_text ≡ w → ⊥) → (check_text ≡ w → ⊥) → (proof_text ≡ w → ⊥) → (gen_text ≡ w → ⊥) → IsNeither (w ∷ ws)
other_words w ws r c p g = record {
  no_run = λ e. r (sym (heads w run_text ws [] e));
  no_judge = no_judge_by (w ∷ ws) (λ e. c (sym (heads w check_text ws [] e))) (λ e. p (sym (heads w proof_text ws [] e)));
  no_gen = λ word e. g (sym (heads w gen_text ws (word ∷ []) e));
}

runs : (ws : List Text) → All IsBare ws → Outcome (run_text ∷ ws)
runs [] bare = is_alone run_text refl (fault_is (run_text ∷ []) ∙ run_taken) (sees (run_text ∷ []) (Some (run_text, None)) run_seen)
runs (x ∷ xs) bare =
    refused_by (run_text ∷ x ∷ xs) (fails_below (run_text ∷ x ∷ xs) run_text (x ∷ xs) (meets_run (x ∷ xs)) (run_more x xs (All-head IsBare x xs bare)))
    (record {
      no_run = λ e. longer run_text x run_text xs e;
      no_judge = no_judge_by (run_text ∷ x ∷ xs) (λ e. longer run_text x check_text xs e) (λ e. longer run_text x proof_text xs e);
      no_gen = λ word e. run_is_not_gen (heads run_text gen_text (x ∷ xs) (word ∷ []) e);
    })

checks : (ws : List Text) → All IsBare ws → Outcome (check_text ∷ ws)
checks [] bare = is_alone check_text refl (fault_is (check_text ∷ []) ∙ check_taken) (sees (check_text ∷ []) (Some (check_text, None)) check_seen)
checks (x ∷ xs) bare =
    refused_by (check_text ∷ x ∷ xs) (fails_below (check_text ∷ x ∷ xs) check_text (x ∷ xs) (meets_check (x ∷ xs)) (check_more x xs (All-head IsBare x xs bare)))
    (record {
      no_run = λ e. longer check_text x run_text xs e;
      no_judge = no_judge_by (check_text ∷ x ∷ xs) (λ e. longer check_text x check_text xs e) (λ e. longer check_text x proof_text xs e);
      no_gen = λ word e. check_is_not_gen (heads check_text gen_text (x ∷ xs) (word ∷ []) e);
    })

proofs : (ws : List Text) → All IsBare ws → Outcome (proof_text ∷ ws)
proofs [] bare = is_alone proof_text refl (fault_is (proof_text ∷ []) ∙ proof_taken) (sees (proof_text ∷ []) (Some (proof_text, None)) proof_seen)
proofs (x ∷ xs) bare =
    refused_by (proof_text ∷ x ∷ xs) (fails_below (proof_text ∷ x ∷ xs) proof_text (x ∷ xs) (meets_proof (x ∷ xs)) (proof_more x xs (All-head IsBare x xs bare)))
    (record {
      no_run = λ e. longer proof_text x run_text xs e;
      no_judge = no_judge_by (proof_text ∷ x ∷ xs) (λ e. longer proof_text x check_text xs e) (λ e. longer proof_text x proof_text xs e);
      no_gen = λ word e. proof_is_not_gen (heads proof_text gen_text (x ∷ xs) (word ∷ []) e);
    })

gens : (ws : List Text) → All IsBare ws → Outcome (gen_text ∷ ws)
gens [] bare =
    refused_by (gen_text ∷ []) gen_none
    (record {
      no_run = λ e. run_is_not_gen (sym (heads gen_text run_text [] [] e));
      no_judge = no_judge_by (gen_text ∷ []) (λ e. check_is_not_gen (sym (heads gen_text check_text [] [] e))) (λ e. proof_is_not_gen (sym (heads gen_text proof_text [] [] e)));
      no_gen = λ word e. shorter gen_text gen_text word e;
    })
gens (x ∷ []) bare =
    let h = All-head IsBare x [] bare in
    is_gen x refl (fault_is (gen_text ∷ x ∷ []) ∙ gen_taken x h) (sees (gen_text ∷ x ∷ []) (Some (gen_text, Some x)) (gen_seen x h))
gens (x ∷ y ∷ ys) bare =
    refused_by (gen_text ∷ x ∷ y ∷ ys) (fails_below (gen_text ∷ x ∷ y ∷ ys) gen_text (x ∷ y ∷ ys) (meets_gen (x ∷ y ∷ ys))
    (gen_more x y ys (All-head IsBare x (y ∷ ys) bare) (All-head IsBare y ys (All-tail IsBare x (y ∷ ys) bare))))
    (record {
      no_run = λ e. longer gen_text x run_text (y ∷ ys) e;
      no_judge = no_judge_by (gen_text ∷ x ∷ y ∷ ys) (λ e. longer gen_text x check_text (y ∷ ys) e) (λ e. longer gen_text x proof_text (y ∷ ys) e);
      no_gen = λ word e. much_longer gen_text x y gen_text word ys e;
    })

by_name : (w : Text) (ws : List Text) → All IsBare (w ∷ ws) → (r c p g : Bool) → bytes_eq run_text w ≡ r → bytes_eq check_text w ≡ c → bytes_eq proof_text w ≡ p → bytes_eq gen_text w ≡ g → Outcome (w ∷ ws)
by_name w ws bare true c p g is second third fourth = subst (λ (z : Text). Outcome (z ∷ ws)) ((bytes_eq-Decides run_text w).0 is) (runs ws (All-tail IsBare w ws bare))
by_name w ws bare false true p g is second third fourth = subst (λ (z : Text). Outcome (z ∷ ws)) ((bytes_eq-Decides check_text w).0 second) (checks ws (All-tail IsBare w ws bare))
by_name w ws bare false false true g is second third fourth = subst (λ (z : Text). Outcome (z ∷ ws)) ((bytes_eq-Decides proof_text w).0 third) (proofs ws (All-tail IsBare w ws bare))
by_name w ws bare false false false true is second third fourth = subst (λ (z : Text). Outcome (z ∷ ws)) ((bytes_eq-Decides gen_text w).0 fourth) (gens ws (All-tail IsBare w ws bare))
by_name w ws bare false false false false is second third fourth =
    refused_by (w ∷ ws) (stray w ws (All-head IsBare w ws bare) is second third fourth)
    (other_words w ws (not_equal run_text w is) (not_equal check_text w second) (not_equal proof_text w third) (not_equal gen_text w fourth))

no_list : (a : Text) (xs : List Text) → [] ≡ a ∷ xs → ⊥
no_list a xs e = cc

pub outcome : (words : List Text) → All IsBare words → Outcome words
outcome [] bare =
    nothing (record { no_run = λ e. no_list run_text [] e; no_judge = no_judge_by [] (λ e. no_list check_text [] e) (λ e. no_list proof_text [] e); no_gen = λ word e. no_list gen_text (word ∷ []) e }) (sees [] None no_words)
outcome (w ∷ ws) bare = by_name w ws bare (bytes_eq run_text w) (bytes_eq check_text w) (bytes_eq proof_text w) (bytes_eq gen_text w) refl refl refl refl

-- ---- the command as the code makes it

pub palm_from : (size : Arg) (made generate run check proof p0 p1 p2 p3 p4 first second third palm : Command)
    → rule_of size ≡ size_rule → size.global ≡ false → app_of made ≡ new_app gen_text → (out-Command made).has_globals ≡ false → AddsArg made size generate
    → app_of run ≡ new_app run_text → (out-Command run).has_globals ≡ false → app_of check ≡ new_app check_text → (out-Command check).has_globals ≡ false
    → app_of proof ≡ new_app proof_text → (out-Command proof).has_globals ≡ false → app_of p0 ≡ new_app (codes "palm")
    → out-Command p1 ≡ record (out-Command p0) { no_binary_name = true } → out-Command p2 ≡ record (out-Command p1) { disable_help_flag = true }
    → out-Command p3 ≡ record (out-Command p2) { disable_help_subcommand = true } → out-Command p4 ≡ record (out-Command p3) { disable_version_flag = true }
    → AddsSubcommand p4 run first → AddsSubcommand first check second → AddsSubcommand second proof third → AddsSubcommand third generate palm → app_of palm ≡ palm_app
palm_from size made generate run check proof p0 p1 p2 p3 p4 first second third palm rule local made_is made_local adds run_is run_local check_is check_local proof_is proof_local p0_is e1 e2 e3 e4 one two three four =
    let gen_is : app_of generate ≡ gen_app = adds.shape local ∙ ap₂ with_rule made_is rule in
    let gen_local : (out-Command generate).has_globals ≡ false = adds.globals ∙ ap₂ (λ (a b : Bool). a || b) made_local local in
    let p1_is : app_of p1 ≡ on_top (λ s. record s { no_binary_name = true }) (app_of p0) = ap app_of_fields e1 in
    let p2_is : app_of p2 ≡ on_top (λ s. record s { disable_help_flag = true }) (app_of p1) = ap app_of_fields e2 in
    let p3_is : app_of p3 ≡ on_top (λ s. record s { disable_help_subcommand = true }) (app_of p2) = ap app_of_fields e3 in
    let p4_is : app_of p4 ≡ on_top (λ s. record s { disable_version_flag = true }) (app_of p3) = ap app_of_fields e4 in
    let bare_is : app_of p4 ≡ bare_app =
    p4_is ∙ ap (on_top (λ s. record s { disable_version_flag = true })) (p3_is ∙ ap (on_top (λ s. record s { disable_help_subcommand = true }))
    (p2_is ∙ ap (on_top (λ s. record s { disable_help_flag = true })) (p1_is ∙ ap (on_top (λ s. record s { no_binary_name = true })) p0_is))) in
    let first_is : app_of first ≡ with_subcommand bare_app (new_app run_text).top = one.shape run_local ∙ ap₂ with_subcommand bare_is (ap (λ (a : App). a.top) run_is) in
    let second_is : app_of second ≡ with_subcommand (with_subcommand bare_app (new_app run_text).top) (new_app check_text).top =
    two.shape check_local ∙ ap₂ with_subcommand first_is (ap (λ (a : App). a.top) check_is) in
    let third_is : app_of third ≡ with_subcommand (with_subcommand (with_subcommand bare_app (new_app run_text).top) (new_app check_text).top) (new_app proof_text).top =
    three.shape proof_local ∙ ap₂ with_subcommand second_is (ap (λ (a : App). a.top) proof_is) in
    four.shape gen_local ∙ ap₂ with_subcommand third_is (ap (λ (a : App). a.top) gen_is)

-- ---- what a parse tells

module _ {Z : Type 0} where
  none_seen : (o : Option (Box SubCommand Z)) → None ≡ option_map (λ b. (out-SubCommand (box_value b)).name.now) o → seen (subcommand_rows o) ≡ None
  none_seen None e = refl
  none_seen (Some b) e = cc

  some_seen : (o : Option (Box SubCommand Z)) (name : Text) (rows : List Row) → Some name ≡ option_map (λ b. (out-SubCommand (box_value b)).name.now) o
      → Some rows ≡ option_map (λ p. p.1) (subcommand_rows o) → seen (subcommand_rows o) ≡ Some (name, first_of size_text rows)
  some_seen None name rows e f = cc
  some_seen (Some b) name rows e f =
      let n : (out-SubCommand (box_value b)).name.now ≡ name = cc in
      let r : rows_of (found_of (out-SubCommand (box_value b)).matches) ≡ rows = cc in
      ap₂ (λ (x : Text) (y : List Row). Some (x, first_of size_text y)) n r

-- the words of a parse of this command that succeeded, and the subcommand that it met
record Parsed (words : List Text) (s : Option (Text × Option Text)) : Type 0 where
  taken : fault_of palm_app words ≡ []
  sees : seen (subcommand_of palm_app words) ≡ s

parsed : (words : List Text) (s : Option (Text × Option Text)) (c : Command) (m : ArgMatches) → app_of c ≡ palm_app
    → (is_simple_and_free (app_of c) ≡ true → fault_of (app_of c) words ≡ []) → HasMatchesOf (app_of c) words m → seen (subcommand_rows_of m) ≡ s → Parsed words s
parsed words s c m is kinds matches sees = record {
  taken = ap (λ (a : App). fault_of a words) (sym is) ∙ kinds (ap is_simple_and_free is ∙ is_free);
  sees = ap (λ (a : App). seen (subcommand_of a words)) (sym is) ∙ ap seen (sym (matches (ap is_simple is ∙ is_plain)).1) ∙ sees;
}

no_option : {X : Type 0} (x : X) → Some x ≡ None → ⊥
no_option x e = cc

size_in : Option (Text × Option Text) → Option Text
size_in None = None
size_in (Some p) = p.1

same_size : (a b : Text) (x y : Option Text) → ◌≡◌ {A = Option (Text × Option Text)} (Some (a, x)) (Some (b, y)) → x ≡ y
unfolding size_in
same_size a b x y e = ap size_in e

name_in : Option (Text × Option Text) → Text
name_in None = []
name_in (Some p) = p.0

same_name : (a b : Text) (x y : Option Text) → ◌≡◌ {A = Option (Text × Option Text)} (Some (a, x)) (Some (b, y)) → a ≡ b
unfolding name_in
same_name a b x y e = ap name_in e

none_by : (words : List Text) → Outcome words → Parsed words None → IsNeither words
none_by words (refused n none) p = none
none_by words (nothing none s) p = none
none_by words (is_alone name is t s) p = absurd (no_option (name, None) (sym s ∙ p.sees))
none_by words (is_gen x is t s) p = absurd (no_option (gen_text, Some x) (sym s ∙ p.sees))

-- the size behind `gen`, or that the name stands alone
abbrev pub AsksFor : List Text → Text → Option Text → Type 0
AsksFor words name None = IsAlone words name
AsksFor words name (Some x) = HasSize words x

some_by : (words : List Text) (name : Text) (x : Option Text) → Outcome words → Parsed words (Some (name, x)) → AsksFor words name x
some_by words name x (refused n none) p = absurd (n p.taken)
some_by words name x (nothing none s) p = absurd (no_option (name, x) (sym p.sees ∙ s))
some_by words name x (is_alone other is t s) p =
    let named : other ≡ name = same_name other name None x (sym s ∙ p.sees) in
    subst (λ (z : Option Text). AsksFor words name z) (same_size other name None x (sym s ∙ p.sees)) (subst (IsAlone words) named is)
some_by words name x (is_gen y is t s) p = subst (λ (z : Option Text). AsksFor words name z) (same_size gen_text name (Some y) x (sym s ∙ p.sees)) is

error_by : (words : List Text) (k : ErrorKind) → Outcome words → IsAmong k (fault_of palm_app words) → IsNeither words
error_by words k (refused n none) among = none
error_by words k (nothing none s) among = none
error_by words k (is_alone name is t s) among = absurd (subst (λ (z : Kinds). IsAmong k z) t among)
error_by words k (is_gen x is t s) among = absurd (subst (λ (z : Kinds). IsAmong k z) t among)

pub none_asked : (words : List Text) (c : Command) (m : ArgMatches) → All IsBare words → app_of c ≡ palm_app
    → (is_simple_and_free (app_of c) ≡ true → fault_of (app_of c) words ≡ []) → HasMatchesOf (app_of c) words m → None ≡ subcommand_name_of m → IsNoCommand words
none_asked words c m bare is kinds matches name =
    no_command words (none_by words (outcome words bare) (parsed words None c m is kinds matches (none_seen (out-ArgMatches m).subcommand name)))

pub some_asked : (words : List Text) (c : Command) (m inner : ArgMatches) (name : Text) (x : Option Text) → All IsBare words → app_of c ≡ palm_app
    → (is_simple_and_free (app_of c) ≡ true → fault_of (app_of c) words ≡ []) → HasMatchesOf (app_of c) words m → Some name ≡ subcommand_name_of m
    → Some (rows_of (found_of inner)) ≡ option_map (λ p. p.1) (subcommand_rows_of m) → x ≡ first_value (found_of inner) size_text → AsksFor words name x
some_asked words c m inner name x bare is kinds matches named rows given =
    let size : first_of size_text (rows_of (found_of inner)) ≡ x = sym (first_value-rows (found_of inner) size_text) ∙ sym given in
    some_by words name x (outcome words bare) (parsed words (Some (name, x)) c m is kinds matches
    (some_seen (out-ArgMatches m).subcommand name (rows_of (found_of inner)) named rows ∙ ap (λ (z : Option Text). Some (name, z)) size))

pub error_asked : (words : List Text) (c : Command) (e : Error) → All IsBare words → app_of c ≡ palm_app
    → (is_simple_and_free (app_of c) ≡ true → HasKind (fault_of (app_of c) words) e) → (kind_of e ≡ kind.OutOfMemory → ⊥) → IsNoCommand words
error_asked words c e bare is kinds other =
    let k : HasKind (fault_of palm_app words) e = subst (λ (a : App). HasKind (fault_of a words) e) is (kinds (ap is_simple_and_free is ∙ is_free)) in
    elim k [ inl m ↦ absurd (other m) | inr among ↦ no_command words (error_by words (kind_of e) (outcome words bare) among) ]
