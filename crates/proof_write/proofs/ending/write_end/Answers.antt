use Rattle.std.proofs.Common.{◌≡◌, ◌++◌, List, [], None, length, refl, rules, sym, ap, ◌∙◌, subst}
use Rattle.palm_base.specs.declared.terms.Cid.{Cid}
use Rattle.palm_base.specs.declared.terms.Pair.{Pair}
use Rattle.palm_book.specs.Book.{Contents}
use Rattle.palm_lang.specs.Reply.{fixed_text, found_line, spent_line}
use Rattle.palm_lang.specs.declared.reply.Fixed.TheVariants.{End}
use Rattle.palm_lang.proofs.cited.Wrote.{wrote_front, wrote_then, wrote_within}
use Rattle.palm_search.specs.declared.ending.SearchEnd.{SearchEnd}
use Rattle.palm_search.specs.declared.ending.SearchEnd.TheVariants.{NoSolution}
use Rattle.palm_search.specs.Calls.{search_state}
use Rattle.palm_search.specs.Search.{EndsWith, HasNoSolution}
use Rattle.palm_search.specs.Turns.{SearchState}
use Rattle.proof_run.specs.Lemma.{held_decisions, text_of_lemma, wiped_by}
use Rattle.proof_run.specs.Text.{Concludes, none_line}
use Rattle.proof_write.proofs.Fitting.{found_long, none_users}
use Rattle.proof_write.proofs.Lemmas.{none_held}
use Rattle.proof_write.proofs.ending.write_end.Goals as goal

-- the lemma that rests on no decision, and the users, are what is written last
none_concludes : (book : Contents) (undone : List Pair) (s : SearchState) (users : List Cid) (end : SearchEnd) (none : HasNoSolution s.engine users) → end ≡ NoSolution users
    → Concludes book undone s end (text_of_lemma book undone (held_decisions s.decisions []) (wiped_by s.engine none.flat.var) none.flat.var ++ none_line book users ++ fixed_text End)
none_concludes book undone s users end none is =
    let text = λ (ps : List Pair). text_of_lemma book undone ps (wiped_by s.engine none.flat.var) none.flat.var in
    let held = none_held [] refl s.decisions ∙ sym (none_held none.conflict none.undecided s.decisions) in
    rw is (none, text (held_decisions s.decisions []), record { flat = none.flat; is = ap text held }, refl)

pub write_text_of_lemma-requires-clause-empty : goal.write_text_of_lemma-requires-clause-empty
write_text_of_lemma-requires-clause-empty g c =
    let ends = subst (λ (e : SearchEnd). EndsWith c.requires.ends.0 (length c.args.search.now.journal) c.args.engine.now.state e) c.in-NoSolution.is c.requires.ends.1 in
    (ends.flat.var, ends.flat.empty)

pub names-requires : goal.names-requires
names-requires g c =
    let s = c.args.engine.now.state in
    let ends = subst (λ (e : SearchEnd). EndsWith c.requires.ends.0 (length c.args.search.now.journal) s e) c.in-NoSolution.is c.requires.ends.1 in
    none_users c.args.book.now (search_state s c.args.search.now) c.requires.fits c.store.ensures.valid c.in-NoSolution.users ends

pub found-requires : goal.found-requires
found-requires g c =
    let s = c.args.engine.now.state in
    let ends = subst (λ (e : SearchEnd). EndsWith c.requires.ends.0 (length c.args.search.now.journal) s e) c.in-Found.is c.requires.ends.1 in
    found_long c.args.book.now (search_state s c.args.search.now) c.requires.fits c.in-Found.values ends

pub returns-in_err-write_text_of_lemma-in-NoSolution : goal.returns-in_err-write_text_of_lemma-in-NoSolution
returns-in_err-write_text_of_lemma-in-NoSolution g c undone are =
    let s = search_state c.args.engine.now.state c.args.search.now in
    let users = c.in-NoSolution.users in
    let ends = subst (λ (e : SearchEnd). EndsWith c.requires.ends.0 (length c.args.search.now.journal) s.engine e) c.in-NoSolution.is c.requires.ends.1 in
    let lemma = c.in_err-write_text_of_lemma-in-NoSolution.ensures.lemma undone ends.flat.var are ends.flat.empty in
    let w = wrote_front {T = Unit {0}} (fixed_text End) c.from_residual.ensures.1 (wrote_front (none_line c.args.book.now users) refl lemma) in
    (_, none_concludes c.args.book.now undone s users c.args.end.now ends c.in-NoSolution.is, search rules)

pub returns-in_err-names-in-NoSolution : goal.returns-in_err-names-in-NoSolution
returns-in_err-names-in-NoSolution g c undone are =
    let s = search_state c.args.engine.now.state c.args.search.now in
    let users = c.in-NoSolution.users in
    let ends = subst (λ (e : SearchEnd). EndsWith c.requires.ends.0 (length c.args.search.now.journal) s.engine e) c.in-NoSolution.is c.requires.ends.1 in
    let lemma = c.in_ok-write_text_of_lemma-in-NoSolution.ensures.lemma undone ends.flat.var are ends.flat.empty in
    let w = wrote_within (fixed_text End) c.from_residual-in_err-names-in-NoSolution.ensures.1 lemma c.in_err-names-in-NoSolution.ensures in
    (_, none_concludes c.args.book.now undone s users c.args.end.now ends c.in-NoSolution.is, search rules)

pub returns-in_ok-names-in-NoSolution : goal.returns-in_ok-names-in-NoSolution
returns-in_ok-names-in-NoSolution g c undone are =
    let s = search_state c.args.engine.now.state c.args.search.now in
    let users = c.in-NoSolution.users in
    let ends = subst (λ (e : SearchEnd). EndsWith c.requires.ends.0 (length c.args.search.now.journal) s.engine e) c.in-NoSolution.is c.requires.ends.1 in
    let lemma = c.in_ok-write_text_of_lemma-in-NoSolution.ensures.lemma undone ends.flat.var are ends.flat.empty in
    let w = wrote_then (wrote_then lemma c.in_ok-names-in-NoSolution.ensures) c.word.ensures in
    (_, none_concludes c.args.book.now undone s users c.args.end.now ends c.in-NoSolution.is, search rules)

pub returns-in_err-found-in-Found : goal.returns-in_err-found-in-Found
returns-in_err-found-in-Found g c undone are =
    let w = wrote_front (fixed_text End) c.from_residual-in_err-found-in-Found.ensures.1 c.in_err-found-in-Found.ensures in
    (found_line c.args.book.now.variables c.in-Found.values ++ fixed_text End, rw c.in-Found.is refl, search rules)

pub returns-in_ok-found-in-Found : goal.returns-in_ok-found-in-Found
returns-in_ok-found-in-Found g c undone are =
    let w = wrote_then c.in_ok-found-in-Found.ensures c.word-in-Found.ensures in
    (found_line c.args.book.now.variables c.in-Found.values ++ fixed_text End, rw c.in-Found.is refl, search rules)

pub returns-in_err-spent-in-Spent : goal.returns-in_err-spent-in-Spent
returns-in_err-spent-in-Spent g c undone are =
    let w = wrote_front (fixed_text End) c.from_residual-in_err-spent-in-Spent.ensures.1 c.in_err-spent-in-Spent.ensures in
    (spent_line c.in-Spent.turns None ++ fixed_text End, rw c.in-Spent.is refl, search rules)

pub returns-in_ok-spent-in-Spent : goal.returns-in_ok-spent-in-Spent
returns-in_ok-spent-in-Spent g c undone are =
    let w = wrote_then c.in_ok-spent-in-Spent.ensures c.word-in-Spent.ensures in
    (spent_line c.in-Spent.turns None ++ fixed_text End, rw c.in-Spent.is refl, search rules)
