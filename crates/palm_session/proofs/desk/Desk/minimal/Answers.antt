use Rattle.std.proofs.Common.{All, inl, inr, refl, sym, subst}
use Rattle.palm_book.specs.Book.{Contents, IsUser, active_of, initial_of}
use Rattle.palm_lang.specs.Reply.{fixed_text}
use Rattle.palm_lang.specs.declared.reply.Fixed.TheVariants.{Present}
use Rattle.palm_lang.specs.declared.reply.Lead.TheVariants.{Because}
use Rattle.palm_model.specs.Domains.{Domains, Has}
use Rattle.palm_model.specs.Minimal.{AreConflict, DoExplain}
use Rattle.palm_session.specs.Answers.{SaysMinimal, users_text}
use Rattle.palm_session.proofs.Lending.{held_lends}
use Rattle.palm_session.proofs.Users.{minimal_users}
use Rattle.palm_session.proofs.desk.Desk.minimal.Goals as goal

pub minimal_why-requires-clause-declared : goal.minimal_why-requires-clause-declared
minimal_why-requires-clause-declared g c =
    subst (λ (b : Contents). Has (initial_of b) c.args.pair.var c.args.pair.value) (sym c.book.ensures)
    (subst (λ (e : Domains). Has e c.args.pair.var c.args.pair.value) c.requires.held.initial c.requires.declared)

pub minimal_why-requires-clause-filled : goal.minimal_why-requires-clause-filled
minimal_why-requires-clause-filled g c =
    subst (λ (b : Contents). AreConflict (initial_of b) (active_of b) → ⊥) (sym c.book.ensures) c.requires.filled

pub minimal_why-requires-clause-lends : goal.minimal_why-requires-clause-lends
minimal_why-requires-clause-lends g c =
    held_lends c.args.self.now.state c.requires.held c.book.result.now c.engine.result.now.state c.book.ensures c.engine.ensures.state

pub returns-in-Some-clause-tells : goal.returns-in-Some-clause-tells
returns-in-Some-clause-tells g c =
    let minimal = rw c.in-Some.is at c.in_ok-users.ensures in
    subst (λ (b : Contents). SaysMinimal b c.args.pair (users_text b Because c.in-Some.users)) c.book.ensures (inr (c.in-Some.users, minimal, refl))

pub returns-in-Some-clause-fits : goal.returns-in-Some-clause-fits
returns-in-Some-clause-fits g c =
    let book = c.book.result.now in
    let minimal = rw c.in-Some.is at c.in_ok-users.ensures in
    subst (λ (b : Contents). All (IsUser b) c.in-Some.users) c.book.ensures (minimal_users book (DoExplain (initial_of book) c.args.pair) c.in-Some.users minimal)

pub returns-in-None-clause-tells : goal.returns-in-None-clause-tells
returns-in-None-clause-tells g c =
    let none = rw c.in-None.is at c.in_ok-users.ensures in
    subst (λ (b : Contents). SaysMinimal b c.args.pair (fixed_text Present)) c.book.ensures (inl (none, refl))
