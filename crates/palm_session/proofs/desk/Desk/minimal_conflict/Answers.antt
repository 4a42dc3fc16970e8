use Rattle.std.proofs.Common.{All, inl, inr, refl, subst}
use Rattle.palm_book.specs.Book.{Contents, IsUser, initial_of}
use Rattle.palm_lang.specs.Reply.{fixed_text}
use Rattle.palm_lang.specs.declared.reply.Fixed.TheVariants.{Consistent}
use Rattle.palm_lang.specs.declared.reply.Lead.TheVariants.{Conflict as ConflictLead}
use Rattle.palm_model.specs.Minimal.{AreConflict}
use Rattle.palm_session.specs.Answers.{SaysMinimalConflict, users_text}
use Rattle.palm_session.proofs.Lending.{held_lends}
use Rattle.palm_session.proofs.Users.{minimal_users}
use Rattle.palm_session.proofs.desk.Desk.minimal_conflict.Goals as goal

pub minimal_conflict-requires : goal.minimal_conflict-requires
minimal_conflict-requires g c = held_lends c.args.self.now.state c.requires c.book.result.now c.engine.result.now.state c.book.ensures c.engine.ensures.state

pub returns-in-Some-clause-tells : goal.returns-in-Some-clause-tells
returns-in-Some-clause-tells g c =
    let minimal = rw c.in-Some.is at c.in_ok-users.ensures in
    subst (λ (b : Contents). SaysMinimalConflict b (users_text b ConflictLead c.in-Some.users)) c.book.ensures (inr (c.in-Some.users, minimal, refl))

pub returns-in-Some-clause-fits : goal.returns-in-Some-clause-fits
returns-in-Some-clause-fits g c =
    let book = c.book.result.now in
    let minimal = rw c.in-Some.is at c.in_ok-users.ensures in
    subst (λ (b : Contents). All (IsUser b) c.in-Some.users) c.book.ensures (minimal_users book (AreConflict (initial_of book)) c.in-Some.users minimal)

pub returns-in-None-clause-tells : goal.returns-in-None-clause-tells
returns-in-None-clause-tells g c =
    let none = rw c.in-None.is at c.in_ok-users.ensures in
    subst (λ (b : Contents). SaysMinimalConflict b (fixed_text Consistent)) c.book.ensures (inl (none, refl))
