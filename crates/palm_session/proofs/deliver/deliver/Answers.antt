use Rattle.std.proofs.Common.{rules, subst}
use Rattle.palm_book.specs.Book.{Contents}
use Rattle.palm_lang.specs.Writer.{Wrote}
use Rattle.palm_session.specs.Answers.{least_text}
use Rattle.palm_session.proofs.deliver.deliver.Goals as goal

pub returns-in-Word : goal.returns-in-Word
returns-in-Word g c = rw c.in-Word.is (let w = c.word.ensures in search rules)

pub returns-in-Refused : goal.returns-in-Refused
returns-in-Refused g c = rw c.in-Refused.is (let w = c.refusal.ensures in search rules)

pub returns-in-Ran : goal.returns-in-Ran
returns-in-Ran g c = rw c.in-Ran.is (let w = c.ran.ensures in search rules)

pub returns-in-Domains : goal.returns-in-Domains
returns-in-Domains g c = rw c.in-Domains.is (let w = c.write_domains.ensures in search rules)

pub returns-in-Domain : goal.returns-in-Domain
returns-in-Domain g c = rw c.in-Domain.is (let w = c.write_one_domain.ensures in search rules)

pub returns-in-Listing : goal.returns-in-Listing
returns-in-Listing g c = rw c.in-Listing.is (let w = rw c.book-book.ensures at c.write_list.ensures in search rules)

pub returns-in-Log : goal.returns-in-Log
returns-in-Log g c = rw c.in-Log.is (let w = c.write_log.ensures in search rules)

pub returns-in-Users : goal.returns-in-Users
returns-in-Users g c = rw c.in-Users.is (let w = rw c.book-book.ensures at c.names.ensures in search rules)

pub returns-in-Certificate : goal.returns-in-Certificate
returns-in-Certificate g c = rw c.in-Certificate.is (let w = c.write_certificate.ensures in search rules)

pub returns-in-Found : goal.returns-in-Found
returns-in-Found g c = rw c.in-Found.is (let w = rw c.book-book.ensures at c.found.ensures in search rules)

pub returns-in-Spent : goal.returns-in-Spent
returns-in-Spent g c = rw c.in-Spent.is (let w = c.spent.ensures in search rules)

pub returns-in-Best : goal.returns-in-Best
returns-in-Best g c =
    rw c.in-Best.is
    (let w = subst (λ (book : Contents). Wrote g.K.Sink.state c.new-writer.result c.write_least.new.writer (least_text book c.in-Best.values c.in-Best.users) c.write_least.result) c.book-book.ensures c.write_least.ensures in
    search rules)

pub returns-in-SpentBest : goal.returns-in-SpentBest
returns-in-SpentBest g c = rw c.in-SpentBest.is (let w = rw c.book-book.ensures at c.spent_best.ensures in search rules)

pub returns-in-Weighed : goal.returns-in-Weighed
returns-in-Weighed g c = rw c.in-Weighed.is (let w = rw c.book-book.ensures at c.write_preferred.ensures in search rules)
