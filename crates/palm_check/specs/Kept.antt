-- What is kept of a certificate besides what it lists, and what is answered to a phrase.
use Rattle.std.specs.Prelude.{Option, All}
use Rattle.palm_book.specs.Book.{Contents, initial_of}
use Rattle.palm_model.specs.Domains.{Has}
use Rattle.palm_claim.specs.Draft.{Draft}
use Rattle.palm_claim.specs.Taking.{TakesStatement}
use Rattle.palm_claim.specs.Verdict.{certificates}
use Rattle.palm_claim.specs.declared.statement.CertificatePhrase.{CertificatePhrase}
use Rattle.palm_claim.specs.declared.statement.Statement.TheVariants.{Phrase}
use Rattle.palm_claim.specs.declared.verdict.Cause.{Cause}
use Rattle.palm_listed.specs.declared.listed.Listed.{Listed}
use Rattle.text_check.specs.Kept.{AreKept}
use Rattle.palm_check.specs.declared.body.CertificateBody.{CertificateBody}

-- what the lines have said so far
abbrev pub said : Contents → CertificateBody → Draft
said book body = record { stage = body.stage; book = book; proved = body.proved.items }

-- what holds of it between lines: steps have proved declared pairs
abbrev pub HasDeclared : Contents → CertificateBody → Type 0
HasDeclared book body = All (λ p. Has (initial_of book) p.var p.value) body.proved.items

-- and what was listed is kept
abbrev pub IsKept : Listed → CertificateBody → Type 0
IsKept listed body = AreKept HasDeclared listed body

-- what is answered to a phrase: its first cause, or that it has none, and then the draft behind it
abbrev pub TakesPhrase : Draft → CertificatePhrase → Option Cause → Draft → Type 0
TakesPhrase d phrase o e = TakesStatement certificates d (Phrase phrase) o e
