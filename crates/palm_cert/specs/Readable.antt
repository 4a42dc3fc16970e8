-- What must be known of a certificate's lines before it can be judged: each says what was written.
use Rattle.std.specs.Prelude.{◌≡◌, ℕ, ◌<◌, List, length, codes, Contains}
use Rattle.palm_book.specs.Book.{Contents, BookVar, name_of, user_name, values_at}
use Rattle.palm_book.specs.Named.{named}
use Rattle.palm_book.specs.declared.book.BookCon.{BookCon}
use Rattle.palm_cert.specs.Certificate.{claim_words, declared_line, numbers_of, step_words}
use Rattle.palm_claim.specs.Statement.{Says}
use Rattle.palm_claim.specs.declared.statement.CertificatePhrase.{CertificatePhrase}
use Rattle.palm_claim.specs.declared.statement.CertificatePhrase.TheVariants.{Header, Step, ValueClaim, ConflictClaim, End}
use Rattle.palm_claim.specs.declared.statement.Statement.{Statement}
use Rattle.palm_claim.specs.declared.statement.Statement.TheVariants.{Variable, Constraint, Phrase}
use Rattle.palm_claim.specs.declared.verdict.Claim.{Claim}
use Rattle.palm_claim.specs.declared.verdict.Claim.TheVariants.{Gone, Conflict}
use Rattle.palm_lang.specs.Reply.{ended}
use Rattle.palm_model.specs.Log.{Removal}
use Rattle.palm_read.specs.Domain.{values_in}
use Rattle.palm_read.specs.Limits.{IsBeyond}
use Rattle.palm_read.specs.Text.{text_of}
use Rattle.palm_read.specs.Words.{spaced}
use Rattle.palm_read.specs.declared.line.DomainText.{DomainText}
use Rattle.palm_read.specs.declared.line.Line.TheVariants.{Add, Var}

-- the line of a variable says its name and its values, within the limits
pub record IsDeclaredBy (variables : List BookVar) (x : ℕ) (line : List ℕ) : Type 0 where
  pub domain : DomainText
  pub values : values_in domain ≡ values_at variables x
  pub ends : ended line ≡ declared_line variables x
  pub says : Says line (Variable (name_of variables x) domain)
  pub near : IsBeyond (Var (name_of variables x) domain) → ⊥

-- what a claim is to say
abbrev pub claim_statement : List BookVar → Claim → Statement CertificatePhrase
claim_statement variables (Gone pair) = Phrase (ValueClaim (name_of variables pair.var) pair.value)
claim_statement variables (Conflict x) = Phrase (ConflictClaim (name_of variables x))

-- each line of the certificate of these steps says what was written
pub record AreReadable (book : Contents) (steps : List Removal) (claim : Claim) : Type 0 where
  pub header : Says (codes "palm-cert 1") (Phrase Header)
  pub variable : (x : ℕ) → x < length book.variables → (line : List ℕ) × IsDeclaredBy book.variables x line
  pub constraint : (c : BookCon) → Contains book.constraints c → Says (text_of (Add c.name (named book.variables c.con))) (Constraint c.name (named book.variables c.con))
  pub near : (c : BookCon) → Contains book.constraints c → IsBeyond (Add c.name (named book.variables c.con)) → ⊥
  pub step : (r : Removal) → Contains steps r → Says (spaced (step_words book.variables r.pair (user_name book.constraints r.by) (numbers_of steps r.reasons)))
      (Phrase (Step (name_of book.variables r.pair.var) r.pair.value (user_name book.constraints r.by) (numbers_of steps r.reasons)))
  pub claims : Says (spaced (claim_words book.variables claim)) (claim_statement book.variables claim)
  pub ends : Says (codes "end") (Phrase End)
