-- When a text is accepted by the checker's definition as a certificate of the claim that was to be made.
use Rattle.std.specs.Prelude.{ℕ, List}
use Rattle.palm_model.specs.Log.{Removal}
use Rattle.palm_book.specs.Book.{Contents}
use Rattle.palm_claim.specs.Verdict.{IsVerdict}
use Rattle.palm_claim.specs.declared.verdict.Claim.{Claim}
use Rattle.palm_claim.specs.declared.verdict.Proved.{Proved}
use Rattle.palm_claim.specs.declared.verdict.Verdict.TheVariants.{Accepted}
use Rattle.palm_cert.specs.Certificate.{cited, claimed, steps_of}
use Rattle.palm_cert.specs.SameClaim.{IsSameClaim}

-- what is accepted is the claim, of the constraints that the log needs for it
pub record IsAccepted (book : Contents) (log : List Removal) (claim : Claim) (text : List ℕ) : Type 0 where
  pub proved : Proved
  pub verdict : IsVerdict text (Accepted proved)
  pub same : IsSameClaim book (cited (steps_of log (claimed book claim)) book) claim proved
