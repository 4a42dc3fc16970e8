-- What is told of a value, by what the log says of its pair.
use Rattle.std.proofs.Common.{◌≡◌, ℕ, ℤ, Bool, true, false, List, Contains, Option, None, Some, MatchOption, inl, inr, refl}
use Rattle.std.specs.Prelude.{is_some, not, slice_get}
use Rattle.palm_base.specs.declared.terms.Pair.{Pair}
use Rattle.palm_base.specs.declared.terms.Cid.{Cid}
use Rattle.palm_base.proofs.cited.Members.{member_get}
use Rattle.palm_lang.specs.Reply.{fixed_text}
use Rattle.palm_lang.specs.declared.reply.Fixed.TheVariants.{Present}
use Rattle.palm_lang.specs.declared.reply.Lead.TheVariants.{Because}
use Rattle.palm_model.specs.Domains.{Has}
use Rattle.palm_model.specs.Log.{Removal, NamesOfPair, IsListOf, log_pairs}
use Rattle.palm_model.specs.State.{present}
use Rattle.palm_model.proofs.cited.Supports.{has_without, without_has}
use Rattle.palm_cert.specs.Certificate.{certificate_text}
use Rattle.palm_claim.specs.declared.verdict.Claim.TheVariants.{Gone}
use Rattle.palm_session.specs.Answers.{SaysCert, SaysWhy, users_text}
use Rattle.palm_session.specs.State.{SessionState}

-- where the log has the pair, and where it has not
abbrev pub IsPlaceOf : List Removal → Pair → Option ℕ → Type 0
IsPlaceOf log p o = MatchOption o (Contains (log_pairs log) p → ⊥) (λ place. slice_get (log_pairs log) place ≡ Some p)

pub unlogged_pair : (log : List Removal) (p : Pair) (o : Option ℕ) → IsPlaceOf log p o → (b : Bool) → is_some o ≡ not b → b ≡ true → Contains (log_pairs log) p → ⊥
unlogged_pair log p None none b e t = none
unlogged_pair log p (Some place) at b e t = cc

pub logged_pair : (log : List Removal) (p : Pair) (o : Option ℕ) → IsPlaceOf log p o → (b : Bool) → is_some o ≡ not b → b ≡ false → Contains (log_pairs log) p
logged_pair log p None none b e f = cc
logged_pair log p (Some place) at b e f = member_get (log_pairs log) place p at

module _ (s : SessionState) (x : ℕ) (v : ℤ) where
  abbrev pair : Pair
  pair = record { var = x; value = v }

  pub tells_present : Has s.engine.initial x v → (Contains (log_pairs s.engine.log) pair → ⊥) → SaysWhy s (present s.engine) x v (fixed_text Present)
  tells_present declared unlogged = inl (has_without s.engine.initial (log_pairs s.engine.log) x v declared unlogged, refl)

  pub tells_because : (cids : List Cid) → Contains (log_pairs s.engine.log) pair → IsListOf (NamesOfPair s.engine.log pair) cids
      → SaysWhy s (present s.engine) x v (users_text s.book Because cids)
  tells_because cids logged list =
      inr (λ has. (without_has s.engine.initial (log_pairs s.engine.log) x v has).1 logged, cids, list, refl)

  pub certifies_present : Has s.engine.initial x v → (Contains (log_pairs s.engine.log) pair → ⊥) → SaysCert s (present s.engine) pair (fixed_text Present)
  certifies_present declared unlogged = inl (has_without s.engine.initial (log_pairs s.engine.log) x v declared unlogged, refl)

  pub certifies_absent : Contains (log_pairs s.engine.log) pair → SaysCert s (present s.engine) pair (certificate_text s.book s.engine.log (Gone pair))
  certifies_absent logged = inr (λ has. (without_has s.engine.initial (log_pairs s.engine.log) x v has).1 logged, refl)
