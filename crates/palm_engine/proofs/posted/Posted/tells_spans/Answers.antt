use Rattle.std.proofs.Common.{Contains, inl, inr, subst}
use Rattle.palm_base.proofs.cited.Members.{member_nil}
use Rattle.palm_domain.specs.Rows.{initial_of}
use Rattle.palm_engine.proofs.Telling.{nothing_told}
use Rattle.palm_engine.proofs.posted.Posted.tells_spans.Goals as goal

pub returns-in-User-clause-told : goal.returns-in-User-clause-told
returns-in-User-clause-told g c = rw c.in-User.is c.spans_by_rule.ensures.told

pub returns-in-User-clause-knows : goal.returns-in-User-clause-knows
returns-in-User-clause-knows g c = rw c.in-User.is c.spans_by_rule.ensures.knows

pub returns-in-Decision-clause-told : goal.returns-in-Decision-clause-told
returns-in-Decision-clause-told g c = λ yes. record {
  told = elim c.in-Decision.is [
    | inl own ↦ rw own.1 (nothing_told (initial_of c.args.store.now) c.clear.new.self.items c.args.pair.now.value c.clear.ensures.items)
    | inr own ↦ rw own.2 (nothing_told (initial_of c.args.store.now) c.clear.new.self.items c.args.pair.now.value c.clear.ensures.items)
  ];
  fits = λ s m. absurd (member_nil s (subst (λ spans. Contains spans s) c.clear.ensures.items m));
}
