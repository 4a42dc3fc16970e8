use Rattle.std.proofs.Common.{List, Contains, sym, subst, ◌∙◌}
use Rattle.palm_base.proofs.cited.Telling.{tells_false}
use Rattle.palm_book.specs.Book.{active_of, initial_of}
use Rattle.palm_model.specs.Domains.{Domains}
use Rattle.palm_model.specs.Log.{Active}
use Rattle.palm_reduce.specs.Marked.{marked}
use Rattle.palm_reduce.specs.Properties.{IsCore}
use Rattle.palm_reduce.proofs.Asking.{allowed_at, tells_at}
use Rattle.palm_reduce.proofs.Cores.{core_more}
use Rattle.palm_reduce.proofs.reduce.reduce_in.Goals as goal

pub has_property-requires : goal.has_property-requires
has_property-requires g c =
    let s = c.args.engine.now.state in
    allowed_at c.args.property.now s.initial (initial_of c.args.book.now) s.active (active_of (marked c.args.book.now c.args.marks.now)) c.requires.filled.initial (λ a m. (c.requires.filled.active a).0 m) c.requires.allowed

pub returns-then-not-branch-clause-answer : goal.returns-then-not-branch-clause-answer
returns-then-not-branch-clause-answer g c =
    let s = c.args.engine.now.state in
    let b = c.in_ok-has_property.field-0 in
    tells_false _ b (tells_at c.args.property.now s.initial (initial_of c.args.book.now) s.active (active_of (marked c.args.book.now c.args.marks.now)) c.requires.filled.initial c.requires.filled.active b c.in_ok-has_property.ensures.tells) c.if-not-branch.true

pub returns-then-not-branch-clause-stay : goal.returns-then-not-branch-clause-stay
returns-then-not-branch-clause-stay g c = record {
  initial = c.in_ok-has_property.ensures.initial ∙ c.requires.filled.initial;
  active = λ a. (
    λ m. (c.requires.filled.active a).0 (subst (λ (z : List Active). Contains z a) c.in_ok-has_property.ensures.active m),
    λ m. subst (λ (z : List Active). Contains z a) (sym c.in_ok-has_property.ensures.active) ((c.requires.filled.active a).1 m),
  );
}

pub walk-requires-clause-initial : goal.walk-requires-clause-initial
walk-requires-clause-initial g c = c.in_ok-has_property.ensures.initial ∙ c.requires.filled.initial

pub walk-requires-clause-active : goal.walk-requires-clause-active
walk-requires-clause-active g c a = (
  λ m. (c.requires.filled.active a).0 (subst (λ (z : List Active). Contains z a) c.in_ok-has_property.ensures.active m),
  λ m. subst (λ (z : List Active). Contains z a) (sym c.in_ok-has_property.ensures.active) ((c.requires.filled.active a).1 m),
)

pub walk-requires-clause-core : goal.walk-requires-clause-core
walk-requires-clause-core g c =
    let s = c.args.engine.now.state in
    let known = c.in_ok-has_property.ensures.core c.if-not-branch.false in
    core_more c.args.property.now (initial_of c.args.book.now) s.active (active_of (marked c.args.book.now c.args.marks.now)) c.has_property.new.core (λ a named m. (c.requires.filled.active a).0 m)
    (subst (λ (d : Domains). IsCore c.args.property.now d s.active c.has_property.new.core) c.requires.filled.initial known)
