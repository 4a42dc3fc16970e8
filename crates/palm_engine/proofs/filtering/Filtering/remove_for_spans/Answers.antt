use Rattle.std.proofs.Common.{◌≡◌, ℤ, [], ◌∷◌, Contains, refl, sym, subst, arith}
use Rattle.palm_base.proofs.cited.Members.{member_single}
use Rattle.palm_domain.specs.Rows.{Ascends, IsPresent}
use Rattle.palm_model.specs.Log.{Removal}
use Rattle.palm_explain.specs.Explanations.{IsRunOf}
use Rattle.palm_explain.specs.Moving.{FitsSpan}
use Rattle.palm_engine.specs.Changed.{HasLostEach, TakesOut}
use Rattle.palm_engine.proofs.Keeping.{took_out}
use Rattle.palm_engine.proofs.Progress.{both_ok}
use Rattle.palm_engine.proofs.filtering.Filtering.remove_for_spans.Goals as goal

pub remove_run-requires : goal.remove_run-requires
remove_run-requires c =
    let p = c.args.pair in
    let it : (v : ℤ) → Contains c.one.result.now v → p.value ≡ v = λ v m. member_single p.value v (subst (λ vs. Contains vs v) c.one.ensures m) in
    record {
      removed = c.requires.removed;
      ascend = subst (λ vs. Ascends vs) (sym c.one.ensures) ((λ k d lt. absurd (omega (arith, lt))), tt);
      present = λ v m. subst (λ w. IsPresent c.args.self.now.store p.var w) (it v m) c.requires.present;
      fits = λ s v m n. subst (FitsSpan s) (it v n) (c.requires.fits s m);
    }

pub returns-clause-ok : goal.returns-clause-ok
returns-clause-ok c = λ reasons spanned.
    let f = c.args.self.now in
    let p = c.args.pair in
    let r : Removal = record { pair = p; by = c.args.by; reasons = reasons } in
    let run : IsRunOf p.var c.args.by c.args.spans.now f.log.log (p.value ∷ []) (r ∷ []) = (record { paired = refl; made = refl; resting = spanned }, tt) in
    let logged = c.remove_run.ensures.logged (r ∷ []) (subst (λ vs. IsRunOf p.var c.args.by c.args.spans.now f.log.log vs (r ∷ [])) (sym c.one.ensures) run) in
    both_ok c.remove_run.result
    (λ each log.
    let one = subst (λ vs. HasLostEach (record f { log = c.remove_run.new.self.log }) p.var vs c.remove_run.new.self) c.one.ensures each in
    subst (λ g. TakesOut f p c.args.by reasons g) (sym one.2) (took_out f c.remove_run.new.self.log one.0 p c.args.by reasons c.requires.removed c.requires.present log one.1))
    c.remove_run.ensures.lost logged
