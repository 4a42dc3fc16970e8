use Rattle.std.proofs.Common.{sym, subst}
use Rattle.palm_base.proofs.cited.Telling.{tells_true, tells_false}
use Rattle.palm_domain.specs.Rows.{IsPresent, initial_of}
use Rattle.palm_model.specs.Domains.{values_of}
use Rattle.palm_model.specs.Removed.{pairs_of}
use Rattle.palm_engine.specs.declared.filtering.Filtering.{Filtering}
use Rattle.palm_engine.specs.Advancing.{asked_of}
use Rattle.palm_engine.specs.Posted.{active_of}
use Rattle.palm_engine.specs.Revising.{WalkedPart}
use Rattle.palm_engine.proofs.Others.{asked_one, on_both, on_err_both, one_known, one_stopped, one_supported, one_walked}
use Rattle.palm_engine.proofs.Places.{place_past}
use Rattle.palm_engine.proofs.Progress.{counted_more, has_declared_value, on_ok}
use Rattle.palm_engine.proofs.Revised.{var_stored}
use Rattle.palm_engine.proofs.alike.revise_one.Goals as goal

pub contains-requires : goal.contains-requires
contains-requires g c =
    let r = c.requires.revising in
    var_stored c.args.filtering.now r.0 (active_of g.F.Filter.meaning c.args.constraint.now) r.1 c.args.var c.requires.over

pub returns-then-not-contains-clause-supported : goal.returns-then-not-contains-clause-supported
returns-then-not-contains-clause-supported g c =
    let f = c.args.filtering.now in
    let absent = tells_false (IsPresent f.store c.args.var c.args.value) c.contains.result c.contains.ensures c.if-not-contains.true in
    one_supported f (active_of g.F.Filter.meaning c.args.constraint.now) c.args.var c.args.value c.requires.known (λ has. absurd (absent has))

pub returns-then-not-contains-clause-walked : goal.returns-then-not-contains-clause-walked
returns-then-not-contains-clause-walked g c = λ active r.
    let owner = active_of g.F.Filter.meaning c.args.constraint.now in
    let f = c.args.filtering.now in
    let absent = tells_false (IsPresent f.store c.args.var c.args.value) c.contains.result c.contains.ensures c.if-not-contains.true in
    place_past f active owner c.args.var r (one_supported f owner c.args.var c.args.value c.requires.known (λ has. absurd (absent has)))

pub returns-clause-walked : goal.returns-clause-walked
returns-clause-walked g c = λ active r.
    let owner = active_of g.F.Filter.meaning c.args.constraint.now in
    let f = c.args.filtering.now in
    let has = tells_true (IsPresent f.store c.args.var c.args.value) c.contains.result c.contains.ensures c.if-not-contains.false in
    on_ok c.examine.result (one_walked active owner c.args.var c.args.value f c.examine.new.filtering r (c.examine.ensures.revising active r) c.requires.filled has c.requires.known) (c.examine.ensures.walked active r)

pub returns-clause-part : goal.returns-clause-part
returns-clause-part g c = λ active r.
    let owner = active_of g.F.Filter.meaning c.args.constraint.now in
    let f = c.args.filtering.now in
    let has = tells_true (IsPresent f.store c.args.var c.args.value) c.contains.result c.contains.ensures c.if-not-contains.false in
    on_err_both c.examine.result
    (λ same due. subst (λ (z : Filtering). WalkedPart active owner (pairs_of c.args.var (values_of (initial_of f.store) c.args.var)) f z) (sym same)
    (one_stopped active owner c.args.var c.args.value f c.examine.new.filtering.checks r c.requires.filled has c.requires.known due))
    c.examine.ensures.err c.examine.ensures.due

pub returns-clause-supported : goal.returns-clause-supported
returns-clause-supported g c =
    let r = c.requires.revising in
    let owner = active_of g.F.Filter.meaning c.args.constraint.now in
    let after = c.examine.new.filtering in
    on_both c.examine.result
    (λ one. one_supported after owner c.args.var c.args.value (one_known r.0 owner c.args.var c.args.value c.args.filtering.now after r.1 (c.examine.ensures.revising r.0 r.1) c.requires.known one))
    (c.examine.ensures.walked r.0 r.1) c.examine.ensures.supported

pub returns-clause-counted : goal.returns-clause-counted
returns-clause-counted g c =
    let f = c.args.filtering.now in
    let r = c.requires.revising in
    let vs = values_of (initial_of f.store) c.args.var in
    let has = tells_true (IsPresent f.store c.args.var c.args.value) c.contains.result c.contains.ensures c.if-not-contains.false in
    counted_more 1 (asked_of c.args.value vs) f c.examine.new.filtering c.args.steps.now c.examine.new.steps (asked_one vs c.args.value (has_declared_value f r.0 r.1.kept c.args.var c.args.value has)) c.examine.ensures.counted
