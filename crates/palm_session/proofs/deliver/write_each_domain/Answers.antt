use Rattle.std.proofs.Common.{◌<◌, ◌∙◌, [], length, zip, arith, refl}
use Rattle.std.proofs.lemmas.List.{length-map}
use Rattle.std.proofs.lemmas.Slice.Zip.{length-zip}
use Rattle.palm_domain.specs.Rows.{Row, present_of}
use Rattle.palm_lang.specs.Reply.{domain_line}
use Rattle.palm_lang.proofs.cited.Wrote.{wrote_all, wrote_front, wrote_more, wrote_part, wrote_text, wrote_then}
use Rattle.palm_session.proofs.Delivering.{pair_read}
use Rattle.palm_session.proofs.deliver.write_each_domain.Goals as goal

pub returns-in_err-write_domain : goal.returns-in_err-write_domain
returns-in_err-write_domain g c =
    let variables = c.args.book.now.variables in
    let present = present_of c.args.store.now in
    let i = c.loop-index.index in
    let long = length-map c.args.store.now (λ (r : Row). r.present) ∙ c.requires.long in
    let lt : i < length variables = omega (arith, c.loop-index-test.true, c.variables-index-end.ensures.count) in
    let r = pair_read variables present i long lt in
    wrote_front {T = Unit {0}} _ c.from_residual.ensures.1
    (wrote_part (λ q. domain_line q.0.name q.1) (zip variables present) i (record { name = []; values = [] }, []) r.0 refl c.loop-index.invariant (wrote_text r.1 c.in_err-write_domain.ensures))

pub loop-index-preserved : goal.loop-index-preserved
loop-index-preserved g c =
    let variables = c.args.book.now.variables in
    let present = present_of c.args.store.now in
    let i = c.loop-index.index in
    let long = length-map c.args.store.now (λ (r : Row). r.present) ∙ c.requires.long in
    let lt : i < length variables = omega (arith, c.loop-index-test.true, c.variables-index-end.ensures.count) in
    let r = pair_read variables present i long lt in
    wrote_more (λ q. domain_line q.0.name q.1) (zip variables present) i (record { name = []; values = [] }, []) r.0 c.loop-index.invariant (wrote_text r.1 c.in_ok-write_domain.ensures)

pub returns : goal.returns
returns g c =
    let variables = c.args.book.now.variables in
    let present = present_of c.args.store.now in
    let long = length-map c.args.store.now (λ (r : Row). r.present) ∙ c.requires.long in
    wrote_then (wrote_all (λ q. domain_line q.0.name q.1) (zip variables present) c.loop-index.index (omega (arith, c.loop-index-test.false, c.variables-index-end.ensures.count, length-zip variables present, long)) c.loop-index.invariant) c.word.ensures
