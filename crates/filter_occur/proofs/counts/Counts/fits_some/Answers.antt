use Rattle.palm_base.proofs.cited.Telling.{tells_both, tells_true, tells_false}
use Rattle.palm_model.specs.Domains.{values_of}
use Rattle.palm_domain.specs.Rows.{present_of}
use Rattle.filter_occur.specs.Count.{IsCountReached}
use Rattle.filter_occur.proofs.Reached.{wider, op_unlike_missed, op_below_missed, op_above_missed}
use Rattle.filter_occur.proofs.counts.Counts.fits_some.Goals as goal

pub returns-else-fits : goal.returns-else-fits
returns-else-fits c =
    let counts = c.args.self.now in
    let op = c.args.op in
    let vs = values_of (present_of c.args.store.now) c.args.target in
    tells_both (IsCountReached counts op vs) c.fits-else-fits.result
    (λ t. wider counts op vs c.greatest-greatest.result c.greatest-greatest.ensures.member (tells_true _ c.fits-else-fits.result c.fits-else-fits.ensures t))
    (λ t. op_unlike_missed counts op vs c.least-least.result c.greatest-greatest.result c.in-Ne.is c.least-least.ensures c.greatest-greatest.ensures c.if-fits.ensures (tells_false _ c.fits-else-fits.result c.fits-else-fits.ensures t))

pub returns-in-Lt : goal.returns-in-Lt
returns-in-Lt c =
    let counts = c.args.self.now in
    let op = c.args.op in
    let vs = values_of (present_of c.args.store.now) c.args.target in
    tells_both (IsCountReached counts op vs) c.fits-in-Lt.result
    (λ t. wider counts op vs c.greatest-greatest.result c.greatest-greatest.ensures.member (tells_true _ c.fits-in-Lt.result c.fits-in-Lt.ensures t))
    (λ t. op_below_missed counts op vs c.greatest-greatest.result c.in-Lt.is c.greatest-greatest.ensures (tells_false _ c.fits-in-Lt.result c.fits-in-Lt.ensures t))

pub returns-in-Gt : goal.returns-in-Gt
returns-in-Gt c =
    let counts = c.args.self.now in
    let op = c.args.op in
    let vs = values_of (present_of c.args.store.now) c.args.target in
    tells_both (IsCountReached counts op vs) c.fits-in-Gt.result
    (λ t. wider counts op vs c.least-least.result c.least-least.ensures.member (tells_true _ c.fits-in-Gt.result c.fits-in-Gt.ensures t))
    (λ t. op_above_missed counts op vs c.least-least.result c.in-Gt.is c.least-least.ensures (tells_false _ c.fits-in-Gt.result c.fits-in-Gt.ensures t))
