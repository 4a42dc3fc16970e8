use Rattle.std.proofs.Common.{[], List, take, get_or, sym, ap, subst, ◌∙◌, arith}
use Rattle.std.proofs.lemmas.List.{get_or_default, map_more}
use Rattle.palm_book.specs.Book.{active_of, initial_of}
use Rattle.palm_book.specs.declared.book.BookCon.{BookCon}
use Rattle.palm_reduce.specs.Marked.{marked}
use Rattle.palm_prefer.specs.Preferred.{Walks}
use Rattle.palm_prefer.specs.Preferred.Walks.{starts}
use Rattle.palm_prefer.specs.Walked.{HasWalked, con_at, cons_at}
use Rattle.palm_prefer.specs.declared.answer.LeftOut.{LeftOut}
use Rattle.palm_prefer.specs.declared.order.Soft.{Soft}
use Rattle.palm_prefer.proofs.Weighing.{con_is}
use Rattle.palm_prefer.proofs.walking.walk_over.Goals as goal

pub loop-rank-init : goal.loop-rank-init
loop-rank-init g c =
    let book = c.args.book.now in
    let start = active_of (marked book c.args.marks.items) in (
      record {
        whole = c.requires.whole;
        kept = c.requires.kept;
        filled = c.requires.filled;
        free = c.requires.free;
      },
      subst (λ (z : List LeftOut). Walks (initial_of book) start [] start z) (sym c.new.ensures) starts,
      λ k d from within. c.requires.unmarked k d within,
    )

pub pass-requires-clause-kept : goal.pass-requires-clause-kept
pass-requires-clause-kept g c = c.requires.lent c.loop-rank.rank (record { weight = 0; place = 0 }) c.loop-rank-test.true

pub loop-rank-preserved : goal.loop-rank-preserved
loop-rank-preserved g c =
    let book = c.args.book.now in
    let order = c.args.order.now in
    let rank = c.loop-rank.rank in
    let start = active_of (marked book c.args.marks.items) in
    let soft = get_or order rank (record { weight = 0; place = 0 }) in
    let within = c.requires.within rank (record { weight = 0; place = 0 }) c.loop-rank-test.true in
    let con = con_at book.constraints soft.place in (
      c.in_ok-pass.ensures.fits,
      subst (λ (z : List BookCon). HasWalked book start z c.pass.new.walk) (sym (map_more (λ (s : Soft). con_at book.constraints s.place) order rank (record { weight = 0; place = 0 }) c.loop-rank-test.true))
          (c.in_ok-pass.ensures.walked start (cons_at book.constraints (take rank order)) con (con_is book.constraints soft.place within) c.loop-rank.invariant.1),
      λ k d from lt.
          c.in_ok-pass.ensures.others (get_or order k d).place (λ e. c.requires.different rank k d (omega (arith, from)) lt (ap (λ (s : Soft). s.place) (get_or_default order rank d (record { weight = 0; place = 0 }) c.loop-rank-test.true) ∙ sym e)) ∙ c.loop-rank.invariant.2 k d (omega (arith, from)) lt,
    )
