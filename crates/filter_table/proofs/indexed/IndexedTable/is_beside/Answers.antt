use Rattle.std.proofs.Common.{Some, sym, ap, ◌∙◌, rules}
use Rattle.std.proofs.lemmas.Option.{slice_get-get_or}
use Rattle.palm_domain.specs.Rows.{present_of}
use Rattle.filter_table.proofs.Besides.{word_tells, far_tells, other_variable}
use Rattle.filter_table.proofs.indexed.IndexedTable.is_beside.Goals as goal

pub returns-in-Some : goal.returns-in-Some
returns-in-Some c =
    let t = c.args.self.now in
    let found = rw c.deref.ensures.value at c.in_ok-beside.ensures.lookup in
    let b = c.in_ok-beside.beside.now in
    let lookup = slice_get-get_or t.besides.items c.args.own b found.3.0 ∙ ap Some (sym found.1) in
    word_tells t c.requires.indexed c.requires.two (present_of c.args.store.now) c.args.own c.args.pair.now.var c.args.pair.now.value c.requires.own c.requires.present
    b lookup c.index-as_slice-own.result (other_variable t.vars c.requires.two c.args.own c.as_slice.result.now c.index-as_slice-own.result c.as_slice.ensures c.index-as_slice-own.is)
    c.in_ok-window.window c.in_ok-window.ensures.window c.in-Some.word c.in-Some.ensures (search rules)

pub returns-in-None : goal.returns-in-None
returns-in-None c =
    let t = c.args.self.now in
    let found = rw c.deref.ensures.value at c.in_ok-beside.ensures.lookup in
    let b = c.in_ok-beside.beside.now in
    let lookup = slice_get-get_or t.besides.items c.args.own b found.3.0 ∙ ap Some (sym found.1) in
    far_tells t c.requires.indexed c.requires.two (present_of c.args.store.now) c.args.own c.args.pair.now.var c.args.pair.now.value c.requires.own c.requires.present
    b lookup c.index-as_slice-own.result (other_variable t.vars c.requires.two c.args.own c.as_slice.result.now c.index-as_slice-own.result c.as_slice.ensures c.index-as_slice-own.is)
    c.in_ok-window.window c.in_ok-window.ensures.window c.in-None.ensures
