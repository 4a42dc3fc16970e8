use Rattle.std.proofs.Common.{IsPermutation, length, ap, ◌∙◌, subst, arith}
use Rattle.std.proofs.lemmas.Bool.{lt-ltb, ltb-true}
use Rattle.std.specs.List.{dedup}
use Rattle.std.specs.Str.{bytes_eq}
use Rattle.palm_read.proofs.Twice.{twice_is, refilled, tells_from}
use Rattle.palm_read.proofs.reader.repeats.has_twice.Goals as goal

pub returns : goal.returns
returns c =
    let moved = subst (λ ts. IsPermutation ts c.sort_unstable.new.self) c.deref_mut.ensures.value c.sort_unstable.ensures.permutation in
    let t = twice_is (λ x. x.now) c.args.texts.items c.sort_unstable.new.self c.dedup.new.self.items moved c.sort_unstable.ensures.sorted (c.dedup.ensures.items ∙ ap (dedup (λ a b. bytes_eq a.now b.now)) (refilled c.args.texts.items c.sort_unstable.new.self (c.sort_unstable.ensures.len ∙ ap length c.deref_mut.ensures.value))) in
    tells_from _ _ (λ e. t.0 (omega (arith, ltb-true c.len.result c.len-count.result e, c.len.ensures.value, c.len-count.ensures.value))) (λ r. lt-ltb c.len.result c.len-count.result (omega (arith, t.1 r, c.len.ensures.value, c.len-count.ensures.value)))
