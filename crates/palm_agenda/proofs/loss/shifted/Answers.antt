use Rattle.std.proofs.Common.{rules, ◌≡◌, ◌+ℤ◌, ◌-ℤ◌, pos, to_z, of_z, w32, w64, int_lt, ◌||◌, false, sym, ap, ◌∙◌}
use Rattle.palm_agenda.specs.declared.mark.Mark.TheVariants.{Whole}
use Rattle.palm_agenda.specs.Marks.{widened}
use Rattle.palm_agenda.proofs.cited.Keeping.{if_false}
use Rattle.palm_agenda.proofs.loss.shifted.Goals as goal

pub returns : goal.returns
returns c = λ mark.
    let number = c.args.value.now +ℤ c.args.by in
    let wide : to_z w64 (of_z w64 (to_z w64 (of_z w64 c.number_of.result) +ℤ to_z w64 (of_z w64 c.from.result))) ≡ number = search rules in
    let moved : to_z w32 (of_z w32 (to_z w64 (of_z w64 (to_z w64 (of_z w64 c.number_of.result) +ℤ to_z w64 (of_z w64 c.from.result))))) ≡ number = search rules in
    let low : int_lt number (pos 0 -ℤ pos 2147483648) ≡ false = search rules in
    let high : int_lt (pos 2147483647) number ≡ false = search rules in
    ap (λ v. widened v v mark) moved
    ∙ sym (if_false (int_lt number (pos 0 -ℤ pos 2147483648) || int_lt (pos 2147483647) number) Whole (widened number number mark) (ap (λ b. b || int_lt (pos 2147483647) number) low ∙ high))
