use Rattle.std.proofs.Common.{◌≡◌, List, Bool, ℕ, true, false, get_or, Contains, inl, inr, subst, sym, ◌∙◌}
use Rattle.std.proofs.lemmas.Bool.{cases_Bool, false≢true}
use Rattle.std.proofs.lemmas.List.{take_all}
use Rattle.palm_base.proofs.cited.Members.{member_take_more}
use Rattle.palm_agenda.proofs.heedful.note_heeds.Goals as goal

-- what is noted stays noted
still_noted : (before after : List Bool) (x : ℕ) → (get_or after x false ≡ false → get_or before x false ≡ false) → get_or before x false ≡ true → get_or after x false ≡ true
still_noted before after x stay noted = elim (cases_Bool (get_or after x false)) [
  | inl t ↦ t
  | inr f ↦ absurd (false≢true (sym (stay f) ∙ noted))
]

pub loop-var-preserved : goal.loop-var-preserved
loop-var-preserved c = record {
  stay = λ x rests. c.loop-var.invariant.stay x (c.note.ensures.more x rests);
  noted = λ x m. elim (member_take_more c.scope-var-items.result.now c.loop-var.var-index c.var-item.result x c.loop-var-test.true c.var-item.is m) [
    | inl k ↦ still_noted c.loop-var.heedful.items c.note.new.heedful.items x (c.note.ensures.more x) (c.loop-var.invariant.noted x k)
    | inr e ↦ subst (λ y. get_or c.note.new.heedful.items y false ≡ true) e c.in_ok-note.ensures.noted
  ];
}

pub returns-clause-alone : goal.returns-clause-alone
returns-clause-alone c x rests over =
    absurd (false≢true (sym rests ∙ c.loop-var.invariant.noted x
    (subst (λ xs. Contains xs x) (sym c.scope-var-items.ensures ∙ sym (take_all c.loop-var.var-index c.scope-var-items.result.now c.loop-var-test.false)) over)))
