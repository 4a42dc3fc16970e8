use Rattle.std.proofs.Common.{rules, ◌≡◌, List, [], ◌∷◌, ◌++◌, All, take, take_all, ◌∙◌, sym, subst, ap}
use Rattle.std.proofs.lemmas.List.{take_more}
use Rattle.std.proofs.lemmas.List.Elements.{All-push}
use Rattle.palm_filter.specs.declared.heed.Heed.{Heed}
use Rattle.palm_filter.specs.declared.heed.Heed.TheVariants.{Alone}
use Rattle.palm_agenda.proofs.connection.are_alone.Goals as goal

pub loop-heed-preserved : goal.loop-heed-preserved
loop-heed-preserved c =
    let heeds = c.args.heeds.now in
    let index = c.loop-heed.heed-index in
    subst (λ (hs : List Heed). All (λ h. h ≡ Alone) hs) (sym (take_more heeds index Alone c.loop-heed-test.true ∙ ap (λ h. take index heeds ++ h ∷ []) (search rules)))
    (All-push (λ h. h ≡ Alone) (take index heeds) Alone c.loop-heed.invariant (search rules))

pub returns : goal.returns
returns c _ = subst (λ (heeds : List Heed). All (λ heed. heed ≡ Alone) heeds) (take_all c.loop-heed.heed-index c.args.heeds.now c.loop-heed-test.false) c.loop-heed.invariant
