use Rattle.std.proofs.Common.{refl, sym, ◌∙◌}
use Rattle.std.proofs.lemmas.List.{nil_from_length}
use Rattle.palm_read.proofs.cited.TokenLemmas.{part_from_first, none_behind, some_behind, first_token, lexeme_at-first, tokens_of-none}
use Rattle.palm_read.proofs.scan.token.Goals as goal

pub returns-in_default-clause-none : goal.returns-in_default-clause-none
returns-in_default-clause-none c =
    (λ _. none_behind c.args.bytes.now c.args.from c.count_blanks-blanks.result c.count_blanks-blanks.ensures.count (nil_from_length _ c.in_default.ensures.cases), λ _. refl)

pub returns-in_default-clause-tokens : goal.returns-in_default-clause-tokens
returns-in_default-clause-tokens c =
    tokens_of-none _ (none_behind c.args.bytes.now c.args.from c.count_blanks-blanks.result c.count_blanks-blanks.ensures.count (nil_from_length _ c.in_default.ensures.cases))

pub returns-clause-none : goal.returns-clause-none
returns-clause-none c =
    let some = some_behind c.args.bytes.now c.args.from c.count_blanks-blanks.result _ _ c.count_blanks-blanks.ensures.count c.in-Some.ensures.cases.0 in
    (λ e. cc, λ none. cc (sym some ∙ none))

pub returns-clause-first : goal.returns-clause-first
returns-clause-first c =
    first_token c.args.bytes.now c.args.from c.count_blanks-blanks.result _ _ _ _ c.count_blanks-blanks.ensures.count c.in-Some.ensures.cases.0 c.kind_and_length-kind.ensures.kind c.kind_and_length-kind.ensures.more c.kind_and_length-kind.ensures.within

pub returns-clause-tokens : goal.returns-clause-tokens
returns-clause-tokens c =
    lexeme_at-first c.args.bytes.now c.args.from _ (first_token c.args.bytes.now c.args.from c.count_blanks-blanks.result _ _ _ _ c.count_blanks-blanks.ensures.count c.in-Some.ensures.cases.0 c.kind_and_length-kind.ensures.kind c.kind_and_length-kind.ensures.more c.kind_and_length-kind.ensures.within)

pub returns-clause-part : goal.returns-clause-part
returns-clause-part c =
    part_from_first c.args.bytes.now c.args.from _ (first_token c.args.bytes.now c.args.from c.count_blanks-blanks.result _ _ _ _ c.count_blanks-blanks.ensures.count c.in-Some.ensures.cases.0 c.kind_and_length-kind.ensures.kind c.kind_and_length-kind.ensures.more c.kind_and_length-kind.ensures.within)
