use Rattle.std.proofs.Common.{rules, List, ℕ, Some, None, sym, subst, ◌∙◌}
use Rattle.palm_cli.proofs.CommandLine.{palm_from, none_asked, some_asked, error_asked}
use Rattle.palm_cli.proofs.WordLemmas.{bare_words, gen_by, no_gen_by}
use Rattle.palm_cli.specs.Generator.{IsSize}
use Rattle.palm_cli.specs.Words.{Asks}
use Rattle.palm_cli.proofs.words.parse.Goals as goal

pub returns-in_default : goal.returns-in_default
returns-in_default c =
    let palm_is = palm_from c.required-size.result c.new-2.result c.in_ok-generate.generate c.new-4.result c.new-5.result c.new-6.result c.new-3.result c.no_binary_name.result c.disable_help_flag.result c.disable_help_subcommand.result
    c.disable_version_flag.result c.in_ok-subcommand.field-0 c.in_ok-subcommand-2.field-0 c.in_ok-subcommand-3.field-0 c.in_ok-palm.palm (search rules) (search rules) (search rules) (search rules) c.in_ok-generate.ensures
    (search rules) (search rules) (search rules) (search rules) (search rules) (search rules) (search rules) c.no_binary_name.ensures c.disable_help_flag.ensures c.disable_help_subcommand.ensures
    c.disable_version_flag.ensures c.in_ok-subcommand.ensures c.in_ok-subcommand-2.ensures c.in_ok-subcommand-3.ensures c.in_ok-palm.ensures in
    error_asked _ c.in_ok-palm.palm c.in-Err.error (bare_words _ c.requires) palm_is c.in-Err.ensures.kinds (λ e. c.in_default.not-OutOfMemory (c.kind.ensures ∙ e))

pub returns-in_default-subcommand : goal.returns-in_default-subcommand
returns-in_default-subcommand c =
    let palm_is = palm_from c.required-size.result c.new-2.result c.in_ok-generate.generate c.new-4.result c.new-5.result c.new-6.result c.new-3.result c.no_binary_name.result c.disable_help_flag.result c.disable_help_subcommand.result
    c.disable_version_flag.result c.in_ok-subcommand.field-0 c.in_ok-subcommand-2.field-0 c.in_ok-subcommand-3.field-0 c.in_ok-palm.palm (search rules) (search rules) (search rules) (search rules) c.in_ok-generate.ensures
    (search rules) (search rules) (search rules) (search rules) (search rules) (search rules) (search rules) c.no_binary_name.ensures c.disable_help_flag.ensures c.disable_help_subcommand.ensures
    c.disable_version_flag.ensures c.in_ok-subcommand.ensures c.in_ok-subcommand-2.ensures c.in_ok-subcommand-3.ensures c.in_ok-palm.ensures in
    none_asked _ c.in_ok-palm.palm c.in-Ok.matches (bare_words _ c.requires) palm_is c.in-Ok.ensures.kinds c.in-Ok.ensures.matches c.in_default-subcommand.ensures.name

pub returns-in_default-get_str : goal.returns-in_default-get_str
returns-in_default-get_str c =
    let palm_is = palm_from c.required-size.result c.new-2.result c.in_ok-generate.generate c.new-4.result c.new-5.result c.new-6.result c.new-3.result c.no_binary_name.result c.disable_help_flag.result c.disable_help_subcommand.result
    c.disable_version_flag.result c.in_ok-subcommand.field-0 c.in_ok-subcommand-2.field-0 c.in_ok-subcommand-3.field-0 c.in_ok-palm.palm (search rules) (search rules) (search rules) (search rules) c.in_ok-generate.ensures
    (search rules) (search rules) (search rules) (search rules) (search rules) (search rules) (search rules) c.no_binary_name.ensures c.disable_help_flag.ensures c.disable_help_subcommand.ensures
    c.disable_version_flag.ensures c.in_ok-subcommand.ensures c.in_ok-subcommand-2.ensures c.in_ok-subcommand-3.ensures c.in_ok-palm.ensures in
    let alone = some_asked _ c.in_ok-palm.palm c.in-Ok.matches c.in-Some.inner.now c.in-Some.name.now None (bare_words _ c.requires) palm_is c.in-Ok.ensures.kinds c.in-Ok.ensures.matches
    c.in-Some.ensures.name c.in-Some.ensures.rows c.in_default-get_str.ensures in
    subst (λ (words : List (List ℕ)). Asks words c.request_alone.result) (sym alone) c.request_alone.ensures

pub returns-in-Some-size_of : goal.returns-in-Some-size_of
returns-in-Some-size_of c =
    let palm_is = palm_from c.required-size.result c.new-2.result c.in_ok-generate.generate c.new-4.result c.new-5.result c.new-6.result c.new-3.result c.no_binary_name.result c.disable_help_flag.result c.disable_help_subcommand.result
    c.disable_version_flag.result c.in_ok-subcommand.field-0 c.in_ok-subcommand-2.field-0 c.in_ok-subcommand-3.field-0 c.in_ok-palm.palm (search rules) (search rules) (search rules) (search rules) c.in_ok-generate.ensures
    (search rules) (search rules) (search rules) (search rules) (search rules) (search rules) (search rules) c.no_binary_name.ensures c.disable_help_flag.ensures c.disable_help_subcommand.ensures
    c.disable_version_flag.ensures c.in_ok-subcommand.ensures c.in_ok-subcommand-2.ensures c.in_ok-subcommand-3.ensures c.in_ok-palm.ensures in
    let has = some_asked _ c.in_ok-palm.palm c.in-Ok.matches c.in-Some.inner.now c.in-Some.name.now (Some c.in-Some-get_str.word.now) (bare_words _ c.requires) palm_is c.in-Ok.ensures.kinds c.in-Ok.ensures.matches
    c.in-Some.ensures.name c.in-Some.ensures.rows c.in-Some-get_str.ensures in
    gen_by _ c.in-Some-get_str.word.now c.in-Some-size_of.size has (subst (λ (w : List ℕ). IsSize w c.in-Some-size_of.size) c.as_bytes.ensures.value c.in-Some-size_of.ensures.some)

pub returns : goal.returns
returns c =
    let palm_is = palm_from c.required-size.result c.new-2.result c.in_ok-generate.generate c.new-4.result c.new-5.result c.new-6.result c.new-3.result c.no_binary_name.result c.disable_help_flag.result c.disable_help_subcommand.result
    c.disable_version_flag.result c.in_ok-subcommand.field-0 c.in_ok-subcommand-2.field-0 c.in_ok-subcommand-3.field-0 c.in_ok-palm.palm (search rules) (search rules) (search rules) (search rules) c.in_ok-generate.ensures
    (search rules) (search rules) (search rules) (search rules) (search rules) (search rules) (search rules) c.no_binary_name.ensures c.disable_help_flag.ensures c.disable_help_subcommand.ensures
    c.disable_version_flag.ensures c.in_ok-subcommand.ensures c.in_ok-subcommand-2.ensures c.in_ok-subcommand-3.ensures c.in_ok-palm.ensures in
    let has = some_asked _ c.in_ok-palm.palm c.in-Ok.matches c.in-Some.inner.now c.in-Some.name.now (Some c.in-Some-get_str.word.now) (bare_words _ c.requires) palm_is c.in-Ok.ensures.kinds c.in-Ok.ensures.matches
    c.in-Some.ensures.name c.in-Some.ensures.rows c.in-Some-get_str.ensures in
    no_gen_by _ c.in-Some-get_str.word.now has (λ n is. c.in-None.ensures.none n (subst (λ (w : List ℕ). IsSize w n) (sym c.as_bytes.ensures.value) is))
