use Rattle.std.proofs.Common.{◌≡◌, ◌++◌, OnOk, codes, map, subst, sym}
use Rattle.palm_book.specs.Book.{user_name}
use Rattle.palm_lang.specs.Reply.{names_line}
use Rattle.palm_lang.specs.declared.reply.Lead.TheVariants.{Because}
use Rattle.proof_text.specs.declared.verdict.ProofVerdict.{ProofVerdict}
use Rattle.palm_cli.specs.Verdicts.{proof_line}
use Rattle.palm_cli.proofs.NameLemmas.{appends_behind}
use Rattle.palm_cli.proofs.verdicts.push_proof_verdict.Goals as goal

pub returns-in_ok-extend_from_slice-in-Accepted : goal.returns-in_ok-extend_from_slice-in-Accepted
returns-in_ok-extend_from_slice-in-Accepted c =
    let was = c.args.out.now.items in
    let after = c.print_names.new.out.items in
    let names = map (user_name c.in-Accepted.book.constraints) c.in-Accepted.users in
    subst (λ (v : ProofVerdict). OnOk c.print_names.result (after ≡ was ++ proof_line v)) (sym c.in-Accepted.is)
    (appends_behind was (codes "accepted none ") (names_line Because names) c.extend_from_slice.new.self.items after c.print_names.result c.in_ok-extend_from_slice-in-Accepted.ensures.items c.print_names.ensures)
