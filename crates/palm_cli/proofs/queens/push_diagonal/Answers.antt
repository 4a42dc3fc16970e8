use Rattle.std.proofs.Common.{◌≡◌, ◌++◌, ◌-◌, [], ◌∷◌, string_bytes, codes, decimal, sym, ap, ◌∙◌, arith, append_assoc, List, ℕ}
use Rattle.std.proofs.lemmas.Grind.{common_steps}
use Rattle.palm_lang.specs.Reply.{ended}
use Rattle.palm_cli.specs.Generator.{queen_name, diagonal_line}
use Rattle.palm_cli.proofs.QueenLines.{on_ok}
use Rattle.palm_cli.proofs.queens.push_diagonal.Goals as goal

pub returns : goal.returns
unfolding diagonal_line
returns c =
    let o : List ℕ = string_bytes c.args.text.now in
    let a : List ℕ = codes "add " ++ c.args.letter.now ++ decimal c.args.first ++ codes "_" ++ decimal c.args.second in
    let b : List ℕ = codes " : " ++ queen_name c.args.first ++ codes " != " ++ queen_name c.args.second in
    let d : List ℕ = codes " " ++ c.args.sign.now ++ codes " " ++ decimal (c.args.second - c.args.first) in
    let z : List ℕ = 10 ∷ [] in
    let one : string_bytes c.write.new.self ≡ o ++ a =
    c.in_ok-write.ensures.bytes ∙ ap (λ (x : List ℕ). o ++ x) (first_of (cc, grind (arith, append_assoc), grind (arith, common_steps))) in
    let two : string_bytes c.write-2.new.self ≡ string_bytes c.write.new.self ++ b =
    c.in_ok-write-2.ensures.bytes ∙ ap (λ (x : List ℕ). string_bytes c.write.new.self ++ x) (first_of (cc, grind (arith, append_assoc), grind (arith, common_steps))) in
    let so_far : string_bytes c.write-2.new.self ≡ (o ++ a) ++ b = two ∙ ap (λ (x : List ℕ). x ++ b) one in
    let join : ((o ++ a) ++ b) ++ (d ++ z) ≡ o ++ (((a ++ b) ++ d) ++ z) =
    ap (λ (x : List ℕ). x ++ (d ++ z)) (append_assoc o a b) ∙ append_assoc o (a ++ b) (d ++ z) ∙ ap (λ (x : List ℕ). o ++ x) (sym (append_assoc (a ++ b) d z)) in
    on_ok _ (string_bytes c.writeln.new.self ≡ o ++ ended (diagonal_line c.args.letter.now c.args.sign.now c.args.first c.args.second)) c.writeln.result
    (λ h.
    let last : string_bytes c.writeln.new.self ≡ string_bytes c.write-2.new.self ++ (d ++ z) =
    h ∙ ap (λ (x : List ℕ). string_bytes c.write-2.new.self ++ x) (first_of (cc, grind (arith, append_assoc), grind (arith, common_steps))) in
    last ∙ ap (λ (x : List ℕ). x ++ (d ++ z)) so_far ∙ join)
    c.writeln.ensures.bytes
