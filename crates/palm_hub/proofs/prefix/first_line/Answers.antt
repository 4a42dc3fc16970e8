use Rattle.std.proofs.Common.{arith, length, sym, ◌+◌}
use Rattle.std.proofs.lemmas.List.{take_all}
use Rattle.palm_hub.proofs.Marks.{all_in_line, feed_in_line, line_of_front}
use Rattle.palm_hub.proofs.prefix.first_line.Goals as goal

pub returns-in-Some : goal.returns-in-Some
returns-in-Some c =
    let piece = c.args.piece.now in
    let end = c.in-Some.end in
    let found = c.in-Some.ensures.found in
    line_of_front (end + 1) piece (omega arith) (omega (arith, found.0)) (feed_in_line end piece found.1)

pub returns-in-None : goal.returns-in-None
returns-in-None c =
    let piece = c.args.piece.now in
    record {
      some = c.requires;
      few = omega arith;
      front = sym (take_all (length piece) piece (omega arith));
      in_line = all_in_line piece c.in-None.ensures.none;
    }
