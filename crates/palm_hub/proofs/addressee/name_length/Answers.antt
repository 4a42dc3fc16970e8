-- The name that is read is the only one with which the line can begin, and the byte behind it decides.
use Rattle.std.proofs.Common.{◌≡◌, ◌+◌, ℕ, Bool, true, false, ◌||◌, nat_eq, Some, None, IfNone, IfSome, List, ◌++◌, length, take, drop, sym, ap, ◌∙◌}
use Rattle.std.specs.Bool.{then_some}
use Rattle.std.specs.List.{slice_get}
use Rattle.std.proofs.lemmas.Bool.{eq-eqb, ne_eqb}
use Rattle.std.proofs.lemmas.Bool.Decides.{Decides-eqb}
use Rattle.std.proofs.lemmas.Slice.Eq.{strip_prefix_is}
use Rattle.palm_read.specs.Bytes.{is_blank}
use Rattle.palm_read.specs.Reader.Steps.{name_at}
use Rattle.palm_read.specs.Token.{Lexeme, tokens_of}
use Rattle.palm_hub.specs.Addressing.{Addresses}
use Rattle.palm_hub.proofs.Addressing.{nothing_behind, not_in_front, other_behind, read_addresses, unread}
use Rattle.palm_hub.proofs.addressee.name_length.Goals as goal
use Rattle.palm_hub.proofs.addressee.name_length.Goals.{then-gap-eq32, else-gap-eq32}

-- the test of a space, and that of a tab behind it, are the test of a blank
by_space : (gap : ℕ) (b : Bool) → gap ≡ 32 → b ≡ nat_eq gap 32 → b ≡ is_blank gap
by_space gap b space is = is ∙ eq-eqb gap 32 space ∙ sym (ap (λ t. t || nat_eq gap 9) (eq-eqb gap 32 space))

by_tab : (gap : ℕ) (b : Bool) → (gap ≡ 32 → ⊥) → b ≡ nat_eq gap 9 → b ≡ is_blank gap
by_tab gap b other is = is ∙ sym (ap (λ t. t || nat_eq gap 9) (ne_eqb gap 32 other))

-- what the test of the byte answers
module _ (head name rest : List ℕ) (left : List Lexeme) (gap : ℕ) (read : name_at (tokens_of head) ≡ Some (name, left))
    (front : head ≡ name ++ rest) (first : slice_get rest 0 ≡ Some gap) where
  passes : (b : Bool) → b ≡ is_blank gap → IfSome (then_some b (length name)) (λ n. Addresses head (take n head) (drop (n + 1) head))
  passes true is = read_addresses head name rest left gap read front first (sym is)
  passes false is = tt

  fails : (b : Bool) → b ≡ is_blank gap → IfNone (then_some b (length name)) ((other line : List ℕ) → Addresses head other line → ⊥)
  fails true is = tt
  fails false is = other_behind head name rest left gap read front first (sym is)

pub returns-in_err-name-clause-none : goal.returns-in_err-name-clause-none
returns-in_err-name-clause-none c = rw c.from_residual.ensures (unread c.args.head.now (rw c.new.ensures at c.in_err-name.ensures.0))

pub returns-in_err-strip_prefix-clause-none : goal.returns-in_err-strip_prefix-clause-none
returns-in_err-strip_prefix-clause-none c =
    let head = c.args.head.now in
    let name = c.in_ok-name.name.now in
    let apart = strip_prefix_is Decides-eqb head name None c.in_err-strip_prefix.ensures.cases in
    rw c.from_residual-in_err-strip_prefix.ensures (not_in_front head name c.name.new.self (rw c.new.ensures at c.in_ok-name.ensures) apart)

pub returns-in_err-gap-clause-none : goal.returns-in_err-gap-clause-none
returns-in_err-gap-clause-none c =
    let head = c.args.head.now in
    let name = c.in_ok-name.name.now in
    let rest = c.in_ok-strip_prefix.field-0 in
    let front = strip_prefix_is Decides-eqb head name (Some rest) c.in_ok-strip_prefix.ensures.cases in
    rw c.from_residual-in_err-gap.ensures
    (nothing_behind head name rest.now c.name.new.self (rw c.new.ensures at c.in_ok-name.ensures) front (sym c.in_err-gap.ensures.value))

-- the test of the byte is that of a blank
tested : (c : goal.After-then_some) → c.if-gap-eq32.then_some ≡ is_blank c.in_ok-gap.field-0.now
tested c = elim c.if-gap-eq32.branch [
  | then-gap-eq32 w ↦ by_space c.in_ok-gap.field-0.now c.if-gap-eq32.then_some w.if-gap-eq32.true w.then_some-is
  | else-gap-eq32 w ↦ by_tab c.in_ok-gap.field-0.now c.if-gap-eq32.then_some w.if-gap-eq32.false w.then_some-is
]

pub returns-clause-some : goal.returns-clause-some
returns-clause-some c =
    let head = c.args.head.now in
    let name = c.in_ok-name.name.now in
    let rest = c.in_ok-strip_prefix.field-0 in
    let front = strip_prefix_is Decides-eqb head name (Some rest) c.in_ok-strip_prefix.ensures.cases in
    rw c.then_some.ensures
    (passes head name rest.now c.name.new.self c.in_ok-gap.field-0.now (rw c.new.ensures at c.in_ok-name.ensures) front (sym c.in_ok-gap.ensures.value)
    c.if-gap-eq32.then_some (tested c))

pub returns-clause-none : goal.returns-clause-none
returns-clause-none c =
    let head = c.args.head.now in
    let name = c.in_ok-name.name.now in
    let rest = c.in_ok-strip_prefix.field-0 in
    let front = strip_prefix_is Decides-eqb head name (Some rest) c.in_ok-strip_prefix.ensures.cases in
    rw c.then_some.ensures
    (fails head name rest.now c.name.new.self c.in_ok-gap.field-0.now (rw c.new.ensures at c.in_ok-name.ensures) front (sym c.in_ok-gap.ensures.value)
    c.if-gap-eq32.then_some (tested c))
