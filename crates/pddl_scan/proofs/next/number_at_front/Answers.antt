use Rattle.std.proofs.Common.{◌≡◌, ◌∙◌, sym, ap, take, drop, false}
use Rattle.std.specs.Prelude.{Some}
use Rattle.pddl_token.specs.Bytes.{begins, is_word_byte}
use Rattle.pddl_token.specs.Number.{value_of}
use Rattle.pddl_scan.proofs.NextReads.{number_here}
use Rattle.pddl_scan.proofs.next.number_at_front.Goals as goal

pub returns : goal.returns
returns c =
    let text = c.args.text.now in
    let len = c.number_len-len.ensures.value in
    let valued : value_of (take c.number_len-len.result text) ≡ Some c.in_ok-value_of.field-0 = ap value_of (sym c.split_at.ensures.front) ∙ sym c.value_of.ensures ∙ c.in_ok-value_of.was in
    let ends : begins is_word_byte (drop c.number_len-len.result text) ≡ false = ap (begins is_word_byte) (sym c.split_at.ensures.back) ∙ sym c.begins_with_word_byte.ensures ∙ c.if-begins_with_word_byte.false in
    (rw len (number_here text c.in_ok-value_of.field-0 (sym c.begins_digits.ensures ∙ c.if-not-begins_digits.false) (rw len at ends) (rw len at valued)), valued)
