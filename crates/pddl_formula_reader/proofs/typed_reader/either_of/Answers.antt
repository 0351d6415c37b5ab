use Rattle.std.proofs.Common.{refl, arith}
use Rattle.pddl_formula_reader.proofs.Turns.{either_by_head}
use Rattle.pddl_formula_reader.proofs.typed_reader.either_of.Goals as goal

pub returns-then-not-is_word_item : goal.returns-then-not-is_word_item
returns-then-not-is_word_item g c =
    rw (either_by_head c.args.items.now c.head-item.result (omega (arith, c.in-len1-up.len_at_least)) c.head-item.is, ← c.is_word_item.ensures, c.if-not-is_word_item.true) refl

pub returns : goal.returns
returns g c =
    rw (either_by_head c.args.items.now c.head-item.result (omega (arith, c.in-len1-up.len_at_least)) c.head-item.is, ← c.is_word_item.ensures, c.if-not-is_word_item.false, ← c.in_ok-names.ensures) c.type_of_names.ensures
