use Rattle.std.proofs.Common.{◌∙◌}
use Rattle.pddl_bit_store.specs.Numbering.{number_of}
use Rattle.pddl_bit_store.proofs.bits.BitStoreAtomStore.copy.Goals as goal

pub returns : goal.returns
returns g c = record {
  own = (λ i past. c.in_ok-copied.ensures.bits i ∙ c.requires.0 i past, c.in_ok-copied.ensures.orderly);
  content = λ j x. c.in_ok-copied.ensures.bits (number_of c.args.self.now.atoms.keys x) j;
}
