use Rattle.pddl_mixed_rows.specs.MixedRows.{is_set}
use Rattle.pddl_bit_store.proofs.NumberingLaws.{disjoint_test}
use Rattle.pddl_bit_store.proofs.bits.BitStoreAtomStore.disjoint.Goals as goal

pub returns : goal.returns
returns g c = disjoint_test (is_set c.args.a.now.row) (is_set c.args.b.now.row) c.args.self.now.atoms.keys c.share_no_place.result c.share_no_place.ensures c.args.self.now.distinct c.requires.a_own.0
