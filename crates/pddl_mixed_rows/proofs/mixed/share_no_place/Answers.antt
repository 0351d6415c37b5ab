use Rattle.std.proofs.Common.{rules}
use Rattle.pddl_bit_rows.specs.BitRows.{has_bit}
use Rattle.pddl_mixed_rows.specs.SparseRows.{has_number}
use Rattle.pddl_mixed_rows.specs.MixedRows.{is_set}
use Rattle.pddl_mixed_rows.proofs.SparseNumbers.{same_test, swapped_test}
use Rattle.pddl_mixed_rows.proofs.mixed.share_no_place.Goals as goal

pub returns-in-Few-b : goal.returns-in-Few-b
returns-in-Few-b g c = same_test (has_number c.deref.result.now) (has_number c.deref-in-Few-b.result.now) (is_set c.args.a.now) (is_set c.args.b.now) c.share_no_number.result (search rules) (search rules) c.share_no_number.ensures

pub returns-in-Full-b : goal.returns-in-Full-b
returns-in-Full-b g c = same_test (has_number c.deref-in-Full-b.result.now) (has_bit c.deref-in-Full-b-2.result.now) (is_set c.args.a.now) (is_set c.args.b.now) c.share_none_with_row.result (search rules) (search rules) c.share_none_with_row.ensures

pub returns-in-Few-b-2 : goal.returns-in-Few-b-2
returns-in-Few-b-2 g c = swapped_test (is_set c.args.b.now) (is_set c.args.a.now) c.share_none_with_row-in-Few-b-2.result (same_test (has_number c.deref-in-Few-b-2.result.now) (has_bit c.deref-in-Few-b-2-2.result.now) (is_set c.args.b.now) (is_set c.args.a.now) c.share_none_with_row-in-Few-b-2.result (search rules) (search rules) c.share_none_with_row-in-Few-b-2.ensures)

pub returns-in-Full-b-2 : goal.returns-in-Full-b-2
returns-in-Full-b-2 g c = same_test (has_bit c.deref-in-Full-b-2-2.result.now) (has_bit c.deref-in-Full-b-2-3.result.now) (is_set c.args.a.now) (is_set c.args.b.now) c.share_no_bit.result (search rules) (search rules) c.share_no_bit.ensures
