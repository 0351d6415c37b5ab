use Rattle.std.proofs.Common.{leb, arith}
use Rattle.std.proofs.lemmas.List.Sums.{prefix_len-le-length}
use Rattle.pddl_text.proofs.LinesBegun.{starts_rise, begun_by, begun_few, is_behind}
use Rattle.pddl_text.proofs.places.position_among.Goals as goal

pub begun-count-requires : goal.begun-count-requires
begun-count-requires c = starts_rise c.args.starts.now c.requires.starts.0 c.requires.starts.1

pub line_start-start-requires : goal.line_start-start-requires
line_start-start-requires c = omega (arith, c.begun-count.ensures, prefix_len-le-length (λ s. leb s c.args.place) c.args.starts.now)

pub overflow_cast-result : goal.overflow_cast-result
overflow_cast-result c = omega (arith, begun_few c.args.place c.begun-count.result c.requires.starts.0 c.args.starts.now c.begun-count.ensures c.requires.starts.1)

pub overflow_add-result : goal.overflow_add-result
overflow_add-result c = omega (arith, begun_few c.args.place c.begun-count.result c.requires.starts.0 c.args.starts.now c.begun-count.ensures c.requires.starts.1)

pub overflow_sub-result : goal.overflow_sub-result
overflow_sub-result c = begun_by c.args.place c.begun-count.result c.line_start-start.result c.args.starts.now c.begun-count.ensures c.line_start-start.ensures

pub returns : goal.returns
returns c = λ text starts_are le. is_behind text c.args.starts.now c.args.place _ _ starts_are le c.begun-count.ensures c.line_start-start.ensures
