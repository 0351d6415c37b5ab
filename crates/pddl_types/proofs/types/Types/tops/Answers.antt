use Rattle.std.proofs.Common.{arith, refl, take, take_all}
use Rattle.std.proofs.lemmas.List.{map_more}
use Rattle.pddl_types.specs.TypeSpans.{span_of}
use Rattle.std.proofs.lemmas.Bool.Decides.{nat_tests}
use Rattle.pddl_types.proofs.NamedSpans.{in_table, all_some, do_tell}
use Rattle.pddl_types.proofs.types.Types.tops.Goals as goal

pub keep_tops-requires : goal.keep_tops-requires
keep_tops-requires g c =
    all_some c.args.self.now (in_table c.self.view_is c.self.invariant) (take c.loop-primitive.primitive-index c.as_slice-primitives.result.now) c.loop-primitive.tops.items c.loop-primitive.invariant

pub loop-primitive-preserved : goal.loop-primitive-preserved
loop-primitive-preserved g c =
    let item = c.primitive-item.result in
    let more = map_more (span_of c.args.self.now) c.as_slice-primitives.result.now c.loop-primitive.primitive-index item c.loop-primitive-test.true in
    rw (c.in_ok-push.ensures.items, c.span.ensures, c.as_bytes.ensures.value, c.loop-primitive.invariant, more, ← c.primitive-item.is) refl

pub returns-clause-told : goal.returns-clause-told
returns-clause-told g c = record {
  some = grind (arith, nat_tests, c.as_slice-primitives.ensures.types);
  tops_are = rw (c.loop-primitive.invariant, take_all c.loop-primitive.primitive-index c.as_slice-primitives.result.now c.loop-primitive-test.false, c.as_slice-primitives.ensures.value) at c.keep_tops.ensures;
}

pub returns-clause-tell : goal.returns-clause-tell
returns-clause-tell g c = do_tell c.args.self.now (in_table c.self.view_is c.self.invariant)
