use Rattle.std.proofs.Common.{rules}
use Rattle.pddl_device.proofs.Known.{appends_next}
use Rattle.pddl_device.proofs.writing.write_text.Goals as goal

pub loop-written-preserved : goal.loop-written-preserved
loop-written-preserved g c = record {
  within = search rules;
  wrote = appends_next _ _ _ c.loop-written.written c.in-Ok.count c.args.text.now c.loop-written.invariant.wrote c.in-Ok.ensures.bytes;
  none_failed = search rules;
}
