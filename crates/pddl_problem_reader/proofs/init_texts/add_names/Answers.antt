use Rattle.std.proofs.Common.{◌++◌, arith}
use Rattle.pddl_problem_reader.proofs.InitTexts.{no_names, one_name}
use Rattle.pddl_problem_reader.proofs.init_texts.add_names.Goals as goal

pub loop-name-init : goal.loop-name-init
loop-name-init g c = record { read = λ words lexed. rw c.requires.empty (no_names c.args.text.now words c.args.at.now lexed); further = omega arith }

pub loop-name-preserved : goal.loop-name-preserved
loop-name-preserved g c = record {
  read = λ words lexed.
      let read = c.loop-name.invariant.read words lexed in
      rw c.in_ok-push.ensures.items (one_name c.args.text.now words c.loop-name.at c.next_name.new.at c.loop-name.names.items c.in-Some.name read
      (rw c.in-Some.is at (c.in_ok-name.ensures.next (words ++ read.more) read.lexed)));
  further = let moved = rw c.in-Some.is at c.in_ok-name.ensures.moves in omega (arith, c.loop-name.invariant.further, moved.0);
}
