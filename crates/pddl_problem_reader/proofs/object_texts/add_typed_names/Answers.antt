use Rattle.std.proofs.Common.{[], ◌∷◌, ◌++◌, map, sym, subst, arith}
use Rattle.std.proofs.lemmas.Result.{on_ok_weaker}
use Rattle.pddl_scan.specs.Scanning.{LexedTo}
use Rattle.pddl_formula.specs.TypedLists.{typed_view}
use Rattle.pddl_problem_reader.proofs.ObjectTexts.{no_groups, group_more, objects_part}
use Rattle.pddl_problem_reader.proofs.object_texts.add_typed_names.Goals as goal

pub loop-group-init : goal.loop-group-init
loop-group-init g c = record { read = λ words lexed. rw c.requires.empty (no_groups c.args.text.now words c.args.at.now lexed); further = omega arith }

pub loop-group-preserved : goal.loop-group-preserved
loop-group-preserved g c = record {
  read = λ words lexed.
      let groups = c.loop-group.invariant.read words lexed in
      let names = c.in_ok-add_names.ensures.names (words ++ groups.more) groups.lexed in
      let (dash, is_dash, dashed) = c.next_sign.ensures.next ((words ++ groups.more) ++ names.more) names.lexed c.if-not-next_sign.false in
      let (type, read, made) = c.in_ok-add_group.ensures.group (((words ++ groups.more) ++ names.more) ++ dash ∷ []) dashed in
      rw made (group_more c.args.text.now words c.loop-group.at c.add_names.new.at c.add_group.new.at (map typed_view c.loop-group.found.items) c.add_names.new.names.items type dash groups names c.in_ok-add_group.ensures.some is_dash read);
  further = let signed = c.next_sign.ensures.further c.if-not-next_sign.false in omega (arith, c.loop-group.invariant.further, c.in_ok-add_names.ensures.further, signed.0, c.in_ok-add_group.ensures.further.0);
}

pub returns-then-not-next_sign-clause-objects : goal.returns-then-not-next_sign-clause-objects
returns-then-not-next_sign-clause-objects g c = λ words lexed.
    let groups = c.loop-group.invariant.read words lexed in
    let names = c.in_ok-add_names.ensures.names (words ++ groups.more) groups.lexed in
    let here = subst (LexedTo c.args.text.now ((words ++ groups.more) ++ names.more)) (sym (c.next_sign.ensures.stays c.if-not-next_sign.true)) names.lexed in
    on_ok_weaker c.add_last.result
    (λ (closing, made). rw made (objects_part c.args.text.now words c.loop-group.at c.add_names.new.at c.add_last.new.at (map typed_view c.loop-group.found.items) c.add_names.new.names.items groups names closing))
    (c.add_last.ensures.last ((words ++ groups.more) ++ names.more) here)
