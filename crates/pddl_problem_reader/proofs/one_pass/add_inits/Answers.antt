use Rattle.std.proofs.Common.{[], ◌++◌, map, sym, refl, arith, subst}
use Rattle.std.proofs.lemmas.List.{append-nil}
use Rattle.std.proofs.lemmas.Result.{on_ok_weaker}
use Rattle.pddl_scan.specs.Scanning.{LexedTo}
use Rattle.pddl_text.specs.Lists.{none}
use Rattle.pddl_problem.specs.Inits.{init_view}
use Rattle.pddl_problem_reader.proofs.OnePass.{init_more, init_part}
use Rattle.pddl_problem_reader.proofs.one_pass.add_inits.Goals as goal

pub loop-names-init : goal.loop-names-init
loop-names-init g c = record {
  read = λ words lexed. record { more = []; items = []; lexed = rw (append-nil words) lexed; form = none; reads = rw c.requires.empty refl };
  further = omega arith;
}

pub loop-names-preserved : goal.loop-names-preserved
loop-names-preserved g c = record {
  read = λ words lexed.
      let some = c.loop-names.invariant.read words lexed in
      let (opening, is_open, opened) = c.loop-names-test.ensures.next (words ++ some.more) some.lexed refl in
      let read = c.in_ok-init.ensures.init (words ++ some.more) opening is_open opened in
      rw c.in_ok-add_init.ensures (init_more c.args.text.now words c.loop-names.at c.init_item_behind.new.at _ (init_view c.in_ok-init.init) some read);
  further = let opened = c.loop-names-test.ensures.further refl in omega (arith, c.loop-names.invariant.further, opened.0, c.in_ok-init.ensures.further.0);
}

pub returns-clause-inits : goal.returns-clause-inits
returns-clause-inits g c = λ words lexed.
    let some = c.loop-names.invariant.read words lexed in
    let here = subst (LexedTo c.args.text.now (words ++ some.more)) (sym (c.loop-names-test.ensures.stays refl)) some.lexed in
    on_ok_weaker c.sign_behind.result (init_part c.args.text.now words c.loop-names.at c.sign_behind.new.at (map init_view c.loop-names.inits.items) some)
    (c.sign_behind.ensures.sign (words ++ some.more) here)

pub returns-clause-further : goal.returns-clause-further
returns-clause-further g c =
    let stays = c.loop-names-test.ensures.stays refl in
    on_ok_weaker c.sign_behind.result (λ moved. (omega (arith, c.loop-names.invariant.further, stays, moved.0), moved.1)) c.sign_behind.ensures.further
