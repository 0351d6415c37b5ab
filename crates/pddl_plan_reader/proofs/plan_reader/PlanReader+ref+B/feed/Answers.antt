use Rattle.std.proofs.Common.{◌++◌, sym, subst, ◌∙◌}
use Rattle.std.proofs.lemmas.List.{append_assoc}
use Rattle.pddl_text.specs.StandsFor.{StandsFor}
use Rattle.pddl_text.proofs.AllGiven.{none_since}
use Rattle.pddl_plan_reader.proofs.plan_reader.PlanReader+ref+B.feed.Goals as goal

pub returns-in-Err-clause-too_long : goal.returns-in-Err-clause-too_long
returns-in-Err-clause-too_long g c = λ text stands. c.in-Err.ensures.too_long text (stands.done ++ c.args.self.now.kept) stands.lexed

pub returns-in-Ok-clause-stands : goal.returns-in-Ok-clause-stands
returns-in-Ok-clause-stands g c = λ text stands.
    let old = c.args.self.now in
    let moved = c.in-Ok.ensures stands.done stands.reads in
    let lexed = c.in_default.ensures.stands text (stands.done ++ old.kept) (none_since old.lexer text (stands.done ++ old.kept) c.clear.new.self c.clear.ensures stands.lexed) in
    record {
      done = moved.done;
      going = stands.going;
      lexed = subst (StandsFor c.feed_into.new.self (text ++ c.args.piece.now)) (append_assoc stands.done old.kept c.feed_into.new.words ∙ sym moved.all) lexed;
      reads = moved.reads;
    }

pub returns-in-Ok-clause-too_long : goal.returns-in-Ok-clause-too_long
returns-in-Ok-clause-too_long g c = λ text stands. c.in_default.ensures.too_long text (stands.done ++ c.args.self.now.kept) stands.lexed

pub returns-in-Err-read_on-clause-too_long : goal.returns-in-Err-read_on-clause-too_long
returns-in-Err-read_on-clause-too_long g c = λ text stands.
    (λ e. absurd (cc (e)), λ long. absurd (cc ((c.in_default.ensures.too_long text (stands.done ++ c.args.self.now.kept) stands.lexed).1 long)))
