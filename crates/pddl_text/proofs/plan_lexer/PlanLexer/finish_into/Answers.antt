use Rattle.std.proofs.Common.{◌++◌, sym, subst, arith}
use Rattle.pddl_scan.specs.InPieces.{HasRead}
use Rattle.pddl_text.proofs.AllGiven.{where_ok, where_err}
use Rattle.pddl_text.proofs.plan_lexer.PlanLexer.finish_into.Goals as goal

pub returns-clause-words : goal.returns-clause-words
returns-clause-words g c = λ text given stands. where_ok _ _ c.answer.result
    (c.answer.ensures.answers text (given ++ c.read_last.new.words) (omega (arith, stands.counted, c.args.self.short))
    (c.in_ok-last.ensures.read text given (sym stands.counted) (subst (λ t. HasRead c.args.self.progress t text (given ++ c.args.words.now)) (sym c.as_slice.ensures.value) stands.read)))

pub returns-clause-fault : goal.returns-clause-fault
returns-clause-fault g c = λ text given stands. where_err _ _ c.answer.result
    (c.answer.ensures.answers text (given ++ c.read_last.new.words) (omega (arith, stands.counted, c.args.self.short))
    (c.in_ok-last.ensures.read text given (sym stands.counted) (subst (λ t. HasRead c.args.self.progress t text (given ++ c.args.words.now)) (sym c.as_slice.ensures.value) stands.read)))
