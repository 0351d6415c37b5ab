use Rattle.std.proofs.Common.{◌≡◌, ◌++◌, map, sym, ◌∙◌, subst}
use Rattle.pddl_formula.specs.TypedLists.{object, of_type, typed_view}
use Rattle.pddl_problem_reader.proofs.object_texts.add_last.Goals as goal

pub returns-clause-last : goal.returns-clause-last
returns-clause-last g c = λ words lexed.
    let same : c.in-Some.types ≡ object = cc (sym c.in-Some.is ∙ c.in_ok-types.ensures) in (
      c.in_ok-sign_behind.ensures.sign words lexed,
      subst (λ type. map typed_view c.add_of_type.new.found.items ≡ map typed_view c.args.found.now.items ++ of_type c.args.group.items type) same c.in_ok-add_of_type.ensures,
    )
