use Rattle.pddl_declaration_reader.proofs.ActionLaws.{action_sound, action_complete}
use Rattle.pddl_declaration_reader.proofs.laws.actions_as_spelled.Goals as goal

pub returns : goal.returns
returns c = λ ts a. (action_sound ts a, action_complete ts a)
