use Rattle.std.proofs.Common.{rules, sym, ◌∙◌}
use Rattle.pddl_step_reader.specs.Places.{fault_place}
use Rattle.pddl_step_reader.proofs.FaultPlaces.{fault_inside}
use Rattle.pddl_kind.specs.Kinds.{kind_word}
use Rattle.pddl_kind.specs.declared.Kind.TheVariants.{Plan}
use Rattle.pddl_file_lines.specs.Inner.Faults.{whole_name}
use Rattle.pddl_file_lines.specs.Lines.{fault_name}
use Rattle.pddl_file_lines.proofs.FaultLines.{line_of}
use Rattle.pddl_file_lines.proofs.plan_file.refused_plan.Goals as goal

pub returns : goal.returns
returns g c = λ text places_are stands.
    let fault = c.args.fault.now in
    let line = c.in_ok-line.ensures text c.place.result (c.position_in-pos.ensures text places_are (λ at place. fault_inside text fault at stands (sym c.place.ensures ∙ place))) in
    record {
      fault = fault;
      no_memory = λ e. search rules;
      stands = stands;
      line = line_of c.word.result.now (kind_word Plan) text (whole_name c.fault_name.result) (fault_name fault) c.place.result (fault_place fault) c.in_ok-line.line.items c.word.ensures c.fault_name.ensures c.place.ensures line;
    }
