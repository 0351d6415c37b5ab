use Rattle.std.specs.Prelude.{[], codes}
use Rattle.pddl_file.proofs.FaultPlaces.{file_inside}
use Rattle.pddl_domain_reader.specs.DomainTexts.{domain_rules}
use Rattle.pddl_file_lines.proofs.refused.refused_domain.Goals as goal

pub refused_file-requires : goal.refused_file-requires
refused_file-requires g c = λ at place. file_inside domain_rules (codes "domain") [] c.args.text.now c.args.fault.now at c.requires place
