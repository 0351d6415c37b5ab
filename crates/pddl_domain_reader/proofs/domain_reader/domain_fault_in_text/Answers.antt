use Rattle.std.specs.Prelude.{[], codes}
use Rattle.pddl_file.proofs.FaultPlaces.{file_inside}
use Rattle.pddl_domain_reader.specs.DomainTexts.{domain_rules}
use Rattle.pddl_domain_reader.proofs.domain_reader.domain_fault_in_text.Goals as goal

pub returns : goal.returns
returns c = file_inside domain_rules (codes "domain") []
