use Rattle.std.proofs.Common.{subst, sym}
use Rattle.pddl_scan.specs.Inner.Reading.{Reads}
use Rattle.pddl_scan.specs.Inner.Parts.{ReadsOn}
use Rattle.pddl_scan.proofs.NextReads.{next_reads}
use Rattle.pddl_scan.proofs.Ended.{reads_on}
use Rattle.pddl_scan.proofs.next.next_part.Goals as goal

pub returns-clause-reads : goal.returns-clause-reads
returns-clause-reads c = subst (λ n. Reads n c.args.text.now) (sym c.scan.ensures) (next_reads c.args.text.now c.requires)

pub returns-clause-ahead : goal.returns-clause-ahead
returns-clause-ahead c = λ more settles. subst (λ n. ReadsOn n c.args.text.now more) (sym c.scan.ensures) (reads_on c.args.text.now more c.requires settles)
