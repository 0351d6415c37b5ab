use Rattle.std.proofs.Common.{rules}
use Rattle.pddl_scan.proofs.PiecesRead.{last_read, other_read}
use Rattle.pddl_scan.proofs.piecewise.read_last.Goals as goal

pub returns-in_ok-stop-in-Words-clause-read : goal.returns-in_ok-stop-in-Words-clause-read
returns-in_ok-stop-in-Words-clause-read g c = λ text given start_is had. last_read c.args.start _ text c.args.held.now given _ _ c.args.progress c.in_ok-stop-in-Words.stop.progress c.in_ok-stop-in-Words.stop.at start_is c.in-Words.is (search rules) had c.in_ok-stop-in-Words.ensures.read

pub returns-in_default-clause-read : goal.returns-in_default-clause-read
returns-in_default-clause-read g c = λ text given start_is had. other_read c.args.progress _ text _ c.in_default.not-Words had
