use Rattle.pddl_happenings.proofs.ListedOnce.{timed_each, plain_each, as_many, is_distinct}
use Rattle.pddl_happenings.proofs.listing.each_once_is_distinct.Goals as goal

pub returns : goal.returns
returns c = record { timed = timed_each; plain = plain_each; length = as_many; distinct = is_distinct }
