use Rattle.std.proofs.Common.{◌≡◌, length, take, true}
use Rattle.std.specs.List.{list_all}
use Rattle.pddl_token.specs.Names.{is_name}
use Rattle.pddl_problem.specs.HeldNames.{pieces, DoRise}
use Rattle.pddl_problem.proofs.Pieces.{last_end}
use Rattle.pddl_problem.proofs.object_names.side_by_side.Given as goal

abbrev pub invariant-loop-i : goal.invariant-loop-i
invariant-loop-i g l = record {
  rise : DoRise 0 (take l.i l.ends);
  last : last_end 0 (take l.i l.ends) ≡ l.at;
  room : (length l.ends ≡ 6) × (length l.bytes ≡ 32);
  put : pieces 0 (take l.i l.ends) l.bytes ≡ take l.i l.names;
  named : list_all is_name (take l.i l.names) ≡ true;
}
