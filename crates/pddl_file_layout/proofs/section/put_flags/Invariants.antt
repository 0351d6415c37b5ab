use Rattle.std.proofs.Common.{◌≡◌, true, take}
use Rattle.std.specs.List.{list_all}
use Rattle.pddl_token.specs.Names.{is_name}
use Rattle.pddl_file_layout.specs.Inner.Texts.{spaced_by, flag_text}
use Rattle.pddl_file_layout.specs.Inner.Printing.{Puts}
use Rattle.pddl_file_layout.proofs.section.put_flags.Given as goal

-- those so far are written
abbrev pub invariant-loop-flag : goal.invariant-loop-flag
invariant-loop-flag g l = record {
  printed : Puts (g.W.Sink.contents l.initial.out) (g.W.Sink.contents l.out) (g.W.Sink.failures l.initial.out) (g.W.Sink.failures l.out) l.initial.failed l.failed (spaced_by flag_text (take l.flag-index l.flags));
  good : list_all is_name (take l.flag-index l.flags) ≡ true;
}
