use Rattle.std.proofs.Common.{◌≡◌, true, map, take}
use Rattle.std.specs.List.{list_all}
use Rattle.pddl_domain.specs.Declarations.{type_view}
use Rattle.pddl_file_layout.specs.DomainLayout.{is_declared_type}
use Rattle.pddl_file_layout.specs.Inner.Texts.{spaced_by, declared_type_text}
use Rattle.pddl_file_layout.specs.Inner.Printing.{Puts}
use Rattle.pddl_file_layout.proofs.domain.put_type_list.Given as goal

-- those so far are written
abbrev pub invariant-loop-declared : goal.invariant-loop-declared
invariant-loop-declared g l = record {
  printed : Puts (g.W.Sink.contents l.initial.out) (g.W.Sink.contents l.out) (g.W.Sink.failures l.initial.out) (g.W.Sink.failures l.out) l.initial.failed l.failed (spaced_by declared_type_text (map type_view (take l.declared-index l.types)));
  good : list_all is_declared_type (map type_view (take l.declared-index l.types)) ≡ true;
}
