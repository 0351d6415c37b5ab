-- Terms, and parts of places, that are lent.
use Rattle.std.specs.Prelude.{List, map, cond}
use Rattle.pddl_formula.specs.Terms.{TermValue, name, variable, term_view}
use Rattle.pddl_task.specs.Places as places
use Rattle.pddl_task.specs.Places.{says, calls, equates, counts}
use Rattle.pddl_names.specs.declared.part.LentTerm.{LentTerm}
use Rattle.pddl_names.specs.declared.part.Terms.{Terms}
use Rattle.pddl_names.specs.declared.part.Terms.TheVariants.{Any, Objects}
use Rattle.pddl_names.specs.declared.part.Part.{Part}
use Rattle.pddl_names.specs.declared.part.Part.TheVariants.{Says, Calls, Equates, Counts}

-- a term
abbrev pub term_in : LentTerm → TermValue
term_in t = cond t.is_variable (variable t.name.now) (name t.name.now)

-- the terms of a predicate or a function
abbrev pub terms_in : {A : _} → Terms A → List TermValue
terms_in (Any ts) = map term_view ts.now
terms_in (Objects ns) = map name ns.now

-- what stands at a place
abbrev pub part_in : {A : _} → Part A → places.Part
part_in (Says p ts) = says (record { predicate = p.now; terms = map term_view ts.now })
part_in (Calls f ts) = calls (record { function = f.now; terms = map term_view ts.now })
part_in (Equates t u) = equates (term_view t.now) (term_view u.now)
part_in (Counts f n) = counts f.now n
