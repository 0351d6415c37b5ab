-- What is known where none of the faults from 23 to 33 stands: nothing is declared twice, types of parameters are known, and objects have one primitive.
use Rattle.std.proofs.Common.{arith, ◌≡◌, ◌≤◌, ℕ, nat_lt, List, [], ◌∷◌, ◌++◌, map, length, refl, subst, inl, inr, Contains, flat_map, Bor, All, Vec, Err}
use Rattle.std.specs.Map.{values_of}
use Rattle.std.proofs.lemmas.List.Concat.{flat_map-append}
use Rattle.std.proofs.lemmas.Option.{IfSome_then}
use Rattle.std.proofs.lemmas.List.Elements.{Contains-append_cases}
use Rattle.pddl_formula.specs.TypedLists.{TypedValue}
use Rattle.pddl_formula.specs.declared.type_names.Typed.{Typed}
use Rattle.pddl_domain.specs.Declarations.{TypeValue}
use Rattle.pddl_domain.specs.Actions.{ActionValue}
use Rattle.pddl_domain.specs.Domains.{DomainValue}
use Rattle.pddl_problem.specs.Problems.{ProblemValue}
use Rattle.pddl_task.specs.Places.{action_places}
use Rattle.pddl_task.specs.Settings.{objects_of}
use Rattle.pddl_task.specs.Faults.{variables_at, unknown_types, domain_typed, problem_typed, domain_repeats, problem_repeats, object_types}
use Rattle.pddl_task.specs.Linked.{fault_in, NoneStands}
use Rattle.pddl_task.proofs.Lists.{has_none, nil_parts}
use Rattle.pddl_task.proofs.DistinctNames.{firsts_have}
use Rattle.pddl_task.proofs.LinkedTasks.{at_most_one}
use Rattle.pddl_faults.specs.declared.fault.LinkFault.{LinkFault}
use Rattle.pddl_faults.specs.Passes.{fault_of, Passes, Verdict}
use Rattle.pddl_types.specs.KnownNames.{object_in}
use Rattle.pddl_types.specs.Told.{ToldValue, first_at, AreTold, AreKept, unknown_among}
use Rattle.pddl_types.specs.Objects.{IsObjectAt}
use Rattle.pddl_types.specs.TypeSpans.{TypesValue, AreNumbered}
use Rattle.pddl_types.specs.Known.{parameters_among, IsDeclaredOnce, AreParametersAt, AreKnown, AreAllKnown}
use Rattle.pddl_types.specs.declared.known.Known.{Known}
use Rattle.pddl_types.proofs.ObjectTables.{are_numbered, seen_still}
use Rattle.pddl_types.proofs.SignatureTables.{have_still, have_all}
use Rattle.pddl_types.proofs.UnknownTypes.{unknown-append}
use Rattle.pddl_names.specs.FaultParts.{part_rules}
use Rattle.pddl_linked_task.proofs.OnceNamed.{once_declared}

-- the types of the parameters of actions are known where those of all that actions bind are
action_types : (ts : List TypeValue) (acts : List ActionValue) → unknown_among ts (flat_map variables_at (flat_map action_places acts)) ≡ [] → unknown_among ts (parameters_among acts) ≡ []
action_types ts [] none = refl
action_types ts (a ∷ rest) none = grind (arith, unknown-append, flat_map-append, nil_parts, action_types ts rest, none)

module _ (d : DomainValue) (p : ProblemValue) (named : NoneStands (map (fault_in d p) part_rules)) where
  -- nothing is declared twice
  pub declared_once : IsDeclaredOnce d
  declared_once = once_declared d (nil_parts (domain_repeats d) (problem_repeats d p) named.1.0).0

  -- the types of the parameters of actions are known
  pub parameters_known : unknown_among d.types (parameters_among d.actions) ≡ []
  parameters_known =
      let typed = nil_parts (unknown_types d (domain_typed d)) (unknown_types d (problem_typed p)) named.0 in
      action_types d.types d.actions (nil_parts _ _ (rw (unknown-append d.types) at typed.0)).1

  -- objects that are listed have types of one primitive, whose numbers are those of the types that are told
  pub objects_numbered : {A : Type 0} {t : TypesValue} {told : ToldValue} (es : List (List ℕ × (Bor (Typed A) × ℕ))) → AreTold t told → All (IsObjectAt told) es → map object_in es ≡ objects_of d p
      → AreNumbered t (map object_in es) (map (λ v. first_at told v.1) (values_of es))
  objects_numbered es told_are each are = are_numbered told_are es each (λ x there.
      let few = nil_parts (object_types d.constants) (object_types p.objects) named.1.1.0 in
      elim (Contains-append_cases d.constants p.objects x (firsts_have (d.constants ++ p.objects) x (subst (λ xs. Contains xs x) are there))) as (λ _. length x.of ≤ 1) [
        | inl constant ↦ at_most_one d.constants x few.0 constant (nat_lt 1 (length x.of)) refl
        | inr object ↦ at_most_one p.objects x few.1 object (nat_lt 1 (length x.of)) refl
      ])

  -- so all that is declared is known once the types of parameters are told
  pub all_known : {A B : Type 0} {objects : List TypedValue} {k : Known A B} {before after : ToldValue} {v : Vec (Vec ℕ (Bor B)) (Bor B)} → AreKnown d objects k before → AreTold k.types after → AreKept before after
      → AreParametersAt after d.actions v.items → AreAllKnown d objects (record { types = k.types; listed = k.listed; predicates = k.predicates; functions = k.functions; actions = v }) after
  all_known are types kept actions = record {
    typed = are.typed;
    types = types;
    predicates = have_all declared_once.predicates (have_still kept are.predicates);
    functions = have_all declared_once.functions (have_still kept are.functions);
    actions = actions;
    listed = seen_still kept are.listed;
  }

  -- a pass that has nothing to find fails for memory alone
  pub nothing_unknown : (e : LinkFault) → Passes {T = Unit {0}} 23 (unknown_among d.types (parameters_among d.actions)) (Err e) → Verdict {T = Unit {0}} (map (fault_in d p) part_rules) (Err e)
  nothing_unknown e h = IfSome_then (fault_of e) h (λ f here. absurd (has_none f.1 (rw parameters_known at here.1)))
