use Rattle.std.proofs.Common.{◌≡◌, ◌++◌, List, [], map, flat_map, Result, Ok, Err, IfOk, IsOk}
use Rattle.std.proofs.lemmas.Result.{IfOk-weaker}
use Rattle.pddl_formula.specs.TypedLists.{typed_view}
use Rattle.pddl_domain.specs.Declarations.{TypeValue, predicate_view, function_view}
use Rattle.pddl_domain.specs.declared.domain.Domain.{Domain}
use Rattle.pddl_domain.specs.Domains.{domain_view}
use Rattle.pddl_task.specs.Names.{item_of}
use Rattle.pddl_task.specs.Settings.{parameters_of}
use Rattle.pddl_types.specs.Told.{unknown_among}
use Rattle.pddl_types.specs.Known.{declared_typed}
use Rattle.pddl_types.proofs.ObjectTables.{seen_still}
use Rattle.pddl_types.proofs.ToldTypes.{kept_then, told_none}
use Rattle.pddl_types.proofs.SignatureTables.{have_still}
use Rattle.pddl_types.proofs.UnknownTypes.{unknown-append}
use Rattle.pddl_types.proofs.Lookups.{seen_of}
use Rattle.pddl_types.proofs.known.Known.add_domain.Goals as goal

pub add-constants-requires : goal.add-constants-requires
add-constants-requires g c = told_none c.args.self.now.types c.args.told.now c.requires.told

-- what a domain declares with a type, kind by kind
kinds : {A : Type 0} (ts : List TypeValue) (d : Domain A) → unknown_among ts (declared_typed (domain_view d))
    ≡ unknown_among ts (map typed_view d.constants.items)
    ++ (unknown_among ts (flat_map parameters_of (map predicate_view d.predicates.items)) ++ unknown_among ts (flat_map parameters_of (map (λ f. item_of (function_view f)) d.functions.items)))
kinds ts d = rw (seen_of item_of function_view d.functions.items) (simp unknown-append)

ok_has : {T E P : Type 0} (r : Result T E) → IsOk r → IfOk r (λ _. P) → P
ok_has (Ok x) ok h = h
ok_has (Err e) ok h = absurd (cc (ok))

pub returns-clause-passes : goal.returns-clause-passes
returns-clause-passes g c =
    rw (← c.requires.typed, kinds c.args.self.now.types.declared c.args.domain.now) (c.both-2.ensures.passes _ _ c.add-constants.ensures.passes (c.both.ensures.passes _ _ c.put-predicates.ensures.passes c.put-functions.ensures.passes))

pub returns-clause-found : goal.returns-clause-found
returns-clause-found g c =
    c.both-2.ensures.found _ _ (IfOk-weaker c.add-constants.result _ _ (λ _ seen. seen.0) (c.add-constants.ensures.seen [] (c.requires.nothing.objects c.args.told.now)))
    (c.both.ensures.found _ _ c.put-predicates.ensures.found (rw (seen_of item_of function_view c.args.domain.now.functions.items) at c.put-functions.ensures.found))

pub returns-clause-known : goal.returns-clause-known
returns-clause-known g c = IfOk-weaker c.both-2.result _ _ (λ _ made.
    let (predicates, functions) = ok_has c.both.result made.1 c.both.ensures.made in
    record {
      typed = c.requires.typed;
      types = c.put-functions.ensures.told;
      predicates = have_still c.put-functions.ensures.kept (ok_has c.put-predicates.result predicates c.put-predicates.ensures.held);
      functions = ok_has c.put-functions.result functions (rw (seen_of item_of function_view c.args.domain.now.functions.items) at c.put-functions.ensures.held);
      actions = c.requires.nothing.actions;
      listed = ok_has c.add-constants.result made.0
          (IfOk-weaker c.add-constants.result _ _ (λ _ seen. seen_still (kept_then _ _ _ c.put-predicates.ensures.kept c.put-functions.ensures.kept) seen.1)
          (c.add-constants.ensures.seen [] (c.requires.nothing.objects c.args.told.now)));
    }) c.both-2.ensures.made
