-- Predicates, functions and actions have each a name of their own, where nothing stands twice.
use Rattle.std.proofs.Common.{◌≡◌, List, [], ◌∷◌, ◌++◌, map, refl, ap, ◌∙◌, flat_map}
use Rattle.pddl_domain.specs.Actions.{ActionValue}
use Rattle.pddl_domain.specs.Domains.{DomainValue}
use Rattle.pddl_task.specs.Names.{Name, is_in, word_if, repeated}
use Rattle.pddl_task.specs.Places.{action_places}
use Rattle.pddl_task.specs.Settings.{symbol_of, function_signatures}
use Rattle.pddl_task.specs.Faults.{retyped, repeated_at, repeated_in_actions, domain_repeats}
use Rattle.pddl_task.proofs.Lists.{nil_parts}
use Rattle.pddl_types.specs.Known.{IsDeclaredOnce}

none_twice : (seen : List Name) (rest : List ActionValue) → repeated_in_actions seen rest ≡ [] → repeated seen (map (λ a. a.name) rest) ≡ []
none_twice seen [] none = refl
none_twice seen (a ∷ rest) none =
    let parts = nil_parts (word_if (is_in seen a.name) a.name ++ flat_map repeated_at (action_places a)) (repeated_in_actions (seen ++ a.name ∷ []) rest) none in
    let first = nil_parts (word_if (is_in seen a.name) a.name) (flat_map repeated_at (action_places a)) parts.0 in
    ap (λ ws. ws ++ repeated (seen ++ a.name ∷ []) (map (λ b. b.name) rest)) first.0 ∙ none_twice (seen ++ a.name ∷ []) rest parts.1

module _ (d : DomainValue) (none : domain_repeats d ≡ []) where
  -- where nothing stands twice in a domain, no action does
  pub actions_once : repeated [] (map (λ a. a.name) d.actions) ≡ []
  actions_once = none_twice [] d.actions (nil_parts (retyped [] d.constants ++ repeated [] (map symbol_of d.predicates) ++ repeated [] (map symbol_of (function_signatures d))) (repeated_in_actions [] d.actions) none).1

  -- and no predicate and no function
  pub once_declared : IsDeclaredOnce d
  once_declared =
      let constants = retyped [] d.constants in
      let predicates = repeated [] (map symbol_of d.predicates) in
      let functions = repeated [] (map symbol_of (function_signatures d)) in
      let named = nil_parts (constants ++ predicates) functions (nil_parts (constants ++ predicates ++ functions) (repeated_in_actions [] d.actions) none).0 in
      record { predicates = (nil_parts constants predicates named.0).1; functions = named.1 }
