-- A step by numbers does what the step by names does, where the task knows every atom that it speaks of.
use Rattle.std.proofs.Common.{◌≡◌, true, ◌||◌, List, [], ◌∷◌, map, eqb, refl, sym, ap, ◌∙◌, inl, inr}
use Rattle.std.specs.Prelude.{◌⊎◌, bytes_eq, Contains}
use Rattle.std.specs.List.{list_any, list_all}
use Rattle.std.specs.Cmp.Lexicographic.{pointwise}
use Rattle.std.proofs.lemmas.Bool.{true≢false}
use Rattle.pddl_domain.specs.Actions.{ActionValue}
use Rattle.pddl_problem.specs.Inits.{GroundValue}
use Rattle.pddl_state.specs.Atoms.{AtomValue, atom_eq}
use Rattle.pddl_state.proofs.AtomOrder.{same_atom}
use Rattle.pddl_task.specs.Names.{Name, is_in, same_names, number_in}
use Rattle.pddl_task.specs.Valuations.{Valuation, giving}
use Rattle.pddl_task.specs.Faults.{same_ground}
use Rattle.pddl_task.specs.Tasks.{TaskValue, object_names, predicate_names, fitting_names}
use Rattle.pddl_task.specs.Known.{formula_atoms, Spoken, is_read, is_added, is_deleted, atom_of, tested, effect_atoms, is_known, AreKnown}
use Rattle.pddl_task.proofs.Lists.{and_left, and_right, any_found, is_mapped, or_cases}
use Rattle.pddl_happenings.specs.NamedSteps.{by_name, DoesAsNamed}
use Rattle.pddl_meaning.specs.Worlds.{Atoms, no_atoms}
use Rattle.pddl_meaning.specs.Truth.{formula_reads}
use Rattle.pddl_meaning.specs.Effects.{fired, effect_adds, effect_dels}
use Rattle.pddl_meaning.specs.Steps.{step_of}
use Rattle.pddl_meaning.proofs.Agreement.{any_agree}
use Rattle.pddl_meaning.proofs.Frame.{fired_spoken}
use Rattle.pddl_compiled.proofs.Numbers.{apart}
use Rattle.pddl_plan_steps.specs.NumberedSteps.{number_of, has_number, numbered_step}

-- numbers and names agree where the second names are known
same_numbers : (names ms ns : List Name) → list_all (is_in names) ns ≡ true → pointwise eqb (map (number_in names) ms) (map (number_in names) ns) ≡ same_names ms ns
same_numbers names [] [] known = refl
same_numbers names [] (n ∷ ns) known = refl
same_numbers names (m ∷ ms) [] known = refl
same_numbers names (m ∷ ms) (n ∷ ns) known =
    let head : eqb (number_in names m) (number_in names n) ≡ bytes_eq m n = apart names m n (and_left _ (list_all (is_in names) ns) known) in
    let tail : pointwise eqb (map (number_in names) ms) (map (number_in names) ns) ≡ same_names ms ns = same_numbers names ms ns (and_right (is_in names n) _ known) in
    cc

pub numbers_agree : (task : TaskValue) (g h : GroundValue) → is_known task h ≡ true → atom_eq (number_of task g) (number_of task h) ≡ same_ground g h
numbers_agree task g h known =
    let head : eqb (number_in (predicate_names task) g.name) (number_in (predicate_names task) h.name) ≡ bytes_eq g.name h.name = apart (predicate_names task) g.name h.name (and_left _ (list_all (is_in (object_names task)) h.objects) known) in
    let tail : pointwise eqb (map (number_in (object_names task)) g.objects) (map (number_in (object_names task)) h.objects) ≡ same_names g.objects h.objects = same_numbers (object_names task) g.objects h.objects (and_right (is_in (predicate_names task) h.name) _ known) in
    cc

module _ (task : TaskValue) where
  module _ (a : ActionValue) (os : List Name)
      (speaks : AreKnown task (formula_atoms (fitting_names task) a.precondition (giving a.parameters os []))
      × AreKnown task (map atom_of (effect_atoms (fitting_names task) a.effect (giving a.parameters os [])))) where
    abbrev fit : List Name → List Name
    fit = fitting_names task

    abbrev v : Valuation
    v = giving a.parameters os []

    precondition_agrees : (g : GroundValue) → list_any (has_number task (number_of task g)) (formula_atoms fit a.precondition v) ≡ list_any (same_ground g) (formula_atoms fit a.precondition v)
    precondition_agrees g = any_agree (has_number task (number_of task g)) (same_ground g) (formula_atoms fit a.precondition v) (λ h c. numbers_agree task g h (speaks.0 h c))

    spoken_known : (x : Spoken) → Contains (effect_atoms fit a.effect v) x → is_known task (atom_of x) ≡ true
    spoken_known x c = speaks.1 (atom_of x) (is_mapped atom_of (effect_atoms fit a.effect v) x c)

    read_alike : (g : GroundValue) (x : Spoken) → is_known task (atom_of x) ≡ true → tested (has_number task (number_of task g)) no_atoms no_atoms x ≡ tested (same_ground g) no_atoms no_atoms x
    read_alike g (is_read h) known = numbers_agree task g h known
    read_alike g (is_added h) known = refl
    read_alike g (is_deleted h) known = refl

    effect_agrees : (g : GroundValue) → list_any (tested (has_number task (number_of task g)) no_atoms no_atoms) (effect_atoms fit a.effect v) ≡ list_any (tested (same_ground g) no_atoms no_atoms) (effect_atoms fit a.effect v)
    effect_agrees g =
        any_agree (tested (has_number task (number_of task g)) no_atoms no_atoms) (tested (same_ground g) no_atoms no_atoms) (effect_atoms fit a.effect v) (λ x c. read_alike g x (spoken_known x c))

    fired_known : (s : Atoms) (x : Spoken) → Contains (fired fit s a.effect v) x → is_known task (atom_of x) ≡ true
    fired_known s x c = spoken_known x (fired_spoken fit s a.effect v x c)

    add_alike : (g : GroundValue) (x : Spoken) → is_known task (atom_of x) ≡ true → tested no_atoms (has_number task (number_of task g)) no_atoms x ≡ tested no_atoms (same_ground g) no_atoms x
    add_alike g (is_read h) known = refl
    add_alike g (is_added h) known = numbers_agree task g h known
    add_alike g (is_deleted h) known = refl

    adds_agree : (s : Atoms) (g : GroundValue) → list_any (tested no_atoms (has_number task (number_of task g)) no_atoms) (fired fit s a.effect v) ≡ effect_adds fit s a.effect v g
    adds_agree s g =
        any_agree (tested no_atoms (has_number task (number_of task g)) no_atoms) (tested no_atoms (same_ground g) no_atoms) (fired fit s a.effect v) (λ x c. add_alike g x (fired_known s x c))

    delete_alike : (g : GroundValue) (x : Spoken) → is_known task (atom_of x) ≡ true → tested no_atoms no_atoms (has_number task (number_of task g)) x ≡ tested no_atoms no_atoms (same_ground g) x
    delete_alike g (is_read h) known = refl
    delete_alike g (is_added h) known = refl
    delete_alike g (is_deleted h) known = numbers_agree task g h known

    dels_agree : (s : Atoms) (g : GroundValue) → list_any (tested no_atoms no_atoms (has_number task (number_of task g))) (fired fit s a.effect v) ≡ effect_dels fit s a.effect v g
    dels_agree s g =
        any_agree (tested no_atoms no_atoms (has_number task (number_of task g))) (tested no_atoms no_atoms (same_ground g)) (fired fit s a.effect v) (λ x c. delete_alike g x (fired_known s x c))

    -- an atom that passes has a name
    added_has : (x : AtomValue) (y : Spoken) → tested no_atoms (has_number task x) no_atoms y ≡ true → (g : GroundValue) × (x ≡ number_of task g)
    added_has x (is_read h) is = absurd (true≢false (sym is))
    added_has x (is_added h) is = (h, same_atom x (number_of task h) is)
    added_has x (is_deleted h) is = absurd (true≢false (sym is))

    deleted_has : (x : AtomValue) (y : Spoken) → tested no_atoms no_atoms (has_number task x) y ≡ true → (g : GroundValue) × (x ≡ number_of task g)
    deleted_has x (is_read h) is = absurd (true≢false (sym is))
    deleted_has x (is_added h) is = absurd (true≢false (sym is))
    deleted_has x (is_deleted h) is = (h, same_atom x (number_of task h) is)

    change_has : (s : Atoms) (x : AtomValue) → (list_any (tested no_atoms (has_number task x) no_atoms) (fired fit s a.effect v) ≡ true) ⊎ (list_any (tested no_atoms no_atoms (has_number task x)) (fired fit s a.effect v) ≡ true)
        → (g : GroundValue) × (x ≡ number_of task g)
    change_has s x (inl is) =
        let found = any_found (tested no_atoms (has_number task x) no_atoms) (fired fit s a.effect v) is in
        added_has x found.0 found.2
    change_has s x (inr is) =
        let found = any_found (tested no_atoms no_atoms (has_number task x)) (fired fit s a.effect v) is in
        deleted_has x found.0 found.2

    pub does_as_named : DoesAsNamed (number_of task) (numbered_step task a os) (step_of task a os)
    does_as_named = record {
      ready = λ s. refl;
      reads = λ g.
          let left = precondition_agrees g in
          let right = effect_agrees g in
          ap (λ b. b || list_any (tested (has_number task (number_of task g)) no_atoms no_atoms) (effect_atoms fit a.effect v)) left ∙ ap (λ b. formula_reads fit a.precondition v g || b) right;
      adds = λ s g. adds_agree (by_name (number_of task) s) g;
      dels = λ s g. dels_agree (by_name (number_of task) s) g;
      cost = λ s. refl;
      named = λ s x is. change_has (by_name (number_of task) s) x (or_cases _ _ is);
    }
