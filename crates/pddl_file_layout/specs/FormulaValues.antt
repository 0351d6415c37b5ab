-- Which formulas and effects the program can hold: names are names, types are types, numbers are in range. Each value that some
-- text spells is one of them.
use Rattle.std.specs.Prelude.{Bool, true, ◌&&◌, nat_le}
use Rattle.std.specs.List.{list_all}
use Rattle.pddl_token.specs.Number.{largest}
use Rattle.pddl_token.specs.Names.{is_name}
use Rattle.pddl_formula.specs.Reserved.{is_predicate, is_type}
use Rattle.pddl_formula.specs.Terms.{TermValue, name, variable, AtomValue}
use Rattle.pddl_formula.specs.TypedLists.{TypedValue}
use Rattle.pddl_formula.specs.Formulas.{FormulaValue, atom, equal, negation, implication, conjunction, disjunction, existential, universal, FormulaValues, no_formulas, formula}
use Rattle.pddl_effect.specs.StaticNames.{is_static_function}
use Rattle.pddl_effect.specs.Effects as effects
use Rattle.pddl_effect.specs.Effects.{FunctionTermValue, AmountValue, number, function, EffectValue, EffectValues, no_effects, effect, conditional, addition, deletion, increase}

-- a term's name is a name
abbrev pub is_term : TermValue → Bool
is_term (name n) = is_name n
is_term (variable n) = is_name n

-- an atom's predicate is one, and so are its terms
abbrev pub is_atom : AtomValue → Bool
is_atom a = is_predicate a.predicate && list_all is_term a.terms

-- an item of a typed list has a name and a type
abbrev pub is_typed : TypedValue → Bool
is_typed x = is_name x.item && is_type x.of

-- all of a formula is such
abbrev mutual
  pub is_formula : FormulaValue → Bool
  is_formula (atom a) = is_atom a
  is_formula (equal x y) = is_term x && is_term y
  is_formula (negation f) = is_formula f
  is_formula (implication f g) = is_formula f && is_formula g
  is_formula (conjunction fs) = are_formulas fs
  is_formula (disjunction fs) = are_formulas fs
  is_formula (existential xs f) = list_all is_typed xs && is_formula f
  is_formula (universal xs f) = list_all is_typed xs && is_formula f

  pub are_formulas : FormulaValues → Bool
  are_formulas no_formulas = true
  are_formulas (formula f fs) = is_formula f && are_formulas fs

-- a function of terms
abbrev pub is_function_term : FunctionTermValue → Bool
is_function_term f = is_static_function f.function && list_all is_term f.terms

-- a number in range, or a function of terms
abbrev pub is_amount : AmountValue → Bool
is_amount (number n) = nat_le n largest
is_amount (function f) = is_function_term f

-- all of an effect is such
abbrev mutual
  pub is_effect : EffectValue → Bool
  is_effect (effects.conjunction es) = are_effects es
  is_effect (effects.universal xs e) = list_all is_typed xs && is_effect e
  is_effect (conditional f e) = is_formula f && is_effect e
  is_effect (addition a) = is_atom a
  is_effect (deletion a) = is_atom a
  is_effect (increase a) = is_amount a

  pub are_effects : EffectValues → Bool
  are_effects no_effects = true
  are_effects (effect e es) = is_effect e && are_effects es
