use Rattle.std.proofs.Common.{◌≤◌, ◌<◌, List, length, get_or, refl, ap, subst, ◌∙◌, arith}
use denote.Param.Weighed.{most}
use Rattle.pddl_effect.specs.declared.effect.Effect.{Effect}
use Rattle.pddl_effect.specs.Effects.{effect_view}
use Rattle.pddl_file_layout.specs.FormulaValues.{is_effect}
use Rattle.pddl_file_layout.specs.Inner.Texts.{effect_text}
use Rattle.pddl_file_layout.proofs.Printed.{puts_nothing, puts_on, puts_as, spaced_on, passes_on, spaced_whole, whole_passes}
use Rattle.pddl_file_layout.proofs.Arms.{all_text, each_text, when_text, add_text, del_text, increase_text, all_good, each_good, when_good, add_good, del_good, increase_good}
use Rattle.pddl_effect.proofs.effect.Effect.TheLaws.{the_size}
use Rattle.pddl_formula.proofs.Depths.{among}
use Rattle.pddl_effect.proofs.Depths.{under_each, under_when, under_all}
use Rattle.pddl_file_layout.proofs.effect.+effect.Goals as goal

pub put_effect-returns-in-And-clause-printed : goal.put_effect-returns-in-And-clause-printed
put_effect-returns-in-And-clause-printed g t c =
    puts_as (all_text c.args.effect.now c.in-And.parts.items c.in-And.parts c.in-And.is refl)
    (puts_on c.put-in-And.ensures (puts_on c.put_effects.ensures.printed c.put-in-And-2.ensures))

pub put_effect-returns-in-And-clause-good : goal.put_effect-returns-in-And-clause-good
put_effect-returns-in-And-clause-good g t c = all_good c.args.effect.now c.in-And.parts.items c.in-And.parts c.in-And.is refl c.put_effects.ensures.good

pub put_effect-returns-in-Forall-clause-printed : goal.put_effect-returns-in-Forall-clause-printed
put_effect-returns-in-Forall-clause-printed g t c =
    puts_as (each_text c.args.effect.now c.deref-in-Forall.result.now c.deref.result.now c.in-Forall.variables c.in-Forall.part c.in-Forall.is c.deref.ensures.value c.deref-in-Forall.ensures)
    (puts_on c.put_quantifier.ensures.printed (puts_on c.put_effect.ensures.printed c.put.ensures))

pub put_effect-returns-in-When-clause-printed : goal.put_effect-returns-in-When-clause-printed
put_effect-returns-in-When-clause-printed g t c =
    puts_as (when_text c.args.effect.now c.deref-in-When.result.now c.in-When.condition c.in-When.part c.in-When.is c.deref-in-When.ensures)
    (puts_on c.put-in-When.ensures (puts_on c.put_formula.ensures.printed (puts_on c.put-in-When-2.ensures (puts_on c.put_effect-in-When.ensures.printed c.put-in-When-3.ensures))))

pub put_effect-returns-in-Del-clause-printed : goal.put_effect-returns-in-Del-clause-printed
put_effect-returns-in-Del-clause-printed g t c =
    puts_as (del_text c.args.effect.now c.in-Del.atom c.in-Del.is) (puts_on c.put-in-Del.ensures (puts_on c.put_atom-in-Del.ensures.printed c.put-in-Del-2.ensures))

pub put_effect-returns-in-Increase-clause-printed : goal.put_effect-returns-in-Increase-clause-printed
put_effect-returns-in-Increase-clause-printed g t c =
    puts_as (increase_text c.args.effect.now c.in-Increase.amount c.in-Increase.is) (puts_on c.put-in-Increase.ensures (puts_on c.put_amount.ensures.printed c.put-in-Increase-2.ensures))

pub put_effects-loop-effect-preserved : goal.put_effects-loop-effect-preserved
put_effects-loop-effect-preserved g t c =
    let l = c.loop-effect in
    let x = c.effect-item.result in
    let xs_are = c.deref-effect-items.ensures.value in
    let lt : l.effect-index < length c.args.effects.now.items = subst (λ (xs : List (Effect _)). l.effect-index < length xs) xs_are (omega arith) in
    let here = c.effect-item.is ∙ ap (λ (xs : List (Effect _)). get_or xs l.effect-index x) xs_are in
    record {
      printed = spaced_on effect_view effect_text c.args.effects.now.items l.effect-index x lt here l.invariant.printed c.put.ensures c.put_effect.ensures.printed;
      good = passes_on effect_view is_effect c.args.effects.now.items l.effect-index x lt here l.invariant.good c.put_effect.ensures.good;
    }

pub put_effect-put_effect-requires : goal.put_effect-put_effect-requires
put_effect-put_effect-requires g t c κs within = (omega (arith, under_each g.row.A g.A.Allocator g.A.laws c.args.effect.now c.deref-in-Forall.result.now c.in-Forall.variables c.in-Forall.part c.in-Forall.is c.deref-in-Forall.ensures, c.decreases), within)

pub put_effect-put_effect-requires-in-When : goal.put_effect-put_effect-requires-in-When
put_effect-put_effect-requires-in-When g t c κs within = (omega (arith, under_when g.row.A g.A.Allocator g.A.laws c.args.effect.now c.deref-in-When.result.now c.in-When.condition c.in-When.part c.in-When.is c.deref-in-When.ensures, c.decreases), within)

pub put_effect-put_effects-requires : goal.put_effect-put_effects-requires
put_effect-put_effects-requires g t c κs within = (omega (arith, under_all g.row.A g.A.Allocator g.A.laws c.args.effect.now c.in-And.parts c.in-And.is, c.decreases), within)

pub put_effects-put_effect-requires : goal.put_effects-put_effect-requires
put_effects-put_effect-requires g t c κs within =
    let depth = the_size g.row.A g.A.Allocator g.A.laws in
    let slice = c.deref-effect-items.result.now in
    let same = ap (most depth) c.deref-effect-items.ensures.value in
    (omega (arith, among depth slice c.loop-effect.effect-index c.effect-item.result c.loop-effect-test.true c.effect-item.is, same, c.decreases), within)

pub put_effects-returns-clause-printed : goal.put_effects-returns-clause-printed
put_effects-returns-clause-printed g t c =
    let end : length c.args.effects.now.items ≤ c.loop-effect.effect-index = omega (arith, c.loop-effect-test.false, c.deref-effect-items.ensures.len) in
    spaced_whole effect_view effect_text c.args.effects.now.items c.loop-effect.effect-index end c.loop-effect.invariant.printed

pub put_effects-returns-clause-good : goal.put_effects-returns-clause-good
put_effects-returns-clause-good g t c =
    let end : length c.args.effects.now.items ≤ c.loop-effect.effect-index = omega (arith, c.loop-effect-test.false, c.deref-effect-items.ensures.len) in
    whole_passes effect_view is_effect c.args.effects.now.items c.loop-effect.effect-index end c.loop-effect.invariant.good

pub put_effect-returns-in-Add-clause-printed : goal.put_effect-returns-in-Add-clause-printed
put_effect-returns-in-Add-clause-printed g t c = puts_as (add_text c.args.effect.now c.in-Add.atom c.in-Add.is) c.put_atom.ensures.printed

pub put_effect-returns-in-Add-clause-good : goal.put_effect-returns-in-Add-clause-good
put_effect-returns-in-Add-clause-good g t c = add_good c.args.effect.now c.in-Add.atom c.in-Add.is c.put_atom.ensures.good

pub put_effect-returns-in-Del-clause-good : goal.put_effect-returns-in-Del-clause-good
put_effect-returns-in-Del-clause-good g t c = del_good c.args.effect.now c.in-Del.atom c.in-Del.is c.put_atom-in-Del.ensures.good

pub put_effect-returns-in-Increase-clause-good : goal.put_effect-returns-in-Increase-clause-good
put_effect-returns-in-Increase-clause-good g t c = increase_good c.args.effect.now c.in-Increase.amount c.in-Increase.is c.put_amount.ensures.good

pub put_effect-returns-in-Forall-clause-good : goal.put_effect-returns-in-Forall-clause-good
put_effect-returns-in-Forall-clause-good g t c =
    each_good c.args.effect.now c.deref-in-Forall.result.now c.deref.result.now c.in-Forall.variables c.in-Forall.part c.in-Forall.is c.deref.ensures.value c.deref-in-Forall.ensures c.put_quantifier.ensures.good c.put_effect.ensures.good

pub put_effect-returns-in-When-clause-good : goal.put_effect-returns-in-When-clause-good
put_effect-returns-in-When-clause-good g t c = when_good c.args.effect.now c.deref-in-When.result.now c.in-When.condition c.in-When.part c.in-When.is c.deref-in-When.ensures c.put_formula.ensures.good c.put_effect-in-When.ensures.good

pub put_effects-loop-effect-init : goal.put_effects-loop-effect-init
put_effects-loop-effect-init g t c = record { printed = puts_nothing _ _ _; good = refl }
