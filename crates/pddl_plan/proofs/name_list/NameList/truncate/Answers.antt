use Rattle.std.proofs.Common.{take, ap, sym, subst, ◌∙◌, arith, IsTrue}
use Rattle.std.specs.List.{list_all}
use Rattle.pddl_token.specs.Names.{is_name}
use Rattle.pddl_plan.specs.Cuts.{cut}
use Rattle.pddl_plan.specs.NameLists.{AreNamesIn}
use Rattle.pddl_plan.proofs.CutLists.{rises_first, end_first, cut_first}
use Rattle.pddl_plan.proofs.BuiltPlans.{all_first}
use Rattle.pddl_plan.proofs.name_list.NameList.truncate.Goals as goal

pub invariant_of-self : goal.invariant_of-self
invariant_of-self g c =
    let text = c.self.inside.text.items in
    let ends = c.self.inside.ends.items in
    let held = c.self.invariant in
    let less = end_first c.args.count 0 ends held.rises in
    subst (AreNamesIn text) (sym c.truncate.ensures.items) (record {
      rises = rises_first c.args.count 0 ends held.rises;
      within = omega (arith, less, held.within);
      short = omega (arith, less, held.short);
      named = subst (λ names. IsTrue (list_all is_name names)) (sym (cut_first text c.args.count 0 ends)) (all_first is_name c.args.count (cut text 0 ends) held.named);
    })

pub returns : goal.returns
returns g c =
    ap (cut c.self.inside.text.items 0) c.truncate.ensures.items ∙ cut_first c.self.inside.text.items c.args.count 0 c.self.inside.ends.items ∙ ap (take c.args.count) c.self.view_is
