use Rattle.std.proofs.Common.{◌<◌, List, ℕ, length, sym, ap, ◌∙◌, arith}
use Rattle.std.specs.Prelude.{slice_get}
use Rattle.pddl_plan.proofs.CutLists.{length-cut, part_is}
use Rattle.pddl_plan.proofs.name_list.NameList.get.Goals as goal

pub part_of-part-requires-clause-in_range : goal.part_of-part-requires-clause-in_range
part_of-part-requires-clause-in_range g c =
    omega (arith, c.requires, length-cut c.self.inside.text.items 0 c.self.inside.ends.items, ap length c.self.view_is, ap length c.deref.ensures.value)

pub returns : goal.returns
returns g c =
    let text = c.self.inside.text.items in
    let ends = c.self.inside.ends.items in
    let low : c.args.number < length ends = omega (arith, c.requires, length-cut text 0 ends, ap length c.self.view_is) in
    ap (λ (ns : List (List ℕ)). slice_get ns c.args.number) (sym c.self.view_is)
    ∙ part_is text c.deref-2.result.now ends c.deref.result.now c.args.number c.part_of-part.result.start c.part_of-part.result.end low
    c.part_of-part.ensures.start c.part_of-part.ensures.end c.deref.ensures.value c.deref-2.ensures.value
