use Rattle.std.proofs.Common.{◌≡◌, ℕ, ◌∙◌, List, [], ◌∷◌, ◌++◌, map, length, min, rules}
use Rattle.std.specs.Slice.Iter.{chunks_rest}
use Rattle.pddl_serial.specs.Cuts.{cut}
use Rattle.pddl_serial.proofs.CutLists.{cut_step, groups_all, groups_more}
use Rattle.pddl_serial.proofs.cutting.add_cut.Goals as goal

pub loop-group-init : goal.loop-group-init
loop-group-init g c = (search rules, tt, search rules, search rules)

pub loop-group-preserved : goal.loop-group-preserved
loop-group-preserved g c =
    let n = c.args.size in
    let steps = c.in-Some.ensures.steps in
    let size = c.loop-group.invariant.2 in
    let all : List ℕ = chunks_rest c.loop-group.group-iterator in
    let chunk : List ℕ = c.in-Some.group.now in
    let rest : List ℕ = chunks_rest c.next.new.self in
    let long : length chunk ≡ min n (length all) = rw size at steps.1.1 in
    let copied : c.in_ok-to_vec.field-0.items ≡ chunk = search rules in
    let pushed : c.push.new.self.items ≡ c.loop-group.groups.items ++ c.in_ok-to_vec.field-0 ∷ [] = search rules in (
      search rules,
      tt,
      steps.0 ∙ size,
      groups_more (λ g. g.items) n c.loop-group.groups.items c.push.new.self.items c.in_ok-to_vec.field-0 all chunk rest (map (λ g. g.items) c.args.groups.now.items ++ cut n c.args.steps.now) pushed copied (cut_step n all chunk rest c.requires steps.1.2 steps.1.0 long) c.loop-group.invariant.3,
    )

pub returns : goal.returns
returns g c =
    groups_all c.args.size (map (λ g. g.items) c.loop-group.groups.items) (map (λ g. g.items) c.args.groups.now.items ++ cut c.args.size c.args.steps.now) (chunks_rest c.loop-group.group-iterator) c.requires c.in-None.ensures.steps.1.0 c.loop-group.invariant.3
