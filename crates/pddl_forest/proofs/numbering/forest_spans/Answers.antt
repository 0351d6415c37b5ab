use Rattle.std.proofs.Common.{◌∙◌, length, drop, arith, rules, inl, inr}
use Rattle.std.proofs.lemmas.Bool.{cases_Bool}
use Rattle.std.proofs.lemmas.List.{get_or_default, take_at}
use Rattle.pddl_forest.proofs.numbering.forest_spans.Goals as goal

pub number-round-requires-clause-parents : goal.number-round-requires-clause-parents
number-round-requires-clause-parents g c = record {
  some = c.requires.some;
  short = omega arith;
  within = λ i low. rw (get_or_default c.args.parents.now i 0 i low) (c.requires.within i low);
}

pub number-round-requires-clause-none : goal.number-round-requires-clause-none
number-round-requires-clause-none g c = c.deref_mut.ensures.value ∙ c.in_ok-scratch.ensures.items_if_clones_equal (search rules)

pub returns : goal.returns
returns g c =
    let n = c.number-round in
    let spans = take_at n.new.spans (drop (length n.new.spans) c.in_ok-spans.spans.items) c.in_ok-spans.spans.len (omega arith) in
    let scratch = take_at n.new.scratch (drop (length n.new.scratch) c.in_ok-scratch.scratch.items) c.in_ok-scratch.scratch.len (omega arith) in
    elim (cases_Bool n.result) [
      | inl round ↦ rw (c.choose.ensures, round) (record { short = tt; spans = tt; none = tt; round = rw (c.truncate.ensures.items, scratch) (n.ensures.round round) })
      | inr none ↦
          let told = n.ensures.spans none in
          rw (c.choose.ensures, none) (record { short = rw spans (omega (arith, told.1.many)); spans = rw spans told.1; none = told.0; round = tt })
    ]
