use Rattle.std.proofs.Common.{◌≡◌, ◌<◌, ℕ, true, false, length, Option, IfSome, subst, rules}
use Rattle.std.specs.Ordering.{is_le}
use Rattle.pddl_state.specs.Atoms.{atom_cmp}
use Rattle.pddl_bit_store.specs.Numbering.{IsLeastCommon}
use Rattle.pddl_bit_store.proofs.LeastShared.{least_first, least_keep, least_take}
use Rattle.pddl_bit_store.proofs.bits.lesser.Goals as goal

pub returns-in-None : goal.returns-in-None
returns-in-None g c = λ a b h on.
    let P : Option ℕ → Type 0 = λ o. IsLeastCommon c.args.table.now a b c.args.place o in
    least_first c.args.table.now a b c.args.place (subst P c.in-None.is h) on

pub returns-then-le : goal.returns-then-le
returns-then-le g c = λ a b h on.
    let P : Option ℕ → Type 0 = λ o. IsLeastCommon c.args.table.now a b c.args.place o in
    let Q : Option ℕ → Type 0 = λ o. IfSome o (λ m. m < length c.args.table.now) in
    let le : is_le (atom_cmp c.index-table-best.result c.index-table-place.result) ≡ true = search rules in
    least_keep c.args.table.now a b c.args.place c.in-Some.best c.index-table-best.result c.index-table-place.result (subst Q c.in-Some.is c.requires.best) c.requires.place c.index-table-best.is c.index-table-place.is le (subst P c.in-Some.is h)

pub returns-else-le : goal.returns-else-le
returns-else-le g c = λ a b h on.
    let P : Option ℕ → Type 0 = λ o. IsLeastCommon c.args.table.now a b c.args.place o in
    let Q : Option ℕ → Type 0 = λ o. IfSome o (λ m. m < length c.args.table.now) in
    let gt : is_le (atom_cmp c.index-table-best.result c.index-table-place.result) ≡ false = search rules in
    least_take c.args.table.now a b c.args.place c.in-Some.best c.index-table-best.result c.index-table-place.result (subst Q c.in-Some.is c.requires.best) c.requires.place c.index-table-best.is c.index-table-place.is gt (subst P c.in-Some.is h) on
