use Rattle.std.proofs.Common.{◌≡◌, ◌+◌, ◌≤◌, ◌<◌, ◌++◌, ◌∷◌, [], refl, length, get_or, ap, subst, sym, ◌∙◌, List}
use Rattle.std.specs.Cmp.{first_so}
use Rattle.std.specs.List.{list_any}
use Rattle.std.proofs.lemmas.List.Sorted.{list_any-IsPermutation}
use Rattle.pddl_state.specs.Atoms.{AtomValue, atom_eq}
use Rattle.pddl_mixed_rows.specs.MixedRows.{is_set}
use Rattle.pddl_bit_store.specs.Numbering.{numbered_content}
use Rattle.pddl_bit_store.proofs.RowLists.{listed_here, listed_to, listed_all, listed_content, rising}
use Rattle.pddl_bit_store.proofs.bits.BitStoreAtomStore.list.Goals as goal

pub loop-place-init : goal.loop-place-init
loop-place-init g c =
    let t = c.args.self.now.atoms.keys in
    let row = is_set c.args.set.now.row in
    let first = c.next_shared_place-place.result in
    let keys = c.as_slice-table.ensures.keys in
    let within : c.next_shared_place-place.result ≤ length c.args.self.now.atoms.keys = subst (λ l. first ≤ length l) keys c.next_shared_place-place.ensures.end in
    record {
      within = within;
      bit = λ h. c.next_shared_place-place.ensures.found (subst (λ l. first < length l) (sym keys) h);
      listed = c.new-all.ensures.items ∙ listed_to t row [] 0 first c.args.self.now.distinct c.next_shared_place-place.ensures.from within c.next_shared_place-place.ensures.passed refl;
    }

pub loop-place-preserved : goal.loop-place-preserved
loop-place-preserved g c =
    let t = c.args.self.now.atoms.keys in
    let row = is_set c.args.set.now.row in
    let all = c.loop-place.all.items in
    let i = c.loop-place.place in
    let j = c.next_shared_place-place-in-loop-place.result in
    let keys = c.as_slice-table.ensures.keys in
    let below : c.loop-place.place < length c.args.self.now.atoms.keys = subst (λ l. c.loop-place.place < length l) keys c.loop-place-test.true in
    let bit = first_so (is_set c.args.set.now.row c.loop-place.place) (is_set c.args.set.now.row c.loop-place.place) (c.loop-place.invariant.bit below) in
    let here : c.index-table-place.result ≡ get_or c.args.self.now.atoms.keys c.loop-place.place c.index-table-place.result = subst (λ l. c.index-table-place.result ≡ get_or l c.loop-place.place c.index-table-place.result) keys c.index-table-place.is in
    let pushed : c.push.new.self.items ≡ c.loop-place.all.items ++ c.index-table-place.result ∷ [] = c.in_ok-push.ensures.items ∙ ap (λ (x : AtomValue). c.loop-place.all.items ++ x ∷ []) c.in_ok-copy.ensures in
    let within : c.next_shared_place-place-in-loop-place.result ≤ length c.args.self.now.atoms.keys = subst (λ l. j ≤ length l) keys c.next_shared_place-place-in-loop-place.ensures.end in
    let more = listed_here t row all i c.index-table-place.result c.args.self.now.distinct bit below here c.loop-place.invariant.listed in
    record {
      within = within;
      bit = λ h. c.next_shared_place-place-in-loop-place.ensures.found (subst (λ l. j < length l) (sym keys) h);
      listed = pushed ∙ listed_to t row (all ++ c.index-table-place.result ∷ []) (i + 1) j c.args.self.now.distinct c.next_shared_place-place-in-loop-place.ensures.from within c.next_shared_place-place-in-loop-place.ensures.passed more;
    }

pub returns-clause-rising : goal.returns-clause-rising
returns-clause-rising g c =
    let t = c.args.self.now.atoms.keys in
    let p = numbered_content c.args.self.now.atoms.keys (is_set c.args.set.now.row) in
    let past : length c.args.self.now.atoms.keys ≤ c.loop-place.place = subst (λ l. length l ≤ c.loop-place.place) c.as_slice-table.ensures.keys c.loop-place-test.false in
    rising t p c.loop-place.all.items c.sort_unstable.new.self.items c.args.self.now.distinct (listed_all t p c.loop-place.all.items c.loop-place.place past c.loop-place.invariant.listed)
    c.sort_unstable.ensures.permutation c.sort_unstable.ensures.sorted

pub returns-clause-content : goal.returns-clause-content
returns-clause-content g c = λ i x.
    let t = c.args.self.now.atoms.keys in
    let p = numbered_content c.args.self.now.atoms.keys (is_set c.args.set.now.row) in
    let past : length c.args.self.now.atoms.keys ≤ c.loop-place.place = subst (λ l. length l ≤ c.loop-place.place) c.as_slice-table.ensures.keys c.loop-place-test.false in
    (sym (list_any-IsPermutation (atom_eq x) c.loop-place.all.items c.sort_unstable.new.self.items c.sort_unstable.ensures.permutation)
    ∙ (ap (λ (xs : List AtomValue). list_any (atom_eq x) xs) (listed_all t p c.loop-place.all.items c.loop-place.place past c.loop-place.invariant.listed)
    ∙ listed_content t (is_set c.args.set.now.row) x c.requires.0)) i
