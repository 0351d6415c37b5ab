use Rattle.std.proofs.Common.{◌≡◌, ◌∷◌, ◌++◌, ◌-◌, [], drop, length, refl, arith}
use Rattle.std.proofs.lemmas.List.{append_assoc, append-nil, map_push}
use Rattle.std.proofs.Math.Seq.{take-length, drop-length}
use Rattle.pddl_token.specs.Spelling.{view}
use Rattle.pddl_items.specs.Items.{item_view, items_view}
use Rattle.pddl_items.specs.declared.item.Item.TheVariants.{Word}
use Rattle.pddl_items.proofs.TreeLists.{item_view_word, item_view_list}
use Rattle.pddl_text.specs.Lists.{AreItems, none, plain}
use Rattle.pddl_text.proofs.Nests.{items_append}
use Rattle.pddl_text.proofs.InTurn.{list_read, one_behind}
use Rattle.pddl_text.proofs.in_turn.+items.Goals as goal

pub add_items-loop-token-init : goal.add_items-loop-token-init
add_items-loop-token-init g t c =
    let items = c.args.items.now.items in
    record { read = λ words lexed. ([], rw (append-nil words) lexed, rw (drop-length items) none); before = take-length items; further = omega arith }

-- a list
pub add_items-loop-token-preserved-in-Continue-branch-4 : goal.add_items-loop-token-preserved-in-Continue-branch-4
add_items-loop-token-preserved-in-Continue-branch-4 g t c =
    let l = c.loop-token in
    let list = c.in_ok-list-in-Open.list in
    let old = c.args.items.now.items in
    let behind_old = one_behind old l.items.items c.push.new.self.items list l.invariant.before (rw c.in_ok-list-in-Open.ensures.lists at c.in_ok-push-in-Open.ensures.items) in
    record {
      read = λ words lexed.
          let (more, so_far, form) = l.invariant.read words lexed in
          let opened = rw c.in-Some.is at (c.in_ok-token.ensures.next (words ++ more) so_far) in
          let (own, behind, is) = c.in_ok-list-in-Open.ensures.list (words ++ more) (view c.in-Some.token) c.in-Open.is refl opened in (
            more ++ own,
            rw (← append_assoc words more own) behind,
            rw (behind_old.1, map_push item_view (drop (length old) l.items.items) list) (items_append form own (item_view list ∷ []) is),
          );
      before = behind_old.0;
      further = omega (arith, l.invariant.further, rw c.in-Some.is at c.in_ok-token.ensures.further, c.in_ok-list-in-Open.ensures.further.0);
    }

-- a word
pub add_items-loop-token-preserved : goal.add_items-loop-token-preserved
add_items-loop-token-preserved g t c =
    let l = c.loop-token in
    let token = c.in-Some.token in
    let word = Word token in
    let old = c.args.items.now.items in
    let behind_old = one_behind old l.items.items c.push-in_default-kind.new.self.items word l.invariant.before c.in_ok-push-in_default-kind.ensures.items in
    record {
      read = λ words lexed.
          let (more, so_far, form) = l.invariant.read words lexed in
          let is : AreItems c.args.levels (view token ∷ []) (item_view word ∷ []) = rw (item_view_word _ token) (plain (view token) c.in_default-kind.not-Open c.in_default-kind.not-Close none) in (
            more ++ view token ∷ [],
            rw (← append_assoc words more (view token ∷ [])) (rw c.in-Some.is at (c.in_ok-token.ensures.next (words ++ more) so_far)),
            rw (behind_old.1, map_push item_view (drop (length old) l.items.items) word) (items_append form (view token ∷ []) (item_view word ∷ []) is),
          );
      before = behind_old.0;
      further = omega (arith, l.invariant.further, rw c.in-Some.is at c.in_ok-token.ensures.further);
    }

pub add_items-returns-in_default-clause-items : goal.add_items-returns-in_default-clause-items
add_items-returns-in_default-clause-items g t c = λ words lexed.
    let (more, so_far, form) = c.loop-token.invariant.read words lexed in
    (more, form, (rw c.in_default.is at (c.in_ok-token.ensures.next (words ++ more) so_far), so_far.valued))

pub add_items-returns-in-Close-clause-items : goal.add_items-returns-in-Close-clause-items
add_items-returns-in-Close-clause-items g t c = λ words lexed.
    let (more, so_far, form) = c.loop-token.invariant.read words lexed in
    (more, form, (view c.in-Some.token, c.in-Close.is, refl, rw c.in-Some.is at (c.in_ok-token.ensures.next (words ++ more) so_far)))

pub add_list-returns-in-Some-clause-list : goal.add_list-returns-in-Some-clause-list
add_list-returns-in-Some-clause-list g t c = λ words lexed.
    (c.args.levels - 1, omega (arith, c.if-levels-eq0.false), rw c.in-Some.is at (c.in_ok-end.ensures.items words lexed))

pub list_behind-returns-clause-list : goal.list_behind-returns-clause-list
list_behind-returns-clause-list g t c = λ words opening is_open starts lexed.
    let many : c.len-begins.result ≡ length c.args.lists.now.items = omega (arith, c.len-begins.ensures, c.args.lists.now.ok.0) in
    rw (item_view_list c.in_ok-items.items (record { start = c.args.start; end = c.in_ok-end.end }), c.in_ok-items.ensures.tail, many)
    (list_read c.args.text.now words opening c.args.levels (items_view (drop (length c.args.lists.now.items) c.add_list.new.items.items)) c.args.start c.add_list.new.at c.in_ok-end.end is_open starts
    (c.in_ok-end.ensures.list (words ++ opening ∷ []) lexed))
