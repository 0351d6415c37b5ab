use Rattle.std.proofs.Common.{◌∷◌, [], refl}
use Rattle.pddl_token.specs.Spelling.{view}
use Rattle.pddl_items.proofs.TreeLists.{item_view_word}
use Rattle.pddl_text.specs.Lists.{none, plain}
use Rattle.pddl_text.proofs.in_turn.next_item.Goals as goal

pub returns-in_ok-list-in-Open-clause-next : goal.returns-in_ok-list-in-Open-clause-next
returns-in_ok-list-in-Open-clause-next g c = λ words lexed.
    c.in_ok-list-in-Open.ensures.list words (view c.in-Some.token) c.in-Open.is refl (rw c.in-Some.is at (c.in_ok-token.ensures.next words lexed))

pub returns-in-Close-clause-next : goal.returns-in-Close-clause-next
returns-in-Close-clause-next g c = λ words lexed.
    (view c.in-Some.token, c.in-Close.is, refl, rw c.in-Some.is at (c.in_ok-token.ensures.next words lexed))

pub returns-in_default-kind : goal.returns-in_default-kind
returns-in_default-kind g c =
    let token = c.in-Some.token in
    let further = rw c.in-Some.is at c.in_ok-token.ensures.further in
    let within = rw c.in-Some.is at c.in_ok-token.ensures.within in
    record {
      next = λ words lexed. (
        view token ∷ [],
        rw c.in-Some.is at (c.in_ok-token.ensures.next words lexed),
        rw (item_view_word _ token) (plain (view token) c.in_default-kind.not-Open c.in_default-kind.not-Close none),
      );
      further = (further, within);
      lists = refl;
    }
