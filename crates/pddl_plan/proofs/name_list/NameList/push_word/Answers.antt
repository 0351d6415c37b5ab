use Rattle.std.proofs.Common.{[], ◌++◌, ◌≡◌, ℕ, List, ◌∷◌, length, take, sym, ap, subst, ◌∙◌, arith}
use Rattle.std.proofs.lemmas.List.{append-nil}
use Rattle.pddl_token.specs.Names.{folded, is_name}
use Rattle.pddl_plan.specs.Cuts.{cut}
use Rattle.pddl_plan.specs.NameLists.{AreNamesIn}
use Rattle.pddl_plan.proofs.NamesHeld.{on_err, start_is, start_within, bytes_behind, same_names, still_held, names_more, held_more, not_added, name_added}
use Rattle.pddl_plan.proofs.name_list.NameList.push_word.Goals as goal

pub invariant_of-self : goal.invariant_of-self
invariant_of-self g c =
    let text = c.self.inside.text.items in
    let ends = c.self.inside.ends.items in
    let start = c.start_of-start.result in
    let last = start_is ends c.deref.result.now start c.len.result c.start_of-start.ensures c.deref.ensures.value (omega (arith, c.len.ensures, c.self.inside.ends.ok)) in
    let new = c.put_folded.new.text.items in
    let bytes : new ≡ take start text ++ [] = c.in_err-put_folded.ensures ∙ c.truncate.ensures.items ∙ sym (append-nil (take start text)) in
    still_held text ends c.self.invariant start last new [] bytes

pub returns-in_err-put_folded-clause-kept : goal.returns-in_err-put_folded-clause-kept
returns-in_err-put_folded-clause-kept g c =
    let text = c.self.inside.text.items in
    let ends = c.self.inside.ends.items in
    let start = c.start_of-start.result in
    let last = start_is ends c.deref.result.now start c.len.result c.start_of-start.ensures c.deref.ensures.value (omega (arith, c.len.ensures, c.self.inside.ends.ok)) in
    let new = c.put_folded.new.text.items in
    let bytes : new ≡ take start text ++ [] = c.in_err-put_folded.ensures ∙ c.truncate.ensures.items ∙ sym (append-nil (take start text)) in
    on_err _ c.from_residual.result (same_names text ends c.self.invariant start last new [] bytes ∙ c.self.view_is)

pub split_at-requires : goal.split_at-requires
split_at-requires g c =
    let text = c.self.inside.text.items in
    let ends = c.self.inside.ends.items in
    let start = c.start_of-start.result in
    let last = start_is ends c.deref.result.now start c.len.result c.start_of-start.ensures c.deref.ensures.value (omega (arith, c.len.ensures, c.self.inside.ends.ok)) in
    let new = c.put_folded.new.text.items in
    let word = folded c.args.word.now in
    let bytes : new ≡ take start text ++ word = c.in_ok-put_folded.ensures ∙ ap (λ (t : List ℕ). t ++ word) c.truncate.ensures.items in
    omega (arith, ap length c.deref-2.ensures.value, start_within text ends c.self.invariant start last new word bytes)

pub invariant_of-self-then-not-is_name : goal.invariant_of-self-then-not-is_name
invariant_of-self-then-not-is_name g c =
    let text = c.self.inside.text.items in
    let ends = c.self.inside.ends.items in
    let start = c.start_of-start.result in
    let last = start_is ends c.deref.result.now start c.len.result c.start_of-start.ensures c.deref.ensures.value (omega (arith, c.len.ensures, c.self.inside.ends.ok)) in
    let new = c.put_folded.new.text.items in
    let word = folded c.args.word.now in
    let bytes : new ≡ take start text ++ word = c.in_ok-put_folded.ensures ∙ ap (λ (t : List ℕ). t ++ word) c.truncate.ensures.items in
    still_held text ends c.self.invariant start last new word bytes

pub returns-then-not-is_name-clause-added : goal.returns-then-not-is_name-clause-added
returns-then-not-is_name-clause-added g c =
    let text = c.self.inside.text.items in
    let ends = c.self.inside.ends.items in
    let start = c.start_of-start.result in
    let last = start_is ends c.deref.result.now start c.len.result c.start_of-start.ensures c.deref.ensures.value (omega (arith, c.len.ensures, c.self.inside.ends.ok)) in
    let new = c.put_folded.new.text.items in
    let word = folded c.args.word.now in
    let bytes : new ≡ take start text ++ word = c.in_ok-put_folded.ensures ∙ ap (λ (t : List ℕ). t ++ word) c.truncate.ensures.items in
    let seen = bytes_behind text ends c.self.invariant start last new word bytes c.split_at.result.1.now c.deref-2.result.now c.split_at.ensures.back c.deref-2.ensures.value in
    not_added c.args.word.now c.split_at.result.1.now c.is_name.result _ _ seen c.is_name.ensures c.if-not-is_name.true (same_names text ends c.self.invariant start last new word bytes ∙ c.self.view_is)

pub invariant_of-self-in_default : goal.invariant_of-self-in_default
invariant_of-self-in_default g c =
    let text = c.self.inside.text.items in
    let ends = c.self.inside.ends.items in
    let start = c.start_of-start.result in
    let last = start_is ends c.deref.result.now start c.len.result c.start_of-start.ensures c.deref.ensures.value (omega (arith, c.len.ensures, c.self.inside.ends.ok)) in
    let new = c.put_folded.new.text.items in
    let word = folded c.args.word.now in
    let bytes : new ≡ take start text ++ word = c.in_ok-put_folded.ensures ∙ ap (λ (t : List ℕ). t ++ word) c.truncate.ensures.items in
    still_held text ends c.self.invariant start last new word bytes

pub returns-in_default-clause-kept : goal.returns-in_default-clause-kept
returns-in_default-clause-kept g c =
    let text = c.self.inside.text.items in
    let ends = c.self.inside.ends.items in
    let start = c.start_of-start.result in
    let last = start_is ends c.deref.result.now start c.len.result c.start_of-start.ensures c.deref.ensures.value (omega (arith, c.len.ensures, c.self.inside.ends.ok)) in
    let new = c.put_folded.new.text.items in
    let word = folded c.args.word.now in
    let bytes : new ≡ take start text ++ word = c.in_ok-put_folded.ensures ∙ ap (λ (t : List ℕ). t ++ word) c.truncate.ensures.items in
    same_names text ends c.self.invariant start last new word bytes ∙ c.self.view_is

pub invariant_of-self-in_err-push : goal.invariant_of-self-in_err-push
invariant_of-self-in_err-push g c =
    let text = c.self.inside.text.items in
    let ends = c.self.inside.ends.items in
    let start = c.start_of-start.result in
    let last = start_is ends c.deref.result.now start c.len.result c.start_of-start.ensures c.deref.ensures.value (omega (arith, c.len.ensures, c.self.inside.ends.ok)) in
    let new = c.put_folded.new.text.items in
    let word = folded c.args.word.now in
    let bytes : new ≡ take start text ++ word = c.in_ok-put_folded.ensures ∙ ap (λ (t : List ℕ). t ++ word) c.truncate.ensures.items in
    subst (AreNamesIn new) (sym c.in_err-push.ensures.items) (still_held text ends c.self.invariant start last new word bytes)

pub returns-in_err-push-clause-kept : goal.returns-in_err-push-clause-kept
returns-in_err-push-clause-kept g c =
    let text = c.self.inside.text.items in
    let ends = c.self.inside.ends.items in
    let start = c.start_of-start.result in
    let last = start_is ends c.deref.result.now start c.len.result c.start_of-start.ensures c.deref.ensures.value (omega (arith, c.len.ensures, c.self.inside.ends.ok)) in
    let new = c.put_folded.new.text.items in
    let word = folded c.args.word.now in
    let bytes : new ≡ take start text ++ word = c.in_ok-put_folded.ensures ∙ ap (λ (t : List ℕ). t ++ word) c.truncate.ensures.items in
    on_err _ c.from_residual-in_err-push.result (ap (cut new 0) c.in_err-push.ensures.items ∙ same_names text ends c.self.invariant start last new word bytes ∙ c.self.view_is)

pub invariant_of-self-2 : goal.invariant_of-self-2
invariant_of-self-2 g c =
    let text = c.self.inside.text.items in
    let ends = c.self.inside.ends.items in
    let start = c.start_of-start.result in
    let last = start_is ends c.deref.result.now start c.len.result c.start_of-start.ensures c.deref.ensures.value (omega (arith, c.len.ensures, c.self.inside.ends.ok)) in
    let new = c.put_folded.new.text.items in
    let word = folded c.args.word.now in
    let bytes : new ≡ take start text ++ word = c.in_ok-put_folded.ensures ∙ ap (λ (t : List ℕ). t ++ word) c.truncate.ensures.items in
    let seen = bytes_behind text ends c.self.invariant start last new word bytes c.split_at.result.1.now c.deref-2.result.now c.split_at.ensures.back c.deref-2.ensures.value in
    let is = ap is_name (sym seen) ∙ sym c.is_name.ensures ∙ c.if-not-is_name.false in
    let end = c.in-Ok.end in
    held_more text ends c.self.invariant start last new word bytes is end (omega (arith)) (omega (arith)) c.push.new.self.items c.in_ok-push.ensures.items

pub returns-clause-added : goal.returns-clause-added
returns-clause-added g c =
    let text = c.self.inside.text.items in
    let ends = c.self.inside.ends.items in
    let start = c.start_of-start.result in
    let last = start_is ends c.deref.result.now start c.len.result c.start_of-start.ensures c.deref.ensures.value (omega (arith, c.len.ensures, c.self.inside.ends.ok)) in
    let new = c.put_folded.new.text.items in
    let word = folded c.args.word.now in
    let bytes : new ≡ take start text ++ word = c.in_ok-put_folded.ensures ∙ ap (λ (t : List ℕ). t ++ word) c.truncate.ensures.items in
    let seen = bytes_behind text ends c.self.invariant start last new word bytes c.split_at.result.1.now c.deref-2.result.now c.split_at.ensures.back c.deref-2.ensures.value in
    let is = ap is_name (sym seen) ∙ sym c.is_name.ensures ∙ c.if-not-is_name.false in
    let end = c.in-Ok.end in
    name_added c.args.word.now _ _ is (names_more text ends c.self.invariant start last new word bytes is end (omega (arith)) (omega (arith)) c.push.new.self.items c.in_ok-push.ensures.items ∙ ap (λ (ns : List (List ℕ)). ns ++ word ∷ []) c.self.view_is)
