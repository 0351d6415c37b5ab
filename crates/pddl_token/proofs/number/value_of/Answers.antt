use Rattle.std.proofs.Common.{ℕ, List, ◌<◌, take, ap, subst, ◌∙◌, sym}
use Rattle.std.specs.List.{fold}
use Rattle.pddl_token.specs.Number.{add_digit}
use Rattle.pddl_token.proofs.Values.{whole_over}
use Rattle.pddl_token.proofs.number.value_of.Goals as goal

pub returns-in_err-whole : goal.returns-in_err-whole
returns-in_err-whole c =
    let whole_is = c.split_at.ensures.front ∙ ap (λ (n : ℕ). take n c.args.text.now) c.digits_len.ensures.value in
    rw c.from_residual.ensures (sym (whole_over c.args.text.now (subst (λ (digits : List ℕ). 9999999999999999999 < fold add_digit 0 digits) whole_is c.in_err-whole.ensures)))
