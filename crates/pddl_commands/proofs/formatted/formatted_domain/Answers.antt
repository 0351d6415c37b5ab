use Rattle.std.proofs.Common.{◌≡◌, ◌∙◌, sym, subst}
use Rattle.std.proofs.lemmas.Result.{IfOk-at_ok, IfOk-weaker}
use Rattle.pddl_domain.specs.Domains.{domain_view}
use Rattle.pddl_domain_reader.specs.DomainTexts.{SpellsDomain, DomainStands}
use Rattle.pddl_file_layout.specs.DomainLayout.{domain_text}
use Rattle.pddl_kind.specs.declared.Kind.TheVariants.{Domain}
use Rattle.pddl_commands.proofs.Good.{printed_good, printed_refused}
use Rattle.pddl_commands.proofs.formatted.formatted_domain.Goals as goal

pub refused_domain-requires : goal.refused_domain-requires
refused_domain-requires g c = subst (λ text. DomainStands c.in-Err.fault text) (c.deref.ensures.value ∙ sym c.deref-in-Err.ensures.value) c.in-Err.ensures.fault

pub returns-in-Ok : goal.returns-in-Ok
returns-in-Ok g c =
    let d = domain_view c.in-Ok.domain in
    let spells = subst (SpellsDomain d) c.deref.ensures.value c.in-Ok.ensures.domain in
    IfOk-weaker c.good.result _ _ (λ answer is. printed_good d c.args.text.items answer.0.items answer.1 is.0 spells (IfOk-at_ok (λ text. text.items ≡ domain_text d) is.1 c.domain_text-printed.ensures.text)) c.good.ensures

pub returns : goal.returns
returns g c = IfOk-weaker c.refused_domain.result _ _ (λ answer is. printed_refused Domain answer.0.items c.deref-in-Err.ensures.value is.0 is.1) c.refused_domain.ensures
