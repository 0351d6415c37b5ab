use Rattle.std.proofs.Common.{◌∙◌, sym, subst, inl, inr}
use Rattle.std.proofs.lemmas.Result.{IfOk-weaker}
use Rattle.pddl_domain.specs.Domains.{domain_view}
use Rattle.pddl_domain_reader.specs.DomainTexts.{SpellsDomain, DomainStands}
use Rattle.pddl_kind.specs.declared.Kind.TheVariants.{Domain}
use Rattle.pddl_file_lines.specs.Refusals.{IsRefused}
use Rattle.pddl_commands.proofs.checked.checked_domain.Goals as goal

pub refused_domain-requires : goal.refused_domain-requires
refused_domain-requires g c = subst (λ text. DomainStands c.in-Err.fault text) (c.deref.ensures.value ∙ sym c.deref-in-Err.ensures.value) c.in-Err.ensures.fault

pub returns-in-Ok : goal.returns-in-Ok
returns-in-Ok g c =
    let spells = subst (λ text. SpellsDomain (domain_view c.in-Ok.domain) text) c.deref.ensures.value c.in-Ok.ensures.domain in
    IfOk-weaker c.judged_domain-answer.result _ _ (λ answer judged. inr (domain_view c.in-Ok.domain, spells, judged)) c.judged_domain-answer.ensures

pub returns : goal.returns
returns g c =
    IfOk-weaker c.refused_domain.result _ _ (λ answer is. inl (is.0, subst (λ text. IsRefused Domain text answer.0.items) c.deref-in-Err.ensures.value is.1)) c.refused_domain.ensures
