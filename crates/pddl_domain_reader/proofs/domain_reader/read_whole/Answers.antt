use Rattle.std.proofs.Common.{◌≡◌, sym, ap, subst}
use Rattle.std.proofs.lemmas.Result.{err_from_is_err_and}
use Rattle.pddl_items.specs.Items.{items_view}
use Rattle.pddl_text.specs.Texts.{HasItems}
use Rattle.pddl_scan.specs.declared.fault.TextFault.TheVariants.{Memory}
use Rattle.pddl_file.specs.declared.fault.FileFault.TheVariants.{Text}
use Rattle.pddl_file.specs.Inner.FileReading.{RefusesFile}
use Rattle.pddl_domain.specs.Domains.{domain_view}
use Rattle.pddl_domain_reader.specs.DomainTexts.{SpellsDomain, DomainStands}
use Rattle.pddl_domain_reader.specs.Inner.Sections.{domain_answer, AnswersDomain}
use Rattle.pddl_domain_reader.proofs.Results.{if_ok, if_err, match_both}
use Rattle.pddl_domain_reader.proofs.DomainTextLaws.{read_spells, read_only, refused_only, refused_stands}
use Rattle.pddl_domain_reader.proofs.domain_reader.read_whole.Goals as goal

pub returns-in_err-items-clause-only : goal.returns-in_err-items-clause-only
returns-in_err-items-clause-only g c = λ domain spells.
    let p = err_from_is_err_and c.from_residual.result c.from_residual.ensures.1 in
    rw (p.1, p.2) (ap (λ t. Text t) (c.in_err-items.ensures.only spells.items spells.has))

pub returns-clause-domain : goal.returns-clause-domain
returns-clause-domain g c =
    let text = c.args.text.now in
    let items = items_view c.deref.result.now in
    let has : HasItems text items = subst (λ xs. HasItems text (items_view xs)) (sym c.deref.ensures.value) c.in_ok-items.ensures.items in
    if_ok (λ domain. AnswersDomain (domain_view domain) items) (λ domain. SpellsDomain (domain_view domain) text) c.domain_at.result
    (λ domain read. read_spells text items (domain_view domain) has read) c.domain_at.ensures.domain

pub returns-clause-only : goal.returns-clause-only
returns-clause-only g c = λ domain spells.
    let text = c.args.text.now in
    let items = items_view c.deref.result.now in
    let has : HasItems text items = subst (λ xs. HasItems text (items_view xs)) (sym c.deref.ensures.value) c.in_ok-items.ensures.items in
    match_both (λ found. domain_view found ≡ domain) (λ fault. fault ≡ Text Memory) c.domain_at.result
    (if_ok (λ found. AnswersDomain (domain_view found) items) (λ found. domain_view found ≡ domain) c.domain_at.result
    (λ found read. read_only text items domain (domain_view found) has spells read) c.domain_at.ensures.domain)
    (if_err (λ fault. RefusesFile fault (domain_answer items)) (λ fault. fault ≡ Text Memory) c.domain_at.result
    (λ fault refused. refused_only text items domain fault has spells refused) c.domain_at.ensures.refused)

pub returns-clause-fault : goal.returns-clause-fault
returns-clause-fault g c =
    let text = c.args.text.now in
    let items = items_view c.deref.result.now in
    let has : HasItems text items = subst (λ xs. HasItems text (items_view xs)) (sym c.deref.ensures.value) c.in_ok-items.ensures.items in
    if_err (λ fault. RefusesFile fault (domain_answer items)) (λ fault. DomainStands fault text) c.domain_at.result
    (λ fault refused. refused_stands text items fault has refused) c.domain_at.ensures.refused
