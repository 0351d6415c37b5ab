use Rattle.std.proofs.Common.{◌≡◌, List, ℕ, length, sym, ap, subst, arith}
use Rattle.pddl_domain.specs.Domains.{domain_view}
use Rattle.pddl_domain_reader.specs.DomainTexts.{SpellsDomain}
use Rattle.pddl_file_layout.specs.DomainLayout.{domain_text}
use Rattle.pddl_file_layout.proofs.Printed.{all_printed}
use Rattle.pddl_file_layout.proofs.DomainTextLaws.{domain_reads_back}
use Rattle.pddl_file_layout.proofs.domain.domain_text.Goals as goal

pub returns-else-failed-clause-text : goal.returns-else-failed-clause-text
returns-else-failed-clause-text g c =
    all_printed c.new.result.items c.new-out.result.inner.items c.put_domain.new.out.inner.items c.into_inner.result.items
    c.new.ensures.items c.new-out.ensures.contents c.put_domain.ensures.printed c.if-failed.false c.into_inner.ensures.contents

pub returns-else-failed-clause-reads_back : goal.returns-else-failed-clause-reads_back
returns-else-failed-clause-reads_back g c = λ deep short.
    let domain = domain_view c.args.domain.now in
    let text : c.into_inner.result.items ≡ domain_text domain =
    all_printed c.new.result.items c.new-out.result.inner.items c.put_domain.new.out.inner.items c.into_inner.result.items
    c.new.ensures.items c.new-out.ensures.contents c.put_domain.ensures.printed c.if-failed.false c.into_inner.ensures.contents in
    subst (SpellsDomain domain) (sym text) (domain_reads_back domain c.put_domain.ensures.good deep (omega (arith, short, c.into_inner.result.ok, ap (λ (t : List ℕ). length t) text)))
