use Rattle.std.proofs.Common.{rules, ap, ◌∙◌, is_some}
use Rattle.indexmap.proofs.CallerLemmas.{insert_entry-new}
use Rattle.indexmap.proofs.MapLemmas.{absent_from_lookup, or_len-absent, some_index}
use Rattle.pddl_types.proofs.SignatureTables.{none_found}
use Rattle.pddl_types.proofs.entries.put_new.Goals as goal

pub returns-in-Vacant-clause-place : goal.returns-in-Vacant-clause-place
returns-in-Vacant-clause-place g c =
    let es = c.args.table.now.entries in
    let none = rw c.in-Vacant.is at c.in_ok-first-in-Ok.ensures.found in
    rw (or_len-absent (g.K.PartialEq.eq c.args.key) es (absent_from_lookup (g.K.PartialEq.eq c.args.key) es none)) (c.len-last.ensures.len, c.len-last.ensures.small)

pub returns-in-Vacant-clause-entries : goal.returns-in-Vacant-clause-entries
returns-in-Vacant-clause-entries g c =
    let m = c.args.table.now in
    let none = rw c.in-Vacant.is at c.in_ok-first-in-Ok.ensures.found in
    rw (c.in-Ok.is, none_found _ (some_index (g.K.PartialEq.eq c.args.key) m.entries ∙ ap is_some none), ← insert_entry-new g.K.PartialEq.eq m c.args.key c.in-Ok.value none) (search rules)
