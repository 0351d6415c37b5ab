use Rattle.std.proofs.lemmas.Result.{err_from_is_err_and}
use Rattle.pddl_domain.specs.Domains.{domain_view}
use Rattle.pddl_types.proofs.ObjectTables.{seen_still}
use Rattle.pddl_names.specs.FaultParts.{problem_in}
use Rattle.pddl_link.proofs.NamedWell.{objects_numbered, all_known, nothing_unknown}
use Rattle.pddl_link.proofs.linked.order_behind_types.Goals as goal

pub returns-in_err-look_at_files-clause-verdict : goal.returns-in_err-look_at_files-clause-verdict
returns-in_err-look_at_files-clause-verdict g c = let p = err_from_is_err_and c.from_residual.result c.from_residual.ensures.1 in rw (p.1, p.2) c.in_err-look_at_files.ensures.verdict

pub tell_parameters-requires : goal.tell_parameters-requires
tell_parameters-requires g c = let held = c.in_ok-look_at_files.ensures.known in record { told = held.types; none = held.actions }

pub returns-in_err-tell_parameters-clause-verdict : goal.returns-in_err-tell_parameters-clause-verdict
returns-in_err-tell_parameters-clause-verdict g c =
    let q = err_from_is_err_and c.from_residual-in_err-tell_parameters.result c.from_residual-in_err-tell_parameters.ensures.1 in
    rw (q.1, q.2)
    (nothing_unknown (domain_view c.args.domain.now) (problem_in c.args.problem) c.in_ok-look_at_files.ensures.verdict c.in_err-tell_parameters.field-0.0
    (rw (c.in_ok-look_at_files.ensures.known.typed, c.deref.ensures.value) at c.in_err-tell_parameters.ensures.passes))

pub returns-clause-known : goal.returns-clause-known
returns-clause-known g c =
    all_known (domain_view c.args.domain.now) (problem_in c.args.problem) c.in_ok-look_at_files.ensures.verdict c.in_ok-look_at_files.ensures.known c.tell_parameters.ensures.told c.tell_parameters.ensures.kept
    (rw c.deref.ensures.value at c.in_ok-tell_parameters.ensures.held)

pub returns-clause-numbered : goal.returns-clause-numbered
returns-clause-numbered g c =
    let listed = seen_still c.tell_parameters.ensures.kept c.in_ok-look_at_files.ensures.known.listed in
    rw c.in_ok-order.ensures
    (objects_numbered (domain_view c.args.domain.now) (problem_in c.args.problem) c.in_ok-look_at_files.ensures.verdict _ c.tell_parameters.ensures.told listed.each listed.objects)

pub returns-clause-verdict : goal.returns-clause-verdict
returns-clause-verdict g c = c.in_ok-look_at_files.ensures.verdict
