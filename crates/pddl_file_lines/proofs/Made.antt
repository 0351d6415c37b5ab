-- What holds of what was made holds of it with the fault for want of memory.
use Rattle.std.proofs.Common.{◌≡◌, sym, subst}
use Rattle.std.specs.Prelude.{Result, Ok, Err, IfOk, OnOk, IsErrOf}
use Rattle.pddl_file_lines.specs.declared.outcome.RunFault.{RunFault}
use Rattle.pddl_file_lines.specs.declared.outcome.RunFault.TheVariants.{Memory}
use Rattle.pddl_file_lines.specs.Made.{or_memory}

pub if_made : {T E : Type 0} (made : Result T E) (answer : Result T RunFault) (P Q : T → Type 0) → answer ≡ or_memory made → ((x : T) → P x → Q x) → IfOk made P → IfOk answer Q
if_made (Ok x) answer P Q is weaker h = subst (λ r. IfOk r Q) (sym is) (weaker x h)
if_made (Err e) answer P Q is weaker h = subst (λ r. IfOk r Q) (sym is) tt

-- no other fault comes of it
pub only_memory : {T E : Type 0} (made : Result T E) (answer : Result T RunFault) (fault : RunFault) → answer ≡ or_memory made → IsErrOf answer fault → fault ≡ Memory
only_memory (Ok x) answer fault is failed = absurd (cc (is, failed))
only_memory (Err e) answer fault is failed = cc (is, failed)

-- what holds anyway holds where it was made
pub on_any : {T E : Type 0} {P : Type 0} (answer : Result T E) → P → OnOk answer P
on_any (Ok x) p = p
on_any (Err e) p = tt
