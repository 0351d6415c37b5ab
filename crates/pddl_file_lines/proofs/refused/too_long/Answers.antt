use Rattle.std.proofs.Common.{[], refl}
use Rattle.std.specs.Prelude.{None, Result, Ok, Err, IfOk}
use Rattle.pddl_scan.specs.declared.fault.TextFault.TheVariants.{TooLong}
use Rattle.pddl_file_lines.specs.Contents.{IsTooLongLine}
use Rattle.pddl_file_lines.specs.Inner.Faults.{whole_name}
use Rattle.pddl_kind.specs.Kinds.{kind_word}
use Rattle.pddl_file_lines.specs.Lines.{text_fault_name, IsFaultLine}
use Rattle.pddl_file_lines.proofs.FaultLines.{line_of}
use Rattle.pddl_file_lines.proofs.refused.too_long.Goals as goal

if_ok : {A E : Type 0} (P Q : A → Type 0) (r : Result A E) → ((a : A) → P a → Q a) → IfOk r P → IfOk r Q
if_ok P Q (Ok a) on h = on a h
if_ok P Q (Err e) on h = h

pub returns : goal.returns
returns g c =
    let kind = c.args.kind in
    let name = c.text_fault_name in
    if_ok (λ line. IsFaultLine c.word.result.now [] (whole_name name.result) None line.items) (λ line. IsTooLongLine kind line.items) c.fault_line.result
    (λ line is. line_of c.word.result.now (kind_word kind) [] (whole_name name.result) (text_fault_name TooLong) None None line.items c.word.ensures name.ensures refl is)
    c.fault_line.ensures
