-- What a reader has left to give and a writer holds, where that is known, and a text past the limit.
use Rattle.std.proofs.Common.{◌≡◌, ℕ, ◌<◌, List, [], length, refl, ap, subst, arith}
use Rattle.std.specs.Prelude.{Option, Some, None, IfSome}
use Rattle.std.specs.Io.KnownBytes.{Consumes, Keeps}
use Rattle.std.proofs.lemmas.List.{length-append}
use Rattle.pddl_scan.specs.declared.fault.TextFault.TheVariants as texts
use Rattle.pddl_step_reader.specs.declared.fault.ReadFault.TheVariants as plans
use Rattle.pddl_file.specs.declared.fault.FileFault.TheVariants as files
use Rattle.pddl_domain.specs.Domains.{DomainValue}
use Rattle.pddl_domain_reader.specs.DomainTexts.{SpellsDomain}
use Rattle.pddl_kind.specs.declared.Kind.{Kind}
use Rattle.pddl_kind.specs.declared.Kind.TheVariants.{Domain, Problem, Plan}
use Rattle.pddl_file_lines.specs.Lines.{text_fault_name, IsFaultLine}
use Rattle.pddl_kind.specs.Kinds.{kind_word}
use Rattle.pddl_file_lines.specs.Contents.{IsLeft, IsNoDomain}
use Rattle.pddl_file_lines.specs.Refusals.{IsRefused}

-- a text of which more than a limit was read
pub left_more : (remaining new : Option (List ℕ)) (limit : ℕ) (given : List ℕ) → IfSome remaining (λ known. limit < length known) → limit < length given → (text : List ℕ) × IsLeft remaining text × (limit < length text)
left_more None new limit given known more = (given, tt, more)
left_more (Some text) new limit given known more = (text, refl, known)

-- what was read stands at the front of what was left, which is past a limit where that is
pub left_longer : (remaining new : Option (List ℕ)) (limit : ℕ) (given : List ℕ) → Consumes remaining new given → limit < length given → (text : List ℕ) × IsLeft remaining text × (limit < length text)
left_longer None new limit given consumes longer = (given, tt, longer)
left_longer (Some text) None limit given consumes longer = absurd consumes
left_longer (Some text) (Some rest) limit given consumes longer = (text, refl, omega (arith, longer, ap (λ (t : List ℕ). length t) consumes, length-append given rest))

-- whatever is known, some text is left
pub some_left : (remaining : Option (List ℕ)) → (text : List ℕ) × IsLeft remaining text
some_left None = ([], tt)
some_left (Some known) = (known, refl)

left_known : (remaining : Option (List ℕ)) (text known : List ℕ) → remaining ≡ Some known → IsLeft remaining text → text ≡ known
left_known None text known e is = cc
left_known (Some left) text known e is = cc

-- a text that spells a domain is not known to spell none
pub no_domain_left : (remaining : Option (List ℕ)) (text : List ℕ) (d : DomainValue) → IsLeft remaining text → SpellsDomain d text → IsNoDomain remaining → ⊥
no_domain_left remaining text d left spells (known, is, none) = none d (subst (λ t. SpellsDomain d t) (left_known remaining text known is left) spells)

-- the line for a text past the limit
pub too_long_refused : (kind : Kind) (text line : List ℕ) → 16777216 < length text → IsFaultLine (kind_word kind) [] (text_fault_name texts.TooLong) None line → IsRefused kind text line
too_long_refused Domain text line longer is = record {
  fault = files.Text texts.TooLong;
  no_memory = λ e. absurd (cc (e));
  stands = longer;
  line = record { shown = is.shown; place_is = is.place_is; line_is = is.line_is };
}
too_long_refused Problem text line longer is = record {
  fault = files.Text texts.TooLong;
  no_memory = λ e. absurd (cc (e));
  stands = longer;
  line = record { shown = is.shown; place_is = is.place_is; line_is = is.line_is };
}
too_long_refused Plan text line longer is = record {
  fault = plans.Text texts.TooLong;
  no_memory = λ e. absurd (cc (e));
  stands = longer;
  line = record { shown = is.shown; place_is = is.place_is; line_is = is.line_is };
}

-- a writer to which nothing is written holds what it held
pub keeps_itself : (bytes : Option (List ℕ)) → Keeps bytes bytes
keeps_itself None = tt
keeps_itself (Some known) = refl

-- a reader of which nothing is read has given nothing
pub stands_still : (remaining : Option (List ℕ)) → (given : List ℕ) × Consumes remaining remaining given
stands_still None = ([], tt)
stands_still (Some known) = ([], refl)
