-- What a plan's file holds that was fed to its end.
use Rattle.std.proofs.Common.{◌≡◌, Bool, true, List, ℕ, inl, ap}
use Rattle.std.specs.Prelude.{Option, Result, Ok, Err, OnOk}
use Rattle.std.specs.Result.{result_and}
use Rattle.pddl_file_lines.specs.Contents.{IsLeft, IsPlanOf, IsPlanContent}
use Rattle.pddl_file_lines.specs.declared.plan_file.PlanContent.{PlanContent}
use Rattle.pddl_file_lines.specs.declared.plan_file.PlanContent.TheVariants.{Plan, Refused}

-- what is handed on where a call went well is as it was
pub went_well : {T U E : Type 0} (P : Type 0) (fed : Result T E) (file after : U) → Ok after ≡ result_and fed (Ok file) → OnOk fed P → P × (after ≡ file)
went_well P (Ok x) file after is h = (h, let same : after ≡ file = cc in same)
went_well P (Err e) file after is h = absurd (cc)

pub went_ill : {T U E : Type 0} (fed : Result T E) (file : U) (e : E) → Err e ≡ result_and fed (Ok file) → fed ≡ Err e
went_ill (Ok x) file e is = absurd (cc)
went_ill (Err d) file e is = let same : d ≡ e = cc in ap Err same

pub content_is : {B : _} (remaining : Option (List ℕ)) (at_end : Bool) (text : List ℕ) (content : PlanContent B) → IsLeft remaining text → at_end ≡ true → IsPlanOf text content
    → IsPlanContent remaining at_end content
content_is remaining at_end text (Plan plan) left ended of = ((text, left, of), ended)
content_is remaining at_end text (Refused line) left ended of = (inl ended, (text, left, of))
