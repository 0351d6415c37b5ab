-- From what a call's answer says to what follows from it.
use Rattle.std.specs.Prelude.{Result, Ok, Err, IfOk, IfErr, MatchResult, OnOk}

pub if_ok : {A E : Type 0} (P Q : A → Type 0) (r : Result A E) → ((a : A) → P a → Q a) → IfOk r P → IfOk r Q
if_ok P Q (Ok a) on h = on a h
if_ok P Q (Err e) on h = h

pub if_err : {A E : Type 0} (P Q : E → Type 0) (r : Result A E) → ((e : E) → P e → Q e) → IfErr r P → IfErr r Q
if_err P Q (Ok a) on h = h
if_err P Q (Err e) on h = on e h

pub match_both : {A E : Type 0} (P : A → Type 0) (Q : E → Type 0) (r : Result A E) → IfOk r P → IfErr r Q → MatchResult r P Q
match_both P Q (Ok a) ok err = ok
match_both P Q (Err e) ok err = err

pub on_ok : {A E P Q : Type 0} (r : Result A E) → (P → Q) → OnOk r P → OnOk r Q
on_ok (Ok a) f p = f p
on_ok (Err e) f p = tt
