-- Known bytes over several reads and writes.
use Rattle.std.proofs.Common.{◌≡◌, ℕ, ◌+◌, ◌<◌, List, ◌++◌, take, drop, Option, None, Some, ◌-◌, length, sym, ◌∙◌, ap, subst, append_assoc, length-drop, length-append, arith}
use Rattle.std.proofs.lemmas.List.{take-append-le}
use Rattle.std.proofs.Math.Seq.{take-add, take-append-add, take-length}
use Rattle.std.specs.Io.KnownBytes.{Appends, Consumes}
use Rattle.pddl_device.specs.Device.{AppendsBeginning}

-- two writes, one after the other, append both texts
pub appends_more : (a b c : Option (List ℕ)) (xs ys : List ℕ) → Appends a b xs → Appends b c ys → Appends a c (xs ++ ys)
appends_more None b c xs ys first second = tt
appends_more (Some a) None c xs ys first second = absurd first
appends_more (Some a) (Some b) None xs ys first second = absurd second
appends_more (Some a) (Some b) (Some c) xs ys first second = second ∙ ap (λ l. l ++ ys) first ∙ append_assoc a xs ys

-- the rest of a text, as `&text[n..]` has it
rest_of : (n : ℕ) (text : List ℕ) → take (length text - n) (drop n text) ≡ drop n text
rest_of n text = rw (← length-drop n text) (take-length (drop n text))

-- the next k bytes of a text whose first n are written
pub appends_next : (a b c : Option (List ℕ)) (n k : ℕ) (text : List ℕ) → Appends a b (take n text) → Appends b c (take k (take (length text - n) (drop n text))) → Appends a c (take (n + k) text)
appends_next a b c n k text first second =
    let next : Appends b c (take k (drop n text)) = subst (λ l. Appends b c (take k l)) (rest_of n text) second in
    rw (take-add n k text) (appends_more a b c (take n text) (take k (drop n text)) first next)

-- two reads, one after the other, give both pieces
pub consumes_more : (a b c : Option (List ℕ)) (xs ys : List ℕ) → Consumes a b xs → Consumes b c ys → Consumes a c (xs ++ ys)
consumes_more None b c xs ys first second = tt
consumes_more (Some a) None c xs ys first second = absurd first
consumes_more (Some a) (Some b) None xs ys first second = absurd second
consumes_more (Some a) (Some b) (Some c) xs ys first second = first ∙ ap (λ l. xs ++ l) second ∙ sym (append_assoc xs ys c)

-- a beginning of one text is one of each longer text
pub beginning_of_more : (a b : Option (List ℕ)) (xs ys : List ℕ) → AppendsBeginning a b xs → AppendsBeginning a b (xs ++ ys)
beginning_of_more a b xs ys begun =
    let n = begun.0 in
    let short : n < length xs = begun.1 in
    (n, simp length-append (omega arith), subst (Appends a b) (sym (take-append-le n xs ys (omega arith))) begun.2)

-- a text, and then a beginning of the next one
pub beginning_after : (a b c : Option (List ℕ)) (xs ys : List ℕ) → Appends a b xs → AppendsBeginning b c ys → AppendsBeginning a c (xs ++ ys)
beginning_after a b c xs ys first begun =
    let n = begun.0 in
    let short : n < length ys = begun.1 in
    (length xs + n, simp length-append (omega arith), subst (Appends a c) (sym (take-append-add xs ys n)) (appends_more a b c xs (take n ys) first begun.2))
