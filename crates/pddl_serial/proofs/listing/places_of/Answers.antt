use Rattle.std.proofs.Common.{◌≡◌, ℕ, ◌++◌, List, arith, length, take, drop, get_or, subst, sym, ap, ◌∙◌}
use Rattle.std.proofs.lemmas.List.{append-nil, drop_all, take_all}
use Rattle.pddl_happenings.specs.Happenings.{HaveEachOnce}
use Rattle.pddl_judge.specs.HappeningValues.{groups_of}
use Rattle.pddl_serial.proofs.listing.places_of.Goals as goal

-- what is written over the whole of a list is what is left of both
written : (new old : List ℕ) (n : ℕ) → length old ≡ n → length new ≡ n → take n (new ++ drop (length new) old) ≡ new
written new old n h k = ap (λ l. take n (new ++ l)) (drop_all (length new) old (omega arith)) ∙ (ap (take n) (append-nil new) ∙ take_all n new (omega arith))

pub place_all-requires : goal.place_all-requires
place_all-requires g c =
    let items : length c.in_ok-places.places.items ≡ c.args.steps = omega (arith, c.in_ok-places.ensures.len, c.in_ok-places.places.ok.0) in
    let steps : c.args.steps ≡ length c.deref_mut.result.now = sym items ∙ ap length (sym c.deref_mut.ensures.value) in
    subst (λ n. HaveEachOnce n (groups_of c.args.happenings.now)) steps c.requires

pub returns : goal.returns
returns g c =
    let items = c.in_ok-places.places.items in
    let new = c.place_all.new.places in
    let len : c.in_ok-places.places.len ≡ c.args.steps = omega (arith, c.in_ok-places.ensures.len) in
    let old : length c.in_ok-places.places.items ≡ c.in_ok-places.places.len = omega (arith, c.in_ok-places.places.ok.0) in
    let first : length c.deref_mut.result.now ≡ c.args.steps = ap length c.deref_mut.ensures.value ∙ (old ∙ len) in
    let many : length c.place_all.new.places ≡ c.in_ok-places.places.len = omega (arith, c.place_all.auto.places, first, len) in
    let is : take c.in_ok-places.places.len (new ++ drop (length new) items) ≡ new = written new items c.in_ok-places.places.len old many in
    record {
      length = ap length is ∙ (many ∙ len);
      places = λ k h. ap (λ l. get_or l k 0) is ∙ c.place_all.ensures k (omega (arith, h, first));
    }
