use Rattle.std.proofs.Common.{subst, sym, ap, ◌∙◌, ◌≡◌, ◌↔◌, ◌<◌, true, map, length, get_or, IsTrue}
use Rattle.std.specs.Prelude.{All}
use Rattle.std.specs.List.{list_all, concat}
use Rattle.std.proofs.lemmas.Bool.{true≢false}
use Rattle.pddl_happenings.specs.Serialisations.{IsSerialOrder}
use Rattle.pddl_happenings.specs.Splits.{IsSplitOf}
use Rattle.pddl_judge.specs.HappeningValues.{groups_of}
use Rattle.pddl_serial.specs.Inner.Places.{is_at_one}
use Rattle.pddl_serial.proofs.Grouped.{all_groups_below, at_one_split}
use Rattle.pddl_serial.proofs.Passes.{serial_by_places}
use Rattle.pddl_serial.proofs.grouping.is_split.Goals as goal

pub all_at_one-requires : goal.all_at_one-requires
all_at_one-requires g c =
    let hs = groups_of c.args.happenings.now in
    let places = c.in_ok-places.places.items in
    let is : IsTrue c.in_ok-serial.serial ↔ IsSerialOrder hs c.args.order.now = serial_by_places hs c.args.steps c.requires.each places c.deref.result.now c.args.order.now c.in_ok-places.ensures.length c.in_ok-places.ensures.places c.deref.ensures.value c.in_ok-serial.serial c.in_ok-serial.ensures in
    let serial : IsSerialOrder hs (concat (map (λ g. g.items) c.args.groups.now)) = subst (IsSerialOrder hs) c.requires.joined (is.0 c.if-not-serial.false) in
    let len : c.args.steps ≡ length c.deref-2.result.now = sym c.in_ok-places.ensures.length ∙ ap length (sym c.deref-2.ensures.value) in
    subst (λ n. All (λ g. All (λ k. k < n) g.items) c.args.groups.now) len (all_groups_below hs c.args.steps c.requires.each (λ k. get_or places k 0) c.in_ok-places.ensures.places (λ g. g.items) c.args.groups.now serial)

pub returns-then-not-serial : goal.returns-then-not-serial
returns-then-not-serial g c =
    let hs = groups_of c.args.happenings.now in
    let places = c.in_ok-places.places.items in
    let is : IsTrue c.in_ok-serial.serial ↔ IsSerialOrder hs c.args.order.now = serial_by_places hs c.args.steps c.requires.each places c.deref.result.now c.args.order.now c.in_ok-places.ensures.length c.in_ok-places.ensures.places c.deref.ensures.value c.in_ok-serial.serial c.in_ok-serial.ensures in
    (λ t. absurd (true≢false (sym t)), λ s. absurd (true≢false (sym (is.1 (subst (IsSerialOrder hs) (sym c.requires.joined) s.in_turn)) ∙ c.if-not-serial.true)))

pub returns : goal.returns
returns g c =
    let hs = groups_of c.args.happenings.now in
    let gs = map (λ g. g.items) c.args.groups.now in
    let places = c.in_ok-places.places.items in
    let is : IsTrue c.in_ok-serial.serial ↔ IsSerialOrder hs c.args.order.now = serial_by_places hs c.args.steps c.requires.each places c.deref.result.now c.args.order.now c.in_ok-places.ensures.length c.in_ok-places.ensures.places c.deref.ensures.value c.in_ok-serial.serial c.in_ok-serial.ensures in
    let serial : IsSerialOrder hs (concat gs) = subst (IsSerialOrder hs) c.requires.joined (is.0 c.if-not-serial.false) in
    let both : list_all (is_at_one (λ k. get_or places k 0)) gs ≡ true ↔ IsSplitOf hs gs = at_one_split hs c.args.steps c.requires.each (λ k. get_or places k 0) c.in_ok-places.ensures.places gs serial in
    let at_one : c.all_at_one.result ≡ list_all (is_at_one (λ k. get_or places k 0)) gs = c.all_at_one.ensures ∙ ap (λ l. list_all (is_at_one (λ k. get_or l k 0)) gs) c.deref-2.ensures.value in
    (λ t. both.0 (sym at_one ∙ t), λ s. at_one ∙ both.1 s)
