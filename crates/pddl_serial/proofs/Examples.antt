-- Worked examples, computed from the definitions (own).
use Rattle.std.proofs.Common.{◌≡◌, ℕ, zero, suc, Bool, true, false, not, ◌&&◌, ◌||◌, List, [], ◌∷◌, refl, eqb}
use Rattle.pddl_happenings.specs.Accepted.{after_all, cost_of_all}
use Rattle.pddl_happenings.specs.Happenings.{singles}
use Rattle.pddl_happenings.specs.Serialisations.{FailsAt, RunsSerially, place_of}
use Rattle.pddl_happenings.specs.Splits.{split_moments}
use Rattle.pddl_happenings.specs.Steps.{Step}
use Rattle.pddl_serial.specs.Cuts.{cut, cut_in_order}
use Rattle.pddl_serial.specs.Orders.{in_order}
use Rattle.pddl_serial.specs.Inner.Places.{is_at_one}
use Rattle.pddl_serial.specs.declared.turns.Order.TheVariants.{File, Reverse}

-- ---- orders: the step 0, and then the steps 1 and 2 at once
abbrev two_happenings : List (List ℕ)
two_happenings = (0 ∷ []) ∷ (1 ∷ 2 ∷ []) ∷ []

in_file_order : in_order File two_happenings ≡ 0 ∷ 1 ∷ 2 ∷ []
in_file_order = refl

in_reversed_order : in_order Reverse two_happenings ≡ 0 ∷ 2 ∷ 1 ∷ []
in_reversed_order = refl

-- ---- groups
cut_in_two : cut 2 (7 ∷ 8 ∷ 9 ∷ []) ≡ (7 ∷ 8 ∷ []) ∷ (9 ∷ []) ∷ []
cut_in_two = refl

cut_even : cut 2 (6 ∷ 7 ∷ 8 ∷ 9 ∷ []) ≡ (6 ∷ 7 ∷ []) ∷ (8 ∷ 9 ∷ []) ∷ []
cut_even = refl

cut_alone : cut 1 (7 ∷ 8 ∷ []) ≡ (7 ∷ []) ∷ (8 ∷ []) ∷ []
cut_alone = refl

cut_whole : cut 5 (7 ∷ 8 ∷ []) ≡ (7 ∷ 8 ∷ []) ∷ []
cut_whole = refl

cut_nothing : cut 5 [] ≡ []
cut_nothing = refl

groups_in_file_order : cut_in_order 2 File ((0 ∷ 1 ∷ 2 ∷ []) ∷ (3 ∷ []) ∷ []) ≡ (0 ∷ 1 ∷ []) ∷ (2 ∷ []) ∷ (3 ∷ []) ∷ []
groups_in_file_order = refl

groups_in_reversed_order : cut_in_order 2 Reverse ((0 ∷ 1 ∷ 2 ∷ []) ∷ (3 ∷ []) ∷ []) ≡ (2 ∷ 1 ∷ []) ∷ (0 ∷ []) ∷ (3 ∷ []) ∷ []
groups_in_reversed_order = refl

moments_of_split : split_moments 1 ((1 ∷ []) ∷ (0 ∷ []) ∷ (2 ∷ 3 ∷ []) ∷ []) ≡ 1 ∷ 2 ∷ 3 ∷ 3 ∷ []
moments_of_split = refl

at_one_place : is_at_one (place_of two_happenings) (2 ∷ 1 ∷ []) ≡ true
at_one_place = refl

at_two_places : is_at_one (place_of two_happenings) (0 ∷ 1 ∷ []) ≡ false
at_two_places = refl

empty_at_none : is_at_one (place_of two_happenings) [] ≡ false
empty_at_none = refl

-- ---- runs: of lamps a and b the atoms 0 and 1 say that they are on, 2 and 3 that they are sound. The step 0 lights a, where it
-- is sound and off, at the cost 3; every other step makes all dark, where one is on.
abbrev light_a : Step ℕ
light_a = record {
  ready = λ s. s 2 && not (s 0);
  reads = λ a. eqb a 0 || eqb a 2;
  adds = λ s a. eqb a 0;
  dels = λ s a. false;
  cost = λ s. 3;
}

abbrev dark : Step ℕ
dark = record {
  ready = λ s. s 0 || s 1;
  reads = λ a. eqb a 0 || eqb a 1;
  adds = λ s a. false;
  dels = λ s a. (eqb a 0 || eqb a 1) && s a;
  cost = λ s. 0;
}

abbrev lamps : ℕ → Step ℕ
lamps zero = light_a
lamps (suc k) = dark

abbrev sound : ℕ → Bool
sound a = eqb a 2 || eqb a 3

light_and_dark : RunsSerially lamps sound (0 ∷ 1 ∷ [])
light_and_dark = (refl, (refl, tt))

costs_three : cost_of_all lamps sound (singles (0 ∷ 1 ∷ [])) ≡ 3
costs_three = refl

is_off_again : after_all lamps sound (singles (0 ∷ 1 ∷ [])) 0 ≡ false
is_off_again = refl

is_sound_still : after_all lamps sound (singles (0 ∷ 1 ∷ [])) 2 ≡ true
is_sound_still = refl

-- made dark first, the list fails at its first place
dark_first : FailsAt lamps sound (1 ∷ 0 ∷ []) 0
dark_first = refl

-- lit twice, it fails at its second
lit_twice : FailsAt lamps sound (0 ∷ 0 ∷ []) 1
lit_twice = (refl, refl)
