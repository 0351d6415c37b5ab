-- Words read from the left. Own.
use Rattle.std.specs.Prelude.{◌≤◌, ℕ, List, length, take, drop}
use Rattle.pddl_token.specs.Spelling.{PlacedWord, SpelledUpTo}
use Rattle.pddl_scan.specs.Faults.{AreValued}

-- the words spell the text up to the place, and each number among them has a value
pub record LexedTo (text : List ℕ) (words : List PlacedWord) (at : ℕ) : Type 0 where
  pub in_range : at ≤ length text
  pub spelled : SpelledUpTo words (take at text) (drop at text)
  pub valued : AreValued words
