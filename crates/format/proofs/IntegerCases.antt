-- The cases of an integer, in the order of its tests. Assumes nothing.
use Prim.Native.Nat.{ℕ, ◌+◌, ◌≤◌, ◌<◌}
use mathlib.Core.Path.{◌≡◌}
use mathlib.Core.Bool.{true, false}
use mathlib.Core.List.{List}
use lib.ListN.{length, get_or}
use borrow.Author.Tests.{le-leb, lt-leb, lt-ltb, le-ltb}
use Rattle.format.specs.Outcome.{fault, done, ◌>>=◌, ◌>>◌, guard}
use Rattle.format.specs.Refusals.{ends_too_early, not_allowed, over_limit, wrong_integer}
use Rattle.format.specs.Marks.{is_integer, width}
use Rattle.format.specs.Bytes.{little, bytes, reach, byte, one_of}
use Rattle.format.specs.Integers.{is_negative, number, integer_to}

module _ (m : List ℕ) (highest mark place start : ℕ) where
  pub number_early : length m < start + width mark → number m highest mark place start ≡ fault ends_too_early (length m)
  unfolding number reach guard ◌>>◌
  number_early h = rw (lt-leb _ _ h)

  module _ (there : start + width mark ≤ length m) where
    pub number_negative : is_negative mark (little (bytes m start (width mark))) ≡ true → number m highest mark place start ≡ fault wrong_integer place
    unfolding number reach guard ◌>>◌
    number_negative e = rw (le-leb _ _ there, e)

    module _ (sign : is_negative mark (little (bytes m start (width mark))) ≡ false) where
      pub number_over : highest < little (bytes m start (width mark)) → number m highest mark place start ≡ fault over_limit place
      unfolding number reach guard ◌>>◌
      number_over h = rw (le-leb _ _ there, sign, lt-leb _ _ h)

      pub number-done : little (bytes m start (width mark)) ≤ highest
          → number m highest mark place start ≡ done (little (bytes m start (width mark)), start + width mark)
      unfolding number reach guard ◌>>◌
      number-done h = rw (le-leb _ _ there, sign, le-leb _ _ h)

module _ (m : List ℕ) (highest at : ℕ) where
  pub integer_early : length m ≤ at → integer_to m highest at ≡ fault ends_too_early (length m)
  unfolding integer_to one_of byte guard ◌>>◌ ◌>>=◌
  integer_early h = rw (le-ltb _ _ h)

  module _ (there : at < length m) where
    pub integer_other : is_integer (get_or m at 0) ≡ false → integer_to m highest at ≡ fault not_allowed at
    unfolding integer_to one_of byte guard ◌>>◌ ◌>>=◌
    integer_other e = rw (lt-ltb _ _ there, e)

    pub integer_number : is_integer (get_or m at 0) ≡ true → integer_to m highest at ≡ number m highest (get_or m at 0) at (at + 1)
    unfolding integer_to one_of byte guard ◌>>◌ ◌>>=◌
    integer_number e = rw (lt-ltb _ _ there, e)
