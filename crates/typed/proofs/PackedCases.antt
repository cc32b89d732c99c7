-- The cases of a packed array, in the order of its tests. Assumes nothing.
use Prim.Native.Nat.{ℕ, ◌+◌, ◌*◌, ◌≤◌, ◌<◌}
use mathlib.Core.Path.{◌≡◌, ◌∙◌}
use mathlib.Core.Bool.{true}
use mathlib.Core.List.{List}
use lib.ListN.{length}
use borrow.Author.Tests.{le-leb, lt-leb}
use Rattle.std.specs.Prelude.{Option, Some, None}
use Rattle.format.specs.Outcome.{Outcome, fault, done, ◌>>=◌, ◌>>◌, guard}
use Rattle.format.specs.Limits.{limit}
use Rattle.format.specs.Refusals.{ends_too_early, over_limit}
use Rattle.format.specs.Marks.{width}
use Rattle.format.specs.Tokens.{Forest, packed as kind_of_packed}
use Rattle.format.specs.Indexes.{below}
use Rattle.format.specs.Storage.{elements}
use Rattle.format.specs.Bytes.{reach}
use Rattle.format.specs.Content.{contents}
use Rattle.format.specs.Dimensions.{Shape, shape}
use Rattle.format.specs.Containers.{stored, packed}
use Rattle.contents.specs.Answers.{checked_of}
use Rattle.typed.specs.Stored.{checked}

-- once the content is known
pub then_checked : (content : Option ℕ) (o : Outcome (Unit {0})) (r : Forest × ℕ) → checked_of content ≡ o → (o >> done r) ≡ checked content r
unfolding ◌>>◌
then_checked None o r e = rw (← e)
then_checked (Some p) o r e = rw (← e)

module _ (m : List ℕ) (lent mark from at row : ℕ) where
  module _ (s : Shape) (start : ℕ) (told : shape m lent true from (row + 1) ≡ done (s, start)) where
    pub packed_over : limit < s.many → packed m lent mark from at row ≡ fault over_limit at
    unfolding packed guard ◌>>=◌ ◌>>◌
    packed_over h = rw (told, lt-leb _ _ h)

    module _ (few : s.many ≤ limit) where
      pub packed_early : length m < start + s.many * width mark → packed m lent mark from at row ≡ fault ends_too_early (length m)
      unfolding packed reach guard ◌>>=◌ ◌>>◌
      packed_early h = rw (told, le-leb _ _ few, lt-leb _ _ h)

      to_contents : start + s.many * width mark ≤ length m
          → packed m lent mark from at row
          ≡ (contents m start (elements row mark (below s.many)) >> done (stored kind_of_packed mark at start (s.many * width mark) s s.dimensions, start + s.many * width mark))
      unfolding packed reach guard ◌>>=◌ ◌>>◌
      to_contents h = rw (told, le-leb _ _ few, le-leb _ _ h)

      pub packed_there : (content : Option ℕ) → start + s.many * width mark ≤ length m → checked_of content ≡ contents m start (elements row mark (below s.many))
          → packed m lent mark from at row ≡ checked content (stored kind_of_packed mark at start (s.many * width mark) s s.dimensions, start + s.many * width mark)
      packed_there content h e = to_contents h ∙ then_checked content _ _ e
