-- The first wrong slot of a payload is the one with the least place. So the least is looked for, leaf by leaf.
use Rattle.std.specs.Prelude.{ℕ, zero, suc, ◌+◌, ◌*◌, ◌≤◌, min, List, [], ◌∷◌, length}
use Rattle.format.specs.Conditions.{when◌then◌else◌}
use Rattle.format.specs.Tokens.{leaf, is_kind, Forest, none, node}
use Rattle.format.specs.Records.{member_width}
use Rattle.format.specs.Storage.{Slot}
use Rattle.format.specs.Bytes.{bytes}
use Rattle.format.specs.Content.{is_content}

-- over every place: nothing is wrong
abbrev pub nowhere : ℕ
nowhere = 1_048_577

-- places stay below this
abbrev pub farthest : ℕ
farthest = 2_097_152

module _ (m : List ℕ) where
  -- the place of w bytes that are wrong under a mark
  unfoldable pub wrong_at : ℕ → ℕ → ℕ → ℕ
  wrong_at mark w place = when is_content mark (bytes m place w) then nowhere else place

  -- of some slots, the least place of a wrong one
  unfoldable pub least : ℕ → List (Slot ℕ) → ℕ
  least start [] = nowhere
  least start (s ∷ ss) = min (wrong_at s.mark s.wide (start + s.offset)) (least start ss)

  -- of n values of w bytes under a mark, each so many bytes after the one before
  unfoldable pub in_column : ℕ → ℕ → ℕ → ℕ → ℕ → ℕ
  in_column mark w stride zero place = nowhere
  in_column mark w stride (suc n) place = min (wrong_at mark w place) (in_column mark w stride n (place + stride))

  -- of the columns of members, the first of which has its first value here
  unfoldable pub in_columns : ℕ → ℕ → Forest → ℕ → ℕ
  in_columns stride n none place = nowhere
  in_columns stride n (node t below after) place =
      min (when is_kind leaf t.kind then in_column t.mark t.extent stride n place else in_columns stride n below place)
      (in_columns stride n after (place + member_width t))

  -- of top-level fields, n values of each end to end
  unfoldable pub in_fields : ℕ → Forest → ℕ → ℕ
  in_fields n none place = nowhere
  in_fields n (node t below after) place =
      min (in_columns (member_width t) n (node t below none) place) (in_fields n after (place + n * member_width t))

-- n values that end here and so many bytes further each time lie inside the message
pub record Fits (m : List ℕ) (stride n end : ℕ) : Type 0 where
  pub near : end ≤ farthest
  pub last : end + n * stride ≤ length m + stride
