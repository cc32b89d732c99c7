-- The leaf that is looked for, as a walk over the members of a schema comes to it.
use Rattle.std.specs.Prelude.{ℕ, zero, suc, ◌+◌}
use Rattle.format.specs.Conditions.{when◌then◌else◌}
use Rattle.format.specs.Outcome.{Outcome, fault, done}
use Rattle.format.specs.Refusals.{not_there}
use Rattle.format.specs.Tokens.{leaf, is_kind, Forest, none, node}
use Rattle.format.specs.Records.{member_width}
use Rattle.leaf_search.specs.declared.leaves.Seen.{Seen}
use Rattle.leaf_search.specs.declared.leaves.Seen.TheVariants.{Left, Found}

-- past a leaf at an offset, of so many bytes: it is the one, or one less is to be passed
abbrev pub passed : Seen → ℕ → ℕ → Seen
passed (Left zero) offset wide = Found offset wide
passed (Left (suc n)) offset wide = Left n
passed (Found o w) offset wide = Found o w

-- the latest number, until the leaf is found
abbrev pub latest : Seen → ℕ → ℕ → ℕ
latest (Left n) now before = now
latest (Found o w) now before = before

-- past members, the first of which stands at an offset
unfoldable pub past : Forest → ℕ → Seen → Seen
past none offset seen = seen
past (node t below after) offset seen =
    past after (offset + member_width t) (when is_kind leaf t.kind then passed seen offset t.extent else past below offset seen)

-- where a leaf stands in a record: its offset and its width, and those of its top-level field
pub record Spot : Type 0 where
  pub offset : ℕ
  pub wide : ℕ
  pub field : ℕ
  pub span : ℕ

-- the leaf, if it was found, in a field with an offset and a width
abbrev pub spot_of : Seen → ℕ → ℕ → Outcome Spot
spot_of (Left n) field span = fault not_there 0
spot_of (Found offset wide) field span = done (record { offset = offset; wide = wide; field = field; span = span })

-- past top-level fields, the first of which stands at an offset; `field` and `span` are those of the latest before them
unfoldable pub in_fields : Forest → ℕ → Seen → ℕ → ℕ → Outcome Spot
in_fields none offset seen field span = spot_of seen field span
in_fields (node t below after) offset seen field span =
    in_fields after (offset + member_width t) (past (node t below none) offset seen) (latest seen offset field) (latest seen (member_width t) span)
