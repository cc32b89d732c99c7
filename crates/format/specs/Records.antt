-- How a record is laid out: widths and offsets of the members of a schema.
use Rattle.std.specs.Prelude.{ℕ, ◌+◌}
use Rattle.format.specs.Conditions.{when◌then◌else◌}
use Rattle.format.specs.Tokens.{Token, key, is_kind, Forest, none, node}

-- how many bytes of a record a token takes: a key takes none
unfoldable pub member_width : Token → ℕ
member_width t = when is_kind key t.kind then 0 else t.extent

-- how wide members are together
unfoldable pub total_width : Forest → ℕ
total_width none = 0
total_width (node t below after) = member_width t + total_width after

-- a token at an offset
unfoldable pub at_offset : ℕ → Token → Token
at_offset offset t =
    record {
      kind = t.kind;
      mark = t.mark;
      first = t.first;
      payload = offset;
      extent = t.extent;
      count = t.count;
      order = t.order;
    }

-- a schema's tokens with their offsets: a member stands after the members before it; the first member below it, where it stands itself
unfoldable pub placed : ℕ → Forest → Forest
placed offset none = none
placed offset (node t below after) =
    when is_kind key t.kind then node t below (placed offset after) else
    node (at_offset offset t) (placed offset below) (placed (offset + t.extent) after)
