-- Which test on a row each of the code's needs stands for.
use Rattle.std.specs.Prelude.{Bool, true, false, eqb}
use Rattle.format.specs.Marks.{left_brace}
use Rattle.format.specs.Tokens as Tokens
use Rattle.format.specs.Rows.{Row}
use Rattle.format.specs.Addresses.{is_a, is_packed, is_table, is_key, is_leaf_row, is_schema, is_fixed, is_member, is_dimension}
use Rattle.format.specs.Lookup.{has_names}
use Rattle.format.specs.declared.answers.Kind.{Kind}
use Rattle.format.specs.declared.answers.Kind.TheVariants as Kinds
use Rattle.ways.specs.declared.needs.Need.{Need}
use Rattle.ways.specs.declared.needs.Need.TheVariants.{Packed, Table, Key, Leaf, Schema, Fixed, Member, Dimension, Named, Anything}

-- a row of a kind, as the way of an address or a name needs it; none of the other kinds is needed
abbrev pub in_place : Kind → Row → Bool
in_place Kinds.Packed = is_packed
in_place Kinds.Table = is_table
in_place Kinds.Key = is_key
in_place Kinds.Leaf = is_leaf_row
in_place Kinds.Object = is_a Tokens.object (eqb left_brace) Tokens.plain_count
in_place Kinds.SchemaRecord = is_schema
in_place Kinds.FixedArray = is_fixed
in_place Kinds.Dimension = is_dimension
in_place k = λ r. false

abbrev pub fits_of : Need → Row → Bool
fits_of Packed = is_packed
fits_of Table = is_table
fits_of Key = is_key
fits_of Leaf = is_leaf_row
fits_of Schema = is_schema
fits_of Fixed = is_fixed
fits_of Member = is_member
fits_of Dimension = is_dimension
fits_of Named = has_names
fits_of Anything = λ r. true
