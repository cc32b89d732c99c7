-- What a schema's records and fixed arrays are.
use Rattle.format.specs.Marks.{Opening, bracket, brace}
use Rattle.format.specs.Tokens.{Kind, schema_record, fixed_array}

-- the kind of the token that opens so in a schema
abbrev pub group_kind : Opening → Kind
group_kind bracket = fixed_array
group_kind brace = schema_record
