-- What a walk over a table's whole schema answers.
use Rattle.std.specs.Prelude.{ℕ, ◌≤◌, ◌≡◌, List, length}
use Rattle.format.specs.Outcome.{done}
use Rattle.format.specs.Limits.{record_limit}
use Rattle.format.specs.Tokens.{Forest, below_first}
use Rattle.format.specs.Records.{total_width}
use Rattle.format.specs.Schemas.{table_schema}
use Rattle.leaf_search.specs.Search.{spot_of, in_fields}
use Rattle.leaf_search.specs.Walks.{Near}
use Rattle.leaf_search.specs.declared.leaves.Seen.TheVariants.{Left}
use Rattle.records.specs.declared.fields.Fields.{Fields}

-- the byte after it, a record's width, and the leaf in its field
pub record FieldsOver (s : Forest) (next leaf : ℕ) (r : Fields) : Type 0 where
  pub ended : r.next ≡ next
  pub total : r.wide ≡ total_width s
  pub spot : spot_of r.seen r.field r.span ≡ in_fields (below_first s) 0 (Left leaf) 0 0

-- if the schema is read, and its record is within the limit
abbrev pub FieldsRead : List ℕ → ℕ → ℕ → Fields → Type 0
FieldsRead m schema leaf r =
    (lent row next : ℕ) (s : Forest) → table_schema m lent schema row ≡ done (s, next) → total_width s ≤ record_limit → FieldsOver s next leaf r

-- within the message, and within a record's limit
pub record FieldsWithin (m : List ℕ) (r : Fields) : Type 0 where
  pub inside : r.next ≤ length m
  pub wide : r.wide ≤ record_limit
  pub near : Near r.seen
  pub field : r.field ≤ record_limit
  pub span : r.span ≤ record_limit
