-- How the answers about what stands after a `#` stand to the outcomes of the definitions, and to the lent words.
use Rattle.std.specs.Prelude.{ℕ, ◌+◌, ◌≤◌, ◌≡◌, List, Result, Ok, Err}
use Rattle.format.specs.Outcome.{Parsed, done}
use Rattle.format.specs.Limits.{limit}
use Rattle.format.specs.Tokens.{size, plain_count, first_slowest, first_fastest}
use Rattle.format.specs.Rows.{Ancestry, rows}
use Rattle.format.specs.Dimensions as Dimensions
use Rattle.rows.specs.Overlay.{lay}
use Rattle.tokens.specs.Answers.{Ends}
use Rattle.dimensions.specs.Answers.{capped}
use Rattle.format.specs.Answers.{refused}
use Rattle.format.specs.declared.refusals.Refused.{Refused}
use Rattle.shapes.specs.declared.counts.Order.{Order}
use Rattle.shapes.specs.declared.counts.Order.TheVariants.{Plain, FirstSlowest, FirstFastest}
use Rattle.shapes.specs.declared.counts.Shaped.{Shaped}

-- an order's number
abbrev pub order_number : Order → ℕ
order_number Plain = plain_count
order_number FirstSlowest = first_slowest
order_number FirstFastest = first_fastest

-- a shape was read, its dimensions now lie in the words from `row` on, as far as these reach; how many elements, and the order
pub record Told (o : Parsed Dimensions.Shape) (row : ℕ) (ancestry : Ancestry) (before after : List ℕ) (next row' many order : ℕ) : Type 0 where
  pub shape : Dimensions.Shape
  pub read : o ≡ done (shape, next)
  pub took : row' ≡ row + size shape.dimensions
  pub times : many ≡ capped shape.many
  pub ordered : order ≡ shape.order
  pub lie : after ≡ lay before row (rows row ancestry shape.dimensions)

abbrev pub Shapes : Result Shaped Refused → Parsed Dimensions.Shape → ℕ → Ancestry → List ℕ → List ℕ → Type 0
Shapes (Err r) o row ancestry before after = o ≡ refused r
Shapes (Ok s) o row ancestry before after = Told o row ancestry before after s.at s.row s.many (order_number s.order)

abbrev pub ShapeWithin : Result Shaped Refused → ℕ → ℕ → ℕ → Type 0
ShapeWithin (Err r) low high rows_lent = Unit {0}
ShapeWithin (Ok s) low high rows_lent = Ends low high rows_lent s.at s.row × (s.many ≤ limit + 1)
