-- `put_integer`: under the smallest mark. Assumes nothing.
use Rattle.format.specs.Marks.{'U', 'u', 'm'}
use Rattle.pieces.proofs.Putting.{in_one, in_two, in_four, few_in_one, few_in_two, few_in_four, integer_puts}
use Rattle.pieces.proofs.bytes.put_integer.Goals as goal

pub put_number-requires : goal.put_number-requires
put_number-requires c = (c.requires, few_in_one)

pub put_number-requires-then-n-lt65536 : goal.put_number-requires-then-n-lt65536
put_number-requires-then-n-lt65536 c = (c.requires, few_in_two)

pub put_number-requires-2 : goal.put_number-requires-2
put_number-requires-2 c = (c.requires, few_in_four)

pub returns-then-n-lt256 : goal.returns-then-n-lt256
returns-then-n-lt256 c =
    integer_puts _ 'U' (in_one _ c.if-n-lt256.true) c.put_number.ensures

pub returns-then-n-lt65536 : goal.returns-then-n-lt65536
returns-then-n-lt65536 c =
    integer_puts _ 'u' (in_two _ c.if-n-lt256.false c.if-n-lt65536.true) c.put_number-then-n-lt65536.ensures

pub returns : goal.returns
returns c =
    integer_puts _ 'm' (in_four _ c.if-n-lt65536.false) c.put_number-2.ensures
