-- The stage of a JSON number that the code's enum stands for.
use Rattle.format.specs.JsonNumber as JsonNumber
use Rattle.content.specs.declared.json.Stage.{Stage}
use Rattle.content.specs.declared.json.Stage.TheVariants.{Start, Minus, LeadingZero, Whole, Point, Fraction, Letter, Sign, Exponent, Wrong}

abbrev pub stage_of : Stage → JsonNumber.Stage
stage_of Start = JsonNumber.start
stage_of Minus = JsonNumber.minus
stage_of LeadingZero = JsonNumber.leading_zero
stage_of Whole = JsonNumber.whole
stage_of Point = JsonNumber.point
stage_of Fraction = JsonNumber.fraction
stage_of Letter = JsonNumber.letter
stage_of Sign = JsonNumber.sign
stage_of Exponent = JsonNumber.exponent
stage_of Wrong = JsonNumber.wrong
