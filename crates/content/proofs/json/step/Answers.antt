-- `step`: by the stage. Assumes nothing.
use Rattle.format.specs.JsonNumber as Json
use Rattle.content.proofs.json.step.Goals as goal

pub returns-in-Minus : goal.returns-in-Minus
unfolding Json.step
returns-in-Minus c =
    rw c.in-Minus.is c.leading.ensures

pub returns-in-LeadingZero : goal.returns-in-LeadingZero
unfolding Json.step
returns-in-LeadingZero c =
    rw c.in-LeadingZero.is c.after_whole.ensures

pub returns-in-Whole : goal.returns-in-Whole
unfolding Json.step
returns-in-Whole c =
    rw (c.in-Whole.is, ← c.after_whole-in-Whole.ensures) c.on_digit.ensures

pub returns-in-Point : goal.returns-in-Point
unfolding Json.step
returns-in-Point c =
    rw c.in-Point.is c.on_digit-in-Point.ensures

pub returns-in-Fraction : goal.returns-in-Fraction
unfolding Json.step
returns-in-Fraction c =
    rw (c.in-Fraction.is, ← c.after_fraction.ensures) c.on_digit-in-Fraction.ensures

pub returns-in-Sign : goal.returns-in-Sign
unfolding Json.step
returns-in-Sign c =
    rw c.in-Sign.is c.on_digit-in-Sign.ensures

pub returns-in-Exponent : goal.returns-in-Exponent
unfolding Json.step
returns-in-Exponent c =
    rw c.in-Exponent.is c.on_digit-in-Exponent.ensures

pub returns-in-Wrong : goal.returns-in-Wrong
unfolding Json.step
returns-in-Wrong c =
    rw c.in-Wrong.is
