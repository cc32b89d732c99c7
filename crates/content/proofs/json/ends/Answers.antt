-- `ends`: by the stage. Assumes nothing.
use Rattle.format.specs.JsonNumber as Json
use Rattle.content.proofs.json.ends.Goals as goal

pub returns-in-Start : goal.returns-in-Start
unfolding Json.ends
returns-in-Start c =
    rw c.in-Start.is

pub returns-in-Minus : goal.returns-in-Minus
unfolding Json.ends
returns-in-Minus c =
    rw c.in-Minus.is

pub returns-in-LeadingZero : goal.returns-in-LeadingZero
unfolding Json.ends
returns-in-LeadingZero c =
    rw c.in-LeadingZero.is

pub returns-in-Whole : goal.returns-in-Whole
unfolding Json.ends
returns-in-Whole c =
    rw c.in-Whole.is

pub returns-in-Point : goal.returns-in-Point
unfolding Json.ends
returns-in-Point c =
    rw c.in-Point.is

pub returns-in-Fraction : goal.returns-in-Fraction
unfolding Json.ends
returns-in-Fraction c =
    rw c.in-Fraction.is

pub returns-in-Letter : goal.returns-in-Letter
unfolding Json.ends
returns-in-Letter c =
    rw c.in-Letter.is

pub returns-in-Sign : goal.returns-in-Sign
unfolding Json.ends
returns-in-Sign c =
    rw c.in-Sign.is

pub returns-in-Exponent : goal.returns-in-Exponent
unfolding Json.ends
returns-in-Exponent c =
    rw c.in-Exponent.is

pub returns-in-Wrong : goal.returns-in-Wrong
unfolding Json.ends
returns-in-Wrong c =
    rw c.in-Wrong.is
