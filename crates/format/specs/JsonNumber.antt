-- A JSON number: optional minus; 0, or digits not starting with 0; optional point and digits; optional e or E, optional sign,
-- digits (always one or more).
use Rattle.std.specs.Prelude.{ℕ, Bool, true, false, ◌||◌, List, [], ◌∷◌, eqb}
use Rattle.format.specs.Conditions.{when◌then◌else◌, between}

-- how far a number has come: nothing yet, after the minus, after a leading 0, in the digits, after the point, in its digits,
-- after the e, after its sign, in its digits; or no number begins so
pub data Stage : Type 0 where
  start minus leading_zero whole point fraction letter sign exponent wrong : Stage

unfoldable pub is_digit : ℕ → Bool
is_digit = between 0x30 0x39

-- the number's first digit
unfoldable pub leading : ℕ → Stage
leading b = when eqb b 0x30 then leading_zero else when is_digit b then whole else wrong

-- after the digits: an e or E
unfoldable pub after_fraction : ℕ → Stage
after_fraction b = when eqb b 0x65 || eqb b 0x45 then letter else wrong

-- after the whole digits: a point, or an e or E
unfoldable pub after_whole : ℕ → Stage
after_whole b = when eqb b 0x2E then point else after_fraction b

-- one byte further
unfoldable pub step : Stage → ℕ → Stage
step start b = when eqb b 0x2D then minus else leading b
step minus b = leading b
step leading_zero b = after_whole b
step whole b = when is_digit b then whole else after_whole b
step point b = when is_digit b then fraction else wrong
step fraction b = when is_digit b then fraction else after_fraction b
step letter b = when eqb b 0x2B || eqb b 0x2D then sign else when is_digit b then exponent else wrong
step sign b = when is_digit b then exponent else wrong
step exponent b = when is_digit b then exponent else wrong
step wrong b = wrong

-- a number may end here
unfoldable pub ends : Stage → Bool
ends start = false
ends minus = false
ends leading_zero = true
ends whole = true
ends point = false
ends fraction = true
ends letter = false
ends sign = false
ends exponent = true
ends wrong = false

-- the rest of a number that has come so far
unfoldable pub numeral : Stage → List ℕ → Bool
numeral stage [] = ends stage
numeral stage (b ∷ bs) = numeral (step stage b) bs

unfoldable pub is_number : List ℕ → Bool
is_number = numeral start
