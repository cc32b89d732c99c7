-- What the structs of the C calls hold for each outcome: zero where a refusal answers nothing.
use Rattle.std.specs.Prelude.{ℕ, suc, ◌-◌, ◌^◌, true, false, pos, negsuc}
use Rattle.format.specs.Outcome.{Outcome, fault, done, number_of, place_of, or_zero}
use Rattle.format.specs.Tokens.{kind_number}
use Rattle.format.specs.Values as Values
use Rattle.structs.specs.declared.answers.Reading.{Reading}
use Rattle.structs.specs.declared.answers.Place.{Place}
use Rattle.structs.specs.declared.answers.Member.{Member}
use Rattle.structs.specs.declared.answers.Scalar.{Scalar}

-- number and place, and the rows used or the bytes written
abbrev pub reading_for : Outcome ℕ → Reading
reading_for o = record { number = number_of o; place = place_of o; amount = or_zero o }

-- the number, and a slot's or a text's first byte and width
abbrev pub place_for : Outcome (ℕ × ℕ) → Place
place_for (fault n p) = record { number = n; first = 0; width = 0 }
place_for (done s) = record { number = 0; first = s.0; width = s.1 }

-- the number, and a row
abbrev pub member_for : Outcome ℕ → Member
member_for o = record { number = number_of o; row = or_zero o }

-- the cases of a value, counted from null
abbrev pub case_for : Values.Value → ℕ
case_for Values.null = 0
case_for (Values.boolean b) = 1
case_for (Values.signed z) = 2
case_for (Values.unsigned n) = 3
case_for (Values.single b) = 4
case_for (Values.double b) = 5
case_for (Values.char c) = 6
case_for (Values.byte b) = 7

-- its bits: a true boolean is 1, and a negative number is in two's complement of 64 bits
abbrev pub bits_for : Values.Value → ℕ
bits_for Values.null = 0
bits_for (Values.boolean false) = 0
bits_for (Values.boolean true) = 1
bits_for (Values.signed (pos n)) = n
bits_for (Values.signed (negsuc n)) = 2 ^ 64 - suc n
bits_for (Values.unsigned n) = n
bits_for (Values.single b) = b
bits_for (Values.double b) = b
bits_for (Values.char c) = c
bits_for (Values.byte b) = b

-- the number, and a value's kind, case and bits
abbrev pub scalar_for : Outcome Values.Scalar → Scalar
scalar_for (fault n p) = record { number = n; kind = 0; case = 0; bits = 0 }
scalar_for (done s) = record { number = 0; kind = kind_number s.kind; case = case_for s.value; bits = bits_for s.value }
