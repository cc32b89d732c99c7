-- Where an answer is an enum: 01's number and values for each of its cases, as an outcome. Done is number 0.
use Rattle.std.specs.Prelude.{ℕ, ◌≡◌, ◌≢◌, Bool, true, not, Result, Ok, Err}
use Rattle.std.specs.Float.{binary32, binary64}
use Rattle.std.specs.Float.Ieee.{to_bits, is_nan, nan_bits}
use Rattle.format.specs.Outcome.{Outcome, fault, done}
use Rattle.format.specs.Refusals.{message_too_long, ends_too_early, not_allowed, wrong_content, over_limit, wrong_integer, too_deep, no_row_left, bytes_after, not_there, output_too_long, rows_dont_fit, not_built}
use Rattle.format.specs.Grammars.{Grammar, old, new}
use Rattle.format.specs.Tokens as Tokens
use Rattle.format.specs.Tokens.{kind_number}
use Rattle.format.specs.Addresses.{Region}
use Rattle.format.specs.Values as Values
use Rattle.format.specs.declared.refusals.Refusal.{Refusal}
use Rattle.format.specs.declared.refusals.Refusal.TheVariants.{MessageTooLong, EndsTooEarly, NotAllowed, WrongContent, OverLimit, WrongInteger, TooDeep, NoRowLeft, BytesAfter, NotThere, OutputTooLong, RowsDontFit, NotBuilt}
use Rattle.format.specs.declared.refusals.Refused.{Refused}
use Rattle.format.specs.declared.answers.Span.{Span}
use Rattle.format.specs.declared.answers.Edition.{Edition}
use Rattle.format.specs.declared.answers.Edition.TheVariants.{Old, New}
use Rattle.format.specs.declared.answers.Kind.{Kind}
use Rattle.format.specs.declared.answers.Kind.TheVariants.{Scalar, Text, HighPrecision, Key, Array, Object, Packed, Table, Leaf, SchemaRecord, FixedArray, Dimension, Extension}
use Rattle.format.specs.declared.answers.UnknownKind.{UnknownKind}
use Rattle.format.specs.declared.answers.Value.{Value}
use Rattle.format.specs.declared.answers.Value.TheVariants.{Null, Boolean, Signed, Unsigned, Single, SingleNan, Double, DoubleNan, Char, Byte}
use Rattle.format.specs.declared.answers.Token.{Token}

-- a refusal's number
abbrev pub refusal_number : Refusal → ℕ
refusal_number MessageTooLong = message_too_long
refusal_number EndsTooEarly = ends_too_early
refusal_number NotAllowed = not_allowed
refusal_number WrongContent = wrong_content
refusal_number OverLimit = over_limit
refusal_number WrongInteger = wrong_integer
refusal_number TooDeep = too_deep
refusal_number NoRowLeft = no_row_left
refusal_number BytesAfter = bytes_after
refusal_number NotThere = not_there
refusal_number OutputTooLong = output_too_long
refusal_number RowsDontFit = rows_dont_fit
refusal_number NotBuilt = not_built

-- a refusal with its place
abbrev pub refused : {A : Type 0} → Refused → Outcome A
refused r = fault (refusal_number r.0) r.1

-- the reader's: the rows used, or number and place; the rewriter's: the bytes written, or number and place
abbrev pub answered : Result ℕ Refused → Outcome ℕ
answered (Ok n) = done n
answered (Err r) = refused r

-- an address's or a text's: first byte and width, or the number
abbrev pub located : Result Span Refusal → Outcome (ℕ × ℕ)
located (Ok s) = done (s.first, s.width)
located (Err r) = fault (refusal_number r) 0

-- what it is compared with: the region without its mark
unfoldable pub first_and_width : Outcome Region → Outcome (ℕ × ℕ)
first_and_width (fault n p) = fault n p
first_and_width (done s) = done (s.first, s.wide)

-- lookup's: the row, or the number
abbrev pub found : Result ℕ Refusal → Outcome ℕ
found (Ok n) = done n
found (Err r) = fault (refusal_number r) 0

-- the grammar that an edition stands for
abbrev pub grammar_of : Edition → Grammar
grammar_of Old = old
grammar_of New = new

-- the kind that a case stands for
abbrev pub kind_of : Kind → Tokens.Kind
kind_of Scalar = Tokens.scalar
kind_of Text = Tokens.text
kind_of HighPrecision = Tokens.high_precision
kind_of Key = Tokens.key
kind_of Array = Tokens.array
kind_of Object = Tokens.object
kind_of Packed = Tokens.packed
kind_of Table = Tokens.table
kind_of Leaf = Tokens.leaf
kind_of SchemaRecord = Tokens.schema_record
kind_of FixedArray = Tokens.fixed_array
kind_of Dimension = Tokens.dimension
kind_of Extension = Tokens.extension

-- the kind that has this number; or none has it
abbrev pub KindNumbered : ℕ → Result Kind UnknownKind → Type 0
KindNumbered n (Ok k) = kind_number (kind_of k) ≡ n
KindNumbered n (Err e) = (k : Tokens.Kind) → kind_number k ≢ n

-- the value that a case stands for: singles and doubles by their bits
abbrev pub value_of : Value → Values.Value
value_of Null = Values.null
value_of (Boolean b) = Values.boolean b
value_of (Signed z) = Values.signed z
value_of (Unsigned n) = Values.unsigned n
value_of (Single x) = Values.single (to_bits binary32 x)
value_of (SingleNan b) = Values.single b
value_of (Double x) = Values.double (to_bits binary64 x)
value_of (DoubleNan b) = Values.double b
value_of (Char c) = Values.char c
value_of (Byte b) = Values.byte b

-- f32 and f64 hold no NaN: its bits are in a case of their own, and no other bits are
abbrev pub nan_apart : Value → Bool
nan_apart Null = true
nan_apart (Boolean b) = true
nan_apart (Signed z) = true
nan_apart (Unsigned n) = true
nan_apart (Single x) = not (is_nan x)
nan_apart (SingleNan b) = nan_bits binary32 b
nan_apart (Double x) = not (is_nan x)
nan_apart (DoubleNan b) = nan_bits binary64 b
nan_apart (Char c) = true
nan_apart (Byte b) = true

-- a value call's: kind and value, or the number
abbrev pub valued : Result Token Refusal → Outcome Values.Scalar
valued (Ok t) = done (record { kind = kind_of t.kind; value = value_of t.value })
valued (Err r) = fault (refusal_number r) 0
