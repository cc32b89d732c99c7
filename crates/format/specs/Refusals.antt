-- 01, "Numbers given back", and the place that goes with each. 0 is done.
use Rattle.std.specs.Prelude.{ℕ}

-- message over the limit: 0
abbrev pub message_too_long : ℕ
message_too_long = 1

-- message ends too early: message length
abbrev pub ends_too_early : ℕ
ends_too_early = 2

-- byte not allowed here: that byte
abbrev pub not_allowed : ℕ
not_allowed = 3

-- content wrong (text, high-precision number, char over 127, boolean not `T` or `F`): its first byte; an extension's size: the `E`
abbrev pub wrong_content : ℕ
wrong_content = 4

-- over a limit: integer's mark; for a product or a record, the container's first byte
abbrev pub over_limit : ℕ
over_limit = 5

-- negative: integer's mark; 0 or over 8 dimensions: the `[` after `#`
abbrev pub wrong_integer : ℕ
wrong_integer = 6

-- too deep: the opening mark
abbrev pub too_deep : ℕ
too_deep = 7

-- no row left: the token's first byte
abbrev pub no_row_left : ℕ
no_row_left = 8

-- bytes after the value: the first that isn't `N`
abbrev pub bytes_after : ℕ
bytes_after = 9

-- address or name not there: 0
abbrev pub not_there : ℕ
not_there = 10

-- output longer than its room or than the limit: 0
abbrev pub output_too_long : ℕ
output_too_long = 11

-- rows don't fit the request; in C also an edition's number that names none: 0
abbrev pub rows_dont_fit : ℕ
rows_dont_fit = 12

-- schema form not built, `H`, or `[` followed by `$`: the `H` or `[`
abbrev pub not_built : ℕ
not_built = 13
