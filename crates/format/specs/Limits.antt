-- 01, "Limits".
use Rattle.std.specs.Prelude.{ℕ}

-- a message's bytes, and each length, count, dimension and product of dimensions
abbrev pub limit : ℕ
limit = 1_048_576

-- request No. 1: an extension's id
abbrev pub id_limit : ℕ
id_limit = 4_294_967_295

-- a record's bytes
abbrev pub record_limit : ℕ
record_limit = 65_536

-- dimensions: 1 to so many
abbrev pub dimension_limit : ℕ
dimension_limit = 8

-- value nesting, the outermost container being 1
abbrev pub value_levels : ℕ
value_levels = 32

-- schema nesting, the outer schema being 1
abbrev pub schema_levels : ℕ
schema_levels = 8
