-- The cases of a scalar at a place and of a value at a row, in the order of their tests. Assumes nothing.
use Prim.Native.Nat.{ℕ, ◌<◌, ◌≤◌}
use mathlib.Core.Path.{◌≡◌}
use mathlib.Core.Bool.{true, false, ◌&&◌}
use mathlib.Core.List.{List}
use lib.ListN.{length}
use lib.Dec.{eqb}
use borrow.Author.Tests.{lt-ltb, le-ltb, eq-eqb, ne_eqb}
use Rattle.format.specs.Outcome.{fault, done, ◌>>◌, guard}
use Rattle.format.specs.Refusals.{rows_dont_fit}
use Rattle.format.specs.Marks.{is_scalar, width}
use Rattle.format.specs.Content.{is_content}
use Rattle.format.specs.Tokens.{Kind, scalar}
use Rattle.format.specs.Rows.{Row, row_at, rows_in}
use Rattle.format.specs.Bytes.{bytes, within}
use Rattle.format.specs.Addresses.{Region}
use Rattle.format.specs.Values.{value_of, scalar_at, value_at_row}

module _ (m : List ℕ) (kind : Kind) (due : ℕ) (s : Region) where
  pub no_mark : (is_scalar s.mark && eqb s.wide due) ≡ false → fault rows_dont_fit 0 ≡ scalar_at m kind due s
  unfolding scalar_at guard ◌>>◌
  no_mark e = rw e

  module _ (marked : (is_scalar s.mark && eqb s.wide due) ≡ true) where
    pub outside : within (length m) s.first s.wide ≡ false → fault rows_dont_fit 0 ≡ scalar_at m kind due s
    unfolding scalar_at guard ◌>>◌
    outside e = rw (marked, e)

    module _ (there : within (length m) s.first s.wide ≡ true) where
      pub no_content : is_content s.mark (bytes m s.first s.wide) ≡ false → fault rows_dont_fit 0 ≡ scalar_at m kind due s
      unfolding scalar_at guard ◌>>◌
      no_content e = rw (marked, there, e)

      pub read : is_content s.mark (bytes m s.first s.wide) ≡ true
          → done (record { kind = kind; value = value_of s.mark (bytes m s.first s.wide) }) ≡ scalar_at m kind due s
      unfolding scalar_at guard ◌>>◌
      read e = rw (marked, there, e)

module _ (m ws : List ℕ) (row : ℕ) where
  pub no_row : rows_in ws ≤ row → fault rows_dont_fit 0 ≡ value_at_row m ws row
  unfolding value_at_row guard ◌>>◌
  no_row h = rw (le-ltb row (rows_in ws) h)

  module _ (there : row < rows_in ws) (r : Row) (read : r ≡ row_at ws row) where
    pub other_kind : (r.kind ≡ 1 → ⊥) → fault rows_dont_fit 0 ≡ value_at_row m ws row
    unfolding value_at_row guard ◌>>◌
    other_kind n = rw (← read, lt-ltb row (rows_in ws) there, ne_eqb r.kind 1 n)

    pub scalar-row : r.kind ≡ 1 → scalar_at m scalar (width r.mark) (record { mark = r.mark; first = r.payload; wide = r.extent }) ≡ value_at_row m ws row
    unfolding value_at_row guard ◌>>◌
    scalar-row e = rw (← read, lt-ltb row (rows_in ws) there, eq-eqb r.kind 1 e)
