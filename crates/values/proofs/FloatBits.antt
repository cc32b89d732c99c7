-- Floats from bits: a pattern is a NaN's exactly where it lies above an infinity's, the sign's bit dropped. Assumes nothing.
use Prim.Native.Nat.{ℕ, ◌*◌, ◌%◌, ◌≤◌, ◌<◌}
use mathlib.Core.Path.{◌≡◌, sym, ap, subst, ◌∙◌}
use mathlib.Core.Bool.{true, false, not}
use lib.Dec.{T}
use lib.Ieee.{Format, ones, hid, top, is_nan, nan_bits, of_bits, to_bits}
use lib.Ieee.Bits.{nan_bits_is, nan_bits_above, to_bits-of_bits}
use borrow.Author.Tests.{lt-ltb, le-ltb}

module _ (f : Format) (b : ℕ) where
  -- above an infinity
  pub is_nan_lem : ones f * hid f < b % top f → nan_bits f b ≡ true
  is_nan_lem h = nan_bits_above f b ∙ lt-ltb (ones f * hid f) (b % top f) h

  module _ (h : b % top f ≤ ones f * hid f) where
    no_nan : nan_bits f b ≡ false
    no_nan = nan_bits_above f b ∙ le-ltb (ones f * hid f) (b % top f) h

    -- what the code may read
    pub readable : T (not (nan_bits f b))
    readable = rw no_nan tt

    pub is_number : not (is_nan (of_bits f b)) ≡ true
    is_number = ap not (sym (nan_bits_is f b) ∙ no_nan)

    -- its bits are those that were read
    pub same_bits : b < 2 * top f → to_bits f (of_bits f b) ≡ b
    same_bits l = to_bits-of_bits f b l (subst T (sym is_number) tt)
