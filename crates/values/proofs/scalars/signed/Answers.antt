-- `signed`: below the weight of the sign's bit the number is itself. Assumes nothing.
use Prim.Native.Nat.{◌<◌, ◌^◌}
use mathlib.Core.Path.{◌∙◌}
use native.Mathlib.Omega.{arith}
use mir.Syntax.{w64}
use mir.Facts.{to_z_pos}
use Rattle.values.proofs.Signs.{signed_weight, below_is, lower, positive, negative}
use Rattle.values.proofs.scalars.signed.Goals as goal

pub overflow_mul-half : goal.overflow_mul-half
overflow_mul-half c =
    let k = signed_weight _ _ c.requires.0 c.width-width.ensures in omega arith

pub overflow_sub-half : goal.overflow_sub-half
overflow_sub-half c =
    let k = signed_weight _ _ c.requires.0 c.width-width.ensures in omega arith

pub overflow_shl-half : goal.overflow_shl-half
overflow_shl-half c =
    let k = signed_weight _ _ c.requires.0 c.width-width.ensures in omega arith

pub overflow_cast-result : goal.overflow_cast-result
overflow_cast-result c =
    let k = signed_weight _ _ c.requires.0 c.width-width.ensures in record { sfits = omega arith }

pub returns-then-n-half : goal.returns-then-n-half
returns-then-n-half c =
    let k = signed_weight _ _ c.requires.0 c.width-width.ensures in
    to_z_pos w64 (omega arith) ∙ positive _ _ _ _ c.requires.0 c.width-width.ensures k c.if-n-half.true

pub overflow_sub-below : goal.overflow_sub-below
overflow_sub-below c =
    let k = signed_weight _ _ c.requires.0 c.width-width.ensures in omega arith

pub overflow_sub-below-3 : goal.overflow_sub-below-3
overflow_sub-below-3 c =
    let under : c.args.n < 256 ^ c.width-width.result = rw c.width-width.ensures c.requires.1 in
    let k = signed_weight _ _ c.requires.0 c.width-width.ensures in let u = under in omega arith

pub overflow_cast-result-2 : goal.overflow_cast-result-2
overflow_cast-result-2 c =
    let k = signed_weight _ _ c.requires.0 c.width-width.ensures in record { sfits = omega arith }

pub returns : goal.returns
returns c =
    let k = signed_weight _ _ c.requires.0 c.width-width.ensures in
    below_is _ (lower _ _ _ k) ∙ negative _ _ _ _ c.requires.0 c.width-width.ensures k c.if-n-half.false
