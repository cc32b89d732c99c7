-- `last_fastest`: the number of the indexes before the one reached. Assumes nothing.
use Prim.Native.Nat.{min}
use mathlib.Core.Path.{◌≡◌, ap, ◌∙◌}
use mathlib.Core.List.{◌∷◌, []}
use lib.ListN.{length, length-append}
use native.Mathlib.Omega.{arith}
use Rattle.std.proofs.lemmas.Slice.Zip.{zip_turn, zip_end}
use Rattle.std.specs.Iterator.Adapters.{zip_first, zip_second}
use Rattle.std.specs.Slice.Iter.{iter_rest}
use Rattle.indexes.proofs.Numbers.{range_length, range_at, counted_on, counted_end}
use Rattle.indexes.proofs.last_fastest.Goals as goal

pub loop-extent-preserved : goal.loop-extent-preserved
loop-extent-preserved c =
    let first : iter_rest (zip_first c.into_iter-extent-iterator.result) ≡ c.args.extents.now = ap (λ z. iter_rest (zip_first z)) c.into_iter-extent-iterator.ensures.into_iter_gives ∙ ap iter_rest c.zip-extent-items.ensures.first ∙ c.iter.ensures.rest in
    let second : iter_rest (zip_second c.into_iter-extent-iterator.result) ≡ c.args.indexes.now = ap (λ z. iter_rest (zip_second z)) c.into_iter-extent-iterator.ensures.into_iter_gives ∙ c.zip-extent-items.ensures.second.0 in
    let turn = zip_turn c.args.extents.now c.args.indexes.now c.loop-extent.yielded _ _ c.next.new.self c.next.result first second c.loop-extent.yielded_by _ c.in-Some.is c.next.ensures.steps in
    rw (length-append c.loop-extent.yielded ((c.in-Some.extent, c.in-Some.index) ∷ []))
    (counted_on _ _ _ _ c.loop-extent.invariant turn.0 turn.1 (omega (arith, range_at _ _ _ c.requires turn.0)) _ (rw (← turn.2 0, ← turn.3 0) c.longer-number.ensures))

pub returns : goal.returns
returns c =
    let first : iter_rest (zip_first c.into_iter-extent-iterator.result) ≡ c.args.extents.now = ap (λ z. iter_rest (zip_first z)) c.into_iter-extent-iterator.ensures.into_iter_gives ∙ ap iter_rest c.zip-extent-items.ensures.first ∙ c.iter.ensures.rest in
    let second : iter_rest (zip_second c.into_iter-extent-iterator.result) ≡ c.args.indexes.now = ap (λ z. iter_rest (zip_second z)) c.into_iter-extent-iterator.ensures.into_iter_gives ∙ c.zip-extent-items.ensures.second.0 in
    let n : length c.loop-extent.yielded ≡ min (length c.args.extents.now) (length c.args.indexes.now) = zip_end c.args.extents.now c.args.indexes.now c.loop-extent.yielded _ _ c.next.new.self c.next.result first second c.loop-extent.yielded_by c.in-None.is c.next.ensures.steps in
    counted_end _ _ _ _ c.loop-extent.invariant (omega (arith, range_length _ _ c.requires))
