-- `in_range`: each index before the one reached is below its extent. Assumes nothing.
use Prim.Native.Nat.{min}
use mathlib.Core.Path.{◌≡◌, sym, ap, ◌∙◌}
use mathlib.Core.List.{◌∷◌, []}
use lib.ListN.{length, length-append}
use native.Mathlib.Omega.{arith}
use Rattle.std.proofs.lemmas.Slice.Zip.{zip_turn, zip_end}
use Rattle.std.specs.Iterator.Adapters.{zip_first, zip_second}
use Rattle.std.specs.Slice.Iter.{iter_rest}
use Rattle.indexes.proofs.Numbers.{lengths_differ, range_on, range_off, range_end}
use Rattle.indexes.proofs.in_range.Goals as goal

pub returns-then-extents-indexes : goal.returns-then-extents-indexes
returns-then-extents-indexes c =
    sym (lengths_differ _ _ c.if-extents-indexes.true)

pub returns-then-extent-index : goal.returns-then-extent-index
returns-then-extent-index c =
    let first : iter_rest (zip_first c.into_iter-extent-iterator.result) ≡ c.args.extents.now = ap (λ z. iter_rest (zip_first z)) c.into_iter-extent-iterator.ensures.into_iter_gives ∙ ap iter_rest c.zip-extent-items.ensures.first ∙ c.iter.ensures.rest in
    let second : iter_rest (zip_second c.into_iter-extent-iterator.result) ≡ c.args.indexes.now = ap (λ z. iter_rest (zip_second z)) c.into_iter-extent-iterator.ensures.into_iter_gives ∙ c.zip-extent-items.ensures.second.0 in
    let turn = zip_turn c.args.extents.now c.args.indexes.now c.loop-extent.yielded _ _ c.next.new.self c.next.result first second c.loop-extent.yielded_by _ c.in-Some.is c.next.ensures.steps in
    sym (c.loop-extent.invariant ∙ range_off _ _ _ turn.0 turn.1 (rw (← turn.2 0, ← turn.3 0) c.if-extent-index.true))

pub loop-extent-preserved : goal.loop-extent-preserved
loop-extent-preserved c =
    let first : iter_rest (zip_first c.into_iter-extent-iterator.result) ≡ c.args.extents.now = ap (λ z. iter_rest (zip_first z)) c.into_iter-extent-iterator.ensures.into_iter_gives ∙ ap iter_rest c.zip-extent-items.ensures.first ∙ c.iter.ensures.rest in
    let second : iter_rest (zip_second c.into_iter-extent-iterator.result) ≡ c.args.indexes.now = ap (λ z. iter_rest (zip_second z)) c.into_iter-extent-iterator.ensures.into_iter_gives ∙ c.zip-extent-items.ensures.second.0 in
    let turn = zip_turn c.args.extents.now c.args.indexes.now c.loop-extent.yielded _ _ c.next.new.self c.next.result first second c.loop-extent.yielded_by _ c.in-Some.is c.next.ensures.steps in
    rw (length-append c.loop-extent.yielded ((c.in-Some.extent, c.in-Some.index) ∷ [])) (c.loop-extent.invariant ∙ range_on _ _ _ turn.0 turn.1 (rw (← turn.2 0, ← turn.3 0) c.if-extent-index.false))

pub returns : goal.returns
returns c =
    let first : iter_rest (zip_first c.into_iter-extent-iterator.result) ≡ c.args.extents.now = ap (λ z. iter_rest (zip_first z)) c.into_iter-extent-iterator.ensures.into_iter_gives ∙ ap iter_rest c.zip-extent-items.ensures.first ∙ c.iter.ensures.rest in
    let second : iter_rest (zip_second c.into_iter-extent-iterator.result) ≡ c.args.indexes.now = ap (λ z. iter_rest (zip_second z)) c.into_iter-extent-iterator.ensures.into_iter_gives ∙ c.zip-extent-items.ensures.second.0 in
    let n : length c.loop-extent.yielded ≡ min (length c.args.extents.now) (length c.args.indexes.now) = zip_end c.args.extents.now c.args.indexes.now c.loop-extent.yielded _ _ c.next.new.self c.next.result first second c.loop-extent.yielded_by c.in-None.is c.next.ensures.steps in
    sym (c.loop-extent.invariant ∙ range_end c.args.extents.now c.args.indexes.now (length c.loop-extent.yielded) (omega arith) (omega arith))
