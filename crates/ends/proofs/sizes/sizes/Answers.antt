-- `sizes`: at each letter the bytes that it has. Assumes nothing.
use mathlib.Core.Path.{refl}
use Rattle.format.specs.Conditions.{among}
use Rattle.format.specs.Marks.{integers, types, is_scalar, 'B', 'C', 'D', 'F', 'I', 'L', 'M', 'T', 'U', 'Z', 'd', 'h', 'i', 'l', 'm', 'u'}
use Rattle.ends.proofs.EndLaws.{sizes_none, sizes-set}
use Rattle.ends.proofs.sizes.sizes.Goals as goal

pub returns : goal.returns
unfolding is_scalar types integers among
returns c =
    sizes-set 'D' _ refl c.small_size-16.ensures
    (sizes-set 'M' _ refl c.small_size-15.ensures
    (sizes-set 'L' _ refl c.small_size-14.ensures
    (sizes-set 'd' _ refl c.small_size-13.ensures
    (sizes-set 'm' _ refl c.small_size-12.ensures
    (sizes-set 'l' _ refl c.small_size-11.ensures
    (sizes-set 'h' _ refl c.small_size-10.ensures
    (sizes-set 'u' _ refl c.small_size-9.ensures
    (sizes-set 'I' _ refl c.small_size-8.ensures
    (sizes-set 'C' _ refl c.small_size-7.ensures
    (sizes-set 'B' _ refl c.small_size-6.ensures
    (sizes-set 'U' _ refl c.small_size-5.ensures
    (sizes-set 'i' _ refl c.small_size-4.ensures
    (sizes-set 'F' _ refl c.small_size-3.ensures
    (sizes-set 'T' _ refl c.small_size-2.ensures
    (sizes-set 'Z' _ refl c.small_size.ensures
    sizes_none)))))))))))))))
