pub mod Down
pub mod Inverse
pub mod LeafByLeaf
pub mod Leaves
pub mod Tiles
