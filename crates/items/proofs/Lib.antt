pub mod ItemCases
pub mod ItemLaws
pub mod ContainerCases
