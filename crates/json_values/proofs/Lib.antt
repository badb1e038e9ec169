pub mod Plain
pub mod Lists
pub mod ItemLemmas
pub mod LeafLaws
pub mod ShapeLaws
pub mod ReadAgain
pub mod TokenLemmas
