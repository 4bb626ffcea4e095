pub mod CutLaws
pub mod TokenLaws
