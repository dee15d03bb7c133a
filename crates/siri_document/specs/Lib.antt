-- What a run over one document tells and leaves.
pub mod OneDocument
pub mod script
