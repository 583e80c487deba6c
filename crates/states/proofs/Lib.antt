pub mod SlotLaws
pub mod StateLaws
