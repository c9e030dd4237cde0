pub mod FieldTexts
pub mod FormReads
pub mod RecordLaws
