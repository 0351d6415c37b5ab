pub mod MarkLaws
pub mod SectionLaws
pub mod FileLaws
pub mod Turns
pub mod Heads
