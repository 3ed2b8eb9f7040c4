pub mod Loop
pub mod Answers
pub mod Sections
pub mod FunctionLines
pub mod SectionViews
pub mod Partitions
