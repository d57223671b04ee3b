-- What is proved of the calls. An auditor reads this folder after the definitions in `paper/specs`.
pub mod Demands
pub mod Numbers
pub mod Lengths
pub mod AcceptedStrings
pub mod LogHeaders
pub mod BadEntries
pub mod ReadFiles
pub mod DayFiles
pub mod EditedDays
pub mod Determined
pub mod Composes
pub mod Pauses
pub mod SealedPauses
