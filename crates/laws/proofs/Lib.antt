-- Theorems about the definitions of `paper`, in the order in which they build on each other. `Demand3` is what they are for.

-- lists, strings, bits
pub mod Tables
pub mod Made
pub mod Fronts
pub mod Placed
pub mod Counts
pub mod Xor
pub mod Strings
pub mod Digits
pub mod BitStrings
pub mod BitBytes
pub mod Bitwise
pub mod WordBits
pub mod Exchange
pub mod Padding
pub mod Joins
-- FIPS 197, section 7, and the block function of Figure 6
pub mod Multiples
pub mod Round
pub mod BlockFunction
pub mod AesBlocks
pub mod KeyBlocks
pub mod Linear
-- headers, the hash and the prf
pub mod Headers
pub mod BadEntries
pub mod HashBlocks
pub mod Hash
-- AEZ-tiny and AEZ-core, both ways
pub mod Feistel
pub mod LastStep
pub mod Tiny
pub mod CoreParts
pub mod CoreBlocks
pub mod CoreResult
pub mod CoreInverse
pub mod Ciphers
-- sealing and opening
pub mod Sealing
pub mod Demand3
pub mod Counting
pub mod Accepted
-- the day file
pub mod DayNumbers
pub mod DaySteps
pub mod DayWritten
pub mod DayReading
pub mod DayPlaces
pub mod DayLists
-- pauses and the ledger
pub mod PauseSteps
pub mod PauseParts
pub mod Means
pub mod Decimals
pub mod LedgerSums
-- a day cleared and grown
pub mod Picks
pub mod DayCleared
pub mod DayGrown
