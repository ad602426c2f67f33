-- The theorems of the protocol, for every n and b, and what they rest on.

-- document 01's cases, and the history behind demand 3's premise, computed
pub mod ByHand
pub mod AlteredBlocks
-- loops, lists of stores and where they are cut, blocks, labels
pub mod Loops
pub mod Iterations
pub mod Sums
pub mod RegionBlocks
pub mod Stores
pub mod Lists
pub mod Blocks
pub mod Labels
pub mod States
-- soundness, refusals, outcomes, and the set that a restart names
pub mod Soundness
pub mod Refusals
pub mod Outcomes
pub mod Naming
pub mod Finder
-- what the labels of a cabinet back, and what its disks hold against the reference contents
pub mod Backing
pub mod MoveStores
pub mod Consistency
pub mod Moves
pub mod Reference
-- stores that keep soundness
pub mod FitStores
-- what each call preserves, with its stores cut anywhere
pub mod NotRefused
pub mod Preservation
pub mod LiveMoves
pub mod StorelessCalls
pub mod BlockReads
pub mod Writes
pub mod Joins
pub mod Swaps
pub mod Cleans
pub mod Restarts
pub mod Calls
-- fresh and the saved form
pub mod Formatting
pub mod Assembling
pub mod Saving
-- lists of calls
pub mod History
pub mod Invariant
pub mod RestartResults
pub mod Demand3
pub mod ReadsRight
pub mod WritesCount
pub mod WriteBound
pub mod CleanClaims
pub mod RestartClaims
pub mod StoreOrder
pub mod JoinClaims
pub mod Returns
pub mod ReachClaims
pub mod SwapsBlank
pub mod Reasons
pub mod Diagnoses
pub mod SoundnessKept
