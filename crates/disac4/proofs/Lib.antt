-- The theorems on the protocol, each part above those that it stands on.

-- ---- Turns: which are allowed, what a list of them does, and what one that is not idle does
pub mod Fold
pub mod Allowed
pub mod Empty
pub mod Moves
-- ---- What is counted: messages by kind and on their way, sums over the workers, labels where they occur
pub mod ByKind
pub mod Channels
pub mod Workers
pub mod DomainSize
pub mod Occurrences
-- ---- The bound: a potential that every changing turn lowers
pub mod Potential
pub mod Bound
-- ---- The polls: what channels hold, and that closing is safe
pub mod Typed
pub mod Conservation
pub mod Replies
pub mod Expected
pub mod Closing
pub mod Quiet
pub mod Closed
pub mod Safety
-- ---- Progress: while the plan is open some turn changes something
pub mod IdleAction
pub mod GoesOn
-- ---- Labels flow once: deleted, sent, read, treated
pub mod Deleted
pub mod Steps
pub mod Flow
pub mod Treated
pub mod Found
pub mod Pending
pub mod Delivered
-- ---- The domains: counters, and that nothing of the largest domains is deleted
pub mod ByTreat
pub mod Final
pub mod Remaining
pub mod Counters
pub mod Largest
-- ---- The round closes every plan
pub mod Rounds
pub mod RoundRun
-- ---- The demands
pub mod Demands
-- ---- The numbers of a run: all of them fit a cell
pub mod RunNumbers
pub mod SendBound
pub mod PollBound
pub mod Answerable
pub mod WorkBound
pub mod QueueLengths
pub mod RunFits
-- ---- Idle turns stay idle while nothing touches them
pub mod Idle
-- ---- The outcome of a call: the order of its declines, and what it leaves
pub mod Order
pub mod Outcome
pub mod Tested
pub mod SamePlans
-- ---- The starred table
pub mod Worked
