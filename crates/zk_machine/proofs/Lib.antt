pub mod DraftLaws
pub mod EditLaws
pub mod EntryLaws
pub mod FaultLaws
pub mod GroupLaws
pub mod MultiLaws
pub mod StoredEntries
pub mod WholeTrees
