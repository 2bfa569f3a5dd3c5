-- What ties a reader to a relation of the grammar, and how such ties are joined: one after the other, one or the other.
pub mod Choice
pub mod Combine
pub mod Heads
pub mod InOrder
pub mod KindLaws
pub mod Leaves
pub mod Readers
pub mod Rearranged
pub mod Regroup
