-- What an add makes of the notes, and of the totals, where its step is sure; and laws on plain lists that the functions' proofs cite.
pub mod OneMore
pub mod Sharing
pub mod Noting
pub mod Growing
pub mod Marking
