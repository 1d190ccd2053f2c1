-- What is known of a salvaged file. Each file says what it proves.
pub mod Parts
pub mod Opened
pub mod TextsAgain
pub mod Opens
pub mod Sound
pub mod TableAgain
pub mod Moved
pub mod Carried
pub mod KeptAgain
pub mod PlainOld
pub mod PlainlyKept
pub mod Again
pub mod FieldsAlike
pub mod Alike
pub mod LookedAlike
pub mod DescribedAlike
pub mod SameLookups
pub mod Answered
mod Worked
