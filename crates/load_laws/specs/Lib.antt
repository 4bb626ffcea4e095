pub mod OneReading
pub mod OneAnswer
