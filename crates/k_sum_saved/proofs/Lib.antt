pub mod OneReading
pub mod Rising
pub mod SumBounds
