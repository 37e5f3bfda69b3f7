mod Found
mod Room
mod SameText
