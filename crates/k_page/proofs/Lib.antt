mod Adding
mod Escaping
mod Lines
mod PageParts
mod Pieces
mod Reading
