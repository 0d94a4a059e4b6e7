mod Pieces
mod Extents
mod Strings
