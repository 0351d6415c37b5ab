pub mod LinePieces
