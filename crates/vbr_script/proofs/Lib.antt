mod Numerals
mod Splitting
mod PhasedScripts
mod LinesRead
