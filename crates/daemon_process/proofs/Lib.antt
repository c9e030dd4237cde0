mod FramesSent
mod LinesPrinted
mod NextRound
mod RoundEnds
