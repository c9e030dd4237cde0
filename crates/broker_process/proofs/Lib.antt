mod MountingLemmas
mod PlayingLemmas
mod ServingSteps
mod Telling
mod WritingSteps
