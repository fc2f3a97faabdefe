mod Floors
mod Halves
mod Above
mod SignedEnds
mod SignedUnits
