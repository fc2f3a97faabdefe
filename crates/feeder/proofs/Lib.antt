-- The lemmas on the words of a command line.
mod Longer
