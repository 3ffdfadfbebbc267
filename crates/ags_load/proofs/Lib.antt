mod TextLemmas
mod LengthLemmas
