mod TinyLemmas
