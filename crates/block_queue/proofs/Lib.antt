mod ListLemmas
mod GroupLemmas
