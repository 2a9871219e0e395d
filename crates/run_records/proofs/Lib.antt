mod EndLemmas
mod CallLemmas
