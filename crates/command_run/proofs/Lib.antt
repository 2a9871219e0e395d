mod ReplayLemmas
