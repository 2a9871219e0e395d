mod CourseLemmas
mod MemoryLemmas
