use Rattle.scudo_heap.proofs.OtherPages.{range_pages}
use Rattle.scudo_heap.proofs.CallSteps.{malloc_left, calloc_left, memalign_left, free_left, realloc_left}
use Rattle.scudo_heap.proofs.laws.calls_keep_other_pages.Goals as goal

pub returns-clause-pages : goal.returns-clause-pages
returns-clause-pages c = range_pages

pub returns-clause-malloc : goal.returns-clause-malloc
returns-clause-malloc c = λ w size v s. (malloc_left w size v s).others

pub returns-clause-calloc : goal.returns-clause-calloc
returns-clause-calloc c = λ w count size v s. (calloc_left w count size v s).others

pub returns-clause-memalign : goal.returns-clause-memalign
returns-clause-memalign c = λ w align size v s. (memalign_left w align size v s).others

pub returns-clause-free : goal.returns-clause-free
returns-clause-free c = λ w pointer v s. (free_left w pointer v s).others

pub returns-clause-realloc : goal.returns-clause-realloc
returns-clause-realloc c = λ w pointer size v s. (realloc_left w pointer size v s).others
