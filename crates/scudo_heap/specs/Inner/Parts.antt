-- A heap as the code keeps it, next to the heap of the definitions.
use Rattle.scudo_heap.specs.declared.parts.HeapParts.{HeapParts}
use Rattle.scudo_heap.specs.Heaps.{HeapState, heap_of}

-- The heap of the cookie, the stacks and the mappings that the code keeps.
abbrev pub heap_in : HeapParts → HeapState
heap_in p = heap_of p.cookie p.stacks p.maps
