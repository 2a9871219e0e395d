-- The chunks that remembered bounds keep.
use Rattle.heap_bounds.specs.KeptChunks.{KeptChunks}
use Rattle.heap_bounds.specs.declared.near_bounds.NearBounds.TheInside.{Inside}

abbrev pub near_chunks : Inside → KeptChunks
near_chunks f = f.bounds
