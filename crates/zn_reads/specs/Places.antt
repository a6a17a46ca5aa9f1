-- The keys of a path of a setWatches, as the code keeps them.
use Rattle.zn_reads.specs.declared.set_watches.Place.{Place as Kept}
use Rattle.zn_reads.specs.SeenPaths.{Place}

abbrev pub place_of : Kept → Place
place_of x = (x.data, x.counts)
