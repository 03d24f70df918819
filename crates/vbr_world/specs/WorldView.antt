-- What contracts see of the world in lists.
use Rattle.vbr_world.specs.declared.world.lists.Lists.TheInside.{Inside}
use Rattle.vbr_world.specs.WorldInLists.{KeptWorld}

-- what contracts see
abbrev pub kept_in : Inside → KeptWorld
kept_in w =
    record {
      start = w.start;
      epoch = w.epoch;
      heads = w.heads.items;
      links = w.links.items;
      birth = w.birth.items;
      stamps = w.stamps.items;
      keys = w.keys.items;
      values = w.values.items;
      places = w.places.items;
      passes = w.passes.items;
      births = w.births;
      calls = w.calls.items;
    }
