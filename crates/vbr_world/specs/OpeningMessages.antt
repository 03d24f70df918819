-- What a refused opening prints.
use Rattle.std.specs.Prelude.{ℕ, List, codes}
use Rattle.vbr_world.specs.declared.world.WorldRefusal.{WorldRefusal}
use Rattle.vbr_world.specs.declared.world.WorldRefusal.TheVariants.{Passes, NoMemory}

-- of an opening
abbrev pub opening_text : WorldRefusal → List ℕ
opening_text Passes = codes "the number of passes is not from 1 to 64"
opening_text NoMemory = codes "there is no memory for the world"
