-- What errors print.
use Rattle.std.specs.Prelude.{ℕ, List, codes}
use Rattle.vbr_slots.specs.declared.opening.OpenError.{OpenError}
use Rattle.vbr_slots.specs.declared.opening.OpenError.TheVariants.{Passes, Memory}
use Rattle.vbr_slots.specs.declared.opening.OpenManyError.{OpenManyError}
use Rattle.vbr_slots.specs.declared.opening.OpenManyError.TheVariants as many
use Rattle.vbr_slots.specs.declared.close_error.CloseError.{CloseError}
use Rattle.vbr_slots.specs.declared.close_error.CloseError.TheVariants as close

-- what is printed of an opening that is refused
abbrev pub open_error_text : OpenError → List ℕ
open_error_text Passes = codes "the number of passes is not from 1 to 64"
open_error_text Memory = codes "there is no memory for the table"

-- and of one for many passes
abbrev pub open_many_error_text : OpenManyError → List ℕ
open_many_error_text many.Passes = codes "the number of passes is not from 1 to 65536"
open_many_error_text many.Memory = codes "there is no memory for the table"

-- what is printed of a closing that is refused
abbrev pub close_error_text : {T : Type 0} → CloseError T → List ℕ
close_error_text (close.Missing closed passes) = codes "there are fewer passes than were opened"
close_error_text (close.Memory closed passes) = codes "there is no memory to close it"
