-- The shape is the one at which the list is worked.
use Rattle.std.proofs.Common.{◌≡◌, ◌≢◌, ℕ, Bool, min, ap, sym, subst}
use Rattle.std.specs.Prelude.{if◌then◌else◌}
use Rattle.std.proofs.lemmas.Bool.{ne_eqb}
use Rattle.vbr_words.specs.Dimensions.{Dimensions}
use Rattle.vbr_words.specs.Packing.{max_epoch}
use Rattle.vbr_words.specs.Shapes.{last_epoch_for}
use Rattle.vbr_words.specs.declared.shape.TheConstants.{MAX_EPOCH}
use Rattle.vbr_machine.specs.Start.{empty_start}
use Rattle.vbr_machine.specs.Machine.{opening}
use Rattle.vbr_event_lists.specs.Worked.{AreWorked}
use Rattle.vbr_table_tests.proofs.listed_calls.table_after.Goals as goal

-- any last epoch but MAX_EPOCH is what is asked for
plain_epoch : (slots asked : ℕ) → asked ≢ MAX_EPOCH → last_epoch_for slots asked ≡ asked
plain_epoch slots asked other =
    ap (λ (b : Bool). if b then min asked (max_epoch slots) else asked) (ne_eqb asked MAX_EPOCH other)

pub table_of-requires-clause-worked : goal.table_of-requires-clause-worked
table_of-requires-clause-worked g c =
    let whole = rw (plain_epoch c.args.numbers.0 c.args.numbers.1 c.requires.plain) at
    (rw c.in-Ok.is at c.shape_of.ensures.whole) in
    subst (λ (d : Dimensions). AreWorked (empty_start d) (opening (empty_start d)) c.args.rows.now c.args.words.now)
    (sym whole) c.requires.worked
