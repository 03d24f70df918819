-- How a set or a map is renewed: it is closed, and a fresh one opens with what it had.
use Rattle.std.specs.Prelude.{◌≡◌, List}
use Rattle.vbr_slots.specs.views.Views.{PassView, TableView}
use Rattle.vbr_set.specs.reports.Closing.{ClosesBy}
use Rattle.vbr_set.specs.reports.Kinds.{KindOf}
use Rattle.vbr_set.specs.declared.renew_error.RenewError.{RenewError}
use Rattle.vbr_set.specs.declared.renew_error.RenewError.TheVariants.{Missing, Memory, Closed}

module _ {Item R : Type 0} (kind : KindOf Item R) where
  -- it is closed, with the report that its close gives, and the new one opens with what this report lists, which is what the calls of all passes leave in the old one; otherwise its shape is the same, and so is its number of passes
  pub record RenewsBy (t : TableView) (passes : List PassView) (new : TableView) : Type 0 where
    pub report : R
    pub closes : ClosesBy kind t passes report
    pub start : new.start ≡ kind.with_items t.start (kind.contents report).listed.items
    pub count : new.passes ≡ t.passes

  -- if a renewal is refused, the table and the passes come back as they were; or it is closed, and the report is the report of its close
  abbrev pub IsUnrenewedBy : RenewError TableView R → TableView → List PassView → Type 0
  IsUnrenewedBy (Missing t ps) table passes = (t ≡ table) × (ps.items ≡ passes)
  IsUnrenewedBy (Memory t ps) table passes = (t ≡ table) × (ps.items ≡ passes)
  IsUnrenewedBy (Closed report) table passes = ClosesBy kind table passes report

-- passes are missing; the other errors are that there is no memory
abbrev pub LacksPasses : {S R : Type 0} → RenewError S R → Type 0
LacksPasses (Missing t ps) = Unit {0}
LacksPasses (Memory t ps) = ⊥
LacksPasses (Closed report) = ⊥
