-- The next slot of the word, or the one at which the shifted word has its lowest flag.
use Rattle.std.proofs.Common.{ℕ, ◌+◌, ◌*◌, ◌/◌, Option, None, sym, ◌∙◌, subst, arith}
use Rattle.vbr_at_table.specs.pools.Reserving.{IsNextToTry}
use Rattle.vbr_at_table.proofs.flags.TopUps.{behind_last, behind_next, behind_past, behind_unseen}
use Rattle.vbr_at_table.proofs.reserving.behind.Goals.{in-None, in-Some}
use Rattle.vbr_at_table.proofs.reserving.behind.Goals as goal

pub returns-then-next-past : goal.returns-then-next-past
returns-then-next-past c =
    let P : Option ℕ × Option ℕ × ℕ → Type 0 = λ x. IsNextToTry c.args.slot x.0 (c.args.slot + 1 + x.2, x.1) in
    let low = c.if-next-past.true in
    elim c.match-shown.branch [
      | in-None w ↦ let none = w.between-is in
          subst P (λ i. (sym w.in-None.is i, sym (w.shown-is ∙ w.in-None.is) i, c.match-shown.between))
          (behind_unseen c.args.slot (c.args.slot + 1 + c.match-shown.between) (omega (arith, none))
          (omega (arith, low, none)))
      | in-Some w ↦ let is = w.between-is in
          subst P (λ i. (sym w.in-Some.is i, sym w.shown-is i, sym w.between-is i))
          (behind_next w.in-Some.word c.args.slot w.next_flag-between.result w.next_flag-between.ensures
          (omega (arith, low, is)))
    ]

pub returns-else-next-past : goal.returns-else-next-past
returns-else-next-past c =
    let P : Option ℕ → Type 0 = λ shown. IsNextToTry c.args.slot shown ((c.args.slot / 64 + 1) * 64, None) in
    let high = c.if-next-past.false in
    elim c.match-shown.branch [
      | in-None w ↦ let none = w.between-is in
          subst P (sym w.in-None.is) (behind_last c.args.slot (omega (arith, high, none)))
      | in-Some w ↦ let is = w.between-is in
          subst P (sym w.in-Some.is)
          (behind_past w.in-Some.word c.args.slot w.next_flag-between.result w.next_flag-between.ensures
          (omega (arith, high, is)))
    ]
