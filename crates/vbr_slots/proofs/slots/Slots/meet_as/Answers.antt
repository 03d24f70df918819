use Rattle.std.proofs.Common.{[], ◌∷◌, refl, sym, ap, ◌∙◌, subst}
use Rattle.vbr_machine.specs.declared.event.Step.TheVariants.{ReadEpoch}
use Rattle.vbr_words.specs.declared.place.Place.TheVariants.{Epoch}
use Rattle.vbr_machine.specs.Runs.{BeginsFor}
use Rattle.vbr_slots.specs.runs.Rule.{witness, opened_of}
use Rattle.vbr_slots.specs.views.Views.{Trace}
use Rattle.vbr_slots.proofs.steps.Learning.{shows_itself}
use Rattle.vbr_slots.proofs.seats.Seats.{splits_whole, splits_first, joins}
use Rattle.vbr_machine.specs.Machine.{Load}
use Rattle.vbr_slots.proofs.words.Packed.{tells_plain, writes_plain}
use Rattle.vbr_slots.proofs.steps.Steps.{asks, known, low_of, done, stays_sound, did, seen_in, together, left_alone}
use Rattle.vbr_slots.proofs.steps.Steps.{right_rest, same_again, wide}
use Rattle.vbr_slots.proofs.slots.Slots.meet_as.Goals as goal

pub split_seat-theirs-requires : goal.split_seat-theirs-requires
split_seat-theirs-requires g c = (
  ap (λ (v : Trace). v.table) c.other.view_is ∙ (c.requires.other.0 ∙ sym (ap (λ p. p.table) c.self.view_is)),
  wide c.self.inside c.self.invariant,
  splits_whole _ _ _,
)

pub join_seat-requires : goal.join_seat-requires
join_seat-requires g c =
    let home = sym (ap (λ p. p.table) c.self.view_is) in
    let s = c.split_seat-theirs.ensures in (
      ap (λ (v : Trace). v.table) c.runner.view_is ∙ (c.requires.own.0 ∙ home),
      s.3 ∙ ap (λ (v : Trace). v.table) c.other.view_is ∙ (c.requires.other.0 ∙ home),
      ap (λ m. m.1) s.4,
      wide c.self.inside c.self.invariant,
      joins _ _ _ _ _,
    )

pub load-found-requires : goal.load-found-requires
load-found-requires g c =
    let w = c.args.runner.now in
    let o = c.args.other.now in
    let both = together _ _ c.runner.inside.seat.me c.other.inside.seat.me c.split_seat-theirs.result.me
    c.join_seat.new.seat.me (known c.runner.inside w c.runner.invariant c.runner.view_is)
    (known c.other.inside o c.other.invariant c.other.view_is) c.split_seat-theirs.ensures.4 c.join_seat.ensures.2 in
    let low = low_of c.runner.inside w c.runner.invariant c.runner.view_is in
    asks c.self.inside c.args.self.now c.self.invariant c.self.view_is w low c.requires.own _
    (c.join_seat.ensures.0 ∙ ap (λ (v : Trace). v.table) c.runner.view_is) _ c.join_seat.new.seat.me
    (witness (opened_of o.start) o.who o.seen ∷ [])
    both ReadEpoch _ _ c.requires.named Epoch _ (λ n. n) (λ n. n) c.place_index_in-word.ensures.index refl
    (writes_plain c.self.inside.opening.shape Epoch Load (λ n. n) tt (λ n. refl))
    (tells_plain c.self.inside.opening.shape Epoch ReadEpoch (λ n. n) tt (shows_itself ReadEpoch))
    (record { in_shape = tt; owned = tt; held = tt; in_range = tt; below_last = tt })

pub split_seat-requires : goal.split_seat-requires
split_seat-requires g c =
    let home = sym (ap (λ p. p.table) c.self.view_is) in (
      c.load-found.ensures.0 ∙ c.join_seat.ensures.0 ∙ ap (λ (v : Trace). v.table) c.runner.view_is
          ∙ (c.requires.own.0 ∙ home),
      wide c.self.inside c.self.invariant,
      splits_first _ _ _,
    )

pub invariant_of-runner : goal.invariant_of-runner
invariant_of-runner g c =
    let w = c.args.runner.now in
    let o = c.args.other.now in
    let both = together _ _ c.runner.inside.seat.me c.other.inside.seat.me c.split_seat-theirs.result.me
    c.join_seat.new.seat.me (known c.runner.inside w c.runner.invariant c.runner.view_is)
    (known c.other.inside o c.other.invariant c.other.view_is) c.split_seat-theirs.ensures.4 c.join_seat.ensures.2 in
    let end = done w c.args.self.now c.requires.own c.join_seat.new.seat.me c.load-found.new.seat.me
    (witness (opened_of o.start) o.who o.seen ∷ []) both ReadEpoch _ _ c.requires.named _ c.load-found.ensures.2 in
    stays_sound c.runner.inside w c.runner.invariant c.runner.view_is ReadEpoch _ _ _ end
    (record c.runner.inside { seat = c.split_seat.new.seat; epoch = c.keep_epoch.new.epoch })
    (left_alone c.load-found.new.seat.me _ _ _ end.now c.split_seat.ensures.2) (refl, refl, c.keep_epoch.ensures)

pub invariant_of-other : goal.invariant_of-other
invariant_of-other g c =
    let both = together _ _ c.runner.inside.seat.me c.other.inside.seat.me c.split_seat-theirs.result.me
    c.join_seat.new.seat.me (known c.runner.inside c.args.runner.now c.runner.invariant c.runner.view_is)
    (known c.other.inside c.args.other.now c.other.invariant c.other.view_is) c.split_seat-theirs.ensures.4
    c.join_seat.ensures.2 in
    let end = done c.args.runner.now c.args.self.now c.requires.own c.join_seat.new.seat.me c.load-found.new.seat.me
    (witness (opened_of c.args.other.now.start) c.args.other.now.who c.args.other.now.seen ∷ []) both ReadEpoch _ _
    c.requires.named _ c.load-found.ensures.2 in
    let table = c.split_seat.ensures.3 ∙ c.load-found.ensures.0 ∙ c.join_seat.ensures.0
    ∙ ap (λ (v : Trace). v.table) c.runner.view_is ∙ c.requires.own.0 ∙ sym c.requires.other.0 in
    (same_again c.other.inside c.args.other.now c.other.invariant c.other.view_is
    (record c.other.inside { seat = c.split_seat.result })
    (right_rest c.load-found.new.seat.me _ _ _ end.now c.split_seat.ensures.4) (refl, refl, refl) table).0

pub returns : goal.returns
returns g c =
    let w = c.args.runner.now in
    let both = together _ _ c.runner.inside.seat.me c.other.inside.seat.me c.split_seat-theirs.result.me
    c.join_seat.new.seat.me (known c.runner.inside w c.runner.invariant c.runner.view_is)
    (known c.other.inside c.args.other.now c.other.invariant c.other.view_is) c.split_seat-theirs.ensures.4
    c.join_seat.ensures.2 in
    let end = done w c.args.self.now c.requires.own c.join_seat.new.seat.me c.load-found.new.seat.me
    (witness (opened_of c.args.other.now.start) c.args.other.now.who c.args.other.now.seen ∷ []) both ReadEpoch _ _
    c.requires.named _ c.load-found.ensures.2 in
    let table = c.load-found.ensures.0 ∙ c.join_seat.ensures.0 in
    let back = c.split_seat.ensures.3 ∙ table ∙ ap (λ (v : Trace). v.table) c.runner.view_is ∙ c.requires.own.0
    ∙ sym c.requires.other.0 in
    let mine = left_alone c.load-found.new.seat.me c.split_seat.new.seat.me _ _ end.now c.split_seat.ensures.2 in
    record {
      step = did c.runner.inside w c.runner.invariant c.runner.view_is ReadEpoch _ _ _ end
          (record c.runner.inside { seat = c.split_seat.new.seat; epoch = c.keep_epoch.new.epoch })
          mine (refl, refl, c.keep_epoch.ensures) (c.split_seat.ensures.0 ∙ table);
      same = (same_again c.other.inside c.args.other.now c.other.invariant c.other.view_is
          (record c.other.inside { seat = c.split_seat.result })
          (right_rest c.load-found.new.seat.me _ _ _ end.now c.split_seat.ensures.4) (refl, refl, refl) back).1;
      met = subst (λ es. BeginsFor c.args.other.now.who c.args.other.now.seen es)
          (sym (seen_in c.split_seat.new.seat.me _ [] mine)) end.mates.0;
    }
