-- Each lost probe, but the first of a flag word, shows that another pass has taken a slot meanwhile.
-- For such a probe is of a flag that was seen set there.
use Rattle.std.proofs.Common.{◌≡◌, ℕ, ◌+◌, ◌*◌, ◌<◌, ◌≤◌, Bool, true, false, cond, List, [], ◌∷◌, ◌++◌, refl, sym, ap}
use Rattle.std.proofs.Common.{◌∙◌, subst, ◌⊎◌, inl, inr, ⊎_elim, arith}
use Rattle.vbr_machine.specs.Start.{Start, IsStart}
use Rattle.vbr_words.specs.Flags.{word_of_flag, has_flag, IsNextFlag}
use Rattle.vbr_words.specs.declared.place.Place.TheVariants as place
use Rattle.vbr_machine.specs.declared.knowledge.SlotPlace.TheVariants.{Shared}
use Rattle.vbr_machine.specs.Gains.{gains}
use Rattle.vbr_machine.specs.Machine.{World, word_at, found}
use Rattle.vbr_machine.specs.Runs.{IsRun, world_after}
use Rattle.vbr_machine.specs.declared.event.Event.{Event}
use Rattle.vbr_machine.specs.declared.event.Step.TheVariants.{TakeFlag}
use Rattle.vbr_machine.proofs.Lemmas.{flag_shared, gains_grow, is_run_before, own_gains_uncounted, slot_gained}
use Rattle.vbr_machine.proofs.Lemmas.{unflagged, word_told, world_after-snoc}
use Rattle.vbr_slots.specs.views.Views.{Trace, Did, event_of}
use Rattle.vbr_at_table.specs.costs.Gained.{gained_by_now}
use Rattle.vbr_at_table.proofs.reads.Shown.{flag_shown, in_pool, out_of_pool}

-- the flag word of a slot, in what the pass has seen
abbrev pub flags_seen : Trace → ℕ → ℕ
flags_seen q s = found q.start (world_after q.start q.seen) (TakeFlag s)

-- so many probes were made since the word `from`, with so many words before slot 0 of this turn: no more than one
-- for each word before that of the next slot, one for each slot that others have taken out of the shared pool, and
-- one more where its flag was seen set in that word
abbrev pub Probed : Trace → ℕ → ℕ → ℕ → ℕ → Type 0
Probed q from turn used next = (from + used ≤ turn + word_of_flag next + gained_by_now q) ⊎
    ((from + used ≤ turn + word_of_flag next + gained_by_now q + 1) × (has_flag (flags_seen q next) next ≡ true))

module _ {q r : Trace} {slot n : ℕ} (is : IsStart q.start) (d : Did (TakeFlag slot) q r n)
    (low : slot < q.start.shape.slots) (lost : has_flag n slot ≡ false) where
  abbrev moment : List Event
  moment = q.seen ++ d.rest

  -- the word that was found stood there
  word_found : n ≡ found q.start (world_after q.start moment) (TakeFlag slot)
  word_found = word_told slot n (found q.start (world_after q.start moment) (TakeFlag slot)) (flag_shown d) lost

  unset : has_flag (found q.start (world_after q.start moment) (TakeFlag slot)) slot ≡ false
  unset = subst (λ (w : ℕ). has_flag w slot ≡ false) word_found lost

  else_kept : (t : Bool) (a b : World) → t ≡ false → cond t a b ≡ b
  else_kept t a b e = ap (λ (u : Bool). cond u a b) e

  -- a flag that is lost leaves the world as it was
  world_kept : world_after r.start r.seen ≡ world_after q.start moment
  world_kept =
      ap (λ (start : Start). world_after start r.seen) d.same.1
      ∙ ap (world_after q.start) d.seen
      ∙ world_after-snoc q.start moment (event_of q.who (TakeFlag slot))
      ∙ else_kept (has_flag (found q.start (world_after q.start moment) (TakeFlag slot)) slot) _
      (world_after q.start moment) unset

  word_kept : (s : ℕ) → word_of_flag s ≡ word_of_flag slot → flags_seen r s ≡ n
  word_kept s e =
      ap (λ (start : Start). found start (world_after r.start r.seen) (TakeFlag s)) d.same.1
      ∙ ap (λ (w : World). found q.start w (TakeFlag s)) world_kept
      ∙ ap (λ (number : ℕ). word_at q.start (world_after q.start moment) (place.Flags number)) e
      ∙ sym word_found

  -- what others have taken by then
  counted : gained_by_now r ≡ gains q.start moment q.who
  counted =
      (λ i. gains (d.same.1 i) r.seen (d.same.3 i))
      ∙ ap (λ (l : List Event). gains q.start l q.who) d.seen
      ∙ own_gains_uncounted q.start moment (event_of q.who (TakeFlag slot))

  grown : gained_by_now q ≤ gained_by_now r
  grown = let more = gains_grow q.start q.seen moment q.who (d.rest, refl) in omega (arith, more, counted)

  -- a slot that was in the shared pool, and is lost, was won by another
  pub shared_lost : (world_after q.start q.seen).place slot ≡ Shared → gained_by_now q < gained_by_now r
  shared_lost was =
      let ok : IsRun q.start q.passes (moment ++ event_of q.who (TakeFlag slot) ∷ []) =
      subst (IsRun q.start q.passes) d.seen d.is_run in
      let out = out_of_pool _ (unflagged q.start (world_after q.start moment) slot slot low refl unset) in
      let more = slot_gained q.start q.passes q.seen d.rest q.who slot is
      (is_run_before q.start q.passes moment (event_of q.who (TakeFlag slot) ∷ []) ok) d.none was out in
      omega (arith, more, counted)

  -- so it is of a flag that was seen set
  won_by_other : has_flag (flags_seen q slot) slot ≡ true → gained_by_now q < gained_by_now r
  won_by_other set = shared_lost (in_pool _ (flag_shared q.start (world_after q.start q.seen) slot set))

  -- a slot whose flag is set in the word that was found is in the shared pool then
  pub shown_shared : (s : ℕ) → word_of_flag s ≡ word_of_flag slot → has_flag n s ≡ true →
      (world_after r.start r.seen).place s ≡ Shared
  shown_shared s e set =
      in_pool _ (flag_shared r.start (world_after r.start r.seen) s
      (ap (λ (w : ℕ). has_flag w s) (found_there ∙ word_kept s e) ∙ set))
    where
      found_there : found r.start (world_after r.start r.seen) (TakeFlag s) ≡ flags_seen r s
      found_there = refl

  -- so many probes were made before it at the most
  pub probed_lost : (from turn used : ℕ) → Probed q from turn used slot →
      from + used ≤ turn + word_of_flag slot + gained_by_now r
  probed_lost from turn used probing =
      ⊎_elim (λ (first : from + used ≤ turn + word_of_flag slot + gained_by_now q). omega (arith, first, grown))
      (λ (again : (from + used ≤ turn + word_of_flag slot + gained_by_now q + 1) ×
      (has_flag (flags_seen q slot) slot ≡ true)).
      (let more = won_by_other again.1 in let most = again.0 in omega (arith, most, more))) probing

  -- after it, either the next one was seen set in the same word, or the next word comes
  pub probed_next : (from turn used next : ℕ) → Probed q from turn used slot → IsNextFlag n slot next →
      Probed r from turn (used + 1) next
  probed_next from turn used next probing then = next_of then.place
    where
      before : from + used ≤ turn + word_of_flag slot + gained_by_now r
      before = probed_lost from turn used probing

      next_of : ((word_of_flag next ≡ word_of_flag slot) × (has_flag n next ≡ true)) ⊎
          ((n ≡ 0) × (next ≡ 64 * (word_of_flag slot + 1))) → Probed r from turn (used + 1) next
      next_of (inl here) =
          let same = here.0 in
          inr (
            omega (arith, before, same),
            subst (λ (w : ℕ). has_flag w next ≡ true) (sym (word_kept next here.0)) here.1,
          )
      next_of (inr past) = let e = past.1 in inl (omega (arith, before, e))

-- no more probes were made than one for each word up to that of the next slot, and one for each slot that others
-- have taken
pub probed_few : (q : Trace) (from turn used slot : ℕ) → Probed q from turn used slot →
    from + used ≤ turn + word_of_flag slot + gained_by_now q + 1
probed_few q from turn used slot probing =
    ⊎_elim (λ (first : from + used ≤ turn + word_of_flag slot + gained_by_now q). omega (arith, first))
    (λ (again : (from + used ≤ turn + word_of_flag slot + gained_by_now q + 1) ×
    (has_flag (flags_seen q slot) slot ≡ true)). again.0) probing
