-- A lost try of a reserve, but the first of a word, shows that another pass took a slot.
use Rattle.std.proofs.Common.{◌≡◌, ◌≢◌, ℕ, ◌+◌, ◌*◌, ◌<◌, ◌≤◌, true, false, List, [], ◌∷◌, ◌++◌, length}
use Rattle.std.proofs.Common.{Option, Some, None, refl, sym, ap, ◌∙◌, subst, inl, inr, arith}
use Rattle.std.specs.Prelude.{◌⊎◌}
use Rattle.std.proofs.lemmas.Bool.{cases_Bool}
use Rattle.vbr_words.specs.Flags.{flag_words, has_flag, word_of_flag}
use Rattle.vbr_machine.specs.Gains.{gains}
use Rattle.vbr_machine.specs.Machine.{World, found, is_shared}
use Rattle.vbr_machine.specs.Runs.{IsRun, world_after}
use Rattle.vbr_machine.specs.Start.{Start, IsStart}
use Rattle.vbr_machine.specs.declared.event.Event.{Event}
use Rattle.vbr_machine.specs.declared.event.Step.TheVariants.{TakeFlag}
use Rattle.vbr_machine.specs.declared.knowledge.SlotPlace.TheVariants.{Own, Shared}
use Rattle.vbr_machine.proofs.Lemmas.{by_both, gains_grow, is_run_before, own_gains_uncounted, put_other, slot_gained}
use Rattle.vbr_machine.proofs.Lemmas.{world_after-snoc}
use Rattle.vbr_slots.specs.steps.Calls.{Quiet}
use Rattle.vbr_slots.specs.views.Views.{Did, PassView, Trace, event_of}
use Rattle.vbr_slots.proofs.Lemmas.{did_quiet}
use Rattle.vbr_at_table.specs.costs.Gained.{gained_by_now}
use Rattle.vbr_at_table.specs.pools.Reserving.{IsNextToTry, may_be_set}
use Rattle.vbr_at_table.specs.pools.SharedPool.{WasOutside}
use Rattle.vbr_at_table.proofs.flags.Probing.{shared_lost, shown_shared}
use Rattle.vbr_at_table.proofs.reads.Shown.{in_pool, missed, missed_after, missed_before, out_of_pool}

-- ---- a slot that was in the shared pool, while the pass takes another

module _ {q r : Trace} {slot n : ℕ} (d : Did (TakeFlag slot) q r n) where
  -- what others have taken by then
  counted : gained_by_now r ≡ gains q.start (q.seen ++ d.rest) q.who
  counted =
      (λ i. gains (d.same.1 i) r.seen (d.same.3 i))
      ∙ ap (λ (l : List Event). gains q.start l q.who) d.seen
      ∙ own_gains_uncounted q.start (q.seen ++ d.rest) (event_of q.who (TakeFlag slot))

  pub by_now_on : gained_by_now q ≤ gained_by_now r
  by_now_on =
      let more = gains_grow q.start q.seen (q.seen ++ d.rest) q.who (d.rest, refl) in
      let all = counted in
      omega (arith, more, all)

  place_kept : (s : ℕ) → s ≢ slot →
      (world_after r.start r.seen).place s ≡ (world_after q.start (q.seen ++ d.rest)).place s
  place_kept s other =
      let w = world_after q.start (q.seen ++ d.rest) in
      ap (λ (start : Start). (world_after start r.seen).place s) d.same.1
      ∙ ap (λ (l : List Event). (world_after q.start l).place s) d.seen
      ∙ ap (λ (v : World). v.place s) (world_after-snoc q.start (q.seen ++ d.rest) (event_of q.who (TakeFlag slot)))
      ∙ by_both (has_flag (found q.start w (TakeFlag slot)) slot) (λ (v : World). v.place s) _ w (w.place s)
      (put_other w.place slot (Own q.who) s other) refl

  -- it is there still, or another pass has taken a slot
  pub still_shared : IsStart q.start → (s : ℕ) → s ≢ slot → (world_after q.start q.seen).place s ≡ Shared →
      ((world_after r.start r.seen).place s ≡ Shared) ⊎ (gained_by_now q < gained_by_now r)
  still_shared is s other was = go (cases_Bool (is_shared ((world_after q.start (q.seen ++ d.rest)).place s)))
    where
      ok : IsRun q.start q.passes ((q.seen ++ d.rest) ++ event_of q.who (TakeFlag slot) ∷ [])
      ok = subst (IsRun q.start q.passes) d.seen d.is_run

      go : (is_shared ((world_after q.start (q.seen ++ d.rest)).place s) ≡ true) ⊎
          (is_shared ((world_after q.start (q.seen ++ d.rest)).place s) ≡ false) →
          ((world_after r.start r.seen).place s ≡ Shared) ⊎ (gained_by_now q < gained_by_now r)
      go (inl there) = inl (place_kept s other ∙ in_pool _ there)
      go (inr gone) =
          let more = slot_gained q.start q.passes q.seen d.rest q.who s is
          (is_run_before q.start q.passes (q.seen ++ d.rest) (event_of q.who (TakeFlag slot) ∷ []) ok) d.none was
          (out_of_pool _ gone) in
          let all = counted in
          inr (omega (arith, more, all))

-- ---- tries in a row

-- so many tries were made on the way from one slot to the next one, and nothing was shown of its flag word: no more
-- than one for each slot that was taken, one for each word before it, and one for each slot that others have taken
pub record Unseen (p q : PassView) (from next used : ℕ) : Type 0 where
  pub few : used + word_of_flag from + length p.pool + gained_by_now p.trace
      ≤ length q.pool + word_of_flag next + gained_by_now q.trace

-- or a lost try showed its word: one more; and each slot of it whose flag was set then, from the next one on, is in
-- the shared pool, or another pass has taken a slot since
pub record Seen (p q : PassView) (from to next word used : ℕ) : Type 0 where
  pub since : ℕ
  pub by_now : since ≤ gained_by_now q.trace
  pub few : used + word_of_flag from + length p.pool + gained_by_now p.trace
      ≤ length q.pool + word_of_flag next + since + 1
  pub low : word_of_flag next < flag_words to
  pub here : has_flag word next ≡ true
  pub unset : (s : ℕ) → s < p.trace.start.shape.slots → word_of_flag s ≡ word_of_flag next → has_flag word s ≡ false →
      WasOutside p.trace q.trace s
  pub set : (s : ℕ) → word_of_flag s ≡ word_of_flag next → next ≤ s → has_flag word s ≡ true →
      ((world_after q.trace.start q.trace.seen).place s ≡ Shared) ⊎ (since < gained_by_now q.trace)

abbrev pub AreCounted : PassView → PassView → ℕ → ℕ → ℕ → Option ℕ → ℕ → Type 0
AreCounted p q from to next None used = Unseen p q from next used
AreCounted p q from to next (Some word) used = Seen p q from to next word used

-- ---- one that is won

module _ (p q r : PassView) (from to used : ℕ) {slot n : ℕ} (is : IsStart q.trace.start)
    (d : Did (TakeFlag slot) q.trace r.trace n) (longer : length r.pool ≡ length q.pool + 1) where
  won_unseen : (next : ℕ × Option ℕ) → Unseen p q from slot used → IsNextToTry slot None next →
      AreCounted p r from to next.0 next.1 (used + 1)
  won_unseen next u behind = go behind.place
    where
      go : ((word_of_flag next.0 ≡ word_of_flag slot) × (may_be_set None next.0 ≡ true) × (next.1 ≡ None)) ⊎
          ((next.0 ≡ 64 * (word_of_flag slot + 1)) × (next.1 ≡ None)) → AreCounted p r from to next.0 next.1 (used + 1)
      go (inl here) =
          let few = u.few in
          let more = by_now_on d in
          let same = here.0 in
          subst (λ (o : Option ℕ). AreCounted p r from to next.0 o (used + 1)) (sym here.2)
          (record { few = omega (arith, few, more, same, longer) })
      go (inr past) =
          let few = u.few in
          let more = by_now_on d in
          let at = past.0 in
          subst (λ (o : Option ℕ). AreCounted p r from to next.0 o (used + 1)) (sym past.1)
          (record { few = omega (arith, few, more, at, longer) })

  won_seen : (next : ℕ × Option ℕ) (word : ℕ) → Seen p q from to slot word used → IsNextToTry slot (Some word) next →
      AreCounted p r from to next.0 next.1 (used + 1)
  won_seen next word s behind = go behind.place
    where
      go : ((word_of_flag next.0 ≡ word_of_flag slot) × (may_be_set (Some word) next.0 ≡ true) ×
          (next.1 ≡ Some word)) ⊎ ((next.0 ≡ 64 * (word_of_flag slot + 1)) × (next.1 ≡ None)) →
          AreCounted p r from to next.0 next.1 (used + 1)
      go (inl here) =
          let few = s.few in
          let more = by_now_on d in
          let same = here.0 in
          let low = s.low in
          let by_now = s.by_now in
          subst (λ (o : Option ℕ). AreCounted p r from to next.0 o (used + 1)) (sym here.2)
          (record {
            since = s.since;
            by_now = omega (arith, by_now, more);
            few = omega (arith, few, same, longer);
            low = omega (arith, low, same);
            here = here.1;
            unset = λ k in_shape e f.
                missed_before (s.unset k in_shape (e ∙ here.0) f) (did_quiet d (λ know. refl));
            set = λ k e above f.
                after_it k (let first = behind.above in omega (arith, above, first))
                (s.set k (e ∙ here.0) (let first = behind.above in omega (arith, above, first)) f);
          })
        where
          after_it : (k : ℕ) → slot < k →
              ((world_after q.trace.start q.trace.seen).place k ≡ Shared) ⊎ (s.since < gained_by_now q.trace) →
              ((world_after r.trace.start r.trace.seen).place k ≡ Shared) ⊎ (s.since < gained_by_now r.trace)
          after_it k less (inl shared) =
              then (still_shared d is k (λ same. omega (arith, less, same)) shared)
            where
              then : ((world_after r.trace.start r.trace.seen).place k ≡ Shared) ⊎
                  (gained_by_now q.trace < gained_by_now r.trace) →
                  ((world_after r.trace.start r.trace.seen).place k ≡ Shared) ⊎ (s.since < gained_by_now r.trace)
              then (inl there) = inl there
              then (inr more) = inr (let by_now = s.by_now in omega (arith, more, by_now))
          after_it k less (inr gone) = inr (let more = by_now_on d in omega (arith, gone, more))
      go (inr past) =
          let few = s.few in
          let more = by_now_on d in
          let at = past.0 in
          let by_now = s.by_now in
          subst (λ (o : Option ℕ). AreCounted p r from to next.0 o (used + 1)) (sym past.1)
          (record { few = omega (arith, few, more, at, by_now, longer) })

  pub counted_won : (shown : Option ℕ) (next : ℕ × Option ℕ) → AreCounted p q from to slot shown used →
      IsNextToTry slot shown next → AreCounted p r from to next.0 next.1 (used + 1)
  counted_won None next u behind = won_unseen next u behind
  counted_won (Some word) next s behind = won_seen next word s behind

-- ---- one that is lost

module _ (p q r : PassView) (from to used : ℕ) {slot n : ℕ} (is : IsStart q.trace.start) (quiet : Quiet p.trace q.trace)
    (d : Did (TakeFlag slot) q.trace r.trace n) (lost : has_flag n slot ≡ false)
    (low : slot < q.trace.start.shape.slots) (below : slot < to) (same_pool : length r.pool ≡ length q.pool) where
  -- it is paid by a slot that another pass has taken, or is the first of its word
  paid : (shown : Option ℕ) → AreCounted p q from to slot shown used →
      used + 1 + word_of_flag from + length p.pool + gained_by_now p.trace
      ≤ length q.pool + word_of_flag slot + gained_by_now r.trace + 1
  paid None u = let few = u.few in let more = by_now_on d in omega (arith, few, more)
  paid (Some word) s = go (s.set slot refl (omega arith) s.here)
    where
      go : ((world_after q.trace.start q.trace.seen).place slot ≡ Shared) ⊎ (s.since < gained_by_now q.trace) →
          used + 1 + word_of_flag from + length p.pool + gained_by_now p.trace
          ≤ length q.pool + word_of_flag slot + gained_by_now r.trace + 1
      go (inl shared) =
          let few = s.few in
          let by_now = s.by_now in
          let more = shared_lost is d low lost shared in
          omega (arith, few, by_now, more)
      go (inr gone) = let few = s.few in let more = by_now_on d in omega (arith, few, gone, more)

  pub counted_lost : (shown : Option ℕ) (next : ℕ × Option ℕ) → AreCounted p q from to slot shown used →
      IsNextToTry slot (Some n) next → AreCounted p r from to next.0 next.1 (used + 1)
  counted_lost shown next before behind = go behind.place
    where
      go : ((word_of_flag next.0 ≡ word_of_flag slot) × (may_be_set (Some n) next.0 ≡ true) × (next.1 ≡ Some n)) ⊎
          ((next.0 ≡ 64 * (word_of_flag slot + 1)) × (next.1 ≡ None)) → AreCounted p r from to next.0 next.1 (used + 1)
      go (inl here) =
          let few = paid shown before in
          let same = here.0 in
          subst (λ (o : Option ℕ). AreCounted p r from to next.0 o (used + 1)) (sym here.2)
          (record {
            since = gained_by_now r.trace;
            by_now = omega arith;
            few = omega (arith, few, same, same_pool);
            low = omega (arith, below, same);
            here = here.1;
            unset = λ k in_shape e f.
                missed_after quiet
                (missed d lost k
                (subst (λ (start : Start). k < start.shape.slots) (sym quiet.same.start) in_shape) (e ∙ here.0) f);
            set = λ k e above f. inl (shown_shared is d low lost k (e ∙ here.0) f);
          })
      go (inr past) =
          let few = paid shown before in
          let at = past.0 in
          subst (λ (o : Option ℕ). AreCounted p r from to next.0 o (used + 1)) (sym past.1)
          (record { few = omega (arith, few, at, same_pool) })

-- ---- at the end
