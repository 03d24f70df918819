-- A pool that is topped up: the way goes on from the slot that was tried last.
use Rattle.std.proofs.Common.{◌≡◌, ℕ, ◌+◌, ◌-◌, ◌*◌, ◌/◌, ◌%◌, ◌^◌, ◌<◌, ◌≤◌, ◌==◌, true, false, Some, None, length}
use Rattle.std.proofs.Common.{refl, sym, ap, ◌∙◌, subst, inl, inr, ⊎_elim, arith}
use Rattle.std.specs.Prelude.{◌⊎◌}
use Rattle.std.specs.Int.{bit_at}
use Rattle.std.proofs.Math.Nat.{div-div-eq-div-mul}
use Rattle.std.proofs.lemmas.Bool.{cases_lt}
use Rattle.std.proofs.lemmas.Nat.{pow-add}
use Rattle.vbr_words.specs.Flags.{IsNextFlag, has_flag, word_of_flag}
use Rattle.vbr_machine.specs.Start.{Start}
use Rattle.vbr_slots.specs.pools.Tried.{last_tried}
use Rattle.vbr_slots.specs.views.Views.{PassView}
use Rattle.vbr_at_table.specs.pools.Reserving.{IsAmongNext, IsNextToTry, IsMissed, ReservesFrom, TopsUp, most_kept}
use Rattle.vbr_at_table.proofs.epochs.Advancing.{longer}
use Rattle.vbr_at_table.proofs.flags.Reserves.{missed_on, missed_then, most_on, takes_on}

-- ---- the next flag of a word

-- the bits of a word that is shifted are the higher ones of the word
shifted : (n k i : ℕ) → bit_at (n / 2 ^ k) i ≡ bit_at n (k + i)
shifted n k i =
    ap (λ (x : ℕ). x % 2) (div-div-eq-div-mul n (2 ^ k) (2 ^ i) ∙ ap (λ (x : ℕ). n / x) (sym (pow-add 2 k i)))

-- and once more by one
shifted_once_more : (n k i : ℕ) → bit_at (n / 2 ^ k / 2) i ≡ bit_at n (k + 1 + i)
shifted_once_more n k i =
    shifted (n / 2 ^ k) 1 i ∙ shifted n k (1 + i) ∙ ap (λ (j : ℕ). bit_at n j) (omega arith)

-- the flags of the shifted word are those of the slots behind one in its word
flag_behind : (word slot s : ℕ) → slot < s → s < (slot / 64 + 1) * 64 →
    has_flag (word / 2 ^ (slot % 64) / 2) (s - slot - 1) ≡ has_flag word s
unfolding has_flag
flag_behind word slot s above below =
    let place : slot % 64 + 1 + (s - slot - 1) % 64 ≡ s % 64 = omega (arith, above, below) in
    ap (λ (d : ℕ). d == 1) (shifted_once_more word (slot % 64) ((s - slot - 1) % 64))
    ∙ ap (λ (i : ℕ). bit_at word i == 1) place

-- where nothing was shown, the next slot of the word comes, if there is one
pub behind_unseen : (slot next : ℕ) → next ≡ slot + 1 → next < (slot / 64 + 1) * 64 → IsNextToTry slot None (next, None)
behind_unseen slot next is low = record {
  above = omega (arith, is);
  none = λ s above below. absurd (omega (arith, above, below, is));
  place = inl (omega (arith, low, is), refl, refl);
}

pub behind_last : (slot : ℕ) → (slot / 64 + 1) * 64 ≤ slot + 1 → IsNextToTry slot None ((slot / 64 + 1) * 64, None)
behind_last slot last = record {
  above = omega arith;
  none = λ s above below. absurd (omega (arith, above, below, last));
  place = inr (omega arith, refl);
}

-- where the word was shown, the one at which the shifted word has its lowest flag
module _ (word slot behind : ℕ) (lowest : IsNextFlag (word / 2 ^ (slot % 64) / 2) 0 behind) where
  unset : (s : ℕ) → slot < s → s < slot + 1 + behind → s < (slot / 64 + 1) * 64 → has_flag word s ≡ false
  unset s above under below =
      sym (flag_behind word slot s above below)
      ∙ lowest.before (s - slot - 1) (omega (arith, above, below)) (omega (arith, above, under))

  pub behind_next : slot + 1 + behind < (slot / 64 + 1) * 64 → IsNextToTry slot (Some word) (slot + 1 + behind, Some word)
  behind_next low = record {
    above = omega arith;
    none = λ s above below. unset s above below (omega (arith, below, low));
    place = inl (omega (arith, low), set lowest.place, refl);
  }
    where
      set : ((word_of_flag behind ≡ word_of_flag 0) × (has_flag (word / 2 ^ (slot % 64) / 2) behind ≡ true)) ⊎
          ((word / 2 ^ (slot % 64) / 2 ≡ 0) × (behind ≡ 64 * (word_of_flag 0 + 1))) →
          has_flag word (slot + 1 + behind) ≡ true
      set (inl here) =
          let back : slot + 1 + behind - slot - 1 ≡ behind = omega arith in
          sym (flag_behind word slot (slot + 1 + behind) (omega arith) low)
          ∙ ap (has_flag (word / 2 ^ (slot % 64) / 2)) back ∙ here.1
      set (inr past) = let at = past.1 in absurd (omega (arith, at, low))

  pub behind_past : (slot / 64 + 1) * 64 ≤ slot + 1 + behind → IsNextToTry slot (Some word) ((slot / 64 + 1) * 64, None)
  behind_past past = record {
    above = omega arith;
    none = λ s above below. unset s above (omega (arith, below, past)) below;
    place = inr (omega arith, refl);
  }

-- ---- once round, or as far as the tries go

-- so many slots were passed in so many tries
abbrev Goes : PassView → PassView → ℕ → ℕ → ℕ → ℕ → Type 0
Goes p r full probes tries passed = (tries ≤ passed) ×
    ((slot : ℕ) → slot < p.trace.start.shape.slots → IsAmongNext p.trace passed slot → IsMissed p r slot) ×
    ((full ≤ length r.pool) ⊎ (tries ≡ probes) ⊎ (p.trace.start.shape.slots ≤ passed))

module _ {p q r : PassView} {slots full probes first second : ℕ} (low : last_tried p.trace < slots)
    (a : ReservesFrom p q (last_tried p.trace + 1) slots (full) probes first)
    (b : ReservesFrom q r 0 (last_tried p.trace + 1) (full) (probes - first) second)
    (is : slots ≡ p.trace.start.shape.slots) where
  -- the tries went over to slot 0
  over : slots ≤ a.next → Goes p r (full) probes (first + second) (slots - (last_tried p.trace + 1) + b.next)
  over past =
      let tries = a.tries in let more = b.tries in let within = a.within in let few = b.few in (
        omega (arith, within, few),
        λ slot in_shape among. ⊎_elim
            (λ (here : (last_tried p.trace < slot) ×
            (slot ≤ last_tried p.trace + (slots - (last_tried p.trace + 1) + b.next))). missed_on p
            (a.each slot in_shape (let above = here.0 in omega (arith, above)) (omega (arith, in_shape, past, is)))
            b.takes)
            (λ (round : slot + p.trace.start.shape.slots
            ≤ last_tried p.trace + (slots - (last_tried p.trace + 1) + b.next)). missed_then r a.takes
            (b.each slot (subst (λ (s : Start). slot < s.shape.slots) (sym a.takes.quiet.same.start) in_shape)
            (omega arith) (omega (arith, round, is, low))))
            among,
        ⊎_elim (λ full. inl full)
            (λ rest. inr
            (⊎_elim (λ (all : probes - first ≤ second). inl (omega (arith, all, tries, more)))
            (λ (round : last_tried p.trace + 1 ≤ b.next). inr (omega (arith, round, is, low))) rest)) b.ends,
      )

  -- they ended before
  under : a.next < slots → Goes p r (full) probes (first + second) (a.next - (last_tried p.trace + 1))
  under short =
      let tries = a.tries in let more = b.tries in let few = a.few in
      let none : second ≡ 0 =
      ⊎_elim (λ full. b.idle full)
      (λ rest. ⊎_elim (λ (all : probes ≤ first). omega (arith, all, more))
      (λ (end : slots ≤ a.next). absurd (omega (arith, end, short))) rest) a.ends in (
        omega (arith, few, none),
        λ slot in_shape among. ⊎_elim
            (λ (here : (last_tried p.trace < slot) × (slot ≤ last_tried p.trace + (a.next - (last_tried p.trace + 1)))).
            (let above = here.0 in
            let below = here.1 in
            missed_on p (a.each slot in_shape (omega (arith, above)) (omega (arith, above, below, few))) b.takes))
            (λ (round : slot + p.trace.start.shape.slots ≤ last_tried p.trace + (a.next - (last_tried p.trace + 1))).
            absurd (omega (arith, round, is, short, few)))
            among,
        ⊎_elim (λ (enough : full ≤ length q.pool).
            inl (let longer = longer q r b.takes.grows in omega (arith, enough, longer)))
            (λ rest. inr
            (⊎_elim (λ (all : probes ≤ first). inl (omega (arith, all, tries, none)))
            (λ (end : slots ≤ a.next). absurd (omega (arith, end, short))) rest)) a.ends,
      )

  goes : (passed : ℕ) × Goes p r (full) probes (first + second) passed
  goes = ⊎_elim (λ short. (a.next - (last_tried p.trace + 1), under short))
      (λ past. (slots - (last_tried p.trace + 1) + b.next, over past)) (cases_lt a.next slots)

-- a pool that was topped up in two ways
pub tops_up : {p q r : PassView} {slots wanted probes taken first second : ℕ} → last_tried p.trace < slots →
    ReservesFrom p q (last_tried p.trace + 1) slots (most_kept wanted) probes first →
    ReservesFrom q r 0 (last_tried p.trace + 1) (most_kept wanted) (probes - first) second →
    slots ≡ p.trace.start.shape.slots → length r.pool ≡ length p.pool + taken
    → TopsUp p r wanted probes taken (first + second)
tops_up {p} {q} {r} {slots} {wanted} {probes} {taken} {first} {second} low a b is count =
    let went = goes low a b is in
    record {
      takes = takes_on first second a.takes b.takes;
      count = count;
      most = most_on p q r (most_kept wanted) a.most b.most;
      tries = let tries = a.tries in let more = b.tries in omega (arith, tries, more);
      idle = λ full.
          (let none = a.idle full in
          let then = b.idle (let longer = longer p q a.takes.grows in omega (arith, full, longer)) in
          omega (arith, none, then));
      passed = went.0;
      few = went.1.0;
      each = went.1.1;
      enough = went.1.2;
    }
