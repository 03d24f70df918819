-- A slot that was in the shared pool, and isn't there later, was gained in between.
use Rattle.std.proofs.Common.{◌≡◌, ◌≢◌, ℕ, zero, suc, ◌+◌, ◌<◌, ◌≤◌, Bool, true, false, not, List, [], ◌∷◌, ◌++◌, refl}
use Rattle.std.proofs.Common.{sym, ap, ◌∙◌, subst, ⊎_elim, eq-eqb, arith, append-nil}
use Rattle.std.specs.Prelude.{◌==◌, ◌&&◌}
use Rattle.std.proofs.lemmas.Bool.{cases_eq, ne_eqb}
use Rattle.vbr_machine.specs.Start.{Start, IsStart}
use Rattle.vbr_machine.specs.Keys.{Keys}
use Rattle.vbr_machine.specs.Machine.{opening}
use Rattle.vbr_machine.specs.Runs.{Begins, IsRun, NoneOf, world_after}
use Rattle.vbr_machine.specs.Accounts.{chronicle, chronicle_from, happens, incarnations_after, notes_after}
use Rattle.vbr_machine.specs.Incarnations.{State, Unborn, InHand, GivenUp, Linked, Marked, Unlinked, Stamped}
use Rattle.vbr_machine.specs.Incarnations.{Incarnations, at_opening}
use Rattle.vbr_machine.specs.Opened.{opening_keys}
use Rattle.vbr_machine.specs.Chronicles.{Happening, Advances, Gains, Probes, Raises, GivesUp, Bears, Keyed, Valued}
use Rattle.vbr_machine.specs.Chronicles.{Aims, Inserts, Removes, Replaces, Unlinks, Stamps, Confirms, Entry, Allowed}
use Rattle.vbr_machine.specs.Chronicles.{MayBeBornIn, becomes, incarnations_from, IsLawful}
use Rattle.vbr_machine.specs.Disturbances.{one_if}
use Rattle.vbr_machine.specs.Gains.{gains, gains_in, is_gain}
use Rattle.vbr_machine.specs.Sound.{PlaceFits, Sound}
use Rattle.vbr_machine.specs.declared.event.Event.{Event}
use Rattle.vbr_machine.specs.declared.knowledge.SlotPlace.{SlotPlace}
use Rattle.vbr_machine.specs.declared.knowledge.SlotPlace.TheVariants.{Shared, Hand}
use Rattle.vbr_machine.proofs.progress.Calm.{NoneBy, none_by}
use Rattle.vbr_machine.proofs.runs.EveryRun.{incarnations-append, run_agrees, runs_agree}
use Rattle.vbr_machine.proofs.runs.OwnEntries.{AreBy, chronicle_from-append, happens_by, others_add}
use Rattle.vbr_machine.proofs.words.Puts.{put_here, put_other}
use Rattle.vbr_machine.proofs.runs.RunsGoOn.{is_run_after, is_run_before}
use Rattle.vbr_machine.proofs.chronicles.Slots.{IsLive, live_last}
use Rattle.vbr_machine.proofs.chronicles.SoundAfter.{sound_kept}

-- ---- counts

gains_in-append : (who : ℕ) (xs ys : List Entry) → gains_in who (xs ++ ys) ≡ gains_in who xs + gains_in who ys
gains_in-append who [] ys = omega arith
gains_in-append who (x ∷ xs) ys = let r = gains_in-append who xs ys in omega (arith, r)

gains-append : (start : Start) (first rest : List Event) (who : ℕ) →
    gains start (first ++ rest) who
    ≡ gains start first who
    + gains_in who (chronicle_from start (world_after start first) (incarnations_after start first) rest)
gains-append start first rest who =
    ap (gains_in who) (chronicle_from-append start (opening start) (at_opening start) first rest)
    ∙ gains_in-append who (chronicle start first)
    (chronicle_from start (world_after start first) (incarnations_after start first) rest)

-- a law: they never become fewer
pub gains_grow : (start : Start) (first run : List Event) (who : ℕ) → Begins first run →
    gains start first who ≤ gains start run who
gains_grow start first run who b =
    let P : List Event → Type 0 = λ l. gains start first who ≤ gains start l who in
    subst P (sym b.1) (let sum = gains-append start first b.0 who in omega (arith, sum))

counts_no_own : (p q : Bool) → p ≡ true → one_if (not p && q) ≡ 0
counts_no_own true q e = refl
counts_no_own false q e = absurd (cc)

own_gains_none : (who : ℕ) (entries : List Entry) → AreBy who entries → gains_in who entries ≡ 0
own_gains_none who [] by = refl
own_gains_none who (entry ∷ entries) by =
    let one = counts_no_own (entry.pass == who) (is_gain entry.what) (eq-eqb entry.pass who by.0) in
    let rest = own_gains_none who entries by.1 in
    omega (arith, one, rest)

-- a law: what a pass gains itself isn't counted
pub own_gains_uncounted : (start : Start) (run : List Event) (event : Event) →
    gains start (run ++ event ∷ []) event.pass ≡ gains start run event.pass
own_gains_uncounted start run event =
    let now = happens start (world_after start run) (incarnations_after start run) event.pass event.step in
    let sum = gains-append start run (event ∷ []) event.pass in
    let none = own_gains_none event.pass (now ++ [])
    (let P : List Entry → Type 0 = AreBy event.pass in
    subst P (sym (append-nil now))
    (happens_by start (world_after start run) (incarnations_after start run) event.pass event.step)) in
    omega (arith, sum, none)

-- ---- the shared pool

shared_is_dead : (start : Start) (st : State) (key : ℕ) → IsLive st → PlaceFits start Shared st key → ⊥
shared_is_dead start Unborn key live fits = fits
shared_is_dead start (InHand p) key live fits = fits
shared_is_dead start GivenUp key live fits = live
shared_is_dead start Linked key live fits = fits
shared_is_dead start Marked key live fits = fits
shared_is_dead start (Unlinked p unlinked) key live fits = fits
shared_is_dead start (Stamped unlinked stamp) key live fits = live

-- the slot of a live incarnation isn't in the shared pool
module _ {start : Start} {a : Incarnations} (sound : Sound start a) (s : ℕ) (shared : a.place s ≡ Shared) where
  apart : (c : ℕ) → IsLive (a.state c) → s ≢ a.slot c
  apart c live e =
      let last = (live_last sound.slots c live).1 in
      let P : SlotPlace → Type 0 = λ place. PlaceFits start place (a.state c) (a.key c) in
      shared_is_dead start (a.state c) (a.key c) live
      (subst P (ap a.place (sym e) ∙ shared) (sound.slots.placed c (a.slot c) last))

  unborn_in : (pass v : ℕ) → MayBeBornIn a pass v (a.place v) → s ≢ v
  unborn_in pass v m e =
      let P : SlotPlace → Type 0 = MayBeBornIn a pass v in
      subst P (ap a.place (sym e) ∙ shared) m

-- a slot stays in the shared pool, but for a gain
shared_kept : (start : Start) (keys : Keys) (a : Incarnations) (pass s : ℕ) (what : Happening) → Sound start a →
    Allowed start keys a pass what → is_gain what ≡ false → a.place s ≡ Shared →
    (becomes start a pass what).place s ≡ Shared
shared_kept start keys a pass s Advances sound h e shared = shared
shared_kept start keys a pass s (Gains v) sound h e shared = absurd (cc)
shared_kept start keys a pass s (Probes v) sound h e shared = shared
shared_kept start keys a pass s (Raises v) sound h e shared =
    ⊎_elim (λ (is : s ≡ v). ap (λ i. (becomes start a pass (Raises v)).place i) is ∙ put_here a.place v Shared)
    (λ (other : s ≢ v). put_other a.place v Shared s other ∙ shared) (cases_eq s v)
shared_kept start keys a pass s (GivesUp c) sound h e shared = shared
shared_kept start keys a pass s (Bears v birth) sound h e shared =
    put_other a.place v (Hand pass) s (unborn_in sound s shared pass v h.0) ∙ shared
shared_kept start keys a pass s (Keyed c key) sound h e shared = shared
shared_kept start keys a pass s (Valued c value) sound h e shared = shared
shared_kept start keys a pass s (Aims c link) sound h e shared = shared
shared_kept start keys a pass s (Inserts c behind) sound h e shared =
    put_other a.place (a.slot c) _ s (apart sound s shared c (rw h.in_hand tt)) ∙ shared
shared_kept start keys a pass s (Removes c) sound h e shared = shared
shared_kept start keys a pass s (Replaces old node) sound h e shared =
    put_other a.place (a.slot node) _ s (apart sound s shared node (rw h.in_hand tt)) ∙ shared
shared_kept start keys a pass s (Unlinks c behind) sound h e shared =
    put_other a.place (a.slot c) _ s (apart sound s shared c (rw h.0 tt)) ∙ shared
shared_kept start keys a pass s (Stamps c stamp) sound h e shared = shared
shared_kept start keys a pass s (Confirms call) sound h e shared = shared

none_gained : (p q : Bool) (m : ℕ) → p ≡ false → one_if (not p && q) + m ≡ 0 → (q ≡ false) × (m ≡ 0)
none_gained true q m e z = absurd (cc)
none_gained false true m e z = absurd (omega (arith, z))
none_gained false false m e z = (refl, omega (arith, z))

-- where events of other passes gain none, it stays there
stays_shared : (start : Start) (keys : Keys) (who s : ℕ) (a : Incarnations) (entries : List Entry) → Sound start a →
    IsLawful start keys a entries → NoneBy who entries → gains_in who entries ≡ 0 → a.place s ≡ Shared →
    (incarnations_from start a entries).place s ≡ Shared
stays_shared start keys who s a [] sound l others none shared = shared
stays_shared start keys who s a (entry ∷ entries) sound l others none shared =
    let one = none_gained (entry.pass == who) (is_gain entry.what) (gains_in who entries)
    (ne_eqb entry.pass who others.0) none in
    stays_shared start keys who s (becomes start a entry.pass entry.what) entries
    (sound_kept start keys a entry.pass entry.what sound l.0) l.1 others.1 one.1
    (shared_kept start keys a entry.pass s entry.what sound l.0 one.0 shared)

-- a law: a slot that was in the shared pool, and isn't there after events of other passes, was gained by one of these
pub slot_gained : (start : Start) (passes : ℕ) (seen rest : List Event) (who s : ℕ) → IsStart start →
    IsRun start passes (seen ++ rest) → NoneOf who rest → (world_after start seen).place s ≡ Shared →
    (world_after start (seen ++ rest)).place s ≢ Shared → gains start seen who < gains start (seen ++ rest) who
slot_gained start passes seen rest who s is ok none shared out = go (gains_in who entries) refl
  where
    a : Incarnations
    a = incarnations_after start seen

    entries : List Entry
    entries = chronicle_from start (world_after start seen) a rest

    stayed : gains_in who entries ≡ 0 → (world_after start (seen ++ rest)).place s ≡ Shared
    stayed z =
        let before = run_agrees start passes seen is (is_run_before start passes seen rest ok) in
        let lawful =
        (runs_agree start passes (world_after start seen) a (notes_after start seen) rest before
        (is_run_after start passes seen rest ok)).0 in
        (run_agrees start passes (seen ++ rest) is ok).image.place s
        ∙ ap (λ (b : Incarnations). b.place s) (incarnations-append start (opening start) (at_opening start) seen rest)
        ∙ stays_shared start (opening_keys start) who s a entries before.sound lawful
        (none_by who entries (others_add start (world_after start seen) a who rest none)) z
        (sym (before.image.place s) ∙ shared)

    go : (n : ℕ) → gains_in who entries ≡ n → gains start seen who < gains start (seen ++ rest) who
    go zero z = absurd (out (stayed z))
    go (suc n) z = let sum = gains-append start seen rest who in omega (arith, sum, z)
