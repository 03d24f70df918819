-- Where the epoch hasn't moved after a load, what was loaded is held, and stood there at its load.
use Rattle.std.proofs.Common.{◌≡◌, ℕ, false, refl, sym, ◌∙◌, subst}
use Rattle.vbr_machine.specs.Start.{Start, IsStart}
use Rattle.vbr_words.specs.Words.{link_of}
use Rattle.vbr_words.specs.declared.place.At.TheVariants.{Head, Slot}
use Rattle.vbr_words.specs.Buckets.{bucket_of}
use Rattle.vbr_machine.specs.Membership.{Knows, IsHeldSlot, HeldIn}
use Rattle.vbr_machine.specs.declared.event.Step.{Step}
use Rattle.vbr_machine.specs.declared.event.Step.TheVariants.{ReadEpoch, LoadLink, LoadBirth, LoadKey}
use Rattle.vbr_machine.specs.declared.knowledge.Read.{Read}
use Rattle.vbr_machine.specs.declared.knowledge.Read.TheVariants.{LinkAt, BirthOf}
use Rattle.vbr_machine.proofs.Lemmas.{head_unmarked, held_in_bucket}
use Rattle.vbr_slots.specs.steps.Calls.{Quiet}
use Rattle.vbr_slots.specs.views.Views.{Trace, Did, knows}
use Rattle.vbr_slots.proofs.Lemmas.{did_quiet, did_run, did_same, quiet_refl, same_on}
use Rattle.vbr_at_table.specs.reads.KeptKnowledge.{Keeps}
use Rattle.vbr_at_table.specs.reads.Moments.{IsRead}
use Rattle.vbr_at_table.proofs.reads.KeptKnowledge.{keeps_on, slot_kept, held_in_kept}
use Rattle.vbr_at_table.proofs.reads.ReadSteps.{Loads, loaded, loaded_keeps, loaded_stays, loads_birth, loads_key}
use Rattle.vbr_at_table.proofs.reads.ReadSteps.{loads_link}
use Rattle.vbr_at_table.proofs.reads.ReadSteps.{unmoved_keeps, unmoved_checks}
use Rattle.vbr_at_table.proofs.reads.Moments.{stood_at_load}

-- ---- what is quiet

pub epoch_quiet : {p q : Trace} {epoch : ℕ} → Did ReadEpoch p q epoch → Quiet p q
epoch_quiet d = did_quiet d (λ know. refl)

pub birth_quiet : {p q : Trace} {s birth : ℕ} → Did (LoadBirth s) p q birth → Quiet p q
birth_quiet d = did_quiet d (λ know. refl)

-- ---- what was loaded is known

module _ {step : Step} {found : ℕ} {read : Read} (loads : Loads step found read) {p q r : Trace} {epoch : ℕ}
    (load : Did step p q found) (check : Did ReadEpoch q r epoch) (same : epoch ≡ (knows p).epoch) where
  unmoved : epoch ≡ (knows q).epoch
  unmoved = same ∙ sym (loaded_keeps loads load).epoch

  pub checked_keeps : Keeps (knows p) (knows r)
  checked_keeps = keeps_on (loaded_keeps loads load) (unmoved_keeps check unmoved)

  pub checked : Knows (knows r) read
  checked = unmoved_checks check unmoved read (loaded loads load)

-- ---- a head

module _ {p q r : Trace} {bucket word epoch : ℕ} (load : Did (LoadLink (Head bucket)) p q word)
    (read : Did ReadEpoch q r epoch) (same : epoch ≡ (knows p).epoch) where
  pub head_keeps : Keeps (knows p) (knows r)
  head_keeps = checked_keeps (loads_link (Head bucket) word) load read same

  head_known : Knows (knows r) (LinkAt (Head bucket) (link_of word))
  head_known = checked (loads_link (Head bucket) word) load read same

  pub head_read : IsStart p.start → IsRead p r (record { at = Head bucket; birth = 0; word = word; epoch = epoch })
  head_read start = record {
    known = record { epoch = same ∙ sym head_keeps.epoch; link = head_known; birth = refl };
    stood = stood_at_load (Head bucket) 0 word epoch start (quiet_refl p) tt (sym same) load (epoch_quiet read);
  }

  pub head_is_unmarked : IsStart p.start → (link_of word).mark ≡ false
  head_is_unmarked start =
      let P : Start → Type 0 = IsStart in
      head_unmarked r.start r.passes r.seen (subst P (sym (same_on (did_same load) (did_same read)).start) start)
      (did_run read) r.who bucket (link_of word) head_known

-- ---- a node

module _ {p q r t : Trace} {s birth word epoch : ℕ} (first : Did (LoadBirth s) p q birth)
    (second : Did (LoadLink (Slot s)) q r word) (read : Did ReadEpoch r t epoch) (same : epoch ≡ (knows p).epoch) where
  node_unmoved : epoch ≡ (knows r).epoch
  node_unmoved = same
      ∙ sym (keeps_on (loaded_keeps (loads_birth s birth) first) (loaded_keeps (loads_link (Slot s) word) second)).epoch

  pub node_keeps : Keeps (knows p) (knows t)
  node_keeps =
      keeps_on (keeps_on (loaded_keeps (loads_birth s birth) first) (loaded_keeps (loads_link (Slot s) word) second))
      (unmoved_keeps read node_unmoved)

  pub node_read : IsStart p.start → IsHeldSlot (knows p) s →
      IsRead p t (record { at = Slot s; birth = birth; word = word; epoch = epoch })
  node_read start held = record {
    known = record {
      epoch = same ∙ sym node_keeps.epoch;
      link = unmoved_checks read node_unmoved (LinkAt (Slot s) (link_of word))
          (loaded (loads_link (Slot s) word) second);
      birth = unmoved_checks read node_unmoved (BirthOf s birth)
          (loaded_stays (loads_link (Slot s) word) second (BirthOf s birth) (loaded (loads_birth s birth) first));
    };
    stood = stood_at_load (Slot s) birth word epoch start (birth_quiet first)
        (slot_kept s (loaded_keeps (loads_birth s birth) first) held)
        ((loaded_keeps (loads_birth s birth) first).epoch ∙ sym same) second (epoch_quiet read);
  }

-- ---- a key

-- it is one of each bucket in which the slot is held
pub key_of_bucket : {p q r : Trace} {s key epoch : ℕ} → Did (LoadKey s) p q key → Did ReadEpoch q r epoch →
    epoch ≡ (knows p).epoch → IsStart p.start → (b : ℕ) → HeldIn (knows p) (Slot s) b → bucket_of p.start.shape key ≡ b
key_of_bucket {p} {q} {r} {s} {key} load read same start b h =
    let k = same_on (did_same load) (did_same read) in
    let P : Start → Type 0 = IsStart in
    let Q : Start → Type 0 = λ start. bucket_of start.shape key ≡ b in
    subst Q k.start
    (held_in_bucket r.start r.passes r.seen (subst P (sym k.start) start) (did_run read) r.who s b key
    (held_in_kept (Slot s) b (checked_keeps (loads_key s key) load read same) h)
    (checked (loads_key s key) load read same))
