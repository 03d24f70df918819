-- What the steps teach that read: loads are pending, and are checked where the epoch hasn't moved.
use Rattle.std.proofs.Common.{◌≡◌, ◌≢◌, ℕ, true, false, [], ◌∷◌, ◌++◌, None, refl, sym, ◌∙◌, subst}
use Rattle.std.proofs.Common.{eq-eqb, arith, rules}
use Rattle.std.specs.Prelude.{◌==◌}
use Rattle.std.specs.List.{Contains}
use Rattle.std.proofs.lemmas.Bool.{ne_eqb}
use Rattle.std.proofs.lemmas.List.Elements.{Contains-append_left, Contains-append_right}
use Rattle.vbr_words.specs.Words.{link_of}
use Rattle.vbr_words.specs.declared.place.At.{At}
use Rattle.vbr_machine.specs.Accounts.{happens}
use Rattle.vbr_machine.specs.Incarnations.{Incarnations}
use Rattle.vbr_machine.specs.Knowledge.{Know}
use Rattle.vbr_machine.specs.Learning.{call_of, learn, read_epoch, reread, with_pending}
use Rattle.vbr_machine.specs.Loads.{IsLoad}
use Rattle.vbr_machine.specs.Machine.{World}
use Rattle.vbr_machine.specs.Membership.{Knows}
use Rattle.vbr_machine.specs.Start.{IsStart, Start}
use Rattle.vbr_machine.specs.declared.event.Step.{Step}
use Rattle.vbr_machine.specs.declared.event.Step.TheVariants.{ReadEpoch, LoadLink, LoadBirth, LoadKey, LoadValue}
use Rattle.vbr_machine.specs.declared.knowledge.Read.{Read}
use Rattle.vbr_machine.specs.declared.knowledge.Read.TheVariants.{LinkAt, BirthOf, KeyOf, ValueOf}
use Rattle.vbr_slots.specs.views.Views.{Trace, Did, knows}
use Rattle.vbr_at_table.specs.reads.KeptKnowledge.{Keeps}
use Rattle.vbr_at_table.proofs.own_slots.SlotsAside.{handled}
use Rattle.vbr_at_table.proofs.epochs.Advancing.{advances_or_gives}

pub only : {X : Type 0} (x : X) → Contains (x ∷ []) x
only x = (0, omega arith, refl)

-- a step leaves how the table began
pub shape_on : {step : Step} {p q : Trace} {r : ℕ} → Did step p q r → IsStart p.start → IsStart q.start
shape_on d is = let P : Start → Type 0 = IsStart in subst P (sym d.same.1) is

-- ---- one more read is pending

pending_keeps : (know later : Know) (read : Read) → later ≡ with_pending know read → Keeps know later
pending_keeps know later read is = rw is (record { epoch = refl; reads = λ r k. record { among = k.among } })

pending_new : (know later : Know) (read : Read) → later ≡ with_pending know read → Contains later.pending read
pending_new know later read is = rw is (Contains-append_right know.pending (read ∷ []) read (only read))

pending_stays : (know later : Know) (read : Read) → later ≡ with_pending know read → (r : Read) →
    Contains know.pending r → Contains later.pending r
pending_stays know later read is r m = rw is (Contains-append_left know.pending (read ∷ []) r m)

-- ---- a load

-- a step that found this word is a load, and teaches its pass this read, and does no more
pub record Loads (step : Step) (found : ℕ) (read : Read) : Type 0 where
  pub is_load : IsLoad step
  pub no_call : (start : Start) (who : ℕ) (know : Know) → call_of start who know step ≡ None
  pub no_entry : (start : Start) (who : ℕ) (w : World) (a : Incarnations) → happens start w a who step ≡ []
  pub no_gift : advances_or_gives step ≡ false
  pub no_slot : handled step ≡ None
  pub teaches : (know : Know) (stamp : ℕ) → learn step found stamp know ≡ with_pending know read

-- the loads of a link, of a birth, of a key and of a value
pub loads_link : (place : At) (word : ℕ) → Loads (LoadLink place) word (LinkAt place (link_of word))
loads_link place word = search rules

pub loads_birth : (s birth : ℕ) → Loads (LoadBirth s) birth (BirthOf s birth)
loads_birth s birth = search rules

pub loads_key : (s key : ℕ) → Loads (LoadKey s) key (KeyOf s key)
loads_key s key = search rules

pub loads_value : (s value : ℕ) → Loads (LoadValue s) value (ValueOf s value)
loads_value s value = search rules

module _ {step : Step} {found : ℕ} {read : Read} (loads : Loads step found read) {p q : Trace}
    (d : Did step p q found) where
  pub learned : knows q ≡ with_pending (knows p) read
  learned = d.know ∙ loads.teaches (knows p) _

  pub loaded_keeps : Keeps (knows p) (knows q)
  loaded_keeps = pending_keeps _ _ _ learned

  pub loaded : Contains (knows q).pending read
  loaded = pending_new _ _ _ learned

  pub loaded_stays : (r : Read) → Contains (knows p).pending r → Contains (knows q).pending r
  loaded_stays = pending_stays _ _ _ learned

-- ---- the epoch is read

unmoved : (know : Know) (epoch : ℕ) → epoch ≡ know.epoch →
    read_epoch know epoch
    ≡ record {
      epoch = know.epoch;
      pending = [];
      checked = know.checked ++ know.pending;
      own = λ s. reread (know.own s);
    }
unmoved know epoch same = let t : (epoch == know.epoch) ≡ true = eq-eqb epoch know.epoch same in rw t refl

pub moved : (know : Know) (epoch : ℕ) → epoch ≢ know.epoch →
    read_epoch know epoch ≡ record { epoch = epoch; pending = []; checked = []; own = λ s. reread (know.own s) }
moved know epoch other = let t : (epoch == know.epoch) ≡ false = ne_eqb epoch know.epoch other in rw t refl

module _ {p q : Trace} {epoch : ℕ} (d : Did ReadEpoch p q epoch) where
  -- the same epoch as before checks what is pending
  pub unmoved_keeps : epoch ≡ (knows p).epoch → Keeps (knows p) (knows q)
  unmoved_keeps same =
      rw (d.know ∙ unmoved (knows p) epoch same)
      (record {
        epoch = refl;
        reads = λ r k. record { among = Contains-append_left (knows p).checked (knows p).pending r k.among };
      })

  pub unmoved_checks : epoch ≡ (knows p).epoch → (r : Read) → Contains (knows p).pending r → Knows (knows q) r
  unmoved_checks same r m =
      rw (d.know ∙ unmoved (knows p) epoch same)
      (record { among = Contains-append_right (knows p).checked (knows p).pending r m })
