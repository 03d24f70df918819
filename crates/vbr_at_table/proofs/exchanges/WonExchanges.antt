-- What a won exchange teaches: the link that it wrote is known.
use Rattle.std.proofs.Common.{◌≡◌, ◌≢◌, ℕ, Bool, false, List, ◌++◌, Some, None, refl, ap, ◌∙◌, cond, eq-eqb}
use Rattle.std.specs.Prelude.{◌==◌}
use Rattle.std.proofs.lemmas.List.Elements.{Contains-append_left, Contains-append_right}
use Rattle.std.proofs.lemmas.Bool.{ne_eqb}
use Rattle.std.specs.List.{Contains}
use Rattle.vbr_words.specs.Words.{link_of}
use Rattle.vbr_words.specs.declared.link.Link.{Link}
use Rattle.vbr_words.specs.declared.place.At.{At}
use Rattle.vbr_words.specs.declared.place.At.TheVariants.{Slot}
use Rattle.vbr_machine.specs.Links.{marked}
use Rattle.vbr_machine.specs.Knowledge.{Know}
use Rattle.vbr_machine.specs.Learning.{reads_won, link_written, with_checked, with_own}
use Rattle.vbr_machine.specs.Membership.{Knows}
use Rattle.vbr_machine.specs.declared.event.Step.TheVariants.{Mark, Unlink, Publish}
use Rattle.vbr_machine.specs.declared.knowledge.Holding.TheVariants.{Unlinked}
use Rattle.vbr_machine.specs.declared.knowledge.Read.{Read}
use Rattle.vbr_machine.specs.declared.knowledge.Read.TheVariants.{LinkAt}
use Rattle.vbr_slots.specs.views.Views.{Trace, Did, knows}
use Rattle.vbr_at_table.specs.reads.KeptKnowledge.{Keeps}
use Rattle.vbr_machine.proofs.Lemmas.{put_here}
use Rattle.vbr_at_table.proofs.reads.KeptKnowledge.{keeps_refl}
use Rattle.vbr_at_table.proofs.reads.ReadSteps.{only}

-- more reads are checked
pub more_keeps : (know later : Know) (reads : List Read) → later.epoch ≡ know.epoch →
    later.checked ≡ know.checked ++ reads → Keeps know later
more_keeps know later reads e c =
    record { epoch = e; reads = λ r k. record { among = rw c (Contains-append_left know.checked reads r k.among) } }

pub more_new : (know later : Know) (reads : List Read) → later.checked ≡ know.checked ++ reads → (r : Read) →
    Contains reads r → Knows later r
more_new know later reads c r m = record { among = rw c (Contains-append_right know.checked reads r m) }

pub won_test : (expected : ℕ) (a b : Know) → cond (expected == expected) a b ≡ a
won_test expected a b = ap (λ (t : Bool). cond t a b) (eq-eqb expected expected refl)

pub lost_test : (found expected : ℕ) (a b : Know) → found ≢ expected → cond (found == expected) a b ≡ b
lost_test found expected a b other = ap (λ (t : Bool). cond t a b) (ne_eqb found expected other)

-- ---- a mark

module _ {p q : Trace} {s expected : ℕ} (d : Did (Mark s expected) p q expected) where
  mark_learned : knows q ≡ with_checked (knows p) (reads_won (knows p) (Mark s expected))
  mark_learned = d.know ∙ won_test expected _ (knows p)

  pub mark_keeps : Keeps (knows p) (knows q)
  mark_keeps =
      more_keeps (knows p) (knows q) _ (ap (λ (k : Know). k.epoch) mark_learned)
      (ap (λ (k : Know). k.checked) mark_learned)

  pub mark_known : Knows (knows q) (LinkAt (Slot s) (marked (link_of expected)))
  mark_known = more_new (knows p) (knows q) _ (ap (λ (k : Know). k.checked) mark_learned) _ (only _)

-- ---- an unlinking

module _ {p q : Trace} {pred : At} {expected s : ℕ} (d : Did (Unlink pred expected s) p q expected) where
  pub unlink_learned : knows q
      ≡ with_own (with_checked (knows p) (reads_won (knows p) (Unlink pred expected s))) s (Some (Unlinked false))
  unlink_learned = d.know ∙ won_test expected _ (knows p)

  pub unlink_keeps : Keeps (knows p) (knows q)
  unlink_keeps =
      more_keeps (knows p) (knows q) _ (ap (λ (k : Know). k.epoch) unlink_learned)
      (ap (λ (k : Know). k.checked) unlink_learned)

  pub unlink_known : (new : Link) → link_written (knows p) (Unlink pred expected s) ≡ new →
      Knows (knows q) (LinkAt pred new)
  unlink_known new is =
      let m = more_new (knows p) (knows q) (reads_won (knows p) (Unlink pred expected s))
      (ap (λ (k : Know). k.checked) unlink_learned) (LinkAt pred (link_written (knows p) (Unlink pred expected s)))
      (only _) in rw is at m

  -- the slot is the pass's own, and not stamped yet
  pub unlink_owns : (knows q).own s ≡ Some (Unlinked false)
  unlink_owns = ap (λ (k : Know). k.own s) unlink_learned ∙ put_here (knows p).own s (Some (Unlinked false))

-- ---- a publication

module _ {p q : Trace} {pred : At} {expected s : ℕ} (d : Did (Publish pred expected s) p q expected) where
  pub publish_learned : knows q
      ≡ with_own (with_checked (knows p) (reads_won (knows p) (Publish pred expected s))) s None
  publish_learned = d.know ∙ won_test expected _ (knows p)

  pub publish_keeps : Keeps (knows p) (knows q)
  publish_keeps =
      more_keeps (knows p) (knows q) _ (ap (λ (k : Know). k.epoch) publish_learned)
      (ap (λ (k : Know). k.checked) publish_learned)

-- a lost one teaches nothing
pub publish_lost_keeps : {p q : Trace} {pred : At} {expected s found : ℕ} → Did (Publish pred expected s) p q found →
    found ≢ expected → Keeps (knows p) (knows q)
publish_lost_keeps {p} {q} {pred} {expected} {s} {found} d other =
    rw (d.know ∙ lost_test found expected _ (knows p) other) (keeps_refl (knows p))

-- and so does a lost unlinking
pub unlink_lost_same : {p q : Trace} {pred : At} {expected s found : ℕ} → Did (Unlink pred expected s) p q found →
    found ≢ expected → knows q ≡ knows p
unlink_lost_same {p} {q} {pred} {expected} {s} {found} d other = d.know ∙ lost_test found expected _ (knows p) other

pub unlink_lost_keeps : {p q : Trace} {pred : At} {expected s found : ℕ} → Did (Unlink pred expected s) p q found →
    found ≢ expected → Keeps (knows p) (knows q)
unlink_lost_keeps {p} {q} d other = rw (unlink_lost_same d other) (keeps_refl (knows p))
