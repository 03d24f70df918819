-- What the kept lists stand for once a pass has learned from its step.
use Rattle.std.proofs.Common.{◌≡◌, ℕ, ◌<◌, Bool, true, false, cond, List, [], ◌∷◌, ◌++◌, length, get_or, Option, Some}
use Rattle.std.proofs.Common.{None, refl, sym, ap, ◌∙◌}
use Rattle.std.proofs.lemmas.List.{get_or_read}
use Rattle.vbr_words.specs.Words.{IsLink, word_of, link_of}
use Rattle.vbr_words.proofs.Lemmas.{link_of-word_of}
use Rattle.vbr_machine.specs.Put.{put}
use Rattle.vbr_machine.specs.Start.{Start}
use Rattle.vbr_machine.specs.Knowledge.{Know}
use Rattle.vbr_machine.specs.Learning.{succeeds, link_written, learn}
use Rattle.vbr_machine.specs.Machine.{World, found, stamp_shown, with_learning, with_call}
use Rattle.vbr_world.specs.WorldInLists.{KeptPass, KeptWorld, IsWhole, know_of, opening_pass, world_of}
use Rattle.vbr_machine.specs.Making.{ahead_made, call_made}
use Rattle.vbr_world.specs.Answering.{with_answer}
use Rattle.vbr_machine.specs.declared.history.Call.{Call}
use Rattle.vbr_machine.specs.declared.event.Step.{Step}
use Rattle.vbr_machine.specs.declared.event.Step.TheVariants.{Replace}

-- the link of the word that a pass answers with
pub link_read : (kept : KeptWorld) (p word : ℕ) (pass : KeptPass) (step : Step) → IsWhole kept →
    p < length kept.passes → pass ≡ get_or kept.passes p pass → word ≡ word_of (link_written (know_of pass) step) →
    IsLink (link_written (know_of pass) step) → link_of word ≡ link_written ((world_of kept).know p) step
link_read kept p word pass step whole lt is answer fits =
    ap link_of answer ∙ link_of-word_of _ fits
    ∙ ap (λ (pass : KeptPass). link_written (know_of pass) step) (get_or_read kept.passes p pass lt is opening_pass)

-- a step that makes no call makes none ahead of it
none_ahead : (start : Start) (w : World) (p : ℕ) (step : Step) → call_made start w p step ≡ None →
    ahead_made start w p step ≡ None
none_ahead start w p (Replace s expected t) none =
    go (succeeds (Replace s expected t) (found start w (Replace s expected t))) _ _ none
  where
    go : (b : Bool) (first second : Call) → cond b (Some second) None ≡ None → cond b (Some first) None ≡ None
    go true first second none = absurd (cc)
    go false first second none = refl
none_ahead start w p _ none = refl

module _ (kept : KeptWorld) (passes : List KeptPass) (p : ℕ) (step : Step) (word stamp : ℕ) (whole : IsWhole kept)
    (is : word ≡ found kept.start (world_of kept) step) (shown : stamp ≡ stamp_shown (world_of kept) step)
    (learned : ◌≡◌ {A = ℕ → Know} (λ q. know_of (get_or passes q opening_pass))
    (put (λ q. know_of (get_or kept.passes q opening_pass)) p
    (learn step word stamp (know_of (get_or kept.passes p opening_pass))))) where
  -- the pass knows what it learned from the word and the stamp that the step found
  known : ◌≡◌ {A = ℕ → Know} (λ q. know_of (get_or passes q opening_pass))
      (put (world_of kept).know p
      (learn step (found kept.start (world_of kept) step) (stamp_shown (world_of kept) step) ((world_of kept).know p)))
  known = learned ∙ (λ i. put (world_of kept).know p (learn step (is i) (shown i) ((world_of kept).know p)))

  answered : (ahead call : Option Call) → ahead_made kept.start (world_of kept) p step ≡ ahead →
      call_made kept.start (world_of kept) p step ≡ call →
      with_call (with_call (with_learning kept.start (world_of kept) p step) ahead) call
      ≡ with_answer kept.start (world_of kept) p step
  answered ahead call first second =
      λ i. with_call (with_call (with_learning kept.start (world_of kept) p step) (sym first i)) (sym second i)

  -- a step that makes no call
  pub learned_silent : call_made kept.start (world_of kept) p step ≡ None →
      world_of (record kept { passes = passes }) ≡ with_answer kept.start (world_of kept) p step
  learned_silent none =
      (λ i. record (world_of kept) { know = known i })
      ∙ answered None None (none_ahead kept.start (world_of kept) p step none) none

  -- a step that makes a call
  pub learned_calling : (call : Call) (calls : List Call) → ahead_made kept.start (world_of kept) p step ≡ None →
      call_made kept.start (world_of kept) p step ≡ Some call → calls ≡ kept.calls ++ call ∷ [] →
      world_of (record kept { passes = passes; calls = calls }) ≡ with_answer kept.start (world_of kept) p step
  learned_calling call calls first some kept_is =
      (λ i. record (world_of kept) { know = known i; calls = kept_is i }) ∙ answered None (Some call) first some

  -- a step that makes two
  pub learned_twice : (ahead call : Call) (calls : List Call) →
      ahead_made kept.start (world_of kept) p step ≡ Some ahead →
      call_made kept.start (world_of kept) p step ≡ Some call → calls ≡ (kept.calls ++ ahead ∷ []) ++ call ∷ [] →
      world_of (record kept { passes = passes; calls = calls }) ≡ with_answer kept.start (world_of kept) p step
  learned_twice ahead call calls first some kept_is =
      (λ i. record (world_of kept) { know = known i; calls = kept_is i }) ∙ answered (Some ahead) (Some call) first some
