-- What a step teaches, from how it reaches its word.
use Rattle.std.proofs.Common.{◌≡◌, ℕ, Bool, true, false, refl, sym, ap, ◌∙◌, cond, subst, ⊎_elim, arith}
use Rattle.std.proofs.lemmas.Bool.{cases_Bool}
use Rattle.std.proofs.lemmas.Bool.Decides.{nat_tests}
use prog.Atomic.{either}
use Rattle.std.specs.Prelude.{◌==◌, ◌↔◌}
use Rattle.vbr_words.specs.Flags.{has_flag}
use Rattle.vbr_machine.specs.Knowledge.{Know}
use Rattle.vbr_machine.specs.Learning.{learn, read_epoch}
use Rattle.vbr_machine.specs.Machine.{Access, Store, access_of}
use Rattle.vbr_machine.specs.declared.event.Step.{Step}
use Rattle.vbr_machine.specs.declared.event.Step.TheVariants.{ReadEpoch, StoreStamp, TakeFlag, StoreBirth, StoreKey}
use Rattle.vbr_machine.specs.declared.event.Step.TheVariants.{StoreValue, StoreLink, Publish, Mark, Replace, Unlink}
use Rattle.vbr_slots.specs.runs.Rule.{Shows}
use Rattle.vbr_slots.specs.views.Views.{Did, Trace, epoch_after, knows}

-- the base's choice is a test
pub by_either : (b : Bool) (x y : ℕ) → either b x y ≡ cond b x y
by_either true x y = refl
by_either false x y = refl

pub shows_itself : (step : Step) (n : ℕ) → Shows step n n
shows_itself step n = record { answers = refl; teaches = λ stamp know. refl }

-- whether an access is a store
abbrev IsStore : Access → Type 0
IsStore (Store new) = Unit {0}
IsStore _ = ⊥

store_is : (access : Access) (new : ℕ) → access ≡ Store new → IsStore access
store_is access new is = subst IsStore (sym is) tt

blind_if : (know : Know) (step : Step) (r n : ℕ) → IsStore (access_of know step) → Shows step r n
blind_if know (StoreStamp s stamp) r n is = record { answers = refl; teaches = λ stamp know. refl }
blind_if know (StoreBirth s birth) r n is = record { answers = refl; teaches = λ stamp know. refl }
blind_if know (StoreKey s key) r n is = record { answers = refl; teaches = λ stamp know. refl }
blind_if know (StoreValue s value) r n is = record { answers = refl; teaches = λ stamp know. refl }
blind_if know (StoreLink s next) r n is = record { answers = refl; teaches = λ stamp know. refl }
blind_if know _ r n is = absurd is

-- a store answers and teaches the same, whatever it replaces
pub blind : (know : Know) (step : Step) (new : ℕ) → access_of know step ≡ Store new → (r n : ℕ) → Shows step r n
blind know step new is r n = blind_if know step r n (store_is (access_of know step) new is)

either_way : {A : Type 0} (b : Bool) (f : A → ℕ) (x y : A) (n : ℕ) → f x ≡ n → f y ≡ n → f (cond b x y) ≡ n
either_way true f x y n p q = p
either_way false f x y n p q = q

epoch_read : (found : ℕ) (know : Know) → (read_epoch know found).epoch ≡ found
epoch_read found know =
    ⊎_elim (λ (t : (found == know.epoch) ≡ true). rw t (grind (arith, nat_tests)))
    (λ (t : (found == know.epoch) ≡ false). rw t refl) (cases_Bool (found == know.epoch))

-- whether an epoch stays, said of an equal one
pub stays_beside : {P : Type 0} {epoch one other : ℕ} → (P ↔ (epoch ≡ one)) → one ≡ other → P ↔ (epoch ≡ other)
stays_beside is same = ((λ p. is.0 p ∙ same), (λ e. is.1 (e ∙ sym same)))

-- the epoch that a pass knows after a step
pub epoch_learned : (step : Step) (r stamp : ℕ) (know : Know) →
    (learn step r stamp know).epoch ≡ epoch_after step r know.epoch
epoch_learned ReadEpoch r stamp know = epoch_read r know
epoch_learned (TakeFlag s) r stamp know = either_way (has_flag r s) (λ (k : Know). k.epoch) _ know know.epoch refl refl
epoch_learned (Publish pred expected s) r stamp know =
    either_way (r == expected) (λ (k : Know). k.epoch) _ know know.epoch refl refl
epoch_learned (Mark s expected) r stamp know =
    either_way (r == expected) (λ (k : Know). k.epoch) _ know know.epoch refl refl
epoch_learned (Replace s expected t) r stamp know =
    either_way (r == expected) (λ (k : Know). k.epoch) _ know know.epoch refl refl
epoch_learned (Unlink pred expected s) r stamp know =
    either_way (r == expected) (λ (k : Know). k.epoch) _ know know.epoch refl refl
epoch_learned _ r stamp know = refl

-- after a step that is no read of the epoch, the pass knows the epoch that it knew
pub epoch_stays : (step : Step) {p q : Trace} {found : ℕ} → Did step p q found →
    ((found epoch : ℕ) → epoch_after step found epoch ≡ epoch) → (knows q).epoch ≡ (knows p).epoch
epoch_stays step {p} {q} {found} d stays =
    ap (λ (k : Know). k.epoch) d.know ∙ epoch_learned step found _ (knows p) ∙ stays found (knows p).epoch
