-- What a pass knows of its epoch and of the slot in its hand, through the steps of a test.
use Rattle.std.proofs.Common.{◌≡◌, ℕ, ◌^◌, ◌≤◌, false, Option, Some, None, cond, refl, sym, ap, ◌∙◌, subst, arith}
use Rattle.std.specs.Prelude.{Bool, true, is_ok, IsSome, List, Result, Ok, Err, unwrap_or}
use Rattle.std.proofs.Math.Nat.{pow-le-pow_right}
use Rattle.vbr_words.specs.Flags.{has_flag}
use Rattle.vbr_words.specs.Words.{link_of, word_of}
use Rattle.vbr_words.specs.Packing.{IsPackable}
use Rattle.vbr_words.specs.declared.link.Link.{Link}
use Rattle.vbr_words.specs.declared.link.TheConstants.{SLOT_BITS}
use Rattle.vbr_words.proofs.Lemmas.{has_room, some_version}
use Rattle.vbr_machine.specs.Links.{link_to}
use Rattle.vbr_machine.specs.Acceptance.{MayBear}
use Rattle.vbr_machine.specs.Knowledge.{Know, birth_of}
use Rattle.vbr_machine.specs.Learning.{birth_in_hand, with_key, with_value}
use Rattle.vbr_machine.specs.declared.event.Step.TheVariants.{LoadStamp, TakeFlag, StoreBirth, StoreKey}
use Rattle.vbr_machine.specs.declared.event.Step.TheVariants.{StoreValue}
use Rattle.vbr_machine.specs.declared.knowledge.Read.{Read}
use Rattle.vbr_machine.specs.declared.knowledge.Holding.{Holding}
use Rattle.vbr_machine.specs.declared.knowledge.Unpublished.{Unpublished}
use Rattle.vbr_machine.specs.declared.knowledge.Holding.TheVariants.{Free, Unlinked, InHand}
use Rattle.vbr_machine.proofs.Lemmas.{put_here}
use Rattle.vbr_slots.specs.views.Views.{Trace, Did, knows}
use Rattle.vbr_table_tests.proofs.running_table.Taking.{Reached}

-- the epoch that a pass knows
pub loaded_epoch : (p q : Trace) (t r : ℕ) → Did (LoadStamp t) p q r → (knows q).epoch ≡ (knows p).epoch
loaded_epoch p q t r d = ap (λ (k : Know). k.epoch) d.know

pub loaded_own : (p q : Trace) (s t r : ℕ) → Did (LoadStamp t) p q r → (knows q).own s ≡ (knows p).own s
loaded_own p q s t r d = ap (λ (k : Know). k.own s) d.know

-- what a pass knows of a slot that is free
abbrev pub IsFreeWith : Option Holding → Type 0
IsFreeWith holding = (stamp : ℕ) × (holding ≡ Some (Free stamp))

pub free_is_some : (holding : Option Holding) → IsFreeWith holding → IsSome holding
free_is_some holding free = subst (λ (h : Option Holding). IsSome h) (sym free.1) refl

pub free_may_bear : (holding : Option Holding) → IsFreeWith holding → MayBear holding
free_may_bear holding free = subst MayBear (sym free.1) tt

taken_free : (p q : Trace) (s r : ℕ) → Did (TakeFlag s) p q r → has_flag r s ≡ true → IsFreeWith ((knows q).own s)
taken_free p q s r d set = (_, ap (λ (k : Know). k.own s) (d.know ∙ won _ (knows p)) ∙ put_here (knows p).own s _)
  where
    won : (a b : Know) → cond (has_flag r s) a b ≡ a
    won a b = ap (λ (t : Bool). cond t a b) set

pub reached_free : {T : Type 0} (p q : Trace) (s : ℕ) (answer : Result T ℕ) → is_ok answer ≡ true →
    Reached s p q answer → IsFreeWith ((knows q).own s)
reached_free p q s (Ok x) won d = taken_free p q s d.0 d.1 d.2
reached_free p q s (Err n) won d = absurd (cc)

-- the birth in hand
pub born_birth : (p q : Trace) (s birth r : ℕ) → Did (StoreBirth s birth) p q r →
    birth_in_hand ((knows q).own s) ≡ birth
born_birth p q s birth r d = ap birth_in_hand (ap (λ (k : Know). k.own s) d.know ∙ put_here (knows p).own s _)

-- a change that keeps the birth in hand in each case keeps it
birth_kept : (f : Option Holding → Option Holding) → birth_in_hand (f None) ≡ 0 →
    ((stamp : ℕ) → birth_in_hand (f (Some (Free stamp))) ≡ 0) →
    ((reread : Bool) → birth_in_hand (f (Some (Unlinked reread))) ≡ 0) →
    ((known : Unpublished) → birth_in_hand (f (Some (InHand known))) ≡ known.birth) → (holding : Option Holding) →
    birth_in_hand (f holding) ≡ birth_in_hand holding
birth_kept f none free unlinked hand None = none
birth_kept f none free unlinked hand (Some (Free stamp)) = free stamp
birth_kept f none free unlinked hand (Some (Unlinked reread)) = unlinked reread
birth_kept f none free unlinked hand (Some (InHand known)) = hand known

pub keyed_birth : (p q : Trace) (s key r : ℕ) → Did (StoreKey s key) p q r →
    birth_in_hand ((knows q).own s) ≡ birth_in_hand ((knows p).own s)
keyed_birth p q s key r d =
    ap birth_in_hand (ap (λ (k : Know). k.own s) d.know ∙ put_here (knows p).own s _)
    ∙ birth_kept (λ h. with_key h key) refl (λ n. refl) (λ b. refl) (λ k. refl) ((knows p).own s)

pub valued_birth : (p q : Trace) (s value r : ℕ) → Did (StoreValue s value) p q r →
    birth_in_hand ((knows q).own s) ≡ birth_in_hand ((knows p).own s)
valued_birth p q s value r d =
    ap birth_in_hand (ap (λ (k : Know). k.own s) d.know ∙ put_here (knows p).own s _)
    ∙ birth_kept (λ h. with_value h value) refl (λ n. refl) (λ b. refl) (λ k. refl) ((knows p).own s)

-- ---- the word of the link to none, with version 1, where so many bits name a slot

abbrev pub to_none : Link
to_none = record { slot = None; mark = false; version = 1 }

power_up : (i j : ℕ) → i ≤ j → 2 ^ i ≤ 2 ^ j
power_up i j le = pow-le-pow_right (omega arith) le

-- it has room
pub none_has_room : (bits : ℕ) → bits ≤ SLOT_BITS → IsPackable bits (word_of to_none)
none_has_room bits few =
    let some : 2 ^ 0 ≤ 2 ^ bits = power_up 0 bits (omega arith) in
    has_room bits few to_none (omega (arith, some)) (some_version bits few)

pub names_none : (link_of (word_of to_none)).slot ≡ None
unfolding link_of word_of
names_none = refl

pub is_word : (checked : List Read) (slot : Option ℕ) (birth : ℕ) → slot ≡ None → birth ≡ 1 →
    word_of to_none ≡ word_of (link_to slot birth (unwrap_or (birth_of checked slot) 0))
is_word checked slot birth none one =
    subst (λ (x : Option ℕ × ℕ). word_of to_none ≡ word_of (link_to x.0 x.1 (unwrap_or (birth_of checked x.0) 0)))
    (λ i. (sym none i, sym one i)) refl
