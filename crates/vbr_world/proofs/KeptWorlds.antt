-- What the lists that a program keeps stand for, at opening and after one entry is set.
use Rattle.std.proofs.Common.{◌≡◌, ℕ, zero, suc, ◌<◌, ◌≤◌, List, [], ◌∷◌, length, get_or, set, replicate, None, ◌⊎◌}
use Rattle.std.proofs.Common.{inl, inr, refl, sym, ap, ◌∙◌, arith}
use Rattle.std.proofs.lemmas.Bool.{cases_lt}
use Rattle.std.proofs.lemmas.List.{get_or_read, get_or_past}
use Rattle.std.specs.List.{AllByRecursion}
use Rattle.vbr_words.specs.Words.{word_of, link_of}
use Rattle.vbr_words.specs.declared.link.TheConstants.{MARK, MAX_VERSION}
use Rattle.vbr_words.proofs.Lemmas.{word_of-link_of}
use Rattle.vbr_words.specs.declared.link.Link.{Link}
use Rattle.vbr_words.specs.declared.place.At.{At}
use Rattle.vbr_words.specs.declared.place.At.TheVariants.{Head, Slot}
use Rattle.vbr_machine.specs.Put.{put}
use Rattle.vbr_machine.specs.Knowledge.{Know}
use Rattle.vbr_machine.specs.Links.{opening_link, link_to}
use Rattle.vbr_machine.specs.Machine.{World, knows_nothing, with_link_at}
use Rattle.vbr_machine.specs.Making.{opening_from}
use Rattle.vbr_machine.specs.Opened.{key_count}
use Rattle.vbr_world.specs.WorldInLists.{KeptPass, KeptWorld, IsWhole, know_of, opening_pass, world_of}
use Rattle.vbr_world.specs.KeptOpenings.{IsNewPass}
use Rattle.vbr_machine.specs.declared.knowledge.SlotPlace.{SlotPlace}
use Rattle.vbr_machine.specs.declared.knowledge.SlotPlace.TheVariants.{Shared}
use Rattle.vbr_machine.proofs.Lemmas.{opening_none}
use Rattle.vbr_world.proofs.KeptLists.{read_replicate, read_set, all_at}

-- the word that is kept at a head is that of its link
pub head_word : (kept : KeptWorld) (b word : ℕ) → IsWhole kept → b < kept.start.shape.buckets →
    word ≡ get_or kept.heads b word → word ≡ word_of ((world_of kept).head b)
head_word kept b word whole lt is =
    get_or_read kept.heads b word (omega (arith, whole.heads)) is 0 ∙ sym (word_of-link_of (get_or kept.heads b 0))

-- the word that is kept at a slot's link is that of its link
pub link_word : (kept : KeptWorld) (s word : ℕ) → IsWhole kept → s < kept.start.shape.slots →
    word ≡ get_or kept.links s word → word ≡ word_of ((world_of kept).link s)
link_word kept s word whole lt is = get_or_read kept.links s word (omega (arith, whole.links)) is MARK
    ∙ sym (word_of-link_of (get_or kept.links s MARK))

-- passes that know nothing
know_opened : (slots : ℕ) (passes : List KeptPass) → AllByRecursion (IsNewPass slots) passes →
    ◌≡◌ {A = ℕ → Know} (λ p. know_of (get_or passes p opening_pass)) (λ p. knows_nothing)
know_opened slots passes new = λ k p. by_case p (cases_lt p (length passes)) k
  where
    by_case : (p : ℕ) → (p < length passes) ⊎ (length passes ≤ p) →
        know_of (get_or passes p opening_pass) ≡ knows_nothing
    by_case p (inl lt) = (all_at (IsNewPass slots) passes p opening_pass new lt).0
    by_case p (inr ge) = rw (get_or_past passes p opening_pass ge) refl

-- births that are 0 have room in words
pub births_fit : (n : ℕ) → AllByRecursion (λ birth. birth ≤ MAX_VERSION) (replicate n 0)
births_fit zero = tt
births_fit (suc n) = (omega arith, births_fit n)

-- passes that know nothing have so many slots
pub slots_known : (n slots : ℕ) (passes : List KeptPass) → n ≡ slots → AllByRecursion (IsNewPass n) passes →
    AllByRecursion (λ pass. length pass.own ≡ slots) passes
slots_known n slots [] e new = tt
slots_known n slots (pass ∷ passes) e new = (new.0.1 ∙ e, slots_known n slots passes e new.1)

-- the lists of an empty set stand for the world at opening where no key is linked yet
pub opened : (kept : KeptWorld) (buckets slots own : ℕ) → kept.epoch ≡ 1 → kept.heads ≡ replicate buckets 0 →
    kept.links ≡ replicate slots MARK → kept.birth ≡ replicate slots 0 → kept.stamps ≡ replicate slots 0 →
    kept.keys ≡ replicate slots 0 → kept.values ≡ replicate slots 0 → kept.places ≡ replicate slots Shared →
    AllByRecursion (IsNewPass own) kept.passes → kept.births ≡ 0 → kept.calls ≡ [] →
    world_of kept ≡ opening_from kept.start (key_count kept.start)
unfolding link_of
opened kept buckets slots own epoch heads links birth stamps keys values places new births calls =
    ap world_of (λ i.
    record kept {
      epoch = epoch i;
      heads = heads i;
      links = links i;
      birth = birth i;
      stamps = stamps i;
      keys = keys i;
      values = values i;
      places = places i;
      births = births i;
      calls = calls i;
    })
    ∙ (λ i. record {
      epoch = 1;
      head = read_replicate link_of buckets 0 0 (link_to None 0 0) refl refl i;
      link = read_replicate link_of slots MARK MARK opening_link refl refl i;
      birth = read_replicate (λ n. n) slots 0 0 0 refl refl i;
      stamp = read_replicate (λ n. n) slots 0 0 0 refl refl i;
      key = read_replicate (λ n. n) slots 0 0 0 refl refl i;
      value = read_replicate (λ n. n) slots 0 0 0 refl refl i;
      place = read_replicate (λ (place : SlotPlace). place) slots Shared Shared Shared refl refl i;
      know = know_opened own kept.passes new i;
      births = 0;
      calls = [];
    })
    ∙ sym (opening_none kept.start)

-- a slot is put where it now is
pub slot_put : (kept : KeptWorld) (s : ℕ) (place : SlotPlace) → IsWhole kept → s < kept.start.shape.slots →
    world_of (record kept { places = set kept.places s place })
    ≡ record (world_of kept) { place = put (world_of kept).place s place }
slot_put kept s place whole lt = λ i.
    record (world_of kept) {
      place = read_set (λ (place : SlotPlace). place) kept.places s place Shared place (omega (arith, whole.places))
          refl i;
    }

-- a slot is put where it now is, after a link was written
pub put_after_link : (linked w : World) (holder : At) (link : Link) (s : ℕ) (place : SlotPlace) →
    linked ≡ with_link_at w holder link →
    record linked { place = put linked.place s place }
    ≡ record (with_link_at w holder link) { place = put w.place s place }
put_after_link linked w (Head b) link s place e = ap (λ (v : World). record v { place = put v.place s place }) e
put_after_link linked w (Slot t) link s place e = ap (λ (v : World). record v { place = put v.place s place }) e
