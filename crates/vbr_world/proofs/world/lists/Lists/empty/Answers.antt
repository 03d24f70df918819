-- The new lists stand for the world at opening.
use Rattle.std.proofs.Common.{◌≡◌, ◌∙◌, ap, None, rules, refl, replicate, arith}
use Rattle.vbr_words.specs.Words.{word_of}
use Rattle.vbr_machine.specs.Links.{link_to, opening_link}
use Rattle.vbr_words.specs.declared.link.TheConstants.{MARK}
use Rattle.vbr_machine.specs.declared.knowledge.SlotPlace.TheVariants.{Shared}
use Rattle.vbr_world.proofs.KeptWorlds.{opened, births_fit, slots_known}
use Rattle.vbr_world.proofs.world.lists.Lists.empty.Goals as goal

-- the words of the links at opening
no_link : word_of (link_to None 0 0) ≡ 0
unfolding word_of
no_link = refl

blank_link : word_of opening_link ≡ MARK
unfolding word_of
blank_link = refl

pub returns : goal.returns
returns c =
    let slots = c.slots-slots.result in
    let none : c.of-none.result ≡ 0 = c.of-none.ensures ∙ ap word_of c.link_to.ensures.link ∙ no_link in
    let blank : c.of-blank.result ≡ MARK = c.of-blank.ensures ∙ ap word_of c.opening_link.ensures.link ∙ blank_link in
    let heads : c.in_ok-heads.heads.items ≡ replicate c.buckets-buckets.result c.of-none.result = search rules in
    let links : c.in_ok-links.links.items ≡ replicate slots c.of-blank.result = search rules in
    let birth : c.in_ok-birth.birth.items ≡ replicate slots 0 = search rules in
    let stamps : c.in_ok-stamps.stamps.items ≡ replicate slots 0 = search rules in
    let keys : c.in_ok-keys.keys.items ≡ replicate slots 0 = search rules in
    let values : c.in_ok-values.values.items ≡ replicate slots 0 = search rules in
    let places : c.in_ok-places.places.items ≡ replicate slots Shared = search rules in
    let world = opened
    (record {
      start = c.args.start;
      epoch = 1;
      heads = c.in_ok-heads.heads.items;
      links = c.in_ok-links.links.items;
      birth = c.in_ok-birth.birth.items;
      stamps = c.in_ok-stamps.stamps.items;
      keys = c.in_ok-keys.keys.items;
      values = c.in_ok-values.values.items;
      places = c.in_ok-places.places.items;
      passes = c.in_ok-passes.passes.items;
      births = 0;
      calls = c.new.result.items;
    })
    c.buckets-buckets.result slots c.slots.result refl (heads ∙ ap (replicate c.buckets-buckets.result) none)
    (links ∙ ap (replicate slots) blank) birth stamps keys values places
    c.in_ok-passes.ensures.new refl c.new.ensures.items in
    record { world = world; start = search rules; passes = search rules }

-- the lists are as long as the shape says
pub invariant_of-result : goal.invariant_of-result
invariant_of-result c = record {
  start = c.slots-slots.ensures.start;
  epoch = let some = c.slots-slots.ensures.start.shape.some_epoch in omega (arith, some);
  heads = search rules;
  links = search rules;
  birth = search rules;
  stamps = search rules;
  keys = search rules;
  values = search rules;
  places = search rules;
  owns = slots_known c.slots.result c.args.start.shape.slots c.in_ok-passes.passes.items c.slots.ensures.slots
      c.in_ok-passes.ensures.new;
  fits =
      let birth : c.in_ok-birth.birth.items ≡ replicate c.slots-slots.result 0 = search rules in
      rw birth (births_fit c.slots-slots.result);
}
