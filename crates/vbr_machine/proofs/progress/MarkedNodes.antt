-- Marked nodes, counted by their births: they are as many as the slots whose last incarnation is marked.
use Rattle.std.proofs.Common.{◌≡◌, ℕ, ◌<◌, ◌≤◌, Bool, true, List, Option, Some, None, refl, sym, ap, ◌∙◌, subst, arith}
use Rattle.vbr_machine.specs.Start.{Start, IsStart}
use Rattle.vbr_machine.specs.Accounts.{incarnations_after}
use Rattle.vbr_machine.specs.Agreement.{Fits}
use Rattle.vbr_machine.specs.Incarnations.{State, Incarnations}
use Rattle.vbr_machine.specs.Nodes.{count_below, is_marked, marked_after, state_in, state_shown}
use Rattle.vbr_machine.specs.Runs.{IsRun}
use Rattle.vbr_machine.specs.Sound.{IsListed, Sound}
use Rattle.vbr_machine.specs.declared.event.Event.{Event}
use Rattle.vbr_machine.proofs.runs.EveryRun.{run_agrees}
use Rattle.vbr_machine.proofs.progress.ListedNodes.{stands_there}
use Rattle.vbr_machine.proofs.progress.MetNodes.{count_taken}

-- how many incarnations are marked
abbrev pub marked_births : Incarnations → ℕ
marked_births a = count_below (λ c. is_marked (a.state c)) a.count

marked_listed : (st : State) → is_marked st ≡ true → IsListed st
marked_listed st e = grind arith

-- the last incarnation of a slot is this one, and it is marked
record IsMarkedIn (a : Incarnations) (s c : ℕ) : Type 0 where
  last : a.last s ≡ Some c
  marked : is_marked (a.state c) ≡ true

marked_in : (a : Incarnations) (s : ℕ) → is_marked (state_in a s) ≡ true → (c : ℕ) × IsMarkedIn a s c
marked_in a s e = go (a.last s) refl e
  where
    go : (last : Option ℕ) → a.last s ≡ last → is_marked (state_shown a last) ≡ true → (c : ℕ) × IsMarkedIn a s c
    go None is e = absurd (cc)
    go (Some c) is e = (c, record { last = is; marked = e })

-- the incarnation that a slot had last, 0 for none
abbrev born_last : Option ℕ → ℕ
born_last None = 0
born_last (Some c) = c

module _ {start : Start} {a : Incarnations} (sound : Sound start a) (fits : Fits start a) where
  abbrev births : ℕ → Bool
  births c = is_marked (a.state c)

  abbrev slots : ℕ → Bool
  slots s = is_marked (state_in a s)

  -- a marked incarnation is the last of its slot
  last : (c : ℕ) → births c ≡ true → (a.slot c < start.shape.slots) × (a.last (a.slot c) ≡ Some c)
  last c e = let there = stands_there sound fits c (marked_listed (a.state c) e) in (there.0, there.1.last)

  no_more : marked_births a ≤ count_below slots start.shape.slots
  no_more = count_taken births slots a.slot a.count start.shape.slots
      (λ c l e. ((last c e).0, ap (λ o. is_marked (state_shown a o)) (last c e).1 ∙ e)) one
    where
      one : (c d : ℕ) → c < a.count → d < a.count → births c ≡ true → births d ≡ true → a.slot c ≡ a.slot d → c ≡ d
      one c d l k e f q = let z : Some c ≡ Some d = sym (last c e).1 ∙ ap a.last q ∙ (last d f).1 in cc

  no_fewer : count_below slots start.shape.slots ≤ marked_births a
  no_fewer = count_taken slots births (λ s. born_last (a.last s)) start.shape.slots a.count into one
    where
      into : (s : ℕ) → s < start.shape.slots → slots s ≡ true →
          (born_last (a.last s) < a.count) × (births (born_last (a.last s)) ≡ true)
      into s l e =
          let node = marked_in a s e in
          let P : Option ℕ → Type 0 = λ o. (born_last o < a.count) × (births (born_last o) ≡ true) in
          subst P (sym node.1.last) ((sound.slots.last_born s node.0 node.1.last).0, node.1.marked)

      one : (s t : ℕ) → s < start.shape.slots → t < start.shape.slots → slots s ≡ true → slots t ≡ true →
          born_last (a.last s) ≡ born_last (a.last t) → s ≡ t
      one s t l k e f q =
          let here = marked_in a s e in
          let there = marked_in a t f in
          let same : here.0 ≡ there.0 = sym (ap born_last here.1.last) ∙ q ∙ ap born_last there.1.last in
          sym (sound.slots.last_born s here.0 here.1.last).1 ∙ ap a.slot same
          ∙ (sound.slots.last_born t there.0 there.1.last).1

  as_many : marked_births a ≡ count_below slots start.shape.slots
  as_many = let x = no_more in let y = no_fewer in omega (arith, x, y)

-- a law: after a run they are as many
pub marked_once : (start : Start) (passes : ℕ) (run : List Event) → IsStart start → IsRun start passes run →
    marked_births (incarnations_after start run) ≡ marked_after start run
marked_once start passes run is ok = let good = run_agrees start passes run is ok in as_many good.sound good.fits
