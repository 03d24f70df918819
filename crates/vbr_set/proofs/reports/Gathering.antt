-- What is listed and counted of the nodes, slot by slot.
use Rattle.std.proofs.Common.{◌≡◌, ℕ, suc, ◌+◌, ◌<◌, Bool, true, false, cond, List, [], ◌∷◌, ◌++◌, refl, sym, ap, ◌∙◌}
use Rattle.std.proofs.Common.{add-one}
use Rattle.std.specs.Prelude.{not}
use Rattle.std.proofs.lemmas.Bool.{false≢true, true≢false}
use Rattle.vbr_machine.specs.Start.{Start}
use Rattle.vbr_words.specs.declared.link.Link.{Link}
use Rattle.vbr_words.specs.declared.place.At.TheVariants.{Slot}
use Rattle.vbr_words.specs.declared.place.Place.TheVariants as place
use Rattle.vbr_machine.specs.Accounts.{incarnations_after}
use Rattle.vbr_machine.specs.Incarnations.{State, Linked, Marked}
use Rattle.vbr_machine.specs.Incarnations.{Incarnations}
use Rattle.vbr_machine.specs.declared.event.Event.{Event}
use Rattle.vbr_machine.specs.Nodes.{count_below, is_linked, is_marked, state_in, is_listed}
use Rattle.vbr_set.specs.reports.Walking.{AreAfter, NotesLists, linked_of, is_noted, link_in}
use Rattle.vbr_set.proofs.reports.ShownNodes.{link_read, mark_of_node}
use Rattle.vbr_machine.proofs.Lemmas.{stands_in}

-- what was gathered from the slots below a number
pub record Gathered {T : Type 0} (tell : ℕ → T) (a : Incarnations) (slot : ℕ) (listed : List T) (live marked : ℕ) :
    Type 0 where
  pub listed_is : listed ≡ linked_of tell a slot
  pub live_is : live ≡ count_below (λ s. is_linked (state_in a s)) slot
  pub marked_is : marked ≡ count_below (λ s. is_marked (state_in a s)) slot

-- the same, of other names
pub gathered_as : {T : Type 0} {tell : ℕ → T} {a : Incarnations} {s l m live marked : ℕ} {k listed : List T} →
    listed ≡ k → live ≡ l → marked ≡ m → Gathered tell a s k l m → Gathered tell a s listed live marked
gathered_as k l m g = record { listed_is = k ∙ g.listed_is; live_is = l ∙ g.live_is; marked_is = m ∙ g.marked_is }

-- ---- one more slot

count_yes : (test : ℕ → Bool) (s : ℕ) → test s ≡ true → count_below test (s + 1) ≡ count_below test s + 1
count_yes test s e = ap (count_below test) (add-one s)
    ∙ ap (λ b. cond b (suc (count_below test s)) (count_below test s)) e ∙ sym (add-one (count_below test s))

count_no : (test : ℕ → Bool) (s : ℕ) → test s ≡ false → count_below test (s + 1) ≡ count_below test s
count_no test s e =
    ap (count_below test) (add-one s) ∙ ap (λ b. cond b (suc (count_below test s)) (count_below test s)) e

listed_yes : {T : Type 0} (tell : ℕ → T) (a : Incarnations) (s : ℕ) → is_linked (state_in a s) ≡ true →
    linked_of tell a (s + 1) ≡ linked_of tell a s ++ tell s ∷ []
listed_yes tell a s e =
    ap (linked_of tell a) (add-one s) ∙ ap (λ b. cond b (linked_of tell a s ++ tell s ∷ []) (linked_of tell a s)) e

listed_no : {T : Type 0} (tell : ℕ → T) (a : Incarnations) (s : ℕ) → is_linked (state_in a s) ≡ false →
    linked_of tell a (s + 1) ≡ linked_of tell a s
listed_no tell a s e =
    ap (linked_of tell a) (add-one s) ∙ ap (λ b. cond b (linked_of tell a s ++ tell s ∷ []) (linked_of tell a s)) e

-- a node in a list is linked or marked, and no other is either
unlisted : (st : State) → is_listed st ≡ false → (is_linked st ≡ false) × (is_marked st ≡ false)
unlisted Linked e = absurd (true≢false e)
unlisted Marked e = absurd (true≢false e)
unlisted _ e = (refl, refl)

either : (st : State) → is_listed st ≡ true → is_linked st ≡ not (is_marked st)
either Linked e = refl
either Marked e = refl
either _ e = absurd (false≢true e)

-- the slot has no node in a list
pub gathered_skip : {T : Type 0} {tell : ℕ → T} {a : Incarnations} {s live marked : ℕ} {listed : List T} (start : Start)
    (notes : List Bool) → NotesLists start a notes → s < start.shape.slots → is_noted notes s ≡ false →
    Gathered tell a s listed live marked → Gathered tell a (s + 1) listed live marked
gathered_skip {T} {tell} {a} {s} start notes lists low absent g =
    let none = unlisted (state_in a s) (sym (lists s low) ∙ absent) in
    record {
      listed_is = g.listed_is ∙ sym (listed_no tell a s none.0);
      live_is = g.live_is ∙ sym (count_no (λ i. is_linked (state_in a i)) s none.0);
      marked_is = g.marked_is ∙ sym (count_no (λ i. is_marked (state_in a i)) s none.1);
    }

-- whether the node in a list is marked is what its link says
mark_read : {start : Start} {words : List ℕ} {run : List Event} → AreAfter start words run → (s : ℕ) →
    s < start.shape.slots → is_listed (state_in (incarnations_after start run) s) ≡ true →
    (link_in start.shape words (place.LinkOf s)).mark
    ≡ is_marked (state_in (incarnations_after start run) s)
mark_read {start} {words} {run} x s low listed = ap (λ (l : Link). l.mark) (link_read x (Slot s) low)
    ∙ mark_of_node (stands_in (incarnations_after start run) s listed).1

-- it has a marked one
pub gathered_marked : {T : Type 0} {tell : ℕ → T} {start : Start} {words : List ℕ} {run : List Event}
    {s live marked : ℕ} {listed : List T} (notes : List Bool) → AreAfter start words run →
    NotesLists start (incarnations_after start run) notes → s < start.shape.slots → is_noted notes s ≡ true
    → (link_in start.shape words (place.LinkOf s)).mark ≡ true →
    Gathered tell (incarnations_after start run) s listed live marked →
    Gathered tell (incarnations_after start run) (s + 1) listed live (marked + 1)
gathered_marked {T} {tell} {start} {words} {run} {s} notes x lists low there mark g =
    let a = incarnations_after start run in
    let listed = sym (lists s low) ∙ there in
    let is = sym (mark_read x s low listed) ∙ mark in
    let linked = either (state_in a s) listed ∙ ap not is in
    record {
      listed_is = g.listed_is ∙ sym (listed_no tell a s linked);
      live_is = g.live_is ∙ sym (count_no (λ i. is_linked (state_in a i)) s linked);
      marked_is = ap (λ n. n + 1) g.marked_is ∙ sym (count_yes (λ i. is_marked (state_in a i)) s is);
    }

-- it has a linked one
pub gathered_linked : {T : Type 0} {tell : ℕ → T} {start : Start} {words : List ℕ} {run : List Event}
    {s live marked : ℕ} {listed : List T} (told : T) (notes : List Bool) → AreAfter start words run →
    NotesLists start (incarnations_after start run) notes → s < start.shape.slots → is_noted notes s ≡ true
    → (link_in start.shape words (place.LinkOf s)).mark ≡ false → told ≡ tell s →
    Gathered tell (incarnations_after start run) s listed live marked →
    Gathered tell (incarnations_after start run) (s + 1) (listed ++ told ∷ []) (live + 1) marked
gathered_linked {T} {tell} {start} {words} {run} {s} told notes x lists low there mark is_told g =
    let a = incarnations_after start run in
    let there_is = sym (lists s low) ∙ there in
    let is = sym (mark_read x s low there_is) ∙ mark in
    let linked = either (state_in a s) there_is ∙ ap not is in
    record {
      listed_is = (λ i. g.listed_is i ++ is_told i ∷ []) ∙ sym (listed_yes tell a s linked);
      live_is = ap (λ n. n + 1) g.live_is ∙ sym (count_yes (λ i. is_linked (state_in a i)) s linked);
      marked_is = g.marked_is ∙ sym (count_no (λ i. is_marked (state_in a i)) s is);
    }
