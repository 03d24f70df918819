-- A node comes into a list by a publication alone, so a step that makes no call adds none.
use Rattle.std.proofs.Common.{◌≡◌, ◌≢◌, ℕ, ◌≤◌, Bool, true, false, List, [], ◌∷◌, ◌++◌, Option, Some, None, refl, sym}
use Rattle.std.proofs.Common.{ap, ◌∙◌, subst, arith, inl, inr}
use Rattle.std.specs.Option.{option_to_list}
use Rattle.std.specs.Prelude.{◌==◌, ◌&&◌, ◌⊎◌, if◌then◌else◌}
use Rattle.std.proofs.lemmas.Bool.{and_left, cases_eq}
use Rattle.vbr_words.specs.Flags.{has_flag}
use Rattle.vbr_machine.specs.Start.{Start, IsStart}
use Rattle.vbr_words.specs.declared.place.At.{At}
use Rattle.vbr_words.specs.declared.place.At.TheVariants.{Head}
use Rattle.vbr_words.specs.Buckets.{bucket_of}
use Rattle.vbr_machine.specs.Acceptance.{Accepts}
use Rattle.vbr_machine.specs.Accounts.{incarnations_after, notes_after, happens, just, entry_of_call, after_giving_up}
use Rattle.vbr_machine.specs.Chronicles.{Entry, Advances, Gains, Probes, Bears, Keyed, Valued, Aims, Inserts, Raises}
use Rattle.vbr_machine.specs.Chronicles.{Removes, Replaces, Stamps, Unlinks, Confirms, Allowed, becomes}
use Rattle.vbr_machine.specs.Chronicles.{incarnations_from, IsLawful}
use Rattle.vbr_machine.specs.Images.{key_shown}
use Rattle.vbr_machine.specs.Incarnations.{Marked, Incarnations, last_in}
use Rattle.vbr_machine.specs.Opened.{opening_keys}
use Rattle.vbr_machine.specs.Learning.{call_ahead, call_of, link_written}
use Rattle.vbr_machine.specs.Machine.{found}
use Rattle.vbr_machine.specs.Nodes.{behind, is_behind, is_listed, state_shown}
use Rattle.vbr_machine.specs.Notes.{before_at}
use Rattle.vbr_machine.specs.Put.{put}
use Rattle.vbr_machine.specs.Runs.{IsRun, world_after, know_after}
use Rattle.vbr_machine.specs.declared.event.Event.{Event}
use Rattle.vbr_machine.specs.declared.history.Call.{Call}
use Rattle.vbr_machine.specs.declared.event.Step.{Step}
use Rattle.vbr_machine.specs.declared.event.Step.TheVariants.{ReadEpoch, Advance, LoadStamp, PeekBirth, StoreStamp}
use Rattle.vbr_machine.specs.declared.event.Step.TheVariants.{Raise}
use Rattle.vbr_machine.specs.declared.event.Step.TheVariants.{TakeFlag, StoreBirth, StoreKey, StoreLink, LoadLink}
use Rattle.vbr_machine.specs.declared.event.Step.TheVariants.{LoadBirth, LoadKey, Publish, Mark, Replace, Unlink}
use Rattle.vbr_machine.specs.declared.event.Step.TheVariants.{ConfirmPresent, ConfirmAbsent, LoadValue, StoreValue}
use Rattle.vbr_machine.proofs.runs.EveryRun.{incarnations_after-snoc, run_agrees, step_agrees}
use Rattle.vbr_machine.proofs.progress.ListedNodes.{behind_same, count_same, stamps_none, unlinks_add_none}
use Rattle.vbr_machine.proofs.progress.ListedRuns.{birth_leaves, raised_none}
use Rattle.vbr_machine.proofs.words.Puts.{put_here, put_other}
use Rattle.vbr_machine.proofs.runs.RunsGoOn.{calls_added}

-- ---- one event

-- a key that is stored in a slot in hand is none of a list
keyed_none : (start : Start) (a : Incarnations) (pass c key bucket h : ℕ) →
    Allowed start (opening_keys start) a pass (Keyed c key) →
    behind start (becomes start a pass (Keyed c key)) bucket (Head h) ≡ behind start a bucket (Head h)
keyed_none start a pass c key bucket h al =
    count_same (is_behind start (becomes start a pass (Keyed c key)) bucket (Head h))
    (is_behind start a bucket (Head h)) start.shape.slots (λ s l. same (a.last s))
  where
    in_bucket : Incarnations → Option ℕ → Bool
    in_bucket b l = (is_listed (state_shown b l) && (bucket_of start.shape (key_shown b l) == bucket)) && true

    unlisted : (b : Incarnations) (d : ℕ) → is_listed (b.state d) ≡ false → in_bucket b (Some d) ≡ false
    unlisted b d e = and_left _ _ (and_left _ _ e)

    same : (l : Option ℕ) → in_bucket (becomes start a pass (Keyed c key)) l ≡ in_bucket a l
    same None = refl
    same (Some d) = go (cases_eq d c)
      where
        go : (d ≡ c) ⊎ (d ≢ c) → in_bucket (becomes start a pass (Keyed c key)) (Some d) ≡ in_bucket a (Some d)
        go (inl e) =
            let none : is_listed (a.state d) ≡ false = ap (λ n. is_listed (a.state n)) e ∙ ap is_listed al in
            unlisted (becomes start a pass (Keyed c key)) d none ∙ sym (unlisted a d none)
        go (inr ne) =
            ap (λ k. (is_listed (a.state d) && (bucket_of start.shape k == bucket)) && true)
            (put_other a.key c key d ne)

-- a marking leaves the node in its list
removes_none : (start : Start) (a : Incarnations) (pass c bucket : ℕ) (place : At) →
    Allowed start (opening_keys start) a pass (Removes c) →
    behind start (becomes start a pass (Removes c)) bucket place ≡ behind start a bucket place
removes_none start a pass c bucket place al =
    behind_same start a (becomes start a pass (Removes c)) bucket place (λ s. same (a.last s)) refl refl refl
  where
    same : (l : Option ℕ) → is_listed (state_shown (becomes start a pass (Removes c)) l) ≡ is_listed (state_shown a l)
    same None = refl
    same (Some d) = go (cases_eq d c)
      where
        go : (d ≡ c) ⊎ (d ≢ c) → is_listed (put a.state c Marked d) ≡ is_listed (a.state d)
        go (inl e) = ap (λ n. is_listed (put a.state c Marked n)) e ∙ ap is_listed (put_here a.state c Marked)
            ∙ sym (ap (λ n. is_listed (a.state n)) e ∙ ap is_listed al)
        go (inr ne) = ap is_listed (put_other a.state c Marked d ne)

-- ---- one step

no_more : (m n : ℕ) → m ≡ n → m ≤ n
no_more m n e = omega (arith, e)

-- what a test chooses of two adds none where neither does
either_adds_none : (start : Start) (a : Incarnations) (bucket h : ℕ) (t : Bool) (xs ys : List Entry) →
    behind start (incarnations_from start a xs) bucket (Head h) ≤ behind start a bucket (Head h) →
    behind start (incarnations_from start a ys) bucket (Head h) ≤ behind start a bucket (Head h) →
    behind start (incarnations_from start a (if t then xs else ys)) bucket (Head h) ≤ behind start a bucket (Head h)
either_adds_none start a bucket h true xs ys x y = x
either_adds_none start a bucket h false xs ys x y = y

-- entries that add no node to the list of a bucket
abbrev pub AddsNoNode : Start → Incarnations → ℕ → ℕ → List Entry → Type 0
AddsNoNode start a bucket h entries =
    behind start (incarnations_from start a entries) bucket (Head h) ≤ behind start a bucket (Head h)

module _ (start : Start) (passes : ℕ) (run : List Event) (is : IsStart start) (ok : IsRun start passes run)
    (p bucket h : ℕ) where
  abbrev a : Incarnations
  a = incarnations_after start run

  same : (entries : List Entry) →
      behind start (incarnations_from start (incarnations_after start run) entries) bucket (Head h)
      ≡ behind start (incarnations_after start run) bucket (Head h) →
      AddsNoNode start (incarnations_after start run) bucket h entries
  same entries e =
      no_more (behind start (incarnations_from start (incarnations_after start run) entries) bucket (Head h))
      (behind start (incarnations_after start run) bucket (Head h)) e

  confirmed : (t : Bool) (call : Option Call) →
      AddsNoNode start (incarnations_after start run) bucket h (if t then entry_of_call p call else [])
  confirmed true None = same [] refl
  confirmed true (Some call) = same (just p (Confirms call)) refl
  confirmed false call = same [] refl

  one : (step : Step) → calls_added start (world_after start run) p step ≡ [] →
      IsLawful start (opening_keys start) (incarnations_after start run)
      (happens start (world_after start run) (incarnations_after start run) p step) →
      behind start
      (incarnations_from start (incarnations_after start run)
      (happens start (world_after start run) (incarnations_after start run) p step)) bucket (Head h)
      ≤ behind start (incarnations_after start run) bucket (Head h)
  one ReadEpoch n l = same [] refl
  one (LoadStamp s) n l = same [] refl
  one (PeekBirth s) n l = same [] refl
  one (LoadLink place) n l = same [] refl
  one (LoadBirth s) n l = same [] refl
  one (LoadKey s) n l = same [] refl
  one (LoadValue s) n l = same [] refl
  one (Advance from) n l =
      either_adds_none start a bucket h (found start (world_after start run) (Advance from) == from) (just p Advances)
      [] (same (just p Advances) refl) (same [] refl)
  one (StoreStamp s stamp) n l =
      same (just p (Stamps (last_in a s) stamp))
      (stamps_none start (opening_keys start) a p (last_in a s) stamp bucket (Head h) l.0)
  one (Raise s) n l =
      same (after_giving_up a p s (Raises s) ((know_after start run p).own s))
      (raised_none start a p s bucket (Head h) ((know_after start run p).own s)
      (run_agrees start passes run is ok).sound l)
  one (TakeFlag s) n l =
      either_adds_none start a bucket h (has_flag (found start (world_after start run) (TakeFlag s)) s)
      (just p (Gains s)) (just p (Probes s)) (same (just p (Gains s)) refl) (same (just p (Probes s)) refl)
  one (StoreBirth s birth) n l =
      same (after_giving_up a p s (Bears s birth) ((know_after start run p).own s))
      (birth_leaves start a p s birth bucket h ((know_after start run p).own s)
      (run_agrees start passes run is ok).sound l)
  one (StoreKey s key) n l =
      same (just p (Keyed (last_in a s) key)) (keyed_none start a p (last_in a s) key bucket h l.0)
  one (StoreValue s value) n l = same (just p (Valued (last_in a s) value)) refl
  one (StoreLink s next) n l =
      same (just p (Aims (last_in a s) (link_written (know_after start run p) (StoreLink s next)))) refl
  one (Publish pred expected s) n l =
      published (found start (world_after start run) (Publish pred expected s) == expected) n
    where
      published : (t : Bool) →
          option_to_list (if t then call_of start p (know_after start run p) (Publish pred expected s) else None) ≡ [] →
          AddsNoNode start (incarnations_after start run) bucket h
          (if t then just p (Inserts (last_in a s) (before_at a pred)) else [])
      published true n = absurd (cc)
      published false n = same [] refl
  one (Mark s expected) n l = marked (found start (world_after start run) (Mark s expected) == expected) l
    where
      marked : (t : Bool) → IsLawful start (opening_keys start) a (if t then just p (Removes (last_in a s)) else []) →
          AddsNoNode start (incarnations_after start run) bucket h (if t then just p (Removes (last_in a s)) else [])
      marked true l = same (just p (Removes (last_in a s))) (removes_none start a p (last_in a s) bucket (Head h) l.0)
      marked false l = same [] refl
  one (Replace s expected t) n l = replaced (found start (world_after start run) (Replace s expected t) == expected) n
    where
      replaced : (b : Bool) →
          option_to_list (if b then call_ahead start p (know_after start run p) (Replace s expected t) else None)
          ++ option_to_list (if b then call_of start p (know_after start run p) (Replace s expected t) else None) ≡ [] →
          AddsNoNode start (incarnations_after start run) bucket h
          (if b then just p (Replaces (last_in a s) (last_in a t)) else [])
      replaced true n = absurd (cc)
      replaced false n = same [] refl
  one (Unlink pred expected s) n l =
      either_adds_none start a bucket h (found start (world_after start run) (Unlink pred expected s) == expected)
      (just p (Unlinks (last_in a s) (before_at a pred))) []
      (unlinks_add_none start a p bucket (last_in a s) (before_at a pred) (Head h)) (same [] refl)
  one (ConfirmPresent op s expected) n l =
      confirmed (found start (world_after start run) (ConfirmPresent op s expected) == expected)
      (call_of start p (know_after start run p) (ConfirmPresent op s expected))
  one (ConfirmAbsent op key place expected) n l =
      confirmed (found start (world_after start run) (ConfirmAbsent op key place expected) == expected)
      (call_of start p (know_after start run p) (ConfirmAbsent op key place expected))

  -- a law: a mark leaves as many nodes in each list
  pub mark_leaves : (s expected : ℕ) → Accepts start (know_after start run p) (Mark s expected) →
      behind start (incarnations_after start (run ++ (record { pass = p; step = Mark s expected }) ∷ [])) bucket
      (Head h) ≡ behind start (incarnations_after start run) bucket (Head h)
  mark_leaves s expected accepts =
      ap (λ b. behind start b bucket (Head h))
      (incarnations_after-snoc start run (record { pass = p; step = Mark s expected }))
      ∙ either (found start (world_after start run) (Mark s expected) == expected)
      (step_agrees start (world_after start run) (incarnations_after start run) (notes_after start run) p
      (Mark s expected) (run_agrees start passes run is ok) accepts).0
    where
      either : (t : Bool) →
          IsLawful start (opening_keys start) (incarnations_after start run)
          (if t then just p (Removes (last_in (incarnations_after start run) s)) else []) →
          behind start
          (incarnations_from start (incarnations_after start run)
          (if t then just p (Removes (last_in (incarnations_after start run) s)) else [])) bucket (Head h)
          ≡ behind start (incarnations_after start run) bucket (Head h)
      either true l =
          removes_none start (incarnations_after start run) p (last_in (incarnations_after start run) s) bucket (Head h)
          l.0
      either false l = refl

  -- a law: a step by which its pass makes no call adds no node to a list
  pub calls_or_adds_none : (step : Step) → Accepts start (know_after start run p) step →
      calls_added start (world_after start run) p step ≡ [] →
      behind start (incarnations_after start (run ++ (record { pass = p; step = step }) ∷ [])) bucket (Head h)
      ≤ behind start (incarnations_after start run) bucket (Head h)
  calls_or_adds_none step accepts none =
      let P : Incarnations → Type 0 =
      λ b. behind start b bucket (Head h) ≤ behind start (incarnations_after start run) bucket (Head h) in
      subst P (sym (incarnations_after-snoc start run (record { pass = p; step = step })))
      (one step none
      (step_agrees start (world_after start run) (incarnations_after start run) (notes_after start run) p step
      (run_agrees start passes run is ok) accepts).0)
