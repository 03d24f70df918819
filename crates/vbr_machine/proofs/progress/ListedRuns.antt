-- How many nodes stand behind a held place after a step, while its checked link still stands.
use Rattle.std.proofs.Common.{◌≡◌, ℕ, suc, true, false, List, [], ◌∷◌, ◌++◌, Option, Some, None, refl, sym, ap, ◌∙◌}
use Rattle.std.proofs.Common.{subst, inl, eq-eqb}
use Rattle.std.specs.Prelude.{◌==◌, ◌⊎◌, if◌then◌else◌}
use Rattle.vbr_machine.specs.Start.{Start, IsStart}
use Rattle.vbr_words.specs.Words.{link_of}
use Rattle.vbr_words.specs.declared.link.Link.{Link}
use Rattle.vbr_words.specs.declared.place.At.{At}
use Rattle.vbr_words.specs.declared.place.At.TheVariants.{Head, Slot}
use Rattle.vbr_words.specs.Buckets.{bucket_of}
use Rattle.vbr_machine.specs.Acceptance.{Accepts}
use Rattle.vbr_machine.specs.Machine.{found}
use Rattle.vbr_machine.specs.Membership.{Knows, HeldIn}
use Rattle.vbr_machine.specs.Opened.{opening_keys}
use Rattle.vbr_machine.specs.Runs.{IsRun, world_after, know_after}
use Rattle.vbr_machine.specs.Incarnations.{Incarnations, last_in}
use Rattle.vbr_machine.specs.Images.{link_shown_at, key_shown}
use Rattle.vbr_machine.specs.Chronicles.{Happening, GivesUp, Raises, Bears, Removes, Unlinks, Allowed, becomes}
use Rattle.vbr_machine.specs.Chronicles.{incarnations_from, IsLawful, next_of}
use Rattle.vbr_machine.specs.Accounts.{incarnations_after, happens, notes_after, just, after_giving_up}
use Rattle.vbr_machine.specs.Agreement.{IsHeldAt, IsHeldNext, Agrees}
use Rattle.vbr_machine.specs.Notes.{before_at}
use Rattle.vbr_machine.specs.Nodes.{behind, is_above}
use Rattle.vbr_machine.specs.Removals.{IsTakenOut}
use Rattle.vbr_machine.specs.Sound.{Sound}
use Rattle.vbr_machine.specs.declared.event.Event.{Event}
use Rattle.vbr_machine.specs.declared.event.Step.{Step}
use Rattle.vbr_machine.specs.declared.event.Step.TheVariants.{Mark, StoreStamp, Raise, Unlink}
use Rattle.vbr_machine.specs.declared.knowledge.Read.TheVariants.{LinkAt}
use Rattle.vbr_machine.proofs.reads.HeldBuckets.{IsOfBucket, place_in_bucket}
use Rattle.vbr_machine.proofs.reads.KnownReads.{good_link}
use Rattle.vbr_machine.proofs.runs.EveryRun.{incarnations_after-snoc, run_agrees, step_agrees}
use Rattle.vbr_machine.proofs.moments.Removals.{marked_out}
use Rattle.vbr_machine.proofs.moments.RunForms as forms
use Rattle.vbr_machine.proofs.progress.ListedNodes.{IsFollowed, IsPlaceOf, is_there, next_of_followed, same_followed}
use Rattle.vbr_machine.proofs.progress.ListedNodes.{stamps_none, stamps_links}
use Rattle.vbr_machine.proofs.progress.ListedNodes.{unlinks_one, bears_none, gives_up_none, gives_up_links}
use Rattle.vbr_machine.proofs.chronicles.SoundAfter.{sound_kept}
use Rattle.vbr_machine.specs.declared.knowledge.Holding.{Holding}
use Rattle.vbr_machine.specs.declared.knowledge.Holding.TheVariants.{Free, Unlinked, InHand}

-- ---- a place in a list that is held in a bucket, and shows its known link

-- the incarnation there, and what follows it, both in the bucket
pub record StandsIn (start : Start) (a : Incarnations) (epoch bucket : ℕ) (holder : At) (link : Link) : Type 0 where
  pub of : Option ℕ
  pub names : Option ℕ
  pub followed : IsFollowed a holder of names
  pub next : IsHeldNext a epoch link.slot names
  pub place : IsPlaceOf start a holder bucket

place_of_bucket : (start : Start) (a : Incarnations) (epoch bucket : ℕ) (place : At) (of names : Option ℕ) →
    IsFollowed a place of names → IsHeldAt a epoch place of → IsOfBucket start a epoch place bucket →
    IsPlaceOf start a place bucket
place_of_bucket start a epoch bucket (Head b) of names pair held is = is
place_of_bucket start a epoch bucket (Slot t) None names pair held is = absurd held
place_of_bucket start a epoch bucket (Slot t) (Some c) names pair held is =
    let e : c ≡ pair.0 = (let q = pair.1 in cc) in
    ap (bucket_of start.shape) (ap (key_shown a) pair.2 ∙ ap a.key (sym e)) ∙ is c held

module _ (start : Start) (passes : ℕ) (run : List Event) (is : IsStart start) (ok : IsRun start passes run) (p : ℕ)
    (bucket : ℕ) (place : At) (link : Link)
    (known : Knows (know_after start run p) (LinkAt place link))
    (there : (link.mark ≡ false) ⊎ (is_there (incarnations_after start run) place ≡ true))
    (shown : link_shown_at (incarnations_after start run) place ≡ link)
    (inside : HeldIn (know_after start run p) place bucket) where
  abbrev a : Incarnations
  a = incarnations_after start run

  pub agrees : Agrees start (world_after start run) (incarnations_after start run) (notes_after start run)
  agrees = run_agrees start passes run is ok

  pub stands_in_bucket : StandsIn start (incarnations_after start run) (know_after start run p).epoch bucket place link
  stands_in_bucket =
      let g = good_link (agrees.knows p) place link known in
      let e = (know_after start run p).epoch in
      let followed = same_followed agrees.sound e place link g.0 g.1 g.2 there shown in
      record {
        of = g.0;
        names = g.1;
        followed = followed;
        next = g.2.next;
        place = place_of_bucket start a e bucket place g.0 g.1 followed g.2.place
            (place_in_bucket agrees.sound (agrees.knows p) (forms.ordered start passes run is ok p) place bucket
            inside);
      }

-- ---- what is given up

-- an incarnation in hand that is given up was in no list: where what comes then leaves as many nodes behind a
-- place, both do
pub given_up_leaves : (start : Start) (a : Incarnations) (p s : ℕ) (what : Happening) (bucket : ℕ) (place : At)
    (holding : Option Holding) →
    ((b : Incarnations) → Sound start b → Allowed start (opening_keys start) b p what →
    behind start (becomes start b p what) bucket place ≡ behind start b bucket place) →
    Sound start a → IsLawful start (opening_keys start) a (after_giving_up a p s what holding) →
    behind start (incarnations_from start a (after_giving_up a p s what holding)) bucket place
    ≡ behind start a bucket place
given_up_leaves start a p s what bucket place None same sound l = same a sound l.0
given_up_leaves start a p s what bucket place (Some (Free stamp)) same sound l = same a sound l.0
given_up_leaves start a p s what bucket place (Some (Unlinked reread)) same sound l = same a sound l.0
given_up_leaves start a p s what bucket place (Some (InHand known)) same sound l =
    same (becomes start a p (GivesUp (last_in a s)))
    (sound_kept start (opening_keys start) a p (GivesUp (last_in a s)) sound l.0) l.1.0
    ∙ gives_up_none start (opening_keys start) a p (last_in a s) bucket place l.0

-- a birth leaves as many nodes in each list
pub birth_leaves : (start : Start) (a : Incarnations) (p s birth bucket h : ℕ) (holding : Option Holding) →
    Sound start a → IsLawful start (opening_keys start) a (after_giving_up a p s (Bears s birth) holding) →
    behind start (incarnations_from start a (after_giving_up a p s (Bears s birth) holding)) bucket (Head h)
    ≡ behind start a bucket (Head h)
birth_leaves start a p s birth bucket h holding sound l =
    given_up_leaves start a p s (Bears s birth) bucket (Head h) holding
    (λ b sound al. bears_none start (opening_keys start) b p s birth bucket h sound al) sound l

-- a raise leaves as many nodes behind each place, and the links that are shown
pub raised_none : (start : Start) (a : Incarnations) (p s bucket : ℕ) (place : At) (holding : Option Holding) →
    Sound start a → IsLawful start (opening_keys start) a (after_giving_up a p s (Raises s) holding) →
    behind start (incarnations_from start a (after_giving_up a p s (Raises s) holding)) bucket place
    ≡ behind start a bucket place
raised_none start a p s bucket place holding sound l =
    given_up_leaves start a p s (Raises s) bucket place holding (λ b sound al. refl) sound l

raised_links : (start : Start) (a : Incarnations) (p s : ℕ) (place : At) (holding : Option Holding) →
    IsLawful start (opening_keys start) a (after_giving_up a p s (Raises s) holding) →
    link_shown_at (incarnations_from start a (after_giving_up a p s (Raises s) holding)) place ≡ link_shown_at a place
raised_links start a p s place None l = refl
raised_links start a p s place (Some (Free stamp)) l = refl
raised_links start a p s place (Some (Unlinked reread)) l = refl
raised_links start a p s place (Some (InHand known)) l = gives_up_links start (opening_keys start) a p (last_in a s)
    place l.0

raised_epoch : (start : Start) (a : Incarnations) (p s : ℕ) (holding : Option Holding) →
    (incarnations_from start a (after_giving_up a p s (Raises s) holding)).epoch ≡ a.epoch
raised_epoch start a p s None = refl
raised_epoch start a p s (Some (Free stamp)) = refl
raised_epoch start a p s (Some (Unlinked reread)) = refl
raised_epoch start a p s (Some (InHand known)) = refl

-- ---- one more step

-- a step that only reads leaves the incarnations as they were
pub read_leaves : (start : Start) (run : List Event) (p : ℕ) (step : Step) →
    happens start (world_after start run) (incarnations_after start run) p step ≡ [] →
    incarnations_after start (run ++ (record { pass = p; step = step }) ∷ []) ≡ incarnations_after start run
read_leaves start run p step none = incarnations_after-snoc start run (record { pass = p; step = step })
    ∙ ap (incarnations_from start (incarnations_after start run)) none

-- what happens by an exchange that finds its word
if_found : {A : Type 0} (n expected : ℕ) (x y : A) → n ≡ expected → (if n == expected then x else y) ≡ x
if_found n expected x y e = let t : (n == expected) ≡ true = eq-eqb n expected e in rw t refl

-- what follows the place is the successor there
followed_by : (a : Incarnations) (place : At) (of names : Option ℕ) (c : ℕ) → IsFollowed a place of names →
    next_of a (before_at a place) ≡ Some c → IsFollowed a place of (Some c)
followed_by a (Head b) of names c p q = (p.0, q)
followed_by a (Slot t) of names c p q =
    let e : last_in a t ≡ p.0 = rw p.2 refl in
    (p.0, p.1, p.2, p.3, ap a.next (sym e) ∙ q)

module _ (start : Start) (passes : ℕ) (run : List Event) (is : IsStart start) (ok : IsRun start passes run)
    (p : ℕ) where
  abbrev b : Incarnations
  b = incarnations_after start run

  lawful : (step : Step) → Accepts start (know_after start run p) step →
      IsLawful start (opening_keys start) (incarnations_after start run)
      (happens start (world_after start run) (incarnations_after start run) p step)
  lawful step accepts =
      (step_agrees start (world_after start run) b (notes_after start run) p step (run_agrees start passes run is ok)
      accepts).0

  -- a stamp leaves as many nodes behind each place
  pub stamp_leaves : (s stamp bucket : ℕ) (place : At) → Accepts start (know_after start run p) (StoreStamp s stamp) →
      behind start (incarnations_after start (run ++ (record { pass = p; step = StoreStamp s stamp }) ∷ [])) bucket
      place
      ≡ behind start (incarnations_after start run) bucket place
  stamp_leaves s stamp bucket place accepts =
      ap (λ a. behind start a bucket place)
      (incarnations_after-snoc start run (record { pass = p; step = StoreStamp s stamp }))
      ∙ stamps_none start (opening_keys start) b p (last_in b s) stamp bucket place
      (lawful (StoreStamp s stamp) accepts).0

  -- and so does the return of a slot to the shared pool
  pub raise_leaves : (s bucket : ℕ) (place : At) → Accepts start (know_after start run p) (Raise s) →
      behind start (incarnations_after start (run ++ (record { pass = p; step = Raise s }) ∷ [])) bucket place
      ≡ behind start (incarnations_after start run) bucket place
  raise_leaves s bucket place accepts =
      ap (λ a. behind start a bucket place) (incarnations_after-snoc start run (record { pass = p; step = Raise s }))
      ∙ raised_none start b p s bucket place ((know_after start run p).own s) (run_agrees start passes run is ok).sound
      (lawful (Raise s) accepts)

  -- a won unlinking leaves one node fewer behind each place that the node lies behind
  unlink_takes : (bucket : ℕ) (pred from : At) (expected s : ℕ) →
      Accepts start (know_after start run p) (Unlink pred expected s) →
      found start (world_after start run) (Unlink pred expected s) ≡ expected →
      Knows (know_after start run p) (LinkAt pred (link_of expected)) → (link_of expected).mark ≡ false →
      link_shown_at (incarnations_after start run) pred ≡ link_of expected →
      HeldIn (know_after start run p) pred bucket →
      ((of : Option ℕ) →
      IsFollowed (incarnations_after start run) pred of (Some (last_in (incarnations_after start run) s)) →
      IsPlaceOf start (incarnations_after start run) pred bucket →
      is_above (incarnations_after start run) from
      ((incarnations_after start run).key (last_in (incarnations_after start run) s))
      ((incarnations_after start run).rank (last_in (incarnations_after start run) s)) ≡ true) →
      behind start (incarnations_after start run) bucket from
      ≡ suc (behind start (incarnations_after start (run ++ (record { pass = p; step = Unlink pred expected s }) ∷ []))
      bucket from)
  unlink_takes bucket pred from expected s accepts won known unmarked shown inside above =
      let step = Unlink pred expected s in
      let w = world_after start run in
      let g = run_agrees start passes run is ok in
      let x = stands_in_bucket start passes run is ok p bucket pred (link_of expected) known (inl unmarked) shown
      inside in
      let adds : happens start w b p step ≡ just p (Unlinks (last_in b s) (before_at b pred)) =
      if_found (found start w step) expected (just p (Unlinks (last_in b s) (before_at b pred))) [] won in
      let allowed = (rw adds at (lawful step accepts)).0 in
      let followed = followed_by b pred x.of x.names (last_in b s) x.followed allowed.2 in
      unlinks_one g.sound g.fits p bucket (last_in b s) pred from x.of followed x.place (above x.of followed x.place)
      ∙ ap (λ a. suc (behind start a bucket from))
      (sym (incarnations_after-snoc start run (record { pass = p; step = step }) ∙ ap (incarnations_from start b) adds))

  -- a law: so it does behind the place
  pub unlink_takes_one : (bucket : ℕ) (pred : At) (expected s : ℕ) →
      Accepts start (know_after start run p) (Unlink pred expected s) →
      found start (world_after start run) (Unlink pred expected s) ≡ expected →
      Knows (know_after start run p) (LinkAt pred (link_of expected)) → (link_of expected).mark ≡ false →
      link_shown_at (incarnations_after start run) pred ≡ link_of expected →
      HeldIn (know_after start run p) pred bucket →
      behind start (incarnations_after start run) bucket pred
      ≡ suc (behind start (incarnations_after start (run ++ (record { pass = p; step = Unlink pred expected s }) ∷ []))
      bucket pred)
  unlink_takes_one bucket pred expected s accepts won known unmarked shown inside =
      unlink_takes bucket pred pred expected s accepts won known unmarked shown inside
      (λ of followed place.
      (next_of_followed (run_agrees start passes run is ok).sound bucket pred of (last_in b s) followed place).above)

  -- a law: and in the list
  pub unlink_takes_listed : (bucket : ℕ) (pred : At) (expected s : ℕ) →
      Accepts start (know_after start run p) (Unlink pred expected s) →
      found start (world_after start run) (Unlink pred expected s) ≡ expected →
      Knows (know_after start run p) (LinkAt pred (link_of expected)) → (link_of expected).mark ≡ false →
      link_shown_at (incarnations_after start run) pred ≡ link_of expected →
      HeldIn (know_after start run p) pred bucket → (h : ℕ) →
      behind start (incarnations_after start run) bucket (Head h)
      ≡ suc (behind start (incarnations_after start (run ++ (record { pass = p; step = Unlink pred expected s }) ∷ []))
      bucket (Head h))
  unlink_takes_listed bucket pred expected s accepts won known unmarked shown inside h =
      unlink_takes bucket pred (Head h) expected s accepts won known unmarked shown inside (λ of followed place. refl)

  -- what a won unlinking makes of the incarnations
  pub unlink_makes : (pred : At) (expected s : ℕ) →
      found start (world_after start run) (Unlink pred expected s) ≡ expected →
      incarnations_after start (run ++ (record { pass = p; step = Unlink pred expected s }) ∷ [])
      ≡ becomes start (incarnations_after start run) p
      (Unlinks (last_in (incarnations_after start run) s) (before_at (incarnations_after start run) pred))
  unlink_makes pred expected s won =
      let step = Unlink pred expected s in
      incarnations_after-snoc start run (record { pass = p; step = step })
      ∙ ap (incarnations_from start b)
      (if_found (found start (world_after start run) step) expected (just p (Unlinks (last_in b s) (before_at b pred)))
      [] won)

  -- a law: a node that is marked is taken out
  pub mark_out : (s expected : ℕ) → Accepts start (know_after start run p) (Mark s expected) →
      found start (world_after start run) (Mark s expected) ≡ expected →
      IsTakenOut (incarnations_after start (run ++ (record { pass = p; step = Mark s expected }) ∷ []))
      (know_after start run p).epoch s
  mark_out s expected accepts won =
      let step = Mark s expected in
      let P : Incarnations → Type 0 = λ i. IsTakenOut i (know_after start run p).epoch s in
      subst P (sym
      (incarnations_after-snoc start run (record { pass = p; step = step })
      ∙ ap (incarnations_from start b)
      (if_found (found start (world_after start run) step) expected (just p (Removes (last_in b s))) [] won)))
      (marked_out p s expected (run_agrees start passes run is ok) accepts won)

  -- a stamp and the return of a slot leave the epoch
  pub stamp_epoch : (s stamp : ℕ) →
      (incarnations_after start (run ++ (record { pass = p; step = StoreStamp s stamp }) ∷ [])).epoch
      ≡ (incarnations_after start run).epoch
  stamp_epoch s stamp =
      ap (λ (a : Incarnations). a.epoch)
      (incarnations_after-snoc start run (record { pass = p; step = StoreStamp s stamp }))

  pub raise_epoch : (s : ℕ) →
      (incarnations_after start (run ++ (record { pass = p; step = Raise s }) ∷ [])).epoch
      ≡ (incarnations_after start run).epoch
  raise_epoch s =
      ap (λ (a : Incarnations). a.epoch) (incarnations_after-snoc start run (record { pass = p; step = Raise s }))
      ∙ raised_epoch start b p s ((know_after start run p).own s)

  -- and the links that are shown
  pub stamp_links : (s stamp : ℕ) (place : At) → Accepts start (know_after start run p) (StoreStamp s stamp) →
      link_shown_at (incarnations_after start (run ++ (record { pass = p; step = StoreStamp s stamp }) ∷ [])) place
      ≡ link_shown_at (incarnations_after start run) place
  stamp_links s stamp place accepts =
      ap (λ a. link_shown_at a place)
      (incarnations_after-snoc start run (record { pass = p; step = StoreStamp s stamp }))
      ∙ stamps_links start (opening_keys start) b p (last_in b s) stamp place (lawful (StoreStamp s stamp) accepts).0

  pub raise_links : (s : ℕ) (place : At) → Accepts start (know_after start run p) (Raise s) →
      link_shown_at (incarnations_after start (run ++ (record { pass = p; step = Raise s }) ∷ [])) place
      ≡ link_shown_at (incarnations_after start run) place
  raise_links s place accepts =
      ap (λ a. link_shown_at a place) (incarnations_after-snoc start run (record { pass = p; step = Raise s }))
      ∙ raised_links start b p s place ((know_after start run p).own s) (lawful (Raise s) accepts)
