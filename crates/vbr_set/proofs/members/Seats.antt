-- The seats of the mailboxes of a set, while its members are made.
use Rattle.std.proofs.Common.{◌≡◌, ℕ, zero, suc, ◌+◌, List, [], ◌∷◌, ◌++◌, length, sym, refl, ap, ◌∙◌, subst, arith}
use Rattle.std.proofs.Common.{Option, None}
use Rattle.std.proofs.lemmas.List.{get_or_append_left, get_or_push, length-append}
use Rattle.std.proofs.lemmas.List.Elements.{All-push, All-same}
use Rattle.atomic_table.specs.Seated.{TableId}
use Rattle.atomic_table.specs.Table.{Me}
use Rattle.vbr_slots.specs.steps.Calls.{made_by}
use Rattle.vbr_slots.specs.views.Views.{PassView, TableView, new_passes}
use Rattle.vbr_set.specs.members.Mailboxes.{IsIdle, SeatKnows}
use Rattle.vbr_set.specs.members.Seats.{MailboxSeat, AreSeats}
use Rattle.vbr_set.specs.members.Sharing.{IsSeatOf, AreMailboxesOf}
use Rattle.vbr_set.specs.declared.member.mailbox.Mailbox.{Mailbox}

module _ {N : Type 0} where
  -- each pass is one of the set, has made no call, and has its seat
  abbrev pub AreSeated : TableView → List (Mailbox N) → List PassView → List MailboxSeat → Type 0
  AreSeated set mailboxes [] seats = Unit {0}
  AreSeated set mailboxes (pass ∷ passes) [] = ⊥
  AreSeated set mailboxes (pass ∷ passes) (seat ∷ seats) = IsIdle set pass × (made_by pass.trace ≡ []) ×
      IsSeatOf mailboxes pass.trace.who seat.table_id seat.id seat.me × AreSeated set mailboxes passes seats

  longer : (mailboxes : List (Mailbox N)) (mailbox : Mailbox N) →
      length (mailboxes ++ mailbox ∷ []) ≡ length mailboxes + 1
  longer mailboxes mailbox = length-append mailboxes (mailbox ∷ [])

  -- a seat stays one where a mailbox is added after the others
  mailbox_more : (mailboxes : List (Mailbox N)) (mailbox : Mailbox N) (who : ℕ) (table : TableId) (id : ℕ)
      (me : Me (Option PassView) SeatKnows) → IsSeatOf mailboxes who table id me →
      IsSeatOf (mailboxes ++ mailbox ∷ []) who table id me
  mailbox_more mailboxes mailbox who table id me s =
      let there = s.there in let long = longer mailboxes mailbox in
      record {
        there = omega arith;
        fits = λ d. s.fits d
            ∙ ap (λ (p : Mailbox N). p.table.shared.table_id)
            (sym (get_or_append_left mailboxes (mailbox ∷ []) d who there));
        first = s.first;
        fresh = s.fresh;
      }

  seats_more : (mailboxes : List (Mailbox N)) (mailbox : Mailbox N) (who : ℕ) (seats : List MailboxSeat) →
      AreSeats mailboxes who seats → AreSeats (mailboxes ++ mailbox ∷ []) who seats
  seats_more mailboxes mailbox who [] s = tt
  seats_more mailboxes mailbox who (seat ∷ seats) s = (
    mailbox_more mailboxes mailbox who seat.table_id seat.id seat.me s.0,
    seats_more mailboxes mailbox (suc who) seats s.1,
  )

  -- the seat of the last mailbox
  last_seat : (mailboxes : List (Mailbox N)) (mailbox : Mailbox N) (who : ℕ) (seat : MailboxSeat) →
      length mailboxes ≡ who → seat.table_id ≡ mailbox.table.shared.table_id → seat.id ≡ 0 → seat.me ≡ (None, [])
      → IsSeatOf (mailboxes ++ mailbox ∷ []) who seat.table_id seat.id seat.me
  last_seat mailboxes mailbox who seat at_end fits first fresh =
      let long = longer mailboxes mailbox in
      record {
        there = omega arith;
        fits = λ d. fits
            ∙ ap (λ (p : Mailbox N). p.table.shared.table_id) (sym (get_or_push mailboxes mailbox d who at_end));
        first = first;
        fresh = fresh;
      }

  seats_push : (mailboxes : List (Mailbox N)) (who : ℕ) (seats : List MailboxSeat) (seat : MailboxSeat) →
      AreSeats mailboxes who seats → IsSeatOf mailboxes (who + length seats) seat.table_id seat.id seat.me →
      AreSeats mailboxes who (seats ++ seat ∷ [])
  seats_push mailboxes who [] seat s last =
      let e : who + 0 ≡ who = omega arith in
      (subst (λ (n : ℕ). IsSeatOf mailboxes n seat.table_id seat.id seat.me) e last, tt)
  seats_push mailboxes who (x ∷ xs) seat s last =
      let n : ℕ = length xs in let e : who + suc n ≡ suc who + n = omega arith in (
        s.0,
        seats_push mailboxes (suc who) xs seat s.1
            (subst (λ (k : ℕ). IsSeatOf mailboxes k seat.table_id seat.id seat.me) e last),
      )

  -- one more mailbox with its seat
  pub one_more : (mailboxes mailboxes' : List (Mailbox N)) (mailbox : Mailbox N) (seats seats' : List MailboxSeat)
      (seat : MailboxSeat) → mailboxes' ≡ mailboxes ++ mailbox ∷ [] → seats' ≡ seats ++ seat ∷ [] →
      length mailboxes ≡ length seats
      → seat.table_id ≡ mailbox.table.shared.table_id → seat.id ≡ 0 → seat.me ≡ (None, []) →
      AreSeats mailboxes 0 seats → AreSeats mailboxes' 0 seats'
  one_more mailboxes mailboxes' mailbox seats seats' seat e f same fits first fresh s =
      let n : ℕ = length seats in let z : n ≡ 0 + n = omega arith in
      subst (λ (x : List (Mailbox N) × List MailboxSeat). AreSeats x.0 0 x.1) (λ i. (sym e i, sym f i))
      (seats_push (mailboxes ++ mailbox ∷ []) 0 seats seat (seats_more mailboxes mailbox 0 seats s)
      (subst (λ (k : ℕ). IsSeatOf (mailboxes ++ mailbox ∷ []) k seat.table_id seat.id seat.me) z
      (last_seat mailboxes mailbox n seat same fits first fresh)))

  pub mailbox_of_set : (set : TableView) (mailboxes mailboxes' : List (Mailbox N)) (mailbox : Mailbox N) →
      mailboxes' ≡ mailboxes ++ mailbox ∷ [] → AreMailboxesOf set mailboxes → mailbox.table.shared.key ≡ set →
      AreMailboxesOf set mailboxes'
  mailbox_of_set set mailboxes mailboxes' mailbox e all key =
      All-same (λ (p : Mailbox N). p.table.shared.key ≡ set) mailboxes' (mailboxes ++ mailbox ∷ []) e
      (All-push (λ (p : Mailbox N). p.table.shared.key ≡ set) mailboxes mailbox all key)

  -- each pass of an opening has its seat
  pub seated : (set : TableView) (mailboxes : List (Mailbox N)) (who n : ℕ) (seats : List MailboxSeat) →
      length seats ≡ n → AreSeats mailboxes who seats → AreSeated set mailboxes (new_passes set who n) seats
  seated set mailboxes who zero seats e s = tt
  seated set mailboxes who (suc n) [] e s = absurd (omega arith)
  seated set mailboxes who (suc n) (seat ∷ seats) e s =
      let shorter : length seats ≡ n = omega arith in (
        record { own = (refl, refl, refl); empty_hand = refl },
        refl,
        s.0,
        seated set mailboxes (suc who) n seats shorter s.1,
      )

-- an opening has so many passes
new_count : (set : TableView) (who n : ℕ) → length (new_passes set who n) ≡ n
new_count set who zero = refl
new_count set who (suc n) = ap suc (new_count set (suc who) n)

pub count_of_all : (set : TableView) (n : ℕ) (passes : List PassView) → passes ≡ new_passes set 0 n → set.passes ≡ n →
    set.passes ≡ length passes
count_of_all set n passes e all = all ∙ sym (ap (λ (ps : List PassView). length ps) e ∙ new_count set 0 n)

pub as_many : (set : TableView) (n : ℕ) (passes : List PassView) → passes ≡ new_passes set 0 n →
    passes ≡ new_passes set 0 (length passes)
as_many set n passes e =
    e ∙ ap (λ (k : ℕ). new_passes set 0 k) (sym (ap (λ (ps : List PassView). length ps) e ∙ new_count set 0 n))

module _ {N : Type 0} where
  -- the passes of an opening have their seats
  pub all_seated : (set : TableView) (mailboxes : List (Mailbox N)) (passes : List PassView)
      (seats : List MailboxSeat) → passes ≡ new_passes set 0 (length passes) → length seats ≡ length passes →
      AreSeats mailboxes 0 seats → AreSeated set mailboxes passes seats
  all_seated set mailboxes passes seats e same s =
      subst (λ (ps : List PassView). AreSeated set mailboxes ps seats) (sym e)
      (seated set mailboxes 0 (length passes) seats same s)
